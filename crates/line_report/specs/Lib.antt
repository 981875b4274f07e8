pub mod Text
pub mod Write
pub mod Output
pub mod Report
pub mod Turn
pub mod EndLength
