pub mod Numbers
pub mod OwnColumns
pub mod Bits
pub mod Place
pub mod Words
pub mod Frames
pub mod Numbered
