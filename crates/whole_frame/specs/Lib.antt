pub mod WholeFrame
pub mod ByFormat
