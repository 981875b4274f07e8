pub mod WholeFrame
pub mod AtOnce
pub mod WholeFrameLaw
pub mod ByFormatLaws
