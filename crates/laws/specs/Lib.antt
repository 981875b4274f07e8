pub mod Tests
pub mod Table
pub mod LowestOne
pub mod OneOf
pub mod Remainder
