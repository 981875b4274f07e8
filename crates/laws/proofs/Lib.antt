pub mod Rules
pub mod Tests
pub mod Table
pub mod Xor
pub mod Powers
pub mod Below
pub mod Sets
pub mod Remainder
