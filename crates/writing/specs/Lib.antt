pub mod Text
pub mod Decimal
pub mod Buffers
pub mod Writing
pub mod Cutting
pub mod DecimalRead
