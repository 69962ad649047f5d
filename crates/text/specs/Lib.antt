-- What a reader must believe of numbers in text: digits, decimal, hexadecimal, and bytes.
pub mod Digits
pub mod Decimal
pub mod Hex
pub mod Written
pub mod Examples
