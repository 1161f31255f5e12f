pub mod ShortNumbers
pub mod NumberTexts
pub mod Formats
pub mod Values
pub mod DigitLemmas
