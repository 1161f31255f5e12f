pub mod Makings
pub mod MadeAgain
pub mod NamedProgram
