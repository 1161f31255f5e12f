pub mod ToldWords
pub mod NamedRows
