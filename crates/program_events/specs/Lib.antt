pub mod Operations
pub mod ProgramOf
pub mod FirstUseLaws
pub mod ProgramLaws
pub mod NamedProgram
