pub mod Final
pub mod Values
pub mod Refused
pub mod FinalLaws
