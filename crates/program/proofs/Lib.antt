pub mod OnLists
pub mod ManyNames
pub mod CoreLemmas
pub mod Soundness
pub mod PartLemmas
