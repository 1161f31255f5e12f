pub mod PackedLists
pub mod ChainedLists
pub mod CodedNumbers
pub mod Ranges
pub mod RowWords
pub mod SeenRows
