pub mod KnownEvents
pub mod ClippedShape
pub mod Walks
pub mod ClippedValues
pub mod Answers
pub mod Contents
pub mod WrittenAgain
pub mod Told
