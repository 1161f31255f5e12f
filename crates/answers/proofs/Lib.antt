pub mod LongParts
