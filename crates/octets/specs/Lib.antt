-- What every layer speaks of: lists by an index function, a test of each number below another, bytes as numbers, blocks of 128 bits.
pub mod Lists
pub mod Every
pub mod Bytes
pub mod Little
pub mod Blocks
