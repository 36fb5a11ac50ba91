-- Hex: hexadecimal digits. Tally: what one line adds to a tally.
pub mod Hex
pub mod Tally
