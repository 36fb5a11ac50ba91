-- Cipher: FIPS 197, section 5.1. Rounds: the code's round table and columns. Counter: SP 800-38D, 6.2 and 6.5.
pub mod Cipher
pub mod Rounds
pub mod Counter
