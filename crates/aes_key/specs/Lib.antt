-- FIPS 197, the parts that the key expansion stands on.
-- Gf: GF(2^8), section 4. Sbox: the S-box, 5.1.1. Words: words of four bytes. Schedule: the key expansion, 5.2.
pub mod Gf
pub mod Sbox
pub mod Words
pub mod Schedule
