-- Worked examples of the two standards. Aes: FIPS 197. Gcm: SP 800-38D. QuickLaws: how they are computed in little time.
pub mod QuickLaws
pub mod Aes
pub mod Gcm
