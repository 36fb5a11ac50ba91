-- Gcm: authenticated encryption and decryption, SP 800-38D, 7. Key: a prepared key. Answers: what the functions answer and leave.
-- InPlace: what sealing leaves of the part of a buffer that it is lent, byte for byte.
pub mod Gcm
pub mod Key
pub mod Answers
pub mod InPlace
