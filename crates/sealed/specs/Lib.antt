-- Aead: authenticated encryption as the layouts use it. Nonce: the 12 bytes of a nonce. Frame: head, ciphertext, tag and trailer.
-- Record: a log record. Checkpoint: a checkpoint file. Log: a record that starts at an offset of a log.
pub mod Aead
pub mod Nonce
pub mod Frame
pub mod Record
pub mod Checkpoint
pub mod Log
