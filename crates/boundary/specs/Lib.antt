-- Flat: the state as numbers. Replies: what a call says as numbers. Run: calls and cuts over C, as firmware makes them.
-- Claim: demand 3 of such a run.
pub mod Flat
pub mod Replies
pub mod Run
pub mod Claim
