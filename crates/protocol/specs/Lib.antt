-- The definitions of 01's operations, which contracts and theorems cite.
-- Vaults: the 27 numbers. States: the state, and the rule for a handed one. Said: what a call answers, in 01's numbers.
-- Steps: one store of an operation that takes several.
-- Load, Accept (with Seal), Commit, Point, Checkpoint, Truncate, Replay (the log rules), Recover: the operations. Tail: the log rules beside 01's
-- own, on a log that ends with the beginning of a record.
-- Tally: the stores of the longer operations, in order. LatestOf: the latest of a book's writes. History: the list, the card and the premises.
-- Since: what a list has used and set since service began. Claim: demand 3. Beside: what is said beside it. Updated: what
-- holds of a box whose table another order made.
-- Worked: a list with an honest card and hostile ones, one with every call, and one with a torn record. Sheet: the bench sheet.
pub mod Vaults
pub mod States
pub mod Said
pub mod Steps
pub mod Load
pub mod Accept
pub mod Commit
pub mod Point
pub mod Checkpoint
pub mod Truncate
pub mod Replay
pub mod Tail
pub mod Recover
pub mod Tally
pub mod LatestOf
pub mod History
pub mod Since
pub mod Claim
pub mod Beside
pub mod Updated
pub mod Worked
pub mod Sheet
