-- Order: which of two writes to a meter is the later. Table: the table of latest readings, and what a transaction changes. Written: what it
-- changes of one meter. Canonical: the tables that have a text. TableText: the 6,144 bytes. Claim: what holds of the order, and
-- of any table, whatever order made it.
pub mod Order
pub mod Table
pub mod Written
pub mod Canonical
pub mod TableText
pub mod Claim
