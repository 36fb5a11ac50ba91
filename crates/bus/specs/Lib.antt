-- 02, CR 1. Frame: the long frame around L bytes. Medium: codes and units. Digits: the reading of a record's data. Records: the search for the one that is taken. Answer: what from_bus answers. Claim: what holds of all this.
pub mod Frame
pub mod Medium
pub mod Digits
pub mod Records
pub mod Answer
pub mod Claim
