-- Laws of sealing and opening, and of prepared keys. Theorem: the claim of specs/InPlace.
pub mod SealLaws
pub mod AnswerLaws
pub mod KeyLaws
pub mod Theorem
