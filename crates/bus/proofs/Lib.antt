-- Laws that the functions' proofs and the layers above cite.
pub mod MediumLaws
pub mod FieldLaws
pub mod DigitLaws
pub mod LookLaws
pub mod SearchLaws
pub mod FrameLaws
pub mod AnswerLaws
pub mod BuiltLaws
pub mod TakenLaws
pub mod ApartLaws
pub mod Theorem
