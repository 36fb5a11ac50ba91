-- Back: an answer, and what a method hands back.
pub mod Back
