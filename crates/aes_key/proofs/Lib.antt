-- Laws of GF(2^8), of the constant tables and of the key expansion.
pub mod GfLaws
pub mod SboxLaws
pub mod RconLaws
pub mod ScheduleLaws
