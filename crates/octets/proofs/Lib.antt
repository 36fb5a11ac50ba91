-- Laws that the layers above cite.
pub mod BoolLaws
pub mod EveryLaws
pub mod Table
pub mod XorLaws
pub mod ByteLaws
pub mod LittleLaws
pub mod WidthLaws
pub mod PartLaws
pub mod CopyLaws
pub mod Build
pub mod SameLaws
