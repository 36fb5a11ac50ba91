-- Laws that the layers above cite.
pub mod BeyondLaws
pub mod MarkLaws
pub mod CountLaws
pub mod LaidLaws
pub mod PointLaws
