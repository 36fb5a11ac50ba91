-- Laws that the layers above cite.
pub mod Arrays
pub mod EnterLaws
pub mod TextLaws
pub mod ReadLaws
pub mod OrderLaws
pub mod EnteredLaws
pub mod RoundTrip
pub mod AnyTable
pub mod Theorem
