-- What the code does beyond the definitions of the operations, and what it counts on its way.
pub mod Beyond
pub mod Less
