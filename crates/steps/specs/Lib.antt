-- Numbers: the step of a vault number, by the number.
pub mod Numbers
