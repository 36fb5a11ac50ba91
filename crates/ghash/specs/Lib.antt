-- Field: the product of two blocks. Ghash: the blocks of a string, and their hash. Multiples: the table by which the code takes the product.
pub mod Field
pub mod Ghash
pub mod Multiples
