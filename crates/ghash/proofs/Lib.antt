-- Laws that the functions' proofs and the layers above cite.
-- ProductLaws: Algorithm 1, some bits at a time. WordLaws: a block's two words. TableLaws: the table, and `product_is`.
-- HashLaws: GHASH over the blocks of a string.
pub mod ProductLaws
pub mod WordLaws
pub mod TableLaws
pub mod HashLaws
