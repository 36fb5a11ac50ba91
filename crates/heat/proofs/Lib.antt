-- NumeralLaws: numbers in decimal, and how the code writes them. SignedLaws: signed numbers of 64 bits. SumLaws: sums, counts and tests below a number. UsesLaws: what two tables say of a meter, read where it lies.
-- RankLaws: who comes before whom, and how many. ShareLaws: what holds of the shares. DividedLaws: the shares from the code's arrays. ListedLaws: which meters are listed or changed, in words; the shares of two tables.
-- TextLaws: the lines, and how the code puts them down. RowLaws: the lines read back. SplitLaws: what heat_split answers. PrintLaws: what is printed. LengthLaws: tables from their texts, and lengths. ExampleLaws: the request's example. Theorem: the claim.
pub mod NumeralLaws
pub mod SignedLaws
pub mod SumLaws
pub mod UsesLaws
pub mod RankLaws
pub mod ShareLaws
pub mod DividedLaws
pub mod ListedLaws
pub mod TextLaws
pub mod RowLaws
pub mod SplitLaws
pub mod PrintLaws
pub mod LengthLaws
pub mod ExampleLaws
pub mod Theorem
