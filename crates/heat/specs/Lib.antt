-- 02, CR 5. Sums: a sum over the numbers below another, and a count. Uses: which meters are listed, and what each used. Shares: each one's share of the house. Numerals: numbers in decimal. Text: the lines. Rows: what they say, read back. Answer: what heat_split answers, and what the program prints. Plain: the plain table, put out. Claim: what holds of all this.
pub mod Sums
pub mod Uses
pub mod Shares
pub mod Numerals
pub mod Text
pub mod Rows
pub mod Answer
pub mod Plain
pub mod Claim
