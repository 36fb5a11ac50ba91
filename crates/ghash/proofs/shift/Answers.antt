-- `ghash::shift` meets its contract: the bit that leaves the left word enters the right one, and R stands in the left one.
-- Assumes nothing.
use borrow.Author.Rules.{rules}
use Rattle.ghash.proofs.WordLaws.{half_word, shift_words}
use Rattle.ghash.proofs.shift.Goals as goal

pub overflow_add-result : goal.overflow_add-result
overflow_add-result c = let a = c.args in record { fits = half_word a.v.hi a.v.lo (search rules) }

pub returns : goal.returns
returns c = let a = c.args in shift_words a.v.hi a.v.lo (search rules)
