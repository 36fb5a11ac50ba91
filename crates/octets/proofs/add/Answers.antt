-- `octets::add` meets its contract: no bit crosses from one word to the other. Assumes nothing.
use mathlib.Core.Path.{sym}
use borrow.Author.Rules.{rules}
use lib.Bits.{xor_block}
use Rattle.octets.proofs.add.Goals as goal

pub returns : goal.returns
returns c =
    let a = c.args in
    sym (xor_block 64 a.a.hi a.b.hi a.a.lo a.b.lo (search rules) (search rules))
