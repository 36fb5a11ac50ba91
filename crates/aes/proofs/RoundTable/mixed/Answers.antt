-- `aes::RoundTable::mixed` meets its contract: the four entries, each turned to its row, add up to the column. Assumes nothing.
use Rattle.aes.proofs.MixLaws.{mixed_is}
use lib.Dec.{lit<}
use native.Mathlib.Nat.{mod-lt}
use Rattle.aes.proofs.RoundTable.mixed.Goals as goal

pub returns : goal.returns
returns c =
    let a = c.args in
    rw c.entries.ensures
    (mixed_is a.self.now.table a.self.now.is_round _ _ _ _ (mod-lt _ (lit< tt)) (mod-lt _ (lit< tt)) (mod-lt _ (lit< tt)) (mod-lt _ (lit< tt)))
