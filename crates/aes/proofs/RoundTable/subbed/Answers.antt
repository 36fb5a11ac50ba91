-- `aes::RoundTable::subbed` meets its contract: an entry's middle byte is the S-box's. Assumes nothing.
use Rattle.aes.proofs.MixLaws.{subbed_is}
use lib.Dec.{lit<}
use native.Mathlib.Nat.{mod-lt}
use Rattle.aes.proofs.RoundTable.subbed.Goals as goal

pub returns : goal.returns
returns c =
    let a = c.args in
    rw (c.word_of.ensures, c.to_le_bytes.ensures, c.to_le_bytes-2.ensures, c.to_le_bytes-3.ensures, c.to_le_bytes-4.ensures, c.entries.ensures)
    (subbed_is a.self.now.table a.self.now.is_round _ _ _ _ (mod-lt _ (lit< tt)) (mod-lt _ (lit< tt)) (mod-lt _ (lit< tt)) (mod-lt _ (lit< tt)))
