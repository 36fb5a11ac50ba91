-- `aes_key::Tables::next_word` meets its contract: the two cases of section 5.2. Assumes nothing.
use Rattle.aes_key.proofs.ScheduleLaws.{turned_word, plain_word}
use Rattle.aes_key.proofs.RconLaws.{entry}
use native.Mathlib.Omega.{arith}
use Prim.Native.Nat.{◌-◌, ◌/◌}
use Rattle.aes_key.proofs.Tables.next_word.Goals as goal

pub returns-then-i-eq0 : goal.returns-then-i-eq0
returns-then-i-eq0 c =
    let a = c.args in
    turned_word a.w.now a.i _ _ _ _ c.if-i-eq0.true (entry a.self.now.rcon a.self.now.is_rcon (a.i / 4 - 1) (omega arith)) c.word_of-constant.ensures c.rot_word.ensures c.sub_word.ensures

pub returns : goal.returns
returns c =
    let a = c.args in
    plain_word a.w.now a.i c.if-i-eq0.false
