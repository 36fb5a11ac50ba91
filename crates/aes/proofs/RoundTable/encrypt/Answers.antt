use Rattle.aes.proofs.RoundLaws.{round_more, last_round}
use Rattle.aes.specs.Rounds.{state}
use Rattle.aes.specs.Cipher.{add_round_key, round_key, rounds}
use native.Mathlib.Omega.{arith}
use mathlib.Core.List.{List}
use mathlib.Core.Path.{ap, ◌∙◌}
use Prim.Native.Nat.{ℕ}
use Rattle.aes.proofs.RoundTable.encrypt.Goals as goal

pub loop-r-init : goal.loop-r-init
unfolding rounds
loop-r-init c = (omega arith, omega arith, λ b e. e)

pub loop-r-preserved : goal.loop-r-preserved
loop-r-preserved c =
    let l = c.loop-r in
    (omega arith, omega arith, λ b e. c.round-s.ensures ∙ round_more c.args.w.now b (state l.s) l.r l.invariant.0 (l.invariant.2 b e))

pub returns : goal.returns
returns c =
    let l = c.loop-r in
    c.from-2.ensures ∙ c.last_round.ensures ∙ last_round c.args.w.now _ (state l.s) l.r l.invariant.1 (omega arith) (l.invariant.2 _ (c.add_key-s.ensures ∙ ap (λ (x : List ℕ). add_round_key x (round_key c.args.w.now 0)) c.from.ensures))
