use Rattle.aes_key.proofs.ScheduleLaws.{turn, schedule_whole}
use Rattle.aes_key.specs.Schedule.{expand}
use lib.ListN.{length-set}
use borrow.Author.Rules.{rules}
use native.Mathlib.Omega.{arith}
use Rattle.aes_key.proofs.key_expansion.Goals as goal

pub loop-i-init : goal.loop-i-init
unfolding expand
loop-i-init c = (omega arith, omega arith, search rules, λ key e. e)

pub loop-i-preserved : goal.loop-i-preserved
loop-i-preserved c =
    let l = c.loop-i in
    (omega arith, omega arith, simp length-set l.invariant.2, λ key e. turn key l.w c.next_word.result l.i l.invariant.0 (omega arith) (l.invariant.3 key e) c.next_word.ensures)

pub returns : goal.returns
returns c =
    let l = c.loop-i in
    schedule_whole l.w c.args.key l.i l.invariant.1 (omega arith) l.invariant.2 (l.invariant.3 c.args.key c.start-w.ensures)
