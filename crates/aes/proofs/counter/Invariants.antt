-- `aes::counter` meets its contract. The invariant: what stands before block i, with counter mode over what is left, is counter mode over all. Assumes nothing.
use Rattle.aes.specs.Counter.{gctr}
use Rattle.aes.specs.Cipher.{cipher}
use Rattle.octets.specs.Blocks.{num}
use lib.ListN.{take, drop}
use mathlib.Core.List.{◌++◌}
use mathlib.Core.Path.{◌≡◌}
use Prim.Native.Nat.{◌*◌}
use Rattle.aes.proofs.counter.Given as goal

abbrev pub invariant-loop-i : goal.invariant-loop-i
invariant-loop-i l =
    take (16 * l.i) l.s ++ gctr (cipher l.w) (num l.cb) (drop (16 * l.i) l.s) ≡ gctr (cipher l.w) (num l.initial.cb) l.initial.s
