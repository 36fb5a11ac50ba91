-- `octets::copy` meets its contract. The invariant: the first i bytes have been copied. Assumes nothing.
use Rattle.octets.proofs.CopyLaws.{copied_to}
use mathlib.Core.Path.{◌≡◌}
use Rattle.octets.proofs.copy.Given as goal

abbrev pub invariant-loop-i : goal.invariant-loop-i
invariant-loop-i l = l.dst ≡ copied_to l.i l.src l.initial.dst
