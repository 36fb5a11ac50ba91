-- `aes::RoundTable::encrypt` meets its contract. The invariant: the state is that of FIPS 197 after r - 1 rounds. Assumes nothing.
use Rattle.aes.specs.Rounds.{state}
use Rattle.aes.specs.Cipher.{add_round_key, round_key, rounds}
use mathlib.Core.List.{List}
use mathlib.Core.Path.{◌≡◌}
use Prim.Native.Nat.{ℕ, ◌-◌, ◌≤◌}
use Rattle.aes.proofs.RoundTable.encrypt.Given as goal

abbrev pub invariant-loop-r : goal.invariant-loop-r
invariant-loop-r l = (1 ≤ l.r) × (l.r ≤ 10) × ((b : List ℕ) → state l.initial.s ≡ add_round_key b (round_key l.w 0) → state l.s ≡ rounds l.w b (l.r - 1))
