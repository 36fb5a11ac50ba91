-- A state that is written down in numbers is known and reads as itself; and a state in numbers that is known is the one that its reading
-- writes down. So nothing of a state is lost at the boundary, in either direction.
-- Assumes nothing.
use Prim.Native.Nat.{ℕ}
use mathlib.Core.Path.{◌≡◌, refl, ap, ◌∙◌}
use mathlib.Core.Bool.{true, false, ◌&&◌}
use lib.Dec.{eqb}
use borrow.Author.Tests.{eq-eqb, eqb-true}
use Rattle.octets.proofs.BoolLaws.{and_left, and_right}
use Rattle.protocol.specs.declared.State.{State}
use Rattle.protocol.specs.declared.Phase.{Phase}
use Rattle.protocol.specs.declared.Phase.TheVariants as F
use Rattle.protocol.specs.declared.Due.{Due}
use Rattle.protocol.specs.declared.Due.TheVariants as D
use Rattle.protocol.specs.declared.CheckpointStep.TheVariants as K
use Rattle.protocol.specs.declared.TruncateStep.TheVariants as L
use Rattle.protocol.specs.declared.RecoverStep.TheVariants as G
use Rattle.protocol.specs.declared.RecoverNumber.TheVariants as M
use Rattle.boundary.specs.declared.DueNumbers.{DueNumbers}
use Rattle.boundary.specs.declared.FlatState.{FlatState}
use Rattle.boundary.specs.Flat.{due_numbers, due_of, same_due, due_known, phase_number, phase_of, phase_known, known_by, known, thaw, freeze}

-- ---- the store that is due

pub due_back : (d : Due) → due_of (due_numbers d) ≡ d
unfolding due_of due_numbers
due_back D.Nothing = refl
due_back D.Record = refl
due_back (D.Checkpoint K.File) = refl
due_back (D.Checkpoint K.Version) = refl
due_back (D.Truncate p (L.R l)) = refl
due_back (D.Truncate p L.Delete) = refl
due_back (D.Recover (G.File true)) = refl
due_back (D.Recover (G.File false)) = refl
due_back (D.Recover (G.Number (M.S true))) = refl
due_back (D.Recover (G.Number (M.S false))) = refl
due_back (D.Recover (G.Number M.N)) = refl
due_back (D.Recover (G.Number (M.R l))) = refl
due_back (D.Recover (G.Number M.E)) = refl
due_back (D.Recover (G.Number (M.V l))) = refl
due_back (D.Recover G.Empty) = refl

same_self : (a : DueNumbers) → same_due a a ≡ true
unfolding same_due
same_self a = rw (eq-eqb a.position _ refl, eq-eqb a.kind _ refl, eq-eqb a.lane _ refl, eq-eqb a.second _ refl)

pub same_is : (a b : DueNumbers) → same_due a b ≡ true → a ≡ b
unfolding same_due
same_is a b e =
    let p = eqb a.position b.position in
    let k = eqb a.kind b.kind in
    let l = eqb a.lane b.lane in
    let s = eqb a.second b.second in
    let three : p && k && l ≡ true = and_left (p && k && l) s e in
    let two : p && k ≡ true = and_left (p && k) l three in
    let ep : a.position ≡ b.position = eqb-true a.position b.position (and_left p k two) in
    let ek : a.kind ≡ b.kind = eqb-true a.kind b.kind (and_right p k two) in
    let el : a.lane ≡ b.lane = eqb-true a.lane b.lane (and_right (p && k) l three) in
    let es : a.second ≡ b.second = eqb-true a.second b.second (and_right (p && k && l) s e) in
    ap (λ (x : ℕ). record { position = x; kind = a.kind; lane = a.lane; second = a.second }) ep
    ∙ ap (λ (x : ℕ). record { position = b.position; kind = x; lane = a.lane; second = a.second }) ek
    ∙ ap (λ (x : ℕ). record { position = b.position; kind = b.kind; lane = x; second = a.second }) el
    ∙ ap (λ (x : ℕ). record { position = b.position; kind = b.kind; lane = b.lane; second = x }) es

pub due_is_known : (d : Due) → due_known (due_numbers d) ≡ true
unfolding due_known
due_is_known d = ap (λ (x : Due). same_due (due_numbers x) (due_numbers d)) (due_back d) ∙ same_self (due_numbers d)

pub due_again : (d : DueNumbers) → due_known d ≡ true → due_numbers (due_of d) ≡ d
unfolding due_known
due_again d e = same_is _ _ e

-- ---- the phase

pub phase_back : (p : Phase) → phase_of (phase_number p) ≡ p
unfolding phase_of phase_number
phase_back F.Cold = refl
phase_back F.Recovering = refl
phase_back F.Serving = refl

pub phase_is_known : (p : Phase) → phase_known (phase_number p) ≡ true
unfolding phase_known phase_of phase_number
phase_is_known F.Cold = refl
phase_is_known F.Recovering = refl
phase_is_known F.Serving = refl

pub phase_again : (p : ℕ) → phase_known p ≡ true → phase_number (phase_of p) ≡ p
unfolding phase_known
phase_again p e = eqb-true _ _ e

-- no phase has the number 0
pub no_phase_0 : phase_known 0 ≡ false
unfolding phase_known phase_of phase_number
no_phase_0 = refl

-- ---- the state

-- what one call hands back is what the next one takes
pub thaw_freeze : (c : State) → thaw (freeze c) ≡ c
unfolding thaw freeze
thaw_freeze c = rw (phase_back c.phase, due_back c.due)

pub freeze_is_known : (c : State) → known (freeze c) ≡ true
unfolding freeze known_by
freeze_is_known c = rw (due_is_known c.due, phase_is_known c.phase)

-- what is known is written down as it came
pub freeze_thaw : (s : FlatState) → known s ≡ true → freeze (thaw s) ≡ s
unfolding thaw freeze known_by
freeze_thaw s e =
    let d : due_known s.due ≡ true = and_left (due_known s.due) (phase_known s.phase) e in
    let p : phase_known s.phase ≡ true = and_right (due_known s.due) (phase_known s.phase) e in
    rw (due_again s.due d, phase_again s.phase p)
