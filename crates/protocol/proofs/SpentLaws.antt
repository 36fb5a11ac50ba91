-- What Recover tests for a spent counter is 01's bounds.
-- Assumes nothing.
use Prim.Native.Nat.{◌+◌}
use mathlib.Core.Path.{◌≡◌, refl}
use mathlib.Core.Bool.{Bool, true, false, ◌||◌}
use native.Mathlib.Omega.{arith}
use lib.Dec.{leb, ltb}
use borrow.Author.Tests.{le-ltb, lt-leb, ltb-false, leb-false}
use Rattle.octets.proofs.BoolLaws.{or_left, or_right}
use Rattle.protocol.specs.Vaults.{counter_max}
use Rattle.protocol.specs.Recover.{spent}
use Rattle.protocol.specs.Claim.{Unspent}
use Rattle.protocol.specs.declared.Vault.{Vault}

-- where no counter is spent, the test says so
pub unspent_passes : (x : Vault) → Unspent x → spent x ≡ false
unfolding spent
unspent_passes x u =
    rw (le-ltb counter_max (x.s + 2) (let z = u.s in omega arith), le-ltb counter_max (x.n + 2) (let z = u.n in omega arith), lt-leb counter_max x.e (let z = u.e in omega arith))

-- and only there
pub passes_unspent : (x : Vault) → spent x ≡ false → Unspent x
unfolding spent
passes_unspent x h =
    let a = or_left (ltb counter_max (x.s + 2) || ltb counter_max (x.n + 2)) (leb counter_max x.e) h in
    let s = ltb-false counter_max (x.s + 2) (or_left (ltb counter_max (x.s + 2)) _ a) in
    let n = ltb-false counter_max (x.n + 2) (or_right (ltb counter_max (x.s + 2)) _ a) in
    let e = leb-false counter_max x.e (or_right (ltb counter_max (x.s + 2) || ltb counter_max (x.n + 2)) _ h) in
    record { s = omega arith; n = omega arith; e = omega arith }

pub spent_else : (x : Vault) → (Unspent x → ⊥) → spent x ≡ true
spent_else x h = go (spent x) refl
  where
    go : (b : Bool) → spent x ≡ b → spent x ≡ true
    go true e = e
    go false e = absurd (h (passes_unspent x e))
