-- Nonces: two that are equal have equal parts, and so no record and no file share one.
-- Assumes nothing.
use Prim.Native.Nat.{ℕ, ◌^◌, ◌<◌}
use mathlib.Core.Path.{◌≡◌, refl, sym, ap, ◌∙◌}
use mathlib.Core.List.{List, [], ◌∷◌}
use native.Mathlib.Omega.{arith}
use lib.ListN.{length, drop}
use Rattle.octets.specs.Lists.{at}
use Rattle.octets.specs.Little.{little, little_bytes}
use Rattle.octets.proofs.LittleLaws.{length_little, little_fits}
use Rattle.sealed.specs.Nonce.{nonce_of}
use Rattle.sealed.specs.Record.{record_kind, record_nonce}
use Rattle.sealed.specs.Checkpoint.{file_kind, file_nonce}

pub length_nonce : (first lane number : ℕ) → length (nonce_of first lane number) ≡ 12
unfolding nonce_of
length_nonce first lane number =
    let i = length_little 8 number in
    omega arith

-- 01, M3: lane 3, number 258
pub nonce_m3 : record_nonce 3 258 ≡ 1 ∷ 3 ∷ 0 ∷ 0 ∷ 2 ∷ 1 ∷ 0 ∷ 0 ∷ 0 ∷ 0 ∷ 0 ∷ 0 ∷ []
unfolding nonce_of little_bytes
nonce_m3 = refl

module _ (f g l k m n : ℕ) (e : nonce_of f l m ≡ nonce_of g k n) where
  pub nonce_first : f ≡ g
  unfolding nonce_of
  nonce_first = ap (λ (s : List ℕ). at s 0) e

  pub nonce_lane : l ≡ k
  unfolding nonce_of
  nonce_lane = ap (λ (s : List ℕ). at s 1) e

  -- a record's number, or a file's seal number
  pub nonce_number : m < 2 ^ 64 → n < 2 ^ 64 → m ≡ n
  unfolding nonce_of
  nonce_number hm hn = sym (little_fits 8 m hm) ∙ ap (λ (s : List ℕ). little (drop 4 s)) e ∙ little_fits 8 n hn

pub nonces_apart : (lane number seal : ℕ) → record_nonce lane number ≡ file_nonce seal → ⊥
nonces_apart lane number seal e = let z : record_kind ≡ file_kind = nonce_first record_kind file_kind lane 0 number seal e in omega arith
