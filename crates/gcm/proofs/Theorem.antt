-- `SealsInPlace`: what `KeyRef::seal` promises of the part that it is lent, byte for byte.
-- Assumes nothing.
use Prim.Native.Nat.{ℕ, ◌+◌, ◌≤◌}
use native.Mathlib.Omega.{arith}
use mathlib.Core.Path.{◌≡◌, refl, ap, ap₂, ◌∙◌}
use mathlib.Core.List.{List, ◌++◌, append_assoc}
use lib.ListN.{length, take, drop, length-append, length-drop}
use lib.Seq.{take_at, drop_at, length-take-le}
use Rattle.aes.specs.Cipher.{cipher}
use Rattle.ghash.specs.Multiples.{product_by}
use Rattle.gcm.specs.Gcm.{max_plain, max_data, tag_len, cipher_text, tag_of, sealed}
use Rattle.gcm.specs.Answers.{sealing, seal_put, sealed_in}
use Rattle.gcm.specs.declared.SealError.{SealError}
use Rattle.std.specs.Prelude.{Result, Ok, Err}
use Rattle.gcm.specs.InPlace.{after, InPlace, SealsInPlace}
use Rattle.gcm.proofs.SealLaws.{cipher_whole, length_cipher_text, length_tag}
use Rattle.gcm.proofs.AnswerLaws.{sealed_within}

module _ (w m iv a : List ℕ) (n : ℕ) (s : List ℕ) where
  abbrev c : List ℕ
  c = cipher_text (cipher w) iv (take n s)

  abbrev t : List ℕ
  t = tag_of (cipher w) (product_by m) iv a c

  in_place : n ≤ max_plain → length a ≤ max_data → n + tag_len ≤ length s → InPlace w m iv a n s
  unfolding sealed
  in_place hn ha room =
      let rest = drop (length (c ++ t)) s in
      let whole = cipher_whole w in
      let lc : length c ≡ n = length_cipher_text (cipher w) whole (product_by m) iv (take n s) ∙ length-take-le n s (omega arith) in
      let lt : length t ≡ tag_len = length_tag (cipher w) whole (product_by m) iv a c in
      let both : length (c ++ t) ≡ n + tag_len = length-append c t ∙ ap₂ (λ (i j : ℕ). i + j) lc lt in
      let e : after w m iv a n s ≡ (c ++ t) ++ rest = sealed_within (cipher w) (product_by m) iv a n s hn ha room in
      let f : after w m iv a n s ≡ c ++ (t ++ rest) = e ∙ append_assoc c t rest in
      let lr : length rest ≡ length (drop (n + tag_len) s) = ap (λ (i : ℕ). length (drop i s)) both in
      record {
        text = ap (take n) f ∙ take_at c (t ++ rest) n lc;
        tag = ap (λ (u : List ℕ). take tag_len (drop n u)) f ∙ ap (take tag_len) (drop_at c (t ++ rest) n lc) ∙ take_at t rest tag_len lt;
        behind = ap (drop (n + tag_len)) e ∙ drop_at (c ++ t) rest (n + tag_len) both ∙ ap (λ (i : ℕ). drop i s) both;
        long = ap length e ∙ length-append (c ++ t) rest ∙ ap₂ (λ (i j : ℕ). i + j) both (lr ∙ length-drop (n + tag_len) s) ∙ omega arith;
      }

  put_none : (q : Result (Unit {0}) SealError) (x : List ℕ) → (q ≡ Ok tt → ⊥) → seal_put q x ++ drop (length (seal_put q x)) s ≡ s
  unfolding seal_put
  put_none (Ok done) x no_way = absurd (no_way refl)
  put_none (Err e) x no_way = refl

  leaves : (sealing (length a) n (length s) ≡ Ok tt → ⊥) → after w m iv a n s ≡ s
  unfolding sealed_in
  leaves no_way = put_none (sealing (length a) n (length s)) (sealed (cipher w) (product_by m) iv a (take n s)) no_way

pub sealing_in_place : SealsInPlace
sealing_in_place = record { seals_in_place = in_place; refused_leaves = leaves }
