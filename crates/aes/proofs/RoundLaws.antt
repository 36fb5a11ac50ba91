-- Laws of the rounds.
-- Assumes nothing.
use mathlib.Core.Path.{◌≡◌, refl}
use mathlib.Core.List.{List, [], ◌∷◌, ◌++◌}
use Prim.Native.Nat.{ℕ, suc, ◌+◌, ◌-◌, ◌*◌, ◌≤◌}
use native.Mathlib.Omega.{arith}
use Rattle.octets.specs.Lists.{at}
use Rattle.aes_key.specs.Gf.{◌⊕◌}
use Rattle.aes_key.specs.Sbox.{sbox}
use Rattle.aes_key.specs.Words.{byte0, byte1, byte2, byte3}
use Rattle.aes.specs.Cipher.{column, sub_bytes, shift_rows, mix_column, mix_columns, add_round_key, round_key, rounds, cipher}
use Rattle.aes.specs.Rounds.{state}
use Rattle.aes.specs.declared.Columns.{Columns}
use Rattle.aes.proofs.ColumnLaws.{keyed}

four_columns : {a b c d e f g h : List ℕ} → a ≡ e → b ≡ f → c ≡ g → d ≡ h → a ++ b ++ c ++ d ≡ e ++ f ++ g ++ h
four_columns p q r s = cc

-- a key added, column by column
pub key_added : (w : List ℕ) (r a b c d : ℕ)
    → column (a ⊕ at w (4 * r)) ++ column (b ⊕ at w (4 * r + 1)) ++ column (c ⊕ at w (4 * r + 2)) ++ column (d ⊕ at w (4 * r + 3)) ≡ add_round_key (column a ++ column b ++ column c ++ column d) (round_key w r)
unfolding add_round_key round_key
key_added w r a b c d =
    four_columns (keyed a (at w (4 * r)) _ _ _ _ refl) (keyed b (at w (4 * r + 1)) _ _ _ _ refl) (keyed c (at w (4 * r + 2)) _ _ _ _ refl) (keyed d (at w (4 * r + 3)) _ _ _ _ refl)

-- the four columns of a round, put together
module _ (s t : Columns) where
  pub mixed_columns : column t.a ≡ mix_column (sbox (byte0 s.a)) (sbox (byte1 s.b)) (sbox (byte2 s.c)) (sbox (byte3 s.d))
      → column t.b ≡ mix_column (sbox (byte0 s.b)) (sbox (byte1 s.c)) (sbox (byte2 s.d)) (sbox (byte3 s.a))
      → column t.c ≡ mix_column (sbox (byte0 s.c)) (sbox (byte1 s.d)) (sbox (byte2 s.a)) (sbox (byte3 s.b))
      → column t.d ≡ mix_column (sbox (byte0 s.d)) (sbox (byte1 s.a)) (sbox (byte2 s.b)) (sbox (byte3 s.c))
      → state t ≡ mix_columns (shift_rows (sub_bytes (state s)))
  unfolding mix_columns shift_rows sub_bytes
  mixed_columns ea eb ec ed = four_columns ea eb ec ed

  pub subbed_columns : column t.a ≡ sbox (byte0 s.a) ∷ sbox (byte1 s.b) ∷ sbox (byte2 s.c) ∷ sbox (byte3 s.d) ∷ []
      → column t.b ≡ sbox (byte0 s.b) ∷ sbox (byte1 s.c) ∷ sbox (byte2 s.d) ∷ sbox (byte3 s.a) ∷ []
      → column t.c ≡ sbox (byte0 s.c) ∷ sbox (byte1 s.d) ∷ sbox (byte2 s.a) ∷ sbox (byte3 s.b) ∷ []
      → column t.d ≡ sbox (byte0 s.d) ∷ sbox (byte1 s.a) ∷ sbox (byte2 s.b) ∷ sbox (byte3 s.c) ∷ []
      → state t ≡ shift_rows (sub_bytes (state s))
  unfolding shift_rows sub_bytes
  subbed_columns ea eb ec ed = four_columns ea eb ec ed

-- one round more
pub round_more : (w s x : List ℕ) (r : ℕ) → 1 ≤ r → x ≡ rounds w s (r - 1)
    → add_round_key (mix_columns (shift_rows (sub_bytes x))) (round_key w r) ≡ rounds w s (r + 1 - 1)
unfolding rounds
round_more w s x r h ex =
    let e0 : r ≡ suc (r - 1) = omega arith in
    let e1 : r + 1 - 1 ≡ suc (r - 1) = omega arith in
    let e2 : rounds w s (suc (r - 1)) ≡ add_round_key (mix_columns (shift_rows (sub_bytes (rounds w s (r - 1))))) (round_key w (suc (r - 1))) = refl in
    cc

pub last_round : (w s x : List ℕ) (r : ℕ) → r ≤ 10 → 10 ≤ r → x ≡ rounds w s (r - 1)
    → add_round_key (shift_rows (sub_bytes x)) (round_key w 10) ≡ cipher w s
unfolding cipher
last_round w s x r h k ex =
    let e : r - 1 ≡ 9 = omega arith in
    cc
