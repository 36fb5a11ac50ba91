-- What the program prints: an answer that is taken has its text's length; the lines of the refusals; and an array that begins with them.
-- Assumes nothing.
use Prim.Native.Nat.{ℕ, ◌≤◌}
use mathlib.Core.Path.{◌≡◌, refl, sym, ap, subst, ◌∙◌}
use mathlib.Core.Bool.{Bool, true, false, not}
use mathlib.Core.List.{List, [], ◌∷◌}
use lib.Dec.{ltb, eqb}
use lib.ListN.{length, drop, length-append}
use native.Mathlib.Omega.{arith}
use Rattle.octets.specs.Lists.{put_over}
use Rattle.protocol.specs.declared.Store.TheVariants as S
use Rattle.protocol.specs.Said.{Said, refused, taken, Told, turn_down}
use Rattle.heat.specs.Uses.{gain}
use Rattle.heat.specs.Shares.{total}
use Rattle.heat.specs.Text.{split_text, text_max}
use Rattle.heat.specs.Numerals.{numeral_within, numeral}
use Rattle.heat.specs.declared.SplitError.{SplitError}
use Rattle.heat.specs.declared.SplitError.TheVariants as E
use Rattle.std.specs.Prelude.{Err}
use Rattle.heat.specs.Answer.{number_of, said_by, two_tables, start_table, end_table, any_changed, split_of, heat_split, refused_line, shown_by, printed}

-- ---- what is taken has the length that is said

abbrev Sized : Said → List ℕ → Type 0
Sized (refused n vs) put = Unit {0}
Sized (taken st n) put = n ≡ length put

abbrev SizedTold : Told → Type 0
SizedTold t = Sized t.said t.put

behind : (t : Bool) (n : ℕ) (vs : List ℕ) (other : Told) → SizedTold other → SizedTold (turn_down t n vs other)
unfolding turn_down
behind true n vs other h = tt
behind false n vs other h = h

sized : (b : List ℕ) (room : ℕ) → SizedTold (heat_split b room)
unfolding heat_split split_of
sized b room =
    let s = start_table b in
    let e = end_table b in
    let n = length (split_text s e) in
    let written : Told = record { said = taken S.Nothing n; put = split_text s e } in
    let fitted : Told = turn_down (ltb room n) 3 (n ∷ []) written in
    let used : Told = turn_down (eqb (total (gain s e)) 0) 19 [] fitted in
    behind (not (two_tables b)) 4 [] (split_of s e room) (behind (any_changed s e) 18 [] used (behind (eqb (total (gain s e)) 0) 19 [] fitted (behind (ltb room n) 3 (n ∷ []) written refl)))

-- ---- the lines of the refusals

nothing_put : (e : SplitError) (put : List ℕ) → shown_by (said_by (Err e)) put ≡ shown_by (said_by (Err e)) []
unfolding said_by shown_by
nothing_put e put = refl

pub line_fits : (e : SplitError) → length (shown_by (said_by (Err e)) []) ≤ text_max
unfolding said_by number_of shown_by refused_line numeral numeral_within
line_fits (E.Short n) = omega arith
line_fits E.NoTables = omega arith
line_fits E.CodeChanged = omega arith
line_fits E.NothingUsed = omega arith

-- ---- what is printed

module _ (b : List ℕ) where
  pub printed_text : {x : Said} {n : ℕ} → x ≡ taken S.Nothing n → x ≡ (heat_split b text_max).said → (printed b ≡ (heat_split b text_max).put) × (n ≡ length (heat_split b text_max).put)
  unfolding printed shown_by
  printed_text et e =
      let q = sym et ∙ e in
      (sym (ap (λ (x : Said). shown_by x (heat_split b text_max).put) q), subst (λ (x : Said). Sized x (heat_split b text_max).put) (sym q) (sized b text_max))

  pub printed_refused : (e : SplitError) → said_by (Err e) ≡ (heat_split b text_max).said → printed b ≡ shown_by (said_by (Err e)) []
  unfolding printed
  printed_refused e is = sym (ap (λ (x : Said). shown_by x (heat_split b text_max).put) is) ∙ nothing_put e (heat_split b text_max).put

  -- an array that has s at its start, and its length
  pub as_printed : (d : List ℕ) {s bytes : List ℕ} {len : ℕ} → printed b ≡ s → bytes ≡ put_over s d → len ≡ length s → (bytes ≡ put_over (printed b) d) × (len ≡ length (printed b))
  as_printed d e p q = (p ∙ ap (λ (t : List ℕ). put_over t d) (sym e), q ∙ ap length (sym e))

  -- which is within that array
  pub within : (d : List ℕ) {bytes : List ℕ} {len : ℕ} → bytes ≡ put_over (printed b) d → len ≡ length (printed b) → len ≤ length bytes
  within d e h = rw e (let a = length-append (printed b) (drop (length (printed b)) d) in omega arith)
