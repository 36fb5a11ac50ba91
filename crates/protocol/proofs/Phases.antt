-- The tie of a state in service.
-- Assumes nothing.
use Prim.Native.Nat.{ℕ, ◌+◌, ◌*◌, ◌≤◌}
use mathlib.Core.Path.{◌≡◌, sym, subst, subst₂, ◌∙◌}
use mathlib.Core.Bool.{false, not, ◌&&◌}
use mathlib.Core.Option.{Option, none}
use mathlib.Core.List.{List}
use native.Mathlib.Omega.{arith}
use borrow.Author.Tests.{not-false}
use lib.ListN.{length}
use Rattle.octets.specs.Lists.{at}
use Rattle.octets.proofs.BoolLaws.{and_left, and_right}
use Rattle.sealed.specs.Record.{Opened}
use Rattle.sealed.specs.Checkpoint.{OpenedFile}
use Rattle.protocol.specs.States.{valid, serving, is_nothing, ready, listed, points_max}
use Rattle.protocol.specs.Point.{Mark}
use Rattle.protocol.specs.declared.Point.{Point}
use Rattle.protocol.specs.declared.State.{State}
use Rattle.protocol.specs.declared.Phase.{Phase}
use Rattle.protocol.specs.declared.Phase.TheVariants as F
use Rattle.protocol.specs.declared.Due.TheVariants as D
use Rattle.protocol.proofs.DueLaws.{is_nothing_law, is_serving}
use Rattle.protocol.proofs.Latest.{In}
use Rattle.protocol.proofs.Card.{Spot, cnt}
use Rattle.protocol.proofs.Invariant.{Durable, SpotIn, Lanes, Carded, Serving, Service, LinkedAt, Linked, begun_count}
use Rattle.protocol.proofs.StoreLaws.{no_begun}

-- the card's records from what is known in service
pub card_of : {w v r : List ℕ} {s : ℕ} {ms : List Mark} {ps : List Point} {fl nx : ℕ} {b : List Opened} {fs : List OpenedFile} {cs : List Spot} (sealed : List Opened)
    → Lanes w v r → Serving w v r s ms ps fl nx b fs cs → ((l : ℕ) → at r l + cnt l cs ≡ at w l) → ((p : Spot) → SpotIn cs p → In sealed p.rec) → {o : Option Opened} → o ≡ none → Carded v r sealed cs o
card_of {w = w} {cs = cs} sealed dl sv ex kn cl = record {
  top = at w;
  consec = sv.consec;
  reach = λ l h. (let a = (dl.lane l).seen in omega arith, let a = ex l in omega arith);
  known = kn;
  rising = sv.rising;
  few = subst (λ (o : Option Opened). length cs + begun_count o ≤ (points_max + 1) * listed) (sym cl) (let a = sv.total in let b = sv.eight in let c = sv.few in omega arith);
  begun_known = λ b e. no_begun b (sym cl ∙ e);
  begun_passed = λ b e. no_begun b (sym cl ∙ e);
}

module _ (key : List ℕ) where
  -- a state that stays in service
  pub link_serving : (c c' : State) (d : Durable) → c.phase ≡ F.Serving → c'.phase ≡ c.phase → c'.vault ≡ d.vault → Service key c' d c'.due → Linked key c' d
  link_serving c c' d e f s r = record { same = s; rest = subst (λ (ph : Phase). LinkedAt key c' d ph c'.due) (sym (f ∙ e)) r }

  -- and whose due store stays
  pub link_quiet : (c c' : State) (d : Durable) → c.phase ≡ F.Serving → c.due ≡ D.Nothing → c'.phase ≡ c.phase → c'.due ≡ c.due → c'.vault ≡ d.vault → Service key c' d D.Nothing
      → Linked key c' d
  link_quiet c c' d e n f g s r = record { same = s; rest = subst₂ (LinkedAt key c' d) (sym (f ∙ e)) (sym (g ∙ n)) r }

  -- a state that is ready
  pub when_ready : (c : State) (d : Durable) → LinkedAt key c d c.phase c.due → not (ready c) ≡ false → (c.phase ≡ F.Serving) × (c.due ≡ D.Nothing) × Service key c d D.Nothing
  unfolding ready valid
  when_ready c d k e =
      let a = not-false _ e in
      let p = is_serving c.phase (and_right (valid c) (serving c.phase) (and_left (valid c && serving c.phase) (is_nothing c.due) a)) in
      let n = is_nothing_law c.due (and_right (valid c && serving c.phase) (is_nothing c.due) a) in
      (p, n, subst₂ (LinkedAt key c d) p n k)

  -- one in service
  pub when_serving : (c : State) (d : Durable) → LinkedAt key c d c.phase c.due → not (valid c && serving c.phase) ≡ false → (c.phase ≡ F.Serving) × Service key c d c.due
  when_serving c d k e =
      let p = is_serving c.phase (and_right (valid c) (serving c.phase) (not-false _ e)) in
      (p, subst (λ (ph : Phase). LinkedAt key c d ph c.due) p k)
