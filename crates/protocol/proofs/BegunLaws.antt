-- The record that a cut left begun. What each store, done or cut, leaves of it; in service there is none, no record store and no delete store meets
-- one, and every proper beginning of a record that is or may be begun is torn.
-- Assumes nothing.
use Prim.Native.Nat.{ℕ, ◌<◌}
use mathlib.Core.Path.{◌≡◌, refl, sym, ap, subst, ◌∙◌}
use mathlib.Core.Bool.{true}
use mathlib.Core.Logic.{◌⊎◌, inl, inr}
use mathlib.Core.Option.{Option, none, some}
use mathlib.Core.List.{List, ◌++◌}
use native.Mathlib.Omega.{arith}
use lib.ListN.{length, take}
use Rattle.sealed.specs.Aead.{aes_gcm}
use Rattle.sealed.specs.Record.{Opened, open_record}
use Rattle.sealed.specs.Log.{torn_at}
use Rattle.sealed.proofs.TornLaws.{torn_beginning}
use Rattle.protocol.specs.History.{Card, Lasting, Pending, World, card_after, card_cut, settled, done, broken, next}
use Rattle.protocol.specs.Claim.{after}
use Rattle.protocol.specs.Beside.{Leaves, NoneBegunInService, NoneMet, SealedBeginningsAreTorn, BeginningsAreTorn}
use Rattle.protocol.specs.declared.State.{State}
use Rattle.protocol.specs.declared.Phase.{Phase}
use Rattle.protocol.specs.declared.Phase.TheVariants as F
use Rattle.protocol.specs.declared.Store.{Store}
use Rattle.protocol.specs.declared.Store.TheVariants as S
use Rattle.protocol.proofs.Basis.{Writable, begun_bytes, opens}
use Rattle.protocol.proofs.Invariant.{Durable, Durably, Service, LinkedAt, Linked, LinkedIf, Apart, Met}
use Rattle.protocol.proofs.Runs.{listed_invariant}

-- ---- what a cut leaves, and a store that is done

-- another store's cut leaves the beginning, and no store's cut a file
cut_else : (st : Store) (bytes : List ℕ) (d : Card) → ((p : ℕ) → st ≡ S.Record p → ⊥) → (card_cut st bytes d).beginning ≡ d.beginning
unfolding card_cut
cut_else S.Nothing bytes d h = refl
cut_else (S.W l k) bytes d h = refl
cut_else (S.V l k) bytes d h = refl
cut_else (S.R l k) bytes d h = refl
cut_else (S.E k) bytes d h = refl
cut_else (S.S k) bytes d h = refl
cut_else (S.N k) bytes d h = refl
cut_else (S.Record p) bytes d h = absurd (h p refl)
cut_else S.File bytes d h = refl
cut_else (S.Delete p) bytes d h = refl
cut_else S.Empty bytes d h = refl

cut_files : (st : Store) (bytes : List ℕ) (d : Card) → (card_cut st bytes d).files ≡ d.files
unfolding card_cut
cut_files S.Nothing bytes d = refl
cut_files (S.W l k) bytes d = refl
cut_files (S.V l k) bytes d = refl
cut_files (S.R l k) bytes d = refl
cut_files (S.E k) bytes d = refl
cut_files (S.S k) bytes d = refl
cut_files (S.N k) bytes d = refl
cut_files (S.Record p) bytes d = refl
cut_files S.File bytes d = refl
cut_files (S.Delete p) bytes d = refl
cut_files S.Empty bytes d = refl

-- every store but the empty one leaves it when it is done
done_else : (st : Store) (bytes : List ℕ) (d : Card) → (st ≡ S.Empty → ⊥) → (card_after st bytes d).beginning ≡ d.beginning
unfolding card_after
done_else S.Nothing bytes d h = refl
done_else (S.W l k) bytes d h = refl
done_else (S.V l k) bytes d h = refl
done_else (S.R l k) bytes d h = refl
done_else (S.E k) bytes d h = refl
done_else (S.S k) bytes d h = refl
done_else (S.N k) bytes d h = refl
done_else (S.Record p) bytes d h = refl
done_else S.File bytes d h = refl
done_else (S.Delete p) bytes d h = refl
done_else S.Empty bytes d h = absurd (h refl)

module _ (key : List ℕ) where
  -- what a cut now would leave
  cut_leaves : (pd : Pending) (a : Lasting) (p : ℕ) → pd.store ≡ S.Record p → (broken pd a).card.beginning ≡ pd.bytes
  unfolding broken card_cut
  cut_leaves pd a p e = ap (λ (st : Store). (card_cut st pd.bytes a.card).beginning) e

  pub leaves : (w : World) → Leaves key w
  unfolding next broken done card_after
  leaves w = record {
    record_cut = λ p e. cut_leaves w.pending w.lasting p e;
    other_cut = λ h. cut_else w.pending.store w.pending.bytes w.lasting.card h;
    other_done = λ h. done_else w.pending.store w.pending.bytes w.lasting.card h;
    emptied = λ e. ap (λ (st : Store). (card_after st w.pending.bytes w.lasting.card).beginning) e;
    no_file = cut_files w.pending.store w.pending.bytes w.lasting.card;
  }

  -- ---- after any list

  serving_clean : (c : State) (d : Durable) → c.phase ≡ F.Serving → Linked key c d → d.begun ≡ none
  serving_clean c d e l = let s : Service key c d c.due = subst (λ (ph : Phase). LinkedAt key c d ph c.due) e l.rest in s.clean

  pub none_begun : NoneBegunInService key
  none_begun es p c q e =
      let i = listed_invariant key es p in
      i.apart'.card.beginning ∙ ap (begun_bytes key) (serving_clean c i.after e (subst (λ (s : Option State). LinkedIf key s i.after) q i.link))

  -- a store that may not meet a beginning leaves what is there
  unmet : (st : Store) (bytes : List ℕ) (d : Card) (p : ℕ) (o : Option Opened) → (st ≡ S.Record p) ⊎ (st ≡ S.Delete p) → Met o st → ((card_after st bytes d).beginning ≡ d.beginning) × (o ≡ none)
  unfolding card_after
  unmet st bytes d p o (inl e) m = (ap (λ (x : Store). (card_after x bytes d).beginning) e, subst (Met o) e m)
  unmet st bytes d p o (inr e) m = (ap (λ (x : Store). (card_after x bytes d).beginning) e, subst (Met o) e m)

  pub none_meets : NoneMet key
  unfolding done
  none_meets es p q e =
      let w = after key es in
      let i = listed_invariant key es p in
      let u = unmet w.pending.store w.pending.bytes w.lasting.card q i.after.begun e i.met in
      sym u.0 ∙ i.apart'.card.beginning ∙ ap (begun_bytes key) u.1

  begun_torn : (o : Option Opened) (s front : List ℕ) (k : ℕ) → s ≡ begun_bytes key o → ((y : Opened) → o ≡ some y → Writable y) → k < length s → torn_at (front ++ take k s) (length front) ≡ true
  begun_torn none s front k q w h = let l = ap length q in absurd (omega arith)
  begun_torn (some r) s front k q w h = torn_beginning (aes_gcm key) front s r k (ap (open_record (aes_gcm key)) q ∙ opens key r (w r refl)) h

  apart_torn : (a : Lasting) (d : Durable) → Apart key a d → Durably d → (front : List ℕ) (k : ℕ) → k < length a.card.beginning → torn_at (front ++ take k a.card.beginning) (length front) ≡ true
  apart_torn a d h i front k = begun_torn d.begun a.card.beginning front k h.card.beginning (λ y e. i.sealed.fine y (i.card.begun_known y e))

  pub torn : BeginningsAreTorn key
  torn es p = let i = listed_invariant key es p in apart_torn (settled (after key es)) i.after i.apart' i.then

  pub sealed_torn : SealedBeginningsAreTorn key
  sealed_torn es p q e =
      let i = listed_invariant key es p in
      let w = after key es in
      subst (λ (s : List ℕ). (front : List ℕ) (k : ℕ) → k < length s → torn_at (front ++ take k s) (length front) ≡ true) (cut_leaves w.pending w.lasting q e)
      (apart_torn (broken w.pending w.lasting) i.before i.apart i.now)
