-- The reading of the log of a card that kept faith: it is not turned down, and each lane with R < V reaches V. While records xs are still to be
-- read, what a lane has reached is the top of the lane less its records in xs, held between R and V: so each record that is not passed over is the
-- next of its lane.
-- Assumes nothing.
use Prim.Native.Nat.{ℕ, suc, ◌+◌, ◌-◌, ◌≤◌, ◌<◌, min, max}
use mathlib.Core.Path.{◌≡◌, refl, sym, ap, subst, ◌∙◌}
use mathlib.Core.Bool.{Bool, true, false, cond, not, ◌||◌}
use mathlib.Core.Option.{Option, none, some}
use mathlib.Core.Logic.{inl, inr}
use mathlib.Core.List.{List, [], ◌∷◌, ◌++◌, Memᴰ}
use native.Mathlib.Omega.{arith}
use native.Mathlib.Decide.{ℕ_discrete, dec_lt}
use lib.Dec.{leb, ltb, eqb}
use lib.ListN.{set, length, take, length-set}
use lib.Seq.{get_or-set_same, get_or-set_other, take-nil, take_all}
use borrow.Author.Tests.{ltb-true, leb-true, ltb-false, leb-false, eq-eqb, le-leb, lt-ltb}
use Rattle.octets.specs.Lists.{at}
use Rattle.octets.proofs.BoolLaws.{or_left, or_right, or_true}
use Rattle.table.specs.declared.Table.{Table}
use Rattle.table.specs.Table.{lanes, entered}
use Rattle.table.proofs.OrderLaws.{clash}
use Rattle.sealed.specs.Aead.{aes_gcm}
use Rattle.sealed.specs.Record.{Opened}
use Rattle.protocol.specs.Replay.{Reading, Read, reading, passed_over, or_stop, behind, step_opened, ended, replay, at_first}
use Rattle.protocol.specs.declared.Vault.{Vault}
use Rattle.protocol.proofs.Basis.{Writable, bytes_of, begun_bytes, Passed}
use Rattle.protocol.proofs.MissingLaws.{reached_ends}
use Rattle.protocol.proofs.LaidLaws.{laid_out, go_on, follow, AllWritable, Comes, comes_none, comes_torn, comes_whole, replay_tail}
use Rattle.protocol.proofs.Card.{Spot, cnt, cnt_same, cnt_other, Consec, recs_of, mem_recs}

module _ (key : List ℕ) (x : Vault) (c : ℕ → ℕ)
    (right : Opened → Type 0)
    (whose : (r : Opened) → right r → at x.r r.lane < r.number → r.number ≤ at x.v r.lane → r.epoch ≡ x.e)
    (fine : (r : Opened) → right r → Writable r) where
  -- what is due to be reached of a lane when the records xs are still to be read
  abbrev due : List Spot → ℕ → ℕ
  due xs l = max (at x.r l) (min (at x.v l) (c l - cnt l xs))

  -- a reading in the midst of the card: each lane with R < V stands where it is due
  record Mid (xs : List Spot) (last : List ℕ) : Type 0 where
    spot : (l : ℕ) → at x.r l < at x.v l → at last l ≡ due xs l
    len : length last ≡ lanes

  -- a record passed over has a number at most R, or above V
  no_turn : (r : Opened) → passed_over x r ≡ true → Passed x.v x.r r
  unfolding passed_over
  no_turn r e = side (leb r.number (at x.r r.lane)) (ltb (at x.v r.lane) r.number) refl refl e
    where
      side : (a b : Bool) → leb r.number (at x.r r.lane) ≡ a → ltb (at x.v r.lane) r.number ≡ b → (a || b) ≡ true
          → Passed x.v x.r r
      side true b u v e = inl (leb-true _ _ u)
      side false true u v e = inr (ltb-true _ _ v)
      side false false u v e = clash (sym e)

  -- any other has R < number ≤ V
  its_turn : (r : Opened) → passed_over x r ≡ false → (at x.r r.lane < r.number) × (r.number ≤ at x.v r.lane)
  unfolding passed_over
  its_turn r e =
      let a = leb r.number (at x.r r.lane) in
      let b = ltb (at x.v r.lane) r.number in
      (leb-false _ _ (or_left a b e), ltb-false _ _ (or_right a b e))

  -- a record passed over changes nothing
  passed : (xs : List Spot) (p : Spot) (last : List ℕ) → p.rec.number + cnt p.rec.lane xs ≡ c p.rec.lane → passed_over x p.rec ≡ true → Mid (p ∷ xs) last → Mid xs last
  passed xs p last k i m = record { spot = λ l h. go l h (m.spot l h) (ℕ_discrete p.rec.lane l); len = m.len }
    where
      fin : (l : ℕ) → p.rec.lane ≡ l → at x.r l < at x.v l → at last l ≡ due (p ∷ xs) l → p.rec.number + cnt l xs ≡ c l → cnt l (p ∷ xs) ≡ suc (cnt l xs)
          → Passed x.v x.r p.rec → at last l ≡ due xs l
      fin l d h s k q (inl a) = let b : p.rec.number ≤ at x.r l = subst (λ (j : ℕ). p.rec.number ≤ at x.r j) d a in omega arith
      fin l d h s k q (inr a) = let b : at x.v l < p.rec.number = subst (λ (j : ℕ). at x.v j < p.rec.number) d a in omega arith

      go : (l : ℕ) → at x.r l < at x.v l → at last l ≡ due (p ∷ xs) l → Dec (p.rec.lane ≡ l) → at last l ≡ due xs l
      go l h s (no d) = let z = cnt_other l p xs d in rw z at s
      go l h s (yes d) = fin l d h s (subst (λ (j : ℕ). p.rec.number + cnt j xs ≡ c j) d k) (cnt_same l p xs d) (no_turn p.rec i)

  -- any other is the next of its lane, and is reached with it
  took : (xs : List Spot) (p : Spot) (last : List ℕ) → p.rec.lane < lanes → p.rec.number + cnt p.rec.lane xs ≡ c p.rec.lane
      → at x.r p.rec.lane < p.rec.number → p.rec.number ≤ at x.v p.rec.lane → Mid (p ∷ xs) last
      → (p.rec.number ≡ suc (at last p.rec.lane)) × Mid xs (set last p.rec.lane p.rec.number)
  took xs p last ln k a b m =
      let s = m.spot p.rec.lane (omega arith) in
      let q = cnt_same p.rec.lane p xs refl in
      (omega arith, record { spot = λ l h. go l h (m.spot l h) (ℕ_discrete p.rec.lane l); len = length-set last _ _ ∙ m.len })
    where
      go : (l : ℕ) → at x.r l < at x.v l → at last l ≡ due (p ∷ xs) l → Dec (p.rec.lane ≡ l) → at (set last p.rec.lane p.rec.number) l ≡ due xs l
      go l h s (no d) = let z = cnt_other l p xs d in get_or-set_other last p.rec.lane l p.rec.number 0 (λ e. d (sym e)) ∙ (rw z at s)
      go l h s (yes d) =
          let e = get_or-set_same last p.rec.lane p.rec.number 0 (omega (arith, m.len)) in
          subst (λ (j : ℕ). at (set last p.rec.lane p.rec.number) j ≡ due xs j) d (omega arith)

  -- read to its end, with each lane reached
  Ends : Read → Type 0
  Ends d = (g : Reading) × (d ≡ reading g) × Mid [] g.last

  -- one record more, where the rest is read to its end
  one : (p : Spot) (xs : List Spot) (g : Reading) (k : Reading → Read) → right p.rec → p.rec.number + cnt p.rec.lane xs ≡ c p.rec.lane
      → Mid (p ∷ xs) g.last → ((h : Reading) → Mid xs h.last → Ends (k h)) → Ends (go_on (step_opened x g (some p.rec)) k)
  unfolding step_opened or_stop go_on
  one p xs g k rt n m ih = go (passed_over x p.rec) refl
    where
      past : Reading
      past = record { offset = behind g p.rec; last = g.last; table = g.table }

      taken : Reading
      taken = record { offset = behind g p.rec; last = set g.last p.rec.lane p.rec.number; table = entered g.table p.rec.text p.rec.lane p.rec.number }

      go : (b : Bool) → passed_over x p.rec ≡ b
          → Ends (go_on (cond b (reading past) (or_stop (not (eqb p.rec.epoch x.e)) 10 (g.offset ∷ []) (or_stop (not (eqb p.rec.number (suc (at g.last p.rec.lane)))) 11 (g.offset ∷ []) (reading taken)))) k)
      go true e = ih past (passed xs p g.last n e m)
      go false e =
          let t = its_turn p.rec e in
          let s = took xs p g.last (fine p.rec rt).lane n t.0 t.1 m in
          rw (eq-eqb p.rec.epoch x.e (whose p.rec rt t.0 t.1), eq-eqb p.rec.number (suc (at g.last p.rec.lane)) s.0) (ih taken s.1)

  -- all of them
  reads : (xs : List Spot) (g : Reading) → Consec c xs → ((p : Spot) → Memᴰ p xs → right p.rec) → Mid xs g.last → Ends (follow x g (recs_of xs))
  unfolding follow Ends
  reads [] g k r m = (g, refl, m)
  reads (p ∷ xs) g k r m =
      one p xs g (λ h. follow x h (recs_of xs)) (r p (Memᴰ.head refl)) k.0 m (λ h n. reads xs h k.1 (λ q i. r q (Memᴰ.tail i)) n)

  all_writable : (xs : List Spot) → ((p : Spot) → Memᴰ p xs → right p.rec) → AllWritable (recs_of xs)
  all_writable xs r o m = let z = mem_recs xs o m in subst Writable (sym z.2) (fine z.0.rec (r z.0 z.1))

  -- ---- the tail

  -- a tail that is read on and leaves the lanes as they are
  abbrev Keeps : (Reading → Read) → Type 0
  Keeps f = (g : Reading) → (h : Reading) × (f g ≡ reading h) × (h.last ≡ g.last)

  passes : (r : Opened) → Passed x.v x.r r → passed_over x r ≡ true
  unfolding passed_over
  passes r (inl h) = rw (le-leb r.number (at x.r r.lane) h)
  passes r (inr h) = rw (lt-ltb (at x.v r.lane) r.number h, or_true (leb r.number (at x.r r.lane)))

  -- a record that is passed over does
  keeps_passed : (r : Opened) → passed_over x r ≡ true → Keeps (λ g. follow x g (r ∷ []))
  unfolding follow go_on step_opened
  keeps_passed r e g = (record { offset = behind g r; last = g.last; table = g.table }, rw e, refl)

  -- so does every beginning of a record that is passed over, the whole of it and none of it too
  tail_of : (o : Option Opened) (k : ℕ) → ((y : Opened) → o ≡ some y → right y) → ((y : Opened) → o ≡ some y → Passed x.v x.r y)
      → (f : Reading → Read) × Comes key x (take k (begun_bytes key o)) f × Keeps f
  tail_of none k h p = (reading, (λ front n g l e. rw (take-nil k) (comes_none key x front n g (omega arith) e)), λ g. (g, refl, refl))
  tail_of (some r) k h p = go (dec_lt k (length (bytes_of key r)))
    where
      go : Dec (k < length (bytes_of key r)) → (f : Reading → Read) × Comes key x (take k (bytes_of key r)) f × Keeps f
      go (yes l) = (reading, comes_torn key x r k (fine r (h r refl)) l, λ g. (g, refl, refl))
      go (no l) = (
        (λ g. follow x g (r ∷ [])),
        subst (λ (s : List ℕ). Comes key x s (λ g. follow x g (r ∷ []))) (sym (take_all k (bytes_of key r) (omega arith))) (comes_whole key x r (fine r (h r refl))),
        keeps_passed r (passes r (p r refl)),
      )

  -- The log of a card that kept faith is read to its end, and no lane is missing.
  pub read_faithful : (xs : List Spot) (t : Table) (o : Option Opened) (k : ℕ) → length x.r ≡ lanes → Consec c xs → ((p : Spot) → Memᴰ p xs → right p.rec)
      → ((l : ℕ) → at x.r l < at x.v l → (at x.v l ≤ c l) × (c l ≤ at x.r l + cnt l xs))
      → ((y : Opened) → o ≡ some y → right y) → ((y : Opened) → o ≡ some y → Passed x.v x.r y)
      → (g : Reading) × (replay (aes_gcm key) x t (laid_out key (recs_of xs) ++ take k (begun_bytes key o)) ≡ reading g)
  unfolding Ends cnt go_on
  read_faithful xs t o k len con r reach known passed = go (reads xs (at_first x t) con r (record { spot = λ l h. let z = (reach l h).1 in omega arith; len = len })) (tail_of o k known passed)
    where
      go : Ends (follow x (at_first x t) (recs_of xs)) → (f : Reading → Read) × Comes key x (take k (begun_bytes key o)) f × Keeps f
          → (g : Reading) × (replay (aes_gcm key) x t (laid_out key (recs_of xs) ++ take k (begun_bytes key o)) ≡ reading g)
      go (g, e, m) (f, comes, keeps) =
          let w = keeps g in
          let h = w.0 in
          let n = reached_ends x h (λ l i lt. let s = m.spot l lt in let z = (reach l lt).0 in let q : at h.last l ≡ at g.last l = ap (λ (u : List ℕ). at u l) w.2 in omega arith) in
          (h, replay_tail key x t (recs_of xs) (take k (begun_bytes key o)) f (all_writable xs r) comes ∙ ap (λ (d : Read). ended x (go_on d f)) e ∙ ap (ended x) w.1 ∙ n)
