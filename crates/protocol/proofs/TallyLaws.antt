-- The stores that a recovery names are 01's 15 or 24, in that order, and those of a truncation its nine: each call names the store that is due
-- and makes the next one due, and the handed state keeps to Load's rule all the way, so no call is turned down. The eight lanes are one lemma
-- by recursion over the lanes that are left.
-- Assumes nothing.
use Prim.Native.Nat.{ℕ, zero, suc, ◌+◌, ◌≤◌, ◌<◌}
use mathlib.Core.Path.{◌≡◌, refl, sym, ap, ap₂, ◌∙◌, subst}
use mathlib.Core.Bool.{Bool, true, false, cond, not}
use mathlib.Core.List.{List, [], ◌∷◌, ◌++◌}
use mathlib.Core.Option.{Option, some}
use Rattle.std.specs.Prelude.{Some}
use native.Mathlib.Omega.{arith}
use lib.Dec.{eqb}
use lib.ListN.{length}
use borrow.Author.Tests.{lt-leb, le-ltb, lt-ltb, eq-eqb, eqb-true, not-false}
use Rattle.octets.specs.Lists.{at}
use Rattle.octets.specs.Every.{all_below}
use Rattle.octets.proofs.EveryLaws.{and_true, all_at, all_of}
use Rattle.table.specs.declared.Table.{Table}
use Rattle.table.specs.Table.{lanes}
use Rattle.table.proofs.OrderLaws.{clash}
use Rattle.sealed.specs.Aead.{aes_gcm}
use Rattle.sealed.specs.Checkpoint.{file_len, file_bytes}
use Rattle.protocol.specs.Vaults.{counter_max, set_v, set_r, set_e, set_s, set_n}
use Rattle.protocol.specs.States.{listed, points_max, valid, is_nothing, with_vault, with_points}
use Rattle.protocol.specs.Said.{Answered, taking, refuse}
use Rattle.protocol.specs.Steps.{stands_if, raise_s, raise_n, raise_e, put_r, put_v, stepped, table_file, file_step}
use Rattle.protocol.specs.Checkpoint.{checkpointed, checkpoint_first, checkpoint_last, checkpoint_step, checkpoint_due, checkpoint}
use Rattle.protocol.specs.Replay.{Read, stopped, reading}
use Rattle.protocol.specs.Recover.{spent, recovered, recover_read, recover_first, after_version, all_visible, after_r, after_v, recover_number, in_service, recover_step, recover_due, recover_phase, recover}
use Rattle.protocol.specs.Truncate.{points_of, find_point, dropped_to, after_truncate_r, truncate_lane, uncovered, truncate_first, truncate_next, truncate_delete, truncate_step, truncate_due, truncate}
use Rattle.protocol.specs.History.{is_taken}
use Rattle.protocol.specs.Tally.{from_lane, each_lane, store_r, store_v, last_stores, recovery_stores, truncate_stores, checkpoint_stores, answers, last_state, named, named_by, put_by, Names, Serves, Unchanged}
use Rattle.protocol.specs.Claim.{Unspent}
use Rattle.protocol.specs.declared.Vault.{Vault}
use Rattle.protocol.specs.declared.State.{State}
use Rattle.protocol.specs.declared.Point.{Point}
use Rattle.protocol.specs.declared.Phase.TheVariants as F
use Rattle.protocol.specs.declared.Due.{Due}
use Rattle.protocol.specs.declared.Due.TheVariants as D
use Rattle.protocol.specs.declared.CheckpointStep.TheVariants as K
use Rattle.protocol.specs.declared.TruncateStep.TheVariants as L
use Rattle.protocol.specs.declared.RecoverStep.TheVariants as G
use Rattle.protocol.specs.declared.RecoverNumber.TheVariants as M
use Rattle.protocol.specs.declared.Store.{Store}
use Rattle.protocol.specs.declared.Store.TheVariants as S
use Rattle.protocol.proofs.Walks.{through}
use Rattle.protocol.proofs.SpentLaws.{passes_unspent}
use Rattle.protocol.proofs.VaultLaws.{VaultFine, StateFine, state_fine, fine_state, fine_n, fine_s, fine_e, fine_r_w, fine_r_count, fine_v_w}

-- ---- one call more

module _ (op : State → Answered) (Q : State → Type 0) where
  names_none : (c : State) → Q c → Names op c [] Q
  unfolding answers last_state
  names_none c q = record { each = refl; ends = q }

  -- a taken call, and what goes on from the state that it returned
  names_more : (c d : State) (st : Store) (out : List ℕ) (sts : List Store) → op c ≡ taking d st out → Names op d sts Q → Names op c (st ∷ sts) Q
  unfolding answers last_state named
  names_more c d st out sts e h = record {
    each = ap₂ (λ (a b : Answered). named a.said ∷ named_by (answers op (length sts) b.state)) e e ∙ ap (λ (os : List (Option Store)). some st ∷ os) h.each;
    ends = subst (λ (a : Answered). Q (last_state op (length sts) a.state)) (sym e) h.ends;
  }

-- what holds behind the last call may be said in other words
pub names_to : {op : State → Answered} {c : State} {stores : List Store} {P Q : State → Type 0} → ((d : State) → P d → Q d) → Names op c stores P → Names op c stores Q
names_to f n = record { each = n.each; ends = f _ n.ends }

-- ---- recovery

-- the call by which recovery is accepted
record Accepted (c : State) (a : Answered) : Type 0 where
  fine : valid c ≡ true
  left : spent c.vault ≡ false
  table : Table
  is : a ≡ taking (recovered c table) (S.N (suc c.vault.n)) []

module _ (c : State) (fine : valid c ≡ true) (left : spent c.vault ≡ false) where
  read_taken : (r : Read) → is_taken (recover_read c r).said ≡ true → Accepted c (recover_read c r)
  unfolding recover_read is_taken
  read_taken (stopped n vs) h = clash (sym h)
  read_taken (reading g) h = record { fine = fine; left = left; table = g.table; is = refl }

first_taken : (c : State) (file log : List ℕ) → is_taken (recover_first c file log).said ≡ true → Accepted c (recover_first c file log)
unfolding recover_first
first_taken c file log =
    through (Accepted c) _ c 1 [] _
    (λ v. through (Accepted c) _ c 3 _ _ (λ l. through (Accepted c) _ c 8 [] _ (λ s. read_taken c (and_true (valid c) (is_nothing c.due) (not-false _ v)).0 s _)))

module _ (b : State) (listing : b.journal.count ≤ listed) (pointing : b.points.count ≤ points_max) (file log : List ℕ) (room : ℕ) (long : file_len ≤ room) where
  -- a recovering collector: the numbers, and the store that is due
  abbrev going : Vault → Due → State
  going x d = record { vault = x; phase = F.Recovering; due = d; table = b.table; journal = b.journal; points = b.points; held = b.held; key = b.key }

  abbrev op : State → Answered
  op c = recover c file log room

  going_valid : (x : Vault) (d : Due) → VaultFine x → valid (going x d) ≡ true
  going_valid x d f = fine_state (going x d) (record { vault = f; listed = listing; pointed = pointing })

  -- a call on it is decided by the store that is due
  goes : (x : Vault) (d : Due) → VaultFine x → op (going x d) ≡ recover_due (going x d) room d
  unfolding recover recover_phase refuse
  goes x d f = rw (going_valid x d f)

  go_file : (x : Vault) (second : Bool) → VaultFine x → x.s < counter_max
      → op (going x (D.Recover (G.File second))) ≡ taking (going x (D.Recover (G.Number (M.S second)))) S.File (table_file (going x (D.Recover (G.File second))))
  unfolding recover_due recover_step file_step refuse
  go_file x second f h = goes x (D.Recover (G.File second)) f ∙ rw (lt-leb counter_max x.s h, le-ltb room file_len long)

  go_version : (x : Vault) (second : Bool) → VaultFine x → x.s < counter_max
      → op (going x (D.Recover (G.Number (M.S second)))) ≡ taking (going (set_s x (suc x.s)) (after_version second)) (S.S (suc x.s)) []
  unfolding recover_due recover_step recover_number raise_s stands_if stepped refuse
  go_version x second f h = goes x (D.Recover (G.Number (M.S second))) f ∙ rw (lt-leb counter_max x.s h)

  go_seal : (x : Vault) → VaultFine x → x.n < counter_max → op (going x (D.Recover (G.Number M.N))) ≡ taking (going (set_n x (suc x.n)) (D.Recover (G.File true))) (S.N (suc x.n)) []
  unfolding recover_due recover_step recover_number raise_n stands_if stepped refuse
  go_seal x f h = goes x (D.Recover (G.Number M.N)) f ∙ rw (lt-leb counter_max x.n h)

  go_r : (x : Vault) (l : ℕ) → VaultFine x → l < lanes → op (going x (D.Recover (G.Number (M.R l)))) ≡ taking (going (set_r x l (at x.w l)) (after_r x l)) (store_r x l) []
  unfolding recover_due recover_step recover_number put_r stands_if stepped refuse
  go_r x l f h = goes x (D.Recover (G.Number (M.R l))) f ∙ rw (lt-leb lanes l h)

  go_epoch : (x : Vault) → VaultFine x → x.e < counter_max → op (going x (D.Recover (G.Number M.E))) ≡ taking (going (set_e x (suc x.e)) (D.Recover (G.Number (M.V 0)))) (S.E (suc x.e)) []
  unfolding recover_due recover_step recover_number raise_e stands_if stepped refuse
  go_epoch x f h = goes x (D.Recover (G.Number M.E)) f ∙ rw (lt-leb counter_max x.e h)

  go_v : (x : Vault) (l : ℕ) → VaultFine x → l < lanes → op (going x (D.Recover (G.Number (M.V l)))) ≡ taking (going (set_v x l (at x.w l)) (after_v l)) (store_v x l) []
  unfolding recover_due recover_step recover_number put_v stands_if stepped refuse
  go_v x l f h = goes x (D.Recover (G.Number (M.V l))) f ∙ rw (lt-leb lanes l h)

  go_empty : (x : Vault) → VaultFine x → op (going x (D.Recover G.Empty)) ≡ taking (in_service (going x (D.Recover G.Empty))) S.Empty []
  unfolding recover_due recover_step
  go_empty x f = goes x (D.Recover G.Empty) f

  -- ---- from the last store back

  names_empty : (x : Vault) → VaultFine x → Names op (going x (D.Recover G.Empty)) (S.Empty ∷ []) Serves
  unfolding in_service
  names_empty x f = names_more op Serves _ _ S.Empty [] [] (go_empty x f) (names_none op Serves _ (record { phase = refl; due = refl; journal = refl; points = refl }))

  -- V = W for the lanes that are left
  names_v : (n l : ℕ) (x : Vault) → l + suc n ≡ lanes → VaultFine x → Names op (going x (D.Recover (G.Number (M.V l)))) (from_lane (store_v x) l (suc n) ++ (S.Empty ∷ [])) Serves
  unfolding from_lane after_v
  names_v zero l x e f =
      let y = set_v x l (at x.w l) in
      names_more op Serves _ (going y (D.Recover G.Empty)) (store_v x l) [] (S.Empty ∷ [])
      (go_v x l f (omega arith) ∙ rw (le-ltb (suc l) lanes (omega arith)))
      (names_empty y (fine_v_w x f l))
  names_v (suc n) l x e f =
      let y = set_v x l (at x.w l) in
      names_more op Serves _ (going y (D.Recover (G.Number (M.V (suc l))))) (store_v x l) [] (from_lane (store_v x) (suc l) (suc n) ++ (S.Empty ∷ []))
      (go_v x l f (omega arith) ∙ rw (lt-ltb (suc l) lanes (omega arith)))
      (names_v n (suc l) y (omega arith) (fine_v_w x f l))

  -- E + 1 and V = W where any W ≠ V; the log is emptied
  names_last : (x : Vault) → VaultFine x → x.e < counter_max → Names op (going x (D.Recover (cond (all_visible x) G.Empty (G.Number M.E)))) (last_stores (not (all_visible x)) x) Serves
  unfolding last_stores
  names_last x f h = by (all_visible x)
    where
      by : (b : Bool) → Names op (going x (D.Recover (cond b G.Empty (G.Number M.E)))) (cond (not b) (S.E (suc x.e) ∷ each_lane (store_v x)) [] ++ (S.Empty ∷ [])) Serves
      by true = names_empty x f
      by false = names_more op Serves _ _ (S.E (suc x.e)) [] _ (go_epoch x f h) (names_v 7 0 (set_e x (suc x.e)) refl (fine_e x f h))

  -- R = W for the lanes that are left, and what follows
  names_r : (n l : ℕ) (x : Vault) → l + suc n ≡ lanes → VaultFine x → x.e < counter_max → Names op (going x (D.Recover (G.Number (M.R l)))) (from_lane (store_r x) l (suc n) ++ last_stores (not (all_visible x)) x) Serves
  unfolding from_lane after_r all_visible last_stores
  names_r zero l x e f h =
      let y = set_r x l (at x.w l) in
      names_more op Serves _ (going y (D.Recover (cond (all_visible y) G.Empty (G.Number M.E)))) (store_r x l) [] (last_stores (not (all_visible x)) x)
      (go_r x l f (omega arith) ∙ rw (le-ltb (suc l) lanes (omega arith)))
      (names_last y (fine_r_w x f l) h)
  names_r (suc n) l x e f h =
      let y = set_r x l (at x.w l) in
      names_more op Serves _ (going y (D.Recover (G.Number (M.R (suc l))))) (store_r x l) [] (from_lane (store_r x) (suc l) (suc n) ++ last_stores (not (all_visible x)) x)
      (go_r x l f (omega arith) ∙ rw (lt-ltb (suc l) lanes (omega arith)))
      (names_r n (suc l) y (omega arith) (fine_r_w x f l) h)

  -- the file and S of a checkpoint, and what follows
  names_pair : (x : Vault) (second : Bool) (sts : List Store) → VaultFine x → x.s < counter_max → Names op (going (set_s x (suc x.s)) (after_version second)) sts Serves
      → Names op (going x (D.Recover (G.File second))) (S.File ∷ S.S (suc x.s) ∷ sts) Serves
  names_pair x second sts f h k =
      names_more op Serves _ _ S.File _ _ (go_file x second f h) (names_more op Serves _ _ (S.S (suc x.s)) [] sts (go_version x second f h) k)

  -- all that follows the first N
  names_rest : (x : Vault) → VaultFine x → x.s + 2 ≤ counter_max → x.n < counter_max → x.e < counter_max
      → Names op (going x (D.Recover (G.File false)))
      (S.File ∷ S.S (suc x.s) ∷ S.N (suc x.n) ∷ S.File ∷ S.S (suc (suc x.s)) ∷ (each_lane (store_r x) ++ last_stores (not (all_visible x)) x)) Serves
  unfolding after_version last_stores all_visible
  names_rest x f hs hn he =
      let y = set_s x (suc x.s) in
      let fy = fine_s x f (omega arith) in
      let z = set_n y (suc x.n) in
      let fz = fine_n y fy hn in
      names_pair x false _ f (omega arith)
      (names_more op Serves _ _ (S.N (suc x.n)) [] _ (go_seal y fy hn)
      (names_pair z true _ fz (omega arith)
      (names_r 7 0 (set_s z (suc (suc x.s))) refl (fine_s z fz (omega arith)) he)))

accepted_tally : (c : State) (file log : List ℕ) (room : ℕ) → file_len ≤ room → StateFine c → Unspent c.vault → (t : Table)
    → recover c file log room ≡ taking (recovered c t) (S.N (suc c.vault.n)) [] → Names (λ d. recover d file log room) c (recovery_stores (not (all_visible c.vault)) c.vault) Serves
unfolding recovery_stores recovered last_stores all_visible
accepted_tally c file log room long f l t e =
    let x = c.vault in
    let ls = l.s in
    let ln = l.n in
    let le = l.e in
    names_more (λ d. recover d file log room) Serves c (recovered c t) (S.N (suc x.n)) [] _ e
    (names_rest (recovered c t) f.listed f.pointed file log room long (set_n x (suc x.n)) (fine_n x f.vault (omega arith)) (omega arith) (omega arith) (omega arith))

pub cold_first : (c : State) (file log : List ℕ) (room : ℕ) → c.phase ≡ F.Cold → recover c file log room ≡ recover_first c file log
unfolding recover recover_phase
cold_first c file log room cold = rw cold

-- every W is V, and one is not
all_same : (x : Vault) → ((l : ℕ) → l < lanes → at x.w l ≡ at x.v l) → all_visible x ≡ true
unfolding all_visible
all_same x h = all_of _ lanes (λ l lt. eq-eqb (at x.w l) (at x.v l) (h l lt))

one_differs : (x : Vault) (l : ℕ) → l < lanes → (at x.w l ≡ at x.v l → ⊥) → all_visible x ≡ false
unfolding all_visible
one_differs x l lt h = go (all_below (λ i. eqb (at x.w i) (at x.v i)) lanes) refl
  where
    go : (b : Bool) → all_below (λ i. eqb (at x.w i) (at x.v i)) lanes ≡ b → b ≡ false
    go true e = absurd (h (eqb-true (at x.w l) (at x.v l) (all_at _ lanes e l lt)))
    go false e = refl

-- "Then the stores .. That makes 15 or 24. Then it is in service": where the first call is taken and the room is a file's, as many calls as the
-- list has stores are all taken and name them in that order
pub recovery_tally : (c : State) (file log : List ℕ) (room : ℕ) → c.phase ≡ F.Cold → is_taken (recover c file log room).said ≡ true → file_len ≤ room
    → (((l : ℕ) → l < lanes → at c.vault.w l ≡ at c.vault.v l) → Names (λ d. recover d file log room) c (recovery_stores false c.vault) Serves)
    × ((l : ℕ) → l < lanes → (at c.vault.w l ≡ at c.vault.v l → ⊥) → Names (λ d. recover d file log room) c (recovery_stores true c.vault) Serves)
recovery_tally c file log room cold h long =
    let k = cold_first c file log room cold in
    let a = first_taken c file log (rw k at h) in
    let t = accepted_tally c file log room long (state_fine c a.fine) (passes_unspent c.vault a.left) a.table (k ∙ a.is) in (
      λ e. subst (λ (b : Bool). Names (λ d. recover d file log room) c (recovery_stores (not b) c.vault) Serves) (all_same c.vault e) t,
      λ l lt ne. subst (λ (b : Bool). Names (λ d. recover d file log room) c (recovery_stores (not b) c.vault) Serves) (one_differs c.vault l lt ne) t,
    )

pub recovery_15 : (x : Vault) → length (recovery_stores false x) ≡ 15
unfolding recovery_stores last_stores from_lane
recovery_15 x = refl

pub recovery_24 : (x : Vault) → length (recovery_stores true x) ≡ 24
unfolding recovery_stores last_stores from_lane
recovery_24 x = refl

-- ---- truncation

-- numbers of which R alone may be another
abbrev pub OnlyR : Vault → Vault → Type 0
OnlyR x y = y ≡ record { w = x.w; v = x.v; r = y.r; e = x.e; s = x.s; n = x.n }

-- behind the deletion: the points above the position are left
pub record Cut (c : State) (position : ℕ) (d : State) : Type 0 where
  pub due : d.due ≡ D.Nothing
  pub points : d.points ≡ dropped_to c.points position
  pub vault : OnlyR c.vault d.vault
  pub rest : Unchanged c d

-- the point that is found is at the position
found_at : (position : ℕ) (ps : List Point) (p : Point) → find_point position ps ≡ Some p → p.position ≡ position
unfolding find_point
found_at position [] p e = let z : ◌≡◌ {A = ℕ} 0 1 = cc in absurd (omega arith)
found_at position (q ∷ ps) p e = by (eqb q.position position) refl (found_at position ps p) e
  where
    by : (b : Bool) → eqb q.position position ≡ b → (find_point position ps ≡ Some p → p.position ≡ position) → cond b (Some q) (find_point position ps) ≡ Some p → p.position ≡ position
    by true h later e = let k = eqb-true q.position position h in cc
    by false h later e = later e

module _ (c : State) (position : ℕ) (p : Point) (found : find_point position (points_of c.points) ≡ Some p) (serves : c.phase ≡ F.Serving)
    (listing : c.journal.count ≤ listed) (pointing : c.points.count ≤ points_max) where
  abbrev cut : State → Answered
  cut d = truncate d position

  abbrev store_count : ℕ → Store
  store_count l = S.R l (at p.counts l)

  -- a call is decided by the store that is due
  cuts : (x : Vault) (d : Due) → VaultFine x → cut (with_vault c x d) ≡ truncate_due (with_vault c x d) position d
  unfolding truncate refuse
  cuts x d f = rw (fine_state (with_vault c x d) (record { vault = f; listed = listing; pointed = pointing }), serves)

  cut_r : (x : Vault) (l : ℕ) → VaultFine x → l < lanes
      → cut (with_vault c x (D.Truncate position (L.R l))) ≡ taking (with_vault c (set_r x l (at p.counts l)) (after_truncate_r l position)) (store_count l) []
  unfolding truncate_due truncate_step truncate_delete truncate_next truncate_lane put_r stands_if stepped refuse
  cut_r x l f h = cuts x (D.Truncate position (L.R l)) f ∙ rw (eq-eqb position position refl, found, lt-leb lanes l h)

  cut_first : (x : Vault) → VaultFine x → p.covered ≡ true
      → cut (with_vault c x D.Nothing) ≡ taking (with_vault c (set_r x 0 (at p.counts 0)) (D.Truncate position (L.R 1))) (store_count 0) []
  unfolding truncate_due truncate_first uncovered truncate_lane put_r stands_if stepped after_truncate_r refuse
  cut_first x f h = cuts x D.Nothing f ∙ rw (found, h)

  names_delete : (x : Vault) → OnlyR c.vault x → VaultFine x → Names cut (with_vault c x (D.Truncate position L.Delete)) (S.Delete p.position ∷ []) (Cut c position)
  unfolding truncate_due truncate_step truncate_delete dropped_to refuse
  names_delete x o f = rw (found_at position (points_of c.points) p found)
      (names_more cut (Cut c position) _ (with_points (with_vault c x D.Nothing) (dropped_to c.points position) D.Nothing) (S.Delete position) [] [] (cuts x (D.Truncate position L.Delete) f ∙ rw (eq-eqb position position refl))
      (names_none cut (Cut c position) _ (record { due = refl; points = refl; vault = o; rest = record { phase = refl; table = refl; journal = refl; any = refl; newest = refl; held = refl; key = refl } })))

  -- R of the lanes that are left, and the deletion
  names_counts : (n l : ℕ) (x : Vault) → l + suc n ≡ lanes → OnlyR c.vault x → VaultFine x → ((i : ℕ) → i < lanes → at p.counts i ≤ at x.v i)
      → Names cut (with_vault c x (D.Truncate position (L.R l))) (from_lane store_count l (suc n) ++ (S.Delete p.position ∷ [])) (Cut c position)
  unfolding from_lane after_truncate_r
  names_counts zero l x e o f h =
      let y = set_r x l (at p.counts l) in
      names_more cut (Cut c position) _ (with_vault c y (D.Truncate position L.Delete)) (store_count l) [] (S.Delete p.position ∷ [])
      (cut_r x l f (omega arith) ∙ rw (le-ltb (suc l) lanes (omega arith)))
      (names_delete y (ap (λ (z : Vault). set_r z l (at p.counts l)) o) (fine_r_count x f l (at p.counts l) (h l (omega arith))))
  names_counts (suc n) l x e o f h =
      let y = set_r x l (at p.counts l) in
      names_more cut (Cut c position) _ (with_vault c y (D.Truncate position (L.R (suc l)))) (store_count l) [] (from_lane store_count (suc l) (suc n) ++ (S.Delete p.position ∷ []))
      (cut_r x l f (omega arith) ∙ rw (lt-ltb (suc l) lanes (omega arith)))
      (names_counts n (suc l) y (omega arith) (ap (λ (z : Vault). set_r z l (at p.counts l)) o) (fine_r_count x f l (at p.counts l) (h l (omega arith))) h)

-- "stores R of lanes 0 to 7 from the point's counts, then deletion of records below it. That point and older ones are dropped": nine calls at a
-- covered point whose numbers are all visible
pub truncate_tally : (c : State) (position : ℕ) (p : Point) → valid c ≡ true → c.phase ≡ F.Serving → c.due ≡ D.Nothing
    → find_point position (points_of c.points) ≡ Some p → p.covered ≡ true → ((l : ℕ) → l < lanes → at p.counts l ≤ at c.vault.v l)
    → Names (λ d. truncate d position) c (truncate_stores p) (Cut c position)
unfolding truncate_stores from_lane
truncate_tally c position p ok serves idle found covered below =
    let f = state_fine c ok in
    let e : with_vault c c.vault D.Nothing ≡ c = ap (λ (d : Due). with_vault c c.vault d) (sym idle) in
    let x = set_r c.vault 0 (at p.counts 0) in
    names_more (λ d. truncate d position) (Cut c position) c (with_vault c x (D.Truncate position (L.R 1))) (S.R 0 (at p.counts 0)) [] _
    (ap (λ (d : State). truncate d position) (sym e) ∙ cut_first c position p found serves f.listed f.pointed c.vault f.vault covered)
    (names_counts c position p found serves f.listed f.pointed 6 1 x refl refl (fine_r_count c.vault f.vault 0 (at p.counts 0) (below 0 (omega arith))) below)

pub truncate_9 : (p : Point) → length (truncate_stores p) ≡ 9
unfolding truncate_stores from_lane
truncate_9 p = refl

-- ---- a checkpoint

module _ (c : State) (serves : c.phase ≡ F.Serving) (fine : StateFine c) (room : ℕ) (long : file_len ≤ room) where
  -- a call is decided by the store that is due
  files : (x : Vault) (d : Due) → VaultFine x → checkpoint (with_vault c x d) room ≡ checkpoint_due (with_vault c x d) room d
  unfolding checkpoint refuse
  files x d f = rw (fine_state (with_vault c x d) (record { vault = f; listed = fine.listed; pointed = fine.pointed }), serves)

  file_number : (x : Vault) → VaultFine x → x.s < counter_max → x.n < counter_max → checkpoint (with_vault c x D.Nothing) room ≡ taking (with_vault c (set_n x (suc x.n)) (D.Checkpoint K.File)) (S.N (suc x.n)) []
  unfolding checkpoint_due checkpoint_first raise_n stands_if stepped refuse
  file_number x f hs hn = files x D.Nothing f ∙ rw (lt-leb counter_max x.s hs, lt-leb counter_max x.n hn)

  file_bytes_law : (x : Vault) → VaultFine x → x.s < counter_max → checkpoint (with_vault c x (D.Checkpoint K.File)) room ≡ taking (with_vault c x (D.Checkpoint K.Version)) S.File (table_file (with_vault c x (D.Checkpoint K.File)))
  unfolding checkpoint_due checkpoint_step file_step refuse
  file_bytes_law x f hs = files x (D.Checkpoint K.File) f ∙ rw (lt-leb counter_max x.s hs, le-ltb room file_len long)

  file_version : (x : Vault) → VaultFine x → x.s < counter_max → checkpoint (with_vault c x (D.Checkpoint K.Version)) room ≡ taking (checkpointed (with_vault c x (D.Checkpoint K.Version))) (S.S (suc x.s)) []
  unfolding checkpoint_due checkpoint_step checkpoint_last refuse
  file_version x f hs = files x (D.Checkpoint K.Version) f ∙ rw (lt-leb counter_max x.s hs)

  -- "stores N + 1, the file of the whole table with version S + 1 and the raised N as seal number, then S + 1": the three states, one behind the other
  pub record Three : Type 0 where
    pub first : checkpoint c room ≡ taking (with_vault c (set_n c.vault (suc c.vault.n)) (D.Checkpoint K.File)) (S.N (suc c.vault.n)) []
    pub second : checkpoint (with_vault c (set_n c.vault (suc c.vault.n)) (D.Checkpoint K.File)) room
        ≡ taking (with_vault c (set_n c.vault (suc c.vault.n)) (D.Checkpoint K.Version)) S.File (file_bytes (aes_gcm c.key) (suc c.vault.s) (suc c.vault.n) c.table)
    pub third : checkpoint (with_vault c (set_n c.vault (suc c.vault.n)) (D.Checkpoint K.Version)) room
        ≡ taking (checkpointed (with_vault c (set_n c.vault (suc c.vault.n)) (D.Checkpoint K.Version))) (S.S (suc c.vault.s)) []

  pub checkpoint_three : c.due ≡ D.Nothing → c.vault.s < counter_max → c.vault.n < counter_max → Three
  unfolding table_file
  checkpoint_three idle hs hn =
      let y = set_n c.vault (suc c.vault.n) in
      let fy = fine_n c.vault fine.vault hn in
      let e : with_vault c c.vault D.Nothing ≡ c = ap (λ (d : Due). with_vault c c.vault d) (sym idle) in
      record {
        first = ap (λ (d : State). checkpoint d room) (sym e) ∙ file_number c.vault fine.vault hs hn;
        second = file_bytes_law y fy hs;
        third = file_version y fy hs;
      }

  -- where what follows it holds of the state behind it
  pub checkpoint_tally : (Q : State → Type 0) → Three → Q (checkpointed (with_vault c (set_n c.vault (suc c.vault.n)) (D.Checkpoint K.Version)))
      → Names (λ d. checkpoint d room) c (checkpoint_stores c.vault) Q
      × (put_by (answers (λ d. checkpoint d room) 3 c) ≡ [] ∷ file_bytes (aes_gcm c.key) (suc c.vault.s) (suc c.vault.n) c.table ∷ [] ∷ [])
  unfolding checkpoint_stores answers
  checkpoint_tally Q t q =
      let op : State → Answered = λ d. checkpoint d room in (
        names_more op Q c _ (S.N (suc c.vault.n)) [] _ t.first
            (names_more op Q _ _ S.File _ _ t.second
            (names_more op Q _ _ (S.S (suc c.vault.s)) [] [] t.third
            (names_none op Q _ q))),
        rw (t.first, t.second, t.third),
      )
