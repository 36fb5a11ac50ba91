-- Each way out of one store's step (01, Operations) is the definition's.
-- Assumes nothing.
use Rattle.std.specs.Prelude.{Option, Some, None}
use Prim.Native.Nat.{ℕ, suc, ◌+◌, ◌≤◌, ◌<◌}
use mathlib.Core.Path.{◌≡◌, refl, ◌∙◌}
use mathlib.Core.List.{List, []}
use native.Mathlib.Numerals.{add-one}
use native.Mathlib.Omega.{arith}
use borrow.Author.Tests.{le-leb, lt-leb, lt-ltb, le-ltb}
use lib.Dec.{leb}
use lib.ListN.{length}
use Rattle.octets.specs.Lists.{put_over}
use Rattle.transaction.specs.Transaction.{meters}
use Rattle.table.specs.declared.Table.{Table}
use Rattle.table.specs.TableText.{table_text}
use Rattle.table.proofs.TextLaws.{length_table}
use Rattle.sealed.specs.Aead.{aes_gcm}
use Rattle.sealed.specs.Checkpoint.{file_len, file_head, file_nonce, file_bytes, file_answer, file_put}
use Rattle.sealed.proofs.FrameTrip.{aes_grows, length_framed}
use Rattle.sealed.proofs.FileLaws.{length_head}
use Rattle.protocol.specs.Vaults.{counter_max}
use Rattle.protocol.specs.States.{with_vault}
use Rattle.protocol.specs.Said.{refuse, number_of, values_of, shown, shown_as, refused_with, taken_with}
use Rattle.table.specs.Table.{lanes}
use Rattle.protocol.specs.Steps.{stands_if, raise_s, raise_n, raise_e, put_r, put_v, stepped, table_file, file_step}
use Rattle.protocol.specs.History.{vault_after}
use Rattle.steps.specs.Numbers.{counter_of, counter_store, lane_store, raise, put}
use Rattle.steps.specs.declared.Counter.{Counter}
use Rattle.steps.specs.declared.Counter.TheVariants as C
use Rattle.steps.specs.declared.LaneCounter.{LaneCounter}
use Rattle.steps.specs.declared.LaneCounter.TheVariants as L
use Rattle.protocol.specs.declared.Vault.{Vault}
use Rattle.protocol.specs.declared.State.{State}
use Rattle.protocol.specs.declared.Due.{Due}
use Rattle.protocol.specs.declared.Step.{Step}
use Rattle.protocol.specs.declared.Store.{Store}
use Rattle.protocol.specs.declared.Store.TheVariants as S
use Rattle.protocol.specs.declared.Refusal.TheVariants as R

-- ---- a table's file

-- whatever its entries are, it has the length of a file
pub length_put : (key : List ℕ) (version seal : ℕ) (t : Table) → length t.entries ≡ meters → length (file_bytes (aes_gcm key) version seal t) ≡ file_len
unfolding file_bytes
length_put key version seal t long =
    let l = length_table t long in
    length_framed (aes_gcm key) (aes_grows key) (file_nonce seal) (file_head version seal) (table_text t) (length_head version seal) ∙ omega arith

-- ---- a vault number: it stands at the limit, and below it goes

module _ (k n : ℕ) (y : Vault) (next : Due) (store : Store) where
  stands : k ≤ n → None ≡ stands_if (leb k n) y next store
  unfolding stands_if
  stands h = rw (le-leb k n h)

  goes : n < k → Some (record { vault = y; due = next; store = store }) ≡ stands_if (leb k n) y next store
  unfolding stands_if
  goes h = rw (lt-leb k n h)

-- the step that names a store, where the number n is below the limit k
abbrev step_by : ℕ → ℕ → Vault → Due → Store → Option Step
step_by k n x next store = stands_if (leb k n) (vault_after store x) next store

raise_by : (which : Counter) (x : Vault) (next : Due) → step_by counter_max (counter_of which x) x next (counter_store which (suc (counter_of which x))) ≡ raise which x next
unfolding raise_e raise_s raise_n vault_after
raise_by C.E x next = refl
raise_by C.S x next = refl
raise_by C.N x next = refl

put_by : (which : LaneCounter) (x : Vault) (lane value : ℕ) (next : Due) → step_by lanes lane x next (lane_store which lane value) ≡ put which x lane value next
unfolding put_v put_r vault_after
put_by L.V x lane value next = refl
put_by L.R x lane value next = refl

module _ (which : Counter) (x : Vault) (next : Due) {old : ℕ} (is : old ≡ counter_of which x) where
  pub raise_stands : counter_max ≤ old → None ≡ raise which x next
  raise_stands h = stands counter_max (counter_of which x) _ next _ (rw is at h) ∙ raise_by which x next

  pub raise_goes : old < counter_max → {store : Store} {y : Vault} → store ≡ counter_store which (old + 1) → y ≡ vault_after store x
      → Some (record { vault = y; due = next; store = store }) ≡ raise which x next
  raise_goes h s v = rw (v, s, is, add-one (counter_of which x)) (goes counter_max (counter_of which x) _ next _ (rw is at h) ∙ raise_by which x next)

module _ (which : LaneCounter) (x : Vault) (lane value : ℕ) (next : Due) where
  pub put_stands : lanes ≤ lane → None ≡ put which x lane value next
  put_stands h = stands lanes lane _ next _ h ∙ put_by which x lane value next

  pub put_goes : lane < lanes → {store : Store} {y : Vault} → store ≡ lane_store which lane value → y ≡ vault_after store x
      → Some (record { vault = y; due = next; store = store }) ≡ put which x lane value next
  put_goes h s v = rw (v, s) (goes lanes lane _ next _ h ∙ put_by which x lane value next)

-- ---- what is answered with the step of a vault number, and without one

pub step_none : (c : State) {o : Option Step} → o ≡ None → shown_as (refused_with c R.Condition) [] ≡ stepped c o
unfolding stepped shown_as shown number_of values_of
step_none c e = rw e

pub step_some : (c : State) {o : Option Step} (s : Step) → o ≡ Some s → shown_as (taken_with (with_vault c s.vault s.due) s.store 0) [] ≡ stepped c o
unfolding stepped shown_as shown
step_some c s e = rw e

-- ---- the file, over a buffer o

module _ (c : State) (next : Due) where
  module _ (o : List ℕ) where
    pub file_spent : counter_max ≤ c.vault.s
        → (shown_as (refused_with c R.Condition) (file_step c (length o) next).put ≡ file_step c (length o) next) × (o ≡ put_over (file_step c (length o) next).put o)
    unfolding shown_as shown number_of values_of file_step refuse
    file_spent h = let e = le-leb counter_max c.vault.s h in (rw e, rw e)

    module _ (good : c.vault.s < counter_max) where
      -- no room for the file
      pub file_short : length o < file_len
          → (shown_as (refused_with c (R.Length file_len)) (file_step c (length o) next).put ≡ file_step c (length o) next) × (o ≡ put_over (file_step c (length o) next).put o)
      unfolding shown_as shown number_of values_of file_step refuse
      file_short short =
          let e = lt-leb counter_max c.vault.s good in
          let t = lt-ltb (length o) file_len short in
          (rw (e, t), rw (e, t))

      -- the file is put out, and q is the buffer behind it
      pub file_taken : file_len ≤ length o → length (file_bytes (aes_gcm c.key) (c.vault.s + 1) c.vault.n c.table) ≡ file_len → {q : List ℕ}
          → q ≡ put_over (file_put (file_answer (length o)) (file_bytes (aes_gcm c.key) (c.vault.s + 1) c.vault.n c.table)) o
          → (shown_as (taken_with (with_vault c c.vault next) S.File file_len) (file_step c (length o) next).put ≡ file_step c (length o) next) × (q ≡ put_over (file_step c (length o) next).put o)
      unfolding shown_as shown file_step refuse table_file file_answer file_put
      file_taken room long left =
          let e = lt-leb counter_max c.vault.s good in
          let t = le-ltb (length o) file_len room in
          let g = rw t at left in
          (rw (e, t, ← add-one c.vault.s, long), rw (e, t, ← add-one c.vault.s) g)
