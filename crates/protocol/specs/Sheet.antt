-- 01, Bench sheet: "Marked cases (M), lane 0 unless named". M1 to M12 as one table: for each case what the definitions give, and what 01 says.
-- A call's answer stands as 01's number, and 0 where the call is taken. The records are sealed ones, under any key. The theorem over the table is in proofs/SheetLaws.antt.
-- Behind them 02's cases of a torn last record (CR 4), with the values that 01 has returned with a number.
-- Assumes nothing.
use Rattle.std.specs.Prelude.{ℕ, zero, suc, ◌+◌, ◌-◌, ◌^◌, ◌≡◌, List, [], ◌∷◌, ◌++◌, length, take, get_or, replicate}
use Rattle.octets.specs.Lists.{at}
use Rattle.octets.specs.Little.{little_bytes}
use Rattle.aes_key.specs.Sbox.{sbox}
use Rattle.transaction.specs.Transaction.{stamp_len, max_text}
use Rattle.table.specs.declared.Table.{Table}
use Rattle.table.specs.declared.Entry.{Entry}
use Rattle.table.specs.Table.{no_entry, empty_table, entered}
use Rattle.sealed.specs.Aead.{aes_gcm}
use Rattle.sealed.specs.Frame.{frame_len}
use Rattle.sealed.specs.Record.{record_nonce, record_bytes}
use Rattle.sealed.specs.Checkpoint.{file_len, file_bytes}
use Rattle.protocol.specs.Vaults.{new_vault, set_s}
use Rattle.protocol.specs.States.{no_point}
use Rattle.protocol.specs.Said.{Said, refused, taken, Answered}
use Rattle.protocol.specs.Load.{loaded, load}
use Rattle.protocol.specs.Accept.{accept, seal}
use Rattle.protocol.specs.Commit.{commit}
use Rattle.protocol.specs.Point.{point}
use Rattle.protocol.specs.Recover.{in_service, recover}
use Rattle.protocol.specs.declared.Vault.{Vault}
use Rattle.protocol.specs.declared.State.{State}

-- ---- the table's form

pub record Case : Type 0 where
  pub found : List ℕ
  pub expected : List ℕ

abbrev pub gives : List ℕ → List ℕ → Case
gives found expected = record { found = found; expected = expected }

-- each case gives what is expected
unfoldable pub Holds : List Case → Type 0
Holds [] = Unit {0}
Holds (m ∷ ms) = (m.found ≡ m.expected) × Holds ms

-- a call's answer: 01's number, and 0 where it is taken
unfoldable pub number : Said → ℕ
number (refused n vs) = n
number (taken st n) = 0

abbrev pub display : Answered → ℕ
display a = number a.said

-- with its values
unfoldable pub valued : Said → List ℕ
valued (refused n vs) = n ∷ vs
valued (taken st n) = 0 ∷ []

abbrev pub displays : Answered → List ℕ
displays a = valued a.said

-- ---- what the cases are about

-- so many writes, to a meter and those behind it: meter, code 1, zero, reading 0
unfoldable pub some_writes : ℕ → ℕ → List ℕ
some_writes meter zero = []
some_writes meter (suc n) = little_bytes 2 meter ++ (1 ∷ 0 ∷ 0 ∷ 0 ∷ 0 ∷ 0 ∷ some_writes (suc meter) n)

-- the transaction of stamp 100 that makes them
unfoldable pub transaction : ℕ → ℕ → List ℕ
transaction meter n = little_bytes stamp_len 100 ++ some_writes meter n

-- the entry of a meter
abbrev pub entry : Table → ℕ → Entry
entry t meter = get_or t.entries meter no_entry

-- the answer, and the numbers that the entries of meters 3 to 6 have
unfoldable pub read : Answered → List ℕ
read a = display a ∷ (entry a.state.table 3).number ∷ (entry a.state.table 4).number ∷ (entry a.state.table 5).number ∷ (entry a.state.table 6).number ∷ []

-- how many of lane 0's numbers the first point counts
unfoldable pub counted : Answered → ℕ
counted a = at (get_or a.state.points.items 0 no_point).counts 0

-- lane 0's R, V and W, and zeros
unfoldable pub vault_of : ℕ → ℕ → ℕ → Vault
vault_of r v w = record { w = w ∷ replicate 7 0; v = v ∷ replicate 7 0; r = r ∷ replicate 7 0; e = 0; s = 0; n = 0 }

-- the longest record
abbrev pub record_max : ℕ
record_max = max_text + frame_len

-- a transaction is accepted at a position
abbrev pub accept_at : State → ℕ → Answered
accept_at c position = accept c (transaction 0 1) 0 position

-- what Seal puts out is committed
unfoldable pub commit_sealed : Answered → State
commit_sealed a = (commit a.state a.put).state

-- a transaction is accepted at a position, sealed and committed
unfoldable pub visible_at : State → ℕ → State
visible_at c position = commit_sealed (seal (accept_at c position).state record_max)

module _ (key : List ℕ) where
  -- lane 0's records of these numbers, end to end; record n writes to meter n
  unfoldable pub log_of : List ℕ → List ℕ
  log_of [] = []
  log_of (n ∷ ns) = record_bytes (aes_gcm key) 0 0 n (transaction n 1) ++ log_of ns

  -- Recover after a Load of lane 0's R, V and W, with such a log
  unfoldable pub from_log : ℕ → ℕ → ℕ → List ℕ → Answered
  from_log r v w ns = recover (load (vault_of r v w) key).state [] (log_of ns) file_len

  -- the same, with bytes behind the records
  unfoldable pub from_torn : ℕ → ℕ → ℕ → List ℕ → List ℕ → Answered
  from_torn r v w ns tail = recover (load (vault_of r v w) key).state [] (log_of ns ++ tail) file_len

  -- the first k bytes of lane 0's record of a number
  abbrev pub begun : ℕ → ℕ → List ℕ
  begun k n = take k (record_bytes (aes_gcm key) 0 0 n (transaction n 1))

  -- 20 bytes with the head of lane 0's record of number 6 and one write, but for the kind, the lane and n, which are these
  abbrev pub headed : ℕ → ℕ → ℕ → List ℕ
  headed kind lane n = kind ∷ lane ∷ (little_bytes 2 n ++ (little_bytes 8 0 ++ little_bytes 8 6))

  -- Recover after a Load with this S
  unfoldable pub from_version : ℕ → List ℕ → Answered
  from_version s file = recover (load (set_s new_vault s) key).state file [] file_len

  -- a checkpoint of this version
  unfoldable pub versioned : ℕ → List ℕ
  versioned s = file_bytes (aes_gcm key) s 0 empty_table

  -- a collector in service
  unfoldable pub served : State
  served = in_service (loaded new_vault key)

  -- the record that Seal puts out for so many writes
  unfoldable pub sealed_of : ℕ → List ℕ
  sealed_of n = (seal (accept served (transaction 0 n) 0 10).state record_max).put

  -- two visible records, at 10 and 20
  unfoldable pub two : State
  two = visible_at (visible_at served 10) 20

-- ---- the table

unfoldable pub sheet : List ℕ → List Case
sheet key =
    -- "M1 one write: record of 56 bytes; 16 writes: 176; 17: 4."
    gives (length (sealed_of key 1) ∷ length (sealed_of key 16) ∷ display (accept (served key) (transaction 0 17) 0 10) ∷ []) (56 ∷ 176 ∷ 4 ∷ [])
    -- "M2 S-box: 00 gives 63, 53 gives ed (hexadecimal)."
    ∷ gives (sbox 0x00 ∷ sbox 0x53 ∷ []) (0x63 ∷ 0xed ∷ [])
    -- "M3 nonce of lane 3, number 258: bytes 1 3 0 0 2 1 0 0 0 0 0 0."
    ∷ gives (record_nonce 3 258) (1 ∷ 3 ∷ 0 ∷ 0 ∷ 2 ∷ 1 ∷ 0 ∷ 0 ∷ 0 ∷ 0 ∷ 0 ∷ 0 ∷ [])
    -- "M4 R 3, V 5, log 4 5: read."
    ∷ gives (read (from_log key 3 5 5 (4 ∷ 5 ∷ []))) (0 ∷ 0 ∷ 4 ∷ 5 ∷ 0 ∷ [])
    -- "M5 log 5 4: 11."
    ∷ gives (display (from_log key 3 5 5 (5 ∷ 4 ∷ [])) ∷ []) (11 ∷ [])
    -- "M6 log 4: 13."
    ∷ gives (display (from_log key 3 5 5 (4 ∷ [])) ∷ []) (13 ∷ [])
    -- "M7 log 4 4 5: 11."
    ∷ gives (display (from_log key 3 5 5 (4 ∷ 4 ∷ 5 ∷ [])) ∷ []) (11 ∷ [])
    -- "M8 log 3 4 5 6: read, 3 and 6 passed over."
    ∷ gives (read (from_log key 3 5 6 (3 ∷ 4 ∷ 5 ∷ 6 ∷ []))) (0 ∷ 0 ∷ 4 ∷ 5 ∷ 0 ∷ [])
    -- "M9 R 5, V 3, W 5, empty log: read."
    ∷ gives (display (from_log key 5 3 5 []) ∷ []) (0 ∷ [])
    -- "M10 stamp 100 on lane 2, number 7, against stamp 100 on lane 5, number 1: lane" 2 (02, CR 2), in either order
    ∷ gives
    ((entry (entered (entered empty_table (transaction 0 1) 2 7) (transaction 0 1) 5 1) 0).lane
    ∷ (entry (entered (entered empty_table (transaction 0 1) 5 1) (transaction 0 1) 2 7) 0).lane ∷ [])
    (2 ∷ 2 ∷ [])
    -- "M11 visible records at 10 and 20: point 20 counts one; point 21 counts both, then position 21: 6, and 22 is taken."
    ∷ gives
    (counted (point (two key) 20) ∷ counted (point (two key) 21)
    ∷ display (accept_at (point (two key) 21).state 21) ∷ display (accept_at (point (two key) 21).state 22) ∷ [])
    (1 ∷ 2 ∷ 6 ∷ 0 ∷ [])
    -- "M12 Recover with S = 2^48 − 3 passes check 8; 2^48 − 2: 8." The first is taken with its checkpoint, and answers 9 without one.
    ∷ gives
    (display (from_version key (2 ^ 48 - 3) (versioned key (2 ^ 48 - 3))) ∷ display (from_version key (2 ^ 48 - 3) [])
    ∷ display (from_version key (2 ^ 48 - 2) (versioned key (2 ^ 48 - 2))) ∷ [])
    (0 ∷ 9 ∷ 8 ∷ [])
    -- 02, CR 4, with R 3 and V 5: log 4 and 55 bytes of 5: 13, lane 0
    ∷ gives (displays (from_torn key 3 5 5 (4 ∷ []) (begun key 55 5))) (13 ∷ 0 ∷ [])
    -- log 4 5 and 55 bytes of 6: read
    ∷ gives (read (from_torn key 3 5 6 (4 ∷ 5 ∷ []) (begun key 55 6))) (0 ∷ 0 ∷ 4 ∷ 5 ∷ 0 ∷ [])
    -- log 4 5 and 20 bytes ff: 9, offset 112
    ∷ gives (displays (from_torn key 3 5 5 (4 ∷ 5 ∷ []) (replicate 20 0xff))) (9 ∷ 112 ∷ [])
    -- 19 bytes ff: read
    ∷ gives (read (from_torn key 3 5 5 (4 ∷ 5 ∷ []) (replicate 19 0xff))) (0 ∷ 0 ∷ 4 ∷ 5 ∷ 0 ∷ [])
    -- the head of 6: read; but for kind 2, lane 8, or n 17: 9, offset 112
    ∷ gives (read (from_torn key 3 5 6 (4 ∷ 5 ∷ []) (headed key 1 0 16))) (0 ∷ 0 ∷ 4 ∷ 5 ∷ 0 ∷ [])
    ∷ gives
    (displays (from_torn key 3 5 6 (4 ∷ 5 ∷ []) (headed key 2 0 16)) ++ (displays (from_torn key 3 5 6 (4 ∷ 5 ∷ []) (headed key 1 8 16)) ++ displays (from_torn key 3 5 6 (4 ∷ 5 ∷ []) (headed key 1 0 17))))
    (9 ∷ 112 ∷ 9 ∷ 112 ∷ 9 ∷ 112 ∷ [])
    ∷ []
