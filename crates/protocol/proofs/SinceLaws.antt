-- The journal and the points of a state in service are those that the list has used and set since service began: the last position used and the
-- newest point are the greatest of them, and the listed records are those that no point lies above. Each call keeps that; no premise is needed.
-- Assumes nothing.
use Prim.Native.Nat.{ℕ, suc, ◌≤◌, ◌<◌}
use mathlib.Core.Path.{◌≡◌, refl, sym, ap, subst, ◌∙◌}
use mathlib.Core.Bool.{Bool, true, false, cond, not, ◌&&◌, ◌||◌}
use mathlib.Core.List.{List, [], ◌∷◌, ◌++◌, map}
use mathlib.Core.Option.{Option, none, some}
use native.Mathlib.Omega.{arith}
use lib.Dec.{leb}
use lib.ListN.{length, length-set, length-map}
use borrow.Author.Tests.{leb-true, leb-false, le-leb, lt-leb, not-false}
use Rattle.octets.proofs.BoolLaws.{and_left, and_right, or_left, or_right}
use Rattle.protocol.specs.States.{listed, no_journal, no_points, valid, serving, is_nothing, ready}
use Rattle.protocol.specs.Said.{Said, refused, taken, Answered}
use Rattle.protocol.specs.Load.{loaded, load}
use Rattle.protocol.specs.Accept.{too_low, listed_more, accepted}
use Rattle.protocol.specs.Commit.{committed}
use Rattle.protocol.specs.Point.{Mark, marks_to, marks_of, marks_from, journal_of, point_at, points_more, pointed}
use Rattle.protocol.specs.Checkpoint.{covered_points, checkpointed}
use Rattle.protocol.specs.Truncate.{dropped_to}
use Rattle.protocol.specs.Recover.{recovered, in_service}
use Rattle.protocol.specs.History.{Call, call_load, call_accept, call_seal, call_commit, call_point, call_checkpoint, call_truncate, call_recover, Event, call, cut, Lasting, World, new_world, after_said, after_answer, answer_of, first_answer, answer, next, run}
use Rattle.protocol.specs.Since.{Since, nothing_since, since_taken, since_said, since_answer, since_next, since_run, any_from, standing}
use Rattle.protocol.specs.declared.Vault.{Vault}
use Rattle.protocol.specs.declared.State.{State}
use Rattle.protocol.specs.declared.Journal.{Journal}
use Rattle.protocol.specs.declared.Points.{Points}
use Rattle.protocol.specs.declared.Phase.{Phase}
use Rattle.protocol.specs.declared.Phase.TheVariants as F
use Rattle.sealed.specs.Record.{Opened}
use Rattle.protocol.proofs.Walks.{walk_load, walk_accept, walk_seal, walk_commit, walk_point, walk_checkpoint, walk_truncate, walk_recover}
use Rattle.protocol.proofs.Listed.{upto_length, upto_set, marks_journal, journal_lengths, map_snoc}
use Rattle.protocol.proofs.DueLaws.{is_serving}

-- ---- positions

any_snoc : (q p : ℕ) (xs : List ℕ) → any_from q (xs ++ (p ∷ [])) ≡ (any_from q xs || leb q p)
unfolding any_from
any_snoc q p [] = or_none (leb q p)
  where
    or_none : (b : Bool) → (b || false) ≡ b
    or_none true = refl
    or_none false = refl
any_snoc q p (x ∷ xs) = go (leb q x) (any_snoc q p xs)
  where
    go : (b : Bool) → any_from q (xs ++ (p ∷ [])) ≡ (any_from q xs || leb q p) → (b || any_from q (xs ++ (p ∷ []))) ≡ ((b || any_from q xs) || leb q p)
    go true e = refl
    go false e = e

-- a flag with a greatest position, where a greater one comes
rises : (b : Bool) (k p q : ℕ) → (b && leb p k) ≡ false → leb q p ≡ ((b && leb q k) || leb q p)
rises false k p q e = refl
rises true k p q e = go (leb q k) refl
  where
    go : (d : Bool) → leb q k ≡ d → leb q p ≡ (d || leb q p)
    go true h = let a = leb-true q k h in let b = leb-false p k e in le-leb q p (omega arith)
    go false h = refl

or_swap : (a b : Bool) → (a || b) ≡ (b || a)
or_swap true true = refl
or_swap true false = refl
or_swap false true = refl
or_swap false false = refl

-- a position that no point reaches stands
standing_snoc : (ps : List ℕ) (p : ℕ) (xs : List ℕ) → any_from (suc p) ps ≡ false → standing ps (xs ++ (p ∷ [])) ≡ standing ps xs ++ (p ∷ [])
unfolding standing
standing_snoc ps p [] e = rw e
standing_snoc ps p (x ∷ xs) e = go (any_from (suc x) ps) (standing_snoc ps p xs e)
  where
    go : (b : Bool) → standing ps (xs ++ (p ∷ [])) ≡ standing ps xs ++ (p ∷ [])
        → cond b (standing ps (xs ++ (p ∷ []))) (x ∷ standing ps (xs ++ (p ∷ []))) ≡ cond b (standing ps xs) (x ∷ standing ps xs) ++ (p ∷ [])
    go true ih = ih
    go false ih = ap (λ (r : List ℕ). x ∷ r) ih

-- those at or above a position
from_position : ℕ → List ℕ → List ℕ
from_position p [] = []
from_position p (q ∷ qs) = cond (leb p q) (q ∷ from_position p qs) (from_position p qs)

abbrev pub positions : List Mark → List ℕ
positions ms = map (λ (m : Mark). m.position) ms

positions_from : (p : ℕ) (ms : List Mark) → positions (marks_from p ms) ≡ from_position p (positions ms)
unfolding marks_from from_position
positions_from p [] = refl
positions_from p (m ∷ ms) = go (leb p m.position) (positions_from p ms)
  where
    go : (b : Bool) → map (λ (x : Mark). x.position) (marks_from p ms) ≡ from_position p (map (λ (x : Mark). x.position) ms)
        → map (λ (x : Mark). x.position) (cond b (m ∷ marks_from p ms) (marks_from p ms)) ≡ cond b (m.position ∷ from_position p (map (λ (x : Mark). x.position) ms)) (from_position p (map (λ (x : Mark). x.position) ms))
    go true ih = ap (λ (r : List ℕ). m.position ∷ r) ih
    go false ih = ih

-- a point more leaves those at or above it
standing_point : (p : ℕ) (ps xs : List ℕ) → from_position p (standing ps xs) ≡ standing (p ∷ ps) xs
unfolding standing from_position any_from
standing_point p ps [] = refl
standing_point p ps (x ∷ xs) = go (any_from (suc x) ps) (leb (suc x) p) refl (standing_point p ps xs)
  where
    below : (b : Bool) → leb (suc x) p ≡ b → leb p x ≡ not b
    below true h = let a = leb-true (suc x) p h in lt-leb p x (omega arith)
    below false h = let a = leb-false (suc x) p h in le-leb p x (omega arith)

    go : (a b : Bool) → leb (suc x) p ≡ b → from_position p (standing ps xs) ≡ standing (p ∷ ps) xs
        → from_position p (cond a (standing ps xs) (x ∷ standing ps xs)) ≡ cond (b || a) (standing (p ∷ ps) xs) (x ∷ standing (p ∷ ps) xs)
    go true true h ih = ih
    go true false h ih = ih
    go false true h ih = rw (below true h) ih
    go false false h ih = rw (below false h) (ap (λ (r : List ℕ). x ∷ r) ih)

-- ---- the journal and the points of a state in service

pub record Fits (j : Journal) (p : Points) (g : Since) : Type 0 where
  pub used : (q : ℕ) → (j.used && leb q j.last) ≡ any_from q g.used
  pub newest : (q : ℕ) → (p.any && leb q p.newest) ≡ any_from q g.points
  pub marks : positions (marks_of j) ≡ standing g.points g.used
  pub plen : length j.positions ≡ listed
  pub llen : length j.lanes ≡ listed
  pub fewer : j.count ≤ listed

abbrev FitsAt : Phase → Journal → Points → Since → Type 0
FitsAt F.Cold j p g = Unit {0}
FitsAt F.Recovering j p g = Unit {0}
FitsAt F.Serving j p g = Fits j p g

abbrev FitsIf : Option State → Since → Type 0
FitsIf none g = Unit {0}
FitsIf (some c) g = FitsAt c.phase c.journal c.points g

fits_empty : Fits no_journal no_points nothing_since
unfolding marks_of marks_to standing any_from
fits_empty = record { used = λ q. refl; newest = λ q. refl; marks = refl; plen = refl; llen = refl; fewer = omega arith }

-- as many records are listed as stand
marks_count : (j : Journal) (p : Points) (g : Since) → Fits j p g → length (marks_of j) ≡ j.count
unfolding marks_of
marks_count j p g f = upto_length j.count j.positions j.lanes (omega (arith, f.fewer, f.plen)) (omega (arith, f.fewer, f.llen))

pub listed_count : (j : Journal) (p : Points) (g : Since) → Fits j p g → j.count ≡ length (standing g.points g.used)
listed_count j p g f = sym (marks_count j p g f) ∙ sym (length-map (marks_of j) (λ (m : Mark). m.position)) ∙ ap length f.marks

length_marks : (p : ℕ) (ms : List Mark) → length (marks_from p ms) ≤ length ms
unfolding marks_from
length_marks p [] = omega arith
length_marks p (m ∷ ms) = go (leb p m.position) (length_marks p ms)
  where
    go : (b : Bool) → length (marks_from p ms) ≤ length ms → length (cond b (m ∷ marks_from p ms) (marks_from p ms)) ≤ suc (length ms)
    go true ih = omega arith
    go false ih = omega arith

fits_accept : (c : State) (g : Since) (text : List ℕ) (lane position : ℕ) → Fits c.journal c.points g → too_low c.points c.journal position ≡ false → c.journal.count < listed
    → Fits (accepted c text lane position).journal c.points (since_taken (call_accept text lane position) g)
unfolding accepted too_low listed_more since_taken marks_of
fits_accept c g text lane position f low few =
    let j = c.journal in
    let p = c.points in
    let a : Bool = p.any && leb position p.newest in
    let b : Bool = j.used && leb position j.last in
    let mk = upto_set j.count j.positions j.lanes position lane (omega (arith, f.plen)) (omega (arith, f.llen)) in
    record {
      used = λ q. rises j.used j.last position q (or_right a b low) ∙ ap (λ (d : Bool). d || leb q position) (f.used q) ∙ sym (any_snoc q position g.used);
      newest = f.newest;
      marks = ap (map (λ (m : Mark). m.position)) mk ∙ map_snoc (λ (m : Mark). m.position) (marks_of j) _ ∙ ap (λ (r : List ℕ). r ++ (position ∷ [])) f.marks
          ∙ sym (standing_snoc g.points position g.used (sym (f.newest (suc position)) ∙ above p.any p.newest (or_left a b low)));
      plen = length-set j.positions j.count position ∙ f.plen;
      llen = length-set j.lanes j.count lane ∙ f.llen;
      fewer = few;
    }
  where
    above : (b : Bool) (k : ℕ) → (b && leb position k) ≡ false → (b && leb (suc position) k) ≡ false
    above false k e = refl
    above true k e = let h = leb-false position k e in lt-leb (suc position) k (omega arith)

fits_point : (c : State) (g : Since) (position : ℕ) → Fits c.journal c.points g → (c.points.any && leb position c.points.newest) ≡ false
    → Fits (pointed c position).journal (pointed c position).points (since_taken (call_point position) g)
unfolding pointed points_more point_at since_taken any_from journal_of
fits_point c g position f low =
    let j = c.journal in
    let ms = marks_from position (marks_of j) in
    let e : positions ms ≡ standing (position ∷ g.points) g.used = positions_from position (marks_of j) ∙ ap (from_position position) f.marks ∙ standing_point position g.points g.used in
    let few : length ms ≤ listed = let a = length_marks position (marks_of j) in let b = marks_count j c.points g f in omega (arith, f.fewer) in
    let ln = journal_lengths ms j.used j.last few in
    record {
      used = f.used;
      newest = λ q. rises c.points.any c.points.newest position q low ∙ or_swap (c.points.any && leb q c.points.newest) (leb q position) ∙ ap (λ (d : Bool). leb q position || d) (f.newest q);
      marks = ap positions (marks_journal ms j.used j.last) ∙ e;
      plen = ln.0;
      llen = ln.1;
      fewer = few;
    }

-- ---- one call

-- a state that is ready is in service
ready_serves : (c : State) → not (ready c) ≡ false → c.phase ≡ F.Serving
unfolding ready valid
ready_serves c e = is_serving c.phase (and_right (valid c) (serving c.phase) (and_left (valid c && serving c.phase) (is_nothing c.due) (not-false _ e)))

-- what a call that is taken leaves; of a refusal nothing is said
abbrev FitsSaid : Call → Since → Said → State → Type 0
FitsSaid k g (refused n vs) c = Unit {0}
FitsSaid k g (taken st n) c = FitsAt c.phase c.journal c.points (since_taken k g)

abbrev FitsAnswer : Call → Since → Answered → Type 0
FitsAnswer k g a = FitsSaid k g a.said a.state

fits_load : (g : Since) (x : Vault) (key : List ℕ) → FitsAnswer (call_load x key) g (load x key)
unfolding loaded
fits_load g x key = walk_load (FitsAnswer (call_load x key) g) (λ n vs k. tt) x key tt

fits_call : (c : State) (k : Call) (g : Since) → FitsAt c.phase c.journal c.points g → FitsAnswer k g (answer_of c k)
unfolding answer_of since_taken accepted committed pointed checkpointed covered_points dropped_to recovered in_service
fits_call c (call_load x key) g f = fits_load g x key
fits_call c (call_accept text lane position) g f = walk_accept (FitsAnswer (call_accept text lane position) g) c (λ n vs k. tt) text lane position (λ r t l p m w.
    let e = ready_serves c r in
    subst (λ (ph : Phase). FitsAt ph (accepted c text lane position).journal c.points (since_taken (call_accept text lane position) g)) (sym e)
    (fits_accept c g text lane position (subst (λ (ph : Phase). FitsAt ph c.journal c.points g) e f) p m))
fits_call c (call_seal room) g f = walk_seal (FitsAnswer (call_seal room) g) c (λ n vs k. tt) room f
fits_call c (call_commit bytes) g f = walk_commit (FitsAnswer (call_commit bytes) g) c (λ n vs k. tt) bytes (λ r. f)
fits_call c (call_point position) g f = walk_point (FitsAnswer (call_point position) g) c (λ n vs k. tt) position (λ r p n.
    let e = ready_serves c r in
    subst (λ (ph : Phase). FitsAt ph (pointed c position).journal (pointed c position).points (since_taken (call_point position) g)) (sym e)
    (fits_point c g position (subst (λ (ph : Phase). FitsAt ph c.journal c.points g) e f) p))
fits_call c (call_checkpoint room) g f = walk_checkpoint (FitsAnswer (call_checkpoint room) g) c (λ n vs k. tt) (λ x d st out. f) room (same c.phase f)
  where
    same : (ph : Phase) → FitsAt ph c.journal c.points g → FitsAt ph c.journal (covered_points c.points) g
    same F.Cold h = tt
    same F.Recovering h = tt
    same F.Serving h = record { used = h.used; newest = h.newest; marks = h.marks; plen = h.plen; llen = h.llen; fewer = h.fewer }
fits_call c (call_truncate position) g f = walk_truncate (FitsAnswer (call_truncate position) g) c (λ n vs k. tt) (λ x d st out. f) position (same c.phase f)
  where
    same : (ph : Phase) → FitsAt ph c.journal c.points g → FitsAt ph c.journal (dropped_to c.points position) g
    same F.Cold h = tt
    same F.Recovering h = tt
    same F.Serving h = record { used = h.used; newest = h.newest; marks = h.marks; plen = h.plen; llen = h.llen; fewer = h.fewer }
fits_call c (call_recover file log room) g f = walk_recover (FitsAnswer (call_recover file log room) g) c (λ n vs k. tt) file log room (λ t. tt)
    (λ e x d st out. subst (λ (ph : Phase). FitsAt ph c.journal c.points nothing_since) (sym e) tt) fits_empty

-- ---- one event

fits_said : (k : Call) (g : Since) (d : Lasting) (before : Option State) (adds : Option Opened) (sa : Said) (c : State) (put : List ℕ) → FitsIf before g → FitsSaid k g sa c
    → FitsIf (after_said sa d before adds c put).state (since_said k sa g)
unfolding after_said since_said
fits_said k g d before adds (refused n vs) c put h f = h
fits_said k g d before adds (taken st n) c put h f = f

fits_first : (k : Call) (g : Since) (d : Lasting) (adds : Option Opened) → FitsIf (after_answer d none adds (first_answer k)).state (since_answer k (first_answer k) g)
unfolding first_answer after_answer since_answer
fits_first (call_load x key) g d adds = fits_said (call_load x key) g d none adds (load x key).said (load x key).state (load x key).put tt (fits_load g x key)
fits_first (call_accept text lane position) g d adds = tt
fits_first (call_seal room) g d adds = tt
fits_first (call_commit bytes) g d adds = tt
fits_first (call_point position) g d adds = tt
fits_first (call_checkpoint room) g d adds = tt
fits_first (call_truncate position) g d adds = tt
fits_first (call_recover file log room) g d adds = tt

fits_answer : (s : Option State) (k : Call) (g : Since) (d : Lasting) (adds : Option Opened) → FitsIf s g → FitsIf (after_answer d s adds (answer s k)).state (since_answer k (answer s k) g)
unfolding answer after_answer since_answer
fits_answer none k g d adds f = fits_first k g d adds
fits_answer (some c) k g d adds f = fits_said k g d (some c) adds (answer_of c k).said (answer_of c k).state (answer_of c k).put f (fits_call c k g f)

fits_next : (key : List ℕ) (w : World) (e : Event) (g : Since) → FitsIf w.state g → FitsIf (next key w e).state (since_next w e g)
unfolding next since_next
fits_next key w (call k) g f = fits_answer w.state k g _ _ f
fits_next key w (cut true) g f = tt
fits_next key w (cut false) g f = tt

-- ---- every list

fits_run : (key : List ℕ) (es : List Event) (w : World) (g : Since) → FitsIf w.state g → FitsIf (run key w es).state (since_run key w es g)
unfolding run since_run
fits_run key [] w g f = f
fits_run key (e ∷ es) w g f = fits_run key es (next key w e) (since_next w e g) (fits_next key w e g f)

pub fits_list : (key : List ℕ) (es : List Event) (c : State) → (run key new_world es).state ≡ some c → c.phase ≡ F.Serving → Fits c.journal c.points (since_run key new_world es nothing_since)
unfolding new_world
fits_list key es c q ph =
    let g = since_run key new_world es nothing_since in
    subst (λ (p : Phase). FitsAt p c.journal c.points g) ph (subst (λ (s : Option State). FitsIf s g) q (fits_run key es new_world nothing_since tt))
