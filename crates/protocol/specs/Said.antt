-- What a call answers, in the terms of 01's table "Numbers on the display when a call is turned down".
-- Assumes nothing.
use Rattle.std.specs.Prelude.{ℕ, Bool, true, false, List, [], ◌∷◌, length, Result, Ok, Err}
use Rattle.protocol.specs.declared.State.{State}
use Rattle.protocol.specs.declared.Store.{Store}
use Rattle.protocol.specs.declared.Refusal.{Refusal}
use Rattle.protocol.specs.declared.Refusal.TheVariants as R
use Rattle.protocol.specs.declared.Taken.{Taken}
use Rattle.protocol.specs.declared.Answer.{Answer}

-- the number, and the values returned with it; or the store that is named, and how many bytes are put out
pub data Said : Type 0 where
  refused : ℕ → List ℕ → Said
  taken : Store → ℕ → Said

-- the state handed back, what is said, and the bytes put out at the start of a lent buffer
pub record Answered : Type 0 where
  pub state : State
  pub said : Said
  pub put : List ℕ

abbrev pub refusing : State → ℕ → List ℕ → Answered
refusing c n vs = record { state = c; said = refused n vs; put = [] }

abbrev pub taking : State → Store → List ℕ → Answered
taking c st out = record { state = c; said = taken st (length out); put = out }

-- turned down where the test holds: the state is as it came, and nothing is put out
unfoldable pub refuse : Bool → State → ℕ → List ℕ → Answered → Answered
refuse true c n vs other = refusing c n vs
refuse false c n vs other = other

-- ---- a function that takes no state: what is said, and the bytes put out at the start of the lent buffer

pub record Told : Type 0 where
  pub said : Said
  pub put : List ℕ

-- turned down where the test holds: nothing is put out
unfoldable pub turn_down : Bool → ℕ → List ℕ → Told → Told
turn_down true n vs other = record { said = refused n vs; put = [] }
turn_down false n vs other = other

-- ---- the code's answer, in these terms

abbrev pub refused_with : State → Refusal → Answer
refused_with c why = record { state = c; outcome = Err why }

abbrev pub taken_with : State → Store → ℕ → Answer
taken_with c store len = record { state = c; outcome = Ok (record { store = store; len = len }) }

unfoldable pub number_of : Refusal → ℕ
number_of R.Condition = 1
number_of R.Numbers = 2
number_of (R.Length k) = 3
number_of R.Transaction = 4
number_of R.Lane = 5
number_of R.Position = 6
number_of R.Full = 7
number_of R.Spent = 8
number_of (R.Closed o) = 9
number_of (R.Epoch o) = 10
number_of (R.Turn o) = 11
number_of R.Version = 12
number_of (R.Missing l) = 13
number_of R.Point = 14
number_of R.Unseen = 15

unfoldable pub values_of : Refusal → List ℕ
values_of R.Condition = []
values_of R.Numbers = []
values_of (R.Length k) = k ∷ []
values_of R.Transaction = []
values_of R.Lane = []
values_of R.Position = []
values_of R.Full = []
values_of R.Spent = []
values_of (R.Closed o) = o ∷ []
values_of (R.Epoch o) = o ∷ []
values_of (R.Turn o) = o ∷ []
values_of R.Version = []
values_of (R.Missing l) = l ∷ []
values_of R.Point = []
values_of R.Unseen = []

unfoldable pub shown : Result Taken Refusal → Said
shown (Ok t) = taken t.store t.len
shown (Err why) = refused (number_of why) (values_of why)

-- an answer of the code, where put are the bytes that it put out at the start of the lent buffer
unfoldable pub shown_as : Answer → List ℕ → Answered
shown_as r put = record { state = r.state; said = shown r.outcome; put = put }
