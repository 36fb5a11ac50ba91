-- What a call says as plain numbers: 01's number (0 for a call that is taken), the store that is named with its lane and value, and how many
-- bytes were put out. Stores: 0 none, 1 W, 2 V, 3 R, 4 E, 5 S, 6 N, 7 record, 8 checkpoint, 9 deletion below a position, 10 emptying the log.
-- Assumes nothing.
use Rattle.std.specs.Prelude.{ℕ, cond, List, [], eqb}
use Rattle.octets.specs.Lists.{at}
use Rattle.protocol.specs.declared.Store.{Store}
use Rattle.protocol.specs.declared.Store.TheVariants as S
use Rattle.protocol.specs.Said as said
use Rattle.protocol.specs.Said.{Answered}
use Rattle.boundary.specs.Flat.{known, freeze}
use Rattle.boundary.specs.declared.FlatState.{FlatState}
use Rattle.boundary.specs.declared.Said.{Said}
use Rattle.boundary.specs.declared.Reply.{Reply}

-- a call that is taken: the store that it names, and how many bytes it put out
unfoldable pub named : Store → ℕ → Said
named S.Nothing n = record { value = 0; len = n; number = 0; store = 0; lane = 0 }
named (S.W l v) n = record { value = v; len = n; number = 0; store = 1; lane = l }
named (S.V l v) n = record { value = v; len = n; number = 0; store = 2; lane = l }
named (S.R l v) n = record { value = v; len = n; number = 0; store = 3; lane = l }
named (S.E v) n = record { value = v; len = n; number = 0; store = 4; lane = 0 }
named (S.S v) n = record { value = v; len = n; number = 0; store = 5; lane = 0 }
named (S.N v) n = record { value = v; len = n; number = 0; store = 6; lane = 0 }
named (S.Record p) n = record { value = p; len = n; number = 0; store = 7; lane = 0 }
named S.File n = record { value = 0; len = n; number = 0; store = 8; lane = 0 }
named (S.Delete p) n = record { value = p; len = n; number = 0; store = 9; lane = 0 }
named S.Empty n = record { value = 0; len = n; number = 0; store = 10; lane = 0 }

-- the store that a call says; none where the number is none of 1 to 10
unfoldable pub store_of : Said → Store
store_of x =
    cond (eqb x.store 1) (S.W x.lane x.value)
    (cond (eqb x.store 2) (S.V x.lane x.value)
    (cond (eqb x.store 3) (S.R x.lane x.value)
    (cond (eqb x.store 4) (S.E x.value)
    (cond (eqb x.store 5) (S.S x.value)
    (cond (eqb x.store 6) (S.N x.value)
    (cond (eqb x.store 7) (S.Record x.value)
    (cond (eqb x.store 8) S.File
    (cond (eqb x.store 9) (S.Delete x.value)
    (cond (eqb x.store 10) S.Empty S.Nothing)))))))))

-- what is said: the number and the value returned with it (0 where there is none), or the store
unfoldable pub said_of : said.Said → Said
said_of (said.refused n vs) = record { value = at vs 0; len = 0; number = n; store = 0; lane = 0 }
said_of (said.taken st n) = named st n

-- the reply of an answer of the definitions
unfoldable pub reply_of : Answered → Reply
reply_of a = record { state = freeze a.state; said = said_of a.said }

-- the reply to a state that is not known: number 1, and the state as it came
unfoldable pub not_a_state : FlatState → Reply
not_a_state s = record { state = s; said = record { value = 0; len = 0; number = 1; store = 0; lane = 0 } }

-- the reply to a call on a state, and the bytes put out at the start of a lent buffer: those of the answer where the state is known
unfoldable pub reply_to : FlatState → Answered → Reply
reply_to s a = cond (known s) (reply_of a) (not_a_state s)

unfoldable pub put_to : FlatState → Answered → List ℕ
put_to s a = cond (known s) a.put []
