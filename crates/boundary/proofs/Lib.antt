-- FlatLaws: a state written down and read again. ReplyLaws: a refusal hands back the state that came; nothing of a named store is lost.
-- NumberLaws: the number in a reply. RunLaws: a run over C is the run of the definitions. ClaimLaws: demand 3 over C.
pub mod FlatLaws
pub mod ReplyLaws
pub mod NumberLaws
pub mod RunLaws
pub mod ClaimLaws
