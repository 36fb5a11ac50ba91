-- Theorems about the definitions.
-- BlankLaws: the blank state. StopLaws: the numbers that a reading stops with. Walks: the ways through an operation. SpentLaws: 01's bounds for a spent counter. RefusalLaws: refusals. SaidLaws: answers in 01's numbers lose nothing. VaultLaws: Load's rule as facts, and the stores that keep it. TallyLaws: the stores of
-- recovery and truncation, in order.
-- Basis: what the theorem takes from the layers below. Lanes: an array of lanes. Latest: the latest reading over a set of records.
-- BookLaws: the book's table. MissingLaws: lanes that have not reached V. ReadingLaws: the ways through a reading. Hostile: reading any log. LaidLaws, Card, Faith: reading the log of
-- a card that kept faith. TailLaws: 01's log rules and 02's, on a log and on the log without its tail. MissedLaws: what a log that is read has whole, and 13. SheetLaws: the bench sheet.
-- Invariant: what holds of every list. StoreLaws: how each invariant takes each store. DueLaws: tests of the phase and the due store. Listed, Phases: the state's lists, its tie in service.
-- KeepRecover, KeepCold, KeepAccept, KeepPoint, KeepCheckpoint, KeepTruncate: each call keeps the invariants. Apart: bytes and what they hold.
-- Runs: every list keeps the invariants. BegunLaws: the record that a cut left begun. RiseLaws: no vault number falls, and older files may go. ForgetLaws: so may files of other versions. ServiceLaws: what 01 says of a collector in service, after any list. Theorem: demand 3. UpdatedLaws: a box whose table another order made. WorkedLaws: of a worked list, an honest card is taken and hostile ones are refused; another has every call, both kinds of cut and a broken recovery.
pub mod BlankLaws
pub mod SpentLaws
pub mod StopLaws
pub mod Walks
pub mod RefusalLaws
pub mod SaidLaws
pub mod VaultLaws
pub mod TallyLaws
pub mod Basis
pub mod Lanes
pub mod Latest
pub mod BookLaws
pub mod MissingLaws
pub mod ReadingLaws
pub mod Hostile
pub mod LaidLaws
pub mod TailLaws
pub mod MissedLaws
pub mod SheetLaws
pub mod Card
pub mod Faith
pub mod Invariant
pub mod StoreLaws
pub mod Listed
pub mod DueLaws
pub mod KeepRecover
pub mod KeepCold
pub mod Phases
pub mod KeepAccept
pub mod KeepPoint
pub mod KeepCheckpoint
pub mod KeepTruncate
pub mod Apart
pub mod Runs
pub mod ForgetLaws
pub mod RiseLaws
pub mod BegunLaws
pub mod SinceLaws
pub mod ServiceLaws
pub mod Theorem
pub mod UpdatedLaws
pub mod WorkedLaws
