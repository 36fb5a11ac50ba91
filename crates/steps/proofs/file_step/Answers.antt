-- `steps::file_step` meets its contract: each way out is the definition's. Assumes nothing.
use Rattle.steps.proofs.StepLaws.{file_spent, file_short, file_taken}
use Rattle.steps.proofs.file_step.Goals as goal

pub returns-then-s-ge-COUNTER_MAX : goal.returns-then-s-ge-COUNTER_MAX
returns-then-s-ge-COUNTER_MAX c =
    let a = c.args in
    let w = file_spent a.c.now a.next a.out.now c.if-s-ge-COUNTER_MAX.true in
    record { answer = w.0; bytes = w.1 }

pub returns-then-out-lt-FILE_LEN : goal.returns-then-out-lt-FILE_LEN
returns-then-out-lt-FILE_LEN c =
    let a = c.args in
    let w = file_short a.c.now a.next a.out.now c.if-s-ge-COUNTER_MAX.false c.if-out-lt-FILE_LEN.true in
    record { answer = w.0; bytes = w.1 }

pub returns : goal.returns
returns c =
    let a = c.args in
    let p = c.put_table.ensures in
    let w = file_taken a.c.now a.next a.out.now c.if-s-ge-COUNTER_MAX.false c.if-out-lt-FILE_LEN.false p.long p.buffer in
    record { answer = w.0; bytes = w.1 }
