-- What a test of the phase or of the due store says.
-- Assumes nothing.
use mathlib.Core.Path.{◌≡◌, refl, sym}
use mathlib.Core.Bool.{true}
use Rattle.table.proofs.OrderLaws.{clash}
use Rattle.protocol.specs.States.{serving, is_nothing}
use Rattle.protocol.specs.Accept.{is_record}
use Rattle.protocol.specs.declared.Phase.{Phase}
use Rattle.protocol.specs.declared.Phase.TheVariants as F
use Rattle.protocol.specs.declared.Due.{Due}
use Rattle.protocol.specs.declared.Due.TheVariants as D

pub is_nothing_law : (du : Due) → is_nothing du ≡ true → du ≡ D.Nothing
is_nothing_law D.Nothing e = refl
is_nothing_law D.Record e = clash (sym e)
is_nothing_law (D.Checkpoint step) e = clash (sym e)
is_nothing_law (D.Truncate position step) e = clash (sym e)
is_nothing_law (D.Recover step) e = clash (sym e)

pub is_record_law : (du : Due) → is_record du ≡ true → du ≡ D.Record
is_record_law D.Record e = refl
is_record_law D.Nothing e = clash (sym e)
is_record_law (D.Checkpoint step) e = clash (sym e)
is_record_law (D.Truncate position step) e = clash (sym e)
is_record_law (D.Recover step) e = clash (sym e)

pub is_serving : (ph : Phase) → serving ph ≡ true → ph ≡ F.Serving
is_serving F.Serving e = refl
is_serving F.Cold e = clash (sym e)
is_serving F.Recovering e = clash (sym e)
