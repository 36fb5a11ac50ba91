-- `steps::put_table` meets its contract: a file under the prepared key is one under the key. Assumes nothing.
use Rattle.std.proofs.Common.{◌∙◌}
use Rattle.sealed.proofs.FileLaws.{prepared_file_bytes}
use Rattle.table.proofs.Arrays.{length_of_map}
use Rattle.steps.proofs.StepLaws.{length_put}
use Rattle.steps.proofs.put_table.Goals as goal

pub returns : goal.returns
returns c =
    record {
      answer = c.seal_file.ensures.answer;
      buffer = c.seal_file.ensures.buffer ∙ rw (c.lend.ensures.schedule, c.lend.ensures.multiples, c.prepare-key.ensures, prepared_file_bytes);
      long = let known = c.well_formed.1.1.1.0 in length_put c.args.key c.args.version c.args.seal c.args.t (search (length_of_map, known));
    }
