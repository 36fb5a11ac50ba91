-- `sealed::file::legal_file` meets its contract: the length is tested, and the four bytes. Assumes nothing.
use Rattle.std.proofs.Common.{◌∙◌, ap, ◌&&◌, eqb, length}
use Rattle.sealed.specs.Checkpoint.{file_len}
use Rattle.sealed.proofs.FileLaws.{file_starts, of_length}
use Rattle.sealed.proofs.file.legal_file.Goals as goal

pub returns-clause-answer : goal.returns-clause-answer
returns-clause-answer c = let s = c.args.s.now in ap (λ b. eqb (length s) file_len && b) c.starts_with.ensures.value ∙ file_starts s

pub returns-clause-length : goal.returns-clause-length
returns-clause-length c = of_length (length c.args.s.now) file_len c.starts_with.result
