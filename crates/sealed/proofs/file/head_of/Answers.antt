-- `sealed::file::head_of` meets its contract: the bytes of both numbers stand behind the kind and three zeros. Assumes nothing.
use Rattle.std.proofs.Common.{◌≡◌, ◌∙◌}
use Rattle.octets.specs.Little.{little_bytes}
use Rattle.sealed.specs.Checkpoint.{file_head}
use Rattle.sealed.proofs.file.head_of.Goals as goal

pub returns : goal.returns
unfolding file_head little_bytes
returns c =
    let version : c.copy_from_slice.new.self ≡ little_bytes 8 c.args.version = c.copy_from_slice.ensures.after ∙ c.bytes8.ensures in
    let seal : c.copy_from_slice-2.new.self ≡ little_bytes 8 c.args.seal = c.copy_from_slice-2.ensures.after ∙ c.bytes8-2.ensures in
    rw (version, seal)
