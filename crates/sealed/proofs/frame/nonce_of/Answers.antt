-- `sealed::frame::nonce_of` meets its contract: the number's bytes in their places. Assumes nothing.
use Rattle.std.proofs.Common.{◌≡◌, ◌∙◌}
use Rattle.octets.specs.Little.{little_bytes}
use Rattle.sealed.specs.Nonce.{nonce_of}
use Rattle.sealed.proofs.frame.nonce_of.Goals as goal

pub returns : goal.returns
unfolding nonce_of little_bytes
returns c =
    let number : c.copy_from_slice.new.self ≡ little_bytes 8 c.args.number = c.copy_from_slice.ensures.after ∙ c.bytes8.ensures in
    rw number
