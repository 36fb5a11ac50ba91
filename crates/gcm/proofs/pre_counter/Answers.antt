-- `gcm::pre_counter` meets its contract: the IV's twelve bytes, and a counter of 1. Assumes nothing.
use Rattle.std.proofs.Common.{rules, ◌≡◌, length, ◌∙◌}
use Rattle.gcm.proofs.SealLaws.{pre_bytes}
use Rattle.gcm.proofs.pre_counter.Goals as goal

pub returns : goal.returns
returns c =
    let iv = c.args.iv in
    let long : length iv ≡ 12 = search rules in
    c.first_block.ensures.number ∙ pre_bytes iv c.copy_from_slice.new.self long c.copy_from_slice.ensures.after
