-- `aes_key::rot_word` meets its contract: the first byte goes to the end. Assumes nothing.
use Rattle.aes_key.proofs.ScheduleLaws.{rot_is}
use Rattle.std.proofs.Common.{rules, ◌∙◌}
use Rattle.aes_key.proofs.rot_word.Goals as goal

pub returns : goal.returns
returns c = c.rotate_left.ensures ∙ rot_is c.args.w (search rules)
