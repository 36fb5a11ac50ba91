-- `aes_key::start` meets its contract: four stores at the front. Assumes nothing.
use Rattle.aes_key.specs.Schedule.{key_words}
use Rattle.aes_key.proofs.start.Goals as goal

pub returns : goal.returns
unfolding key_words
returns c = cc
