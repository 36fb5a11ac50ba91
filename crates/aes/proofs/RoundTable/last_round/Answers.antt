-- `aes::RoundTable::last_round` meets its contract: its four columns, and the key. Assumes nothing.
use Rattle.std.proofs.Common.{List, ℕ, ap, ◌∙◌, rules}
use Rattle.aes.specs.Cipher.{add_round_key, round_key}
use Rattle.aes.proofs.RoundLaws.{subbed_columns}
use Rattle.aes.proofs.RoundTable.last_round.Goals as goal

pub returns : goal.returns
returns c =
    c.add_key.ensures
    ∙ ap (λ (s : List ℕ). add_round_key s (round_key c.args.w.now 10)) (subbed_columns c.args.s c.shifted.result (search rules) (search rules) (search rules) (search rules))
