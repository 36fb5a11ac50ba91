-- `From<Columns>` of `Block` meets its contract: two columns make a word of the block. Assumes nothing.
use Rattle.std.proofs.Common.{rules, arith, ℕ, ◌+◌, ◌*◌, ◌∙◌}
use mathlib.Core.Path.{ap₂}
use Rattle.octets.specs.Bytes.{bytes_of}
use Rattle.aes.proofs.ColumnLaws.{block_joined, two_halves}
use Rattle.aes.proofs.BlockFromColumns.from.Goals as goal

pub returns : goal.returns
returns c =
    let s = c.args.s in
    ap₂ (λ (h l : ℕ). bytes_of 16 (h * 18446744073709551616 + l)) (two_halves s.a s.b (search rules) (search rules)) (two_halves s.c s.d (search rules) (search rules))
    ∙ block_joined s.a s.b s.c s.d (search rules) (search rules) (omega arith)
