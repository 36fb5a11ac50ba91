-- `From<Block>` of `Columns` meets its contract: a block's two words are four columns. Assumes nothing.
use Rattle.std.proofs.Common.{rules, sym, ℕ, ◌/◌, ◌++◌, ◌∙◌}
use mathlib.Core.Path.{ap₂}
use Rattle.aes.specs.Cipher.{column}
use Rattle.aes.proofs.ColumnLaws.{block_columns, low32}
use Rattle.aes.proofs.ColumnsFromBlock.from.Goals as goal

pub returns : goal.returns
returns c =
    let b = c.args.b in
    ap₂ (λ (x y : ℕ). column (b.hi / 4294967296) ++ column x ++ column (b.lo / 4294967296) ++ column y) (low32 b.hi) (low32 b.lo)
    ∙ sym (block_columns b.hi b.lo (search rules))
