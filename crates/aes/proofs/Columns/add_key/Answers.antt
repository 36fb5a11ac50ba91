-- `aes::Columns::add_key` meets its contract, column by column. Assumes nothing.
use Rattle.aes.proofs.RoundLaws.{key_added}
use Rattle.aes.proofs.Columns.add_key.Goals as goal

pub returns : goal.returns
returns c =
    let a = c.args in
    key_added a.w.now a.r a.self.a a.self.b a.self.c a.self.d
