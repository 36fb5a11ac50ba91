-- `aes_key::Tables::sub_word` meets its contract: byte by byte. Assumes nothing.
use Rattle.std.proofs.Common.{◌≡◌, ℕ, List, ◌∙◌, mod-lt, lit<}
use Rattle.aes_key.specs.Schedule.{sub_word}
use Rattle.aes_key.specs.Words.{word, byte0, byte1, byte2, byte3}
use Rattle.octets.specs.Lists.{at}
use Rattle.aes_key.specs.Sbox.{IsSbox}
use Rattle.aes_key.proofs.Tables.sub_word.Goals as goal

looked_up : (t : List ℕ) (w : ℕ) → IsSbox t → word (at t (byte0 w)) (at t (byte1 w)) (at t (byte2 w)) (at t (byte3 w)) ≡ sub_word w
unfolding sub_word
looked_up t w rule =
    let e0 = rule.entry (byte0 w) (mod-lt _ (lit< tt)) in
    let e1 = rule.entry (byte1 w) (mod-lt _ (lit< tt)) in
    let e2 = rule.entry (byte2 w) (mod-lt _ (lit< tt)) in
    let e3 = rule.entry (byte3 w) (mod-lt _ (lit< tt)) in
    simp (e0, e1, e2, e3)

pub returns : goal.returns
returns c =
    let a = c.args in
    c.word_of.ensures ∙ rw c.to_be_bytes.ensures (looked_up a.self.now.sbox a.w a.self.now.is_sbox)
