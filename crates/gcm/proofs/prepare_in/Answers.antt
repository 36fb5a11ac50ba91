-- `gcm::prepare_in` meets its contract: the schedule, and the multiples of the cipher of the zero block. Assumes nothing.
use mathlib.Core.List.{List}
use mathlib.Core.Path.{◌≡◌, sym, ap, ◌∙◌}
use Prim.Native.Nat.{ℕ}
use borrow.Author.Rules.{rules}
use Rattle.octets.specs.Bytes.{number, bytes_of}
use Rattle.octets.specs.Blocks.{num}
use Rattle.octets.proofs.ByteLaws.{block_number}
use Rattle.aes.specs.Cipher.{cipher}
use Rattle.ghash.specs.Multiples.{multiples_in}
use Rattle.gcm.specs.Gcm.{subkey, aes_under}
use Rattle.gcm.specs.Key.{prepared}
use Rattle.gcm.proofs.prepare_in.Goals as goal

pub returns : goal.returns
unfolding prepared subkey
returns c =
    let h = c.encrypt-h.result in
    let k = c.key_expansion-w.ensures in
    let e : num h ≡ subkey (aes_under c.args.key) =
    sym (block_number h.hi h.lo (search rules) (search rules)) ∙ ap number c.encrypt-h.ensures
    ∙ ap (λ (w : List ℕ). number (cipher w (bytes_of 16 0))) k
    in
    record { schedule = k; multiples = c.put_multiples.ensures ∙ ap (λ (n : ℕ). multiples_in n c.args.m.now) e }
