-- A prepared key: the key schedule, and the table of the hash subkey's multiples.
-- Assumes nothing.
use Rattle.std.specs.Prelude.{ℕ, List}
use Rattle.aes_key.specs.Schedule.{key_expansion}
use Rattle.ghash.specs.Multiples.{multiples_of}
use Rattle.gcm.specs.Gcm.{subkey, aes_under}
use Rattle.gcm.specs.declared.Key.{Key}

unfoldable pub prepared : List ℕ → Key
prepared key = record { schedule = key_expansion key; multiples = multiples_of (subkey (aes_under key)) }
