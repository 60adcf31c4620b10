-- Characters of one byte.
use Rattle.std.proofs.Common.{◌≡◌, ◌<◌, ℕ, [], ◌∷◌, encode_utf8}
use Rattle.std.proofs.lemmas.Str.{encode_ascii}

pub encoded : (c : ℕ) → c < 128 → encode_utf8 c ≡ c ∷ []
encoded c small = encode_ascii c small
