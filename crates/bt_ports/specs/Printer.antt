-- What a call of a printer appends.
use Rattle.std.specs.Prelude.{◌≡◌, ℕ, ◌≤◌, List, ◌++◌, length, take, Result, Ok, Err}

-- Ok appends the whole piece, and a failure a prefix of it
abbrev pub PrintAdds : {A E : Type 0} → Result A E → List ℕ → List ℕ → List ℕ → Type 0
PrintAdds (Ok v) piece old new = new ≡ old ++ piece
PrintAdds (Err e) piece old new = (n : ℕ) × (n ≤ length piece) × (new ≡ old ++ take n piece)
