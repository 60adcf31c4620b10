-- What the steps of the printer leave behind. Only its proofs use these words.
use Rattle.std.specs.Prelude.{◌≡◌, ℕ, List, [], ◌∷◌, ◌++◌, Result, OnOk}
use Rattle.std.specs.declared.alloc.Global.{Global}
use denote.Ref.{Bor, MutBor}
use Rattle.bt_ports.specs.declared.NoMemory.{NoMemory}
use Rattle.bt_tree.specs.declared.tree.Query.{Query}
use Rattle.bt_words.specs.Printing.{Pieces, text_of, query}

-- the text with pieces behind it
abbrev pub after : List ℕ → Pieces → List ℕ
after u p = u ++ text_of p

-- each part behind the text
abbrev pub all_after : {A : Type 0} → (A → Pieces) → List ℕ → List A → List ℕ
all_after f u [] = u
all_after f u (x ∷ xs) = all_after f (after u (f x)) xs

-- each part behind the text and a mark
abbrev pub joined : {A : Type 0} → (A → Pieces) → List ℕ → List ℕ → List A → List ℕ
joined f m u [] = u
joined f m u (x ∷ xs) = joined f m (after (u ++ m) (f x)) xs

-- each part behind the text, with a mark between them
abbrev pub listed : {A : Type 0} → (A → Pieces) → List ℕ → List ℕ → List A → List ℕ
listed f m u [] = u
listed f m u (x ∷ xs) = joined f m (after u (f x)) xs

-- a function value that prints queries, with so much room
pub record Prints (room : ℕ) (pre : Global → MutBor (List ℕ) → Bor Query → ℕ → Type 0)
    (post : Global → MutBor (List ℕ) → Bor Query → ℕ → Result (Unit {0}) NoMemory → MutBor (List ℕ) → Type 0) : Type 0 where
  pub callable : (alloc : Global) (old : MutBor (List ℕ)) (q : Bor Query) → pre alloc old q room
  pub prints : (alloc : Global) (old new : MutBor (List ℕ)) (q : Bor Query) (r : Result (Unit {0}) NoMemory) → post alloc old q room r new
      → OnOk r (new.now ≡ after old.now (query q.now))
