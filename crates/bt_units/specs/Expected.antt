-- What a test expects, made ready, and why it can't be.
use Rattle.std.specs.Prelude.{◌≡◌, ℕ, List, [], ◌∷◌, ◌++◌, codes, Option, Some, None, is_some, slice_get, true}
use Rattle.std.specs.List.{flat_map}
use Rattle.bt_value.specs.Keys.{find}
use Rattle.bt_value.specs.declared.val.Val.{Val}
use Rattle.bt_patterns.specs.Patterns.{pattern_of_text}
use Rattle.bt_schema.specs.Pointer.{nth, under}
use Rattle.bt_schema.specs.declared.lints.Lint.{Lint}
use Rattle.bt_syntax.specs.Grammar.{ReadsCheck}
use Rattle.bt_making.specs.Made.{IsReady, IsUnready, lint}
use Rattle.bt_making.specs.declared.refusal.Refusal.{Refusal}
use Rattle.bt_making.specs.declared.refusal.Refusal.TheVariants as refusal
use Rattle.bt_expectations.specs.Conditions.{name_of}
use Rattle.bt_expectations.specs.declared.condition.Condition.{Condition}
use Rattle.bt_expectations.specs.declared.condition.Condition.TheVariants as condition
use Rattle.bt_expectations.specs.declared.condition.Expectation.{Expectation}
use Rattle.bt_expectations.specs.declared.condition.Expectation.TheVariants as expected
use Rattle.bt_units.specs.Fields.{elements, members, output_batches, string}

-- the lists have equally many elements, and each two at one place are related
abbrev pub Each : {A B : Type 0} → (A → B → Type 0) → List A → List B → Type 0
Each R [] [] = Unit {0}
Each R (x ∷ xs) (y ∷ ys) = R x y × Each R xs ys
Each R _ _ = ⊥

-- ---- one condition

-- a condition with what a value says of it, made ready
abbrev pub IsMade : Condition → Val → Expectation → Type 0
IsMade condition.Bloblang v (expected.Bloblang r) = IsReady ReadsCheck (string v) r
IsMade condition.ContentEquals v (expected.ContentEquals t) = t ≡ string v
IsMade condition.ContentMatches v (expected.ContentMatches p) = (p ≡ string v) × (is_some (pattern_of_text (string v)) ≡ true)
IsMade condition.JsonContains v (expected.JsonContains w) = w ≡ v
IsMade condition.JsonEquals v (expected.JsonEquals w) = w ≡ v
IsMade condition.MetadataEquals v (expected.MetadataEquals ms) = ms ≡ members v
IsMade _ v _ = ⊥

-- why it isn't, in words: a check that isn't read, or has a pattern that is refused, and a pattern that is refused
abbrev pub IsUnmade : Condition → Val → List ℕ → Type 0
IsUnmade condition.Bloblang v words = IsUnready ReadsCheck (string v) words
IsUnmade condition.ContentMatches v words = (pattern_of_text (string v) ≡ None) × (words ≡ codes "pattern at line 1 column 1")
IsUnmade _ v words = ⊥

-- the one lint of it, at its pointer
abbrev pub IsLintOf : List ℕ → Condition → Val → Lint → Type 0
IsLintOf at c v l = (words : List ℕ) × IsUnmade c v words × (l ≡ lint at words)

-- ---- the conditions on a message

-- the conditions in byte order of their names
abbrev pub conditions : List Condition
conditions = condition.Bloblang ∷ condition.ContentEquals ∷ condition.ContentMatches ∷ condition.JsonContains ∷ condition.JsonEquals ∷ condition.MetadataEquals ∷ []

abbrev pub if_there : Condition → Option Val → List (Condition × Val)
if_there c (Some v) = (c, v) ∷ []
if_there c None = []

-- those of these conditions that members name, each with its value
abbrev pub named_in : List (List ℕ × Val) → List Condition → List (Condition × Val)
named_in ms cs = flat_map (λ c. if_there c (find (name_of c) ms)) cs

abbrev pub IsMadeOf : Condition × Val → Expectation → Type 0
IsMadeOf q e = IsMade q.0 q.1 e

abbrev pub AreMade : List (Condition × Val) → List Expectation → Type 0
AreMade qs es = Each IsMadeOf qs es

-- these were made, and put at the end of what was there
pub record Puts (qs : List (Condition × Val)) (old new : List Expectation) : Type 0 where
  pub own : List Expectation
  pub are_made : AreMade qs own
  pub put : new ≡ old ++ own

-- what an object of conditions expects of a message
abbrev pub AreExpected : Val → List Expectation → Type 0
AreExpected v es = AreMade (named_in (members v) conditions) es

-- what a list of them expects of a batch, and a list of those of batches
abbrev pub IsExpectedBatch : Val → List (List Expectation) → Type 0
IsExpectedBatch v es = Each AreExpected (elements v) es

abbrev pub AreExpectedBatches : Val → List (List (List Expectation)) → Type 0
AreExpectedBatches test es = Each IsExpectedBatch (output_batches test) es

-- ---- where one of them can't be made ready

-- a lint of some element of a list that stands at a pointer
abbrev pub IsOfSome : (List ℕ → Val → Lint → Type 0) → List ℕ → List Val → Lint → Type 0
IsOfSome P at vs l = (i : ℕ) × (v : Val) × (slice_get vs i ≡ Some v) × P (nth at i) v l

-- a lint of the condition that a member names, and of some condition
abbrev pub IsOfMember : List ℕ → Condition → List (List ℕ × Val) → Lint → Type 0
IsOfMember at c ms l = (v : Val) × (find (name_of c) ms ≡ Some v) × IsLintOf (under at (name_of c)) c v l

abbrev pub IsOfMembers : List ℕ → List (List ℕ × Val) → Lint → Type 0
IsOfMembers at ms l = (c : Condition) × IsOfMember at c ms l

abbrev pub IsOfMessage : List ℕ → Val → Lint → Type 0
IsOfMessage at v l = IsOfMembers at (members v) l

abbrev pub IsOfBatch : List ℕ → Val → Lint → Type 0
IsOfBatch at v l = IsOfSome IsOfMessage at (elements v) l

abbrev pub IsOfBatches : List ℕ → Val → Lint → Type 0
IsOfBatches at test l = IsOfSome IsOfBatch (under at (codes "output_batches")) (output_batches test) l

-- the lint for which something isn't made ready, or want of memory, which may come at any time
abbrev pub IsRefusedBy : (Lint → Type 0) → Refusal → Type 0
IsRefusedBy P (refusal.Lint l) = P l
IsRefusedBy P refusal.NoMemory = Unit {0}
