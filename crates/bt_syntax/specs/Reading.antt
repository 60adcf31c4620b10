-- Readers: they read a front of a list of tokens, or tell where they are stuck.
use Rattle.std.specs.Prelude.{Bool, true, false, cond, List, [], ◌∷◌, Option, Some, None}
use Rattle.bt_syntax.specs.Lexemes.{Lexeme, Lexemes}

-- a value and the tokens after it, or the tokens from the first that can't stand there, or one bracket too deep
pub data Res (A : Type 0) : Type 0 where
  Got : A → Lexemes → Res A
  Stuck : Lexemes → Res A
  Deep : Res A

abbrev pub Reader : Type 0 → Type 0
Reader A = Lexemes → Res A

abbrev pub and_then : {A B : Type 0} → Res A → (A → Reader B) → Res B
and_then (Got a rest) f = f a rest
and_then (Stuck rest) f = Stuck rest
and_then Deep f = Deep

abbrev pub map_res : {A B : Type 0} → (A → B) → Res A → Res B
map_res f (Got a rest) = Got (f a) rest
map_res f (Stuck rest) = Stuck rest
map_res f Deep = Deep

-- one after another
abbrev pub seq : {A B : Type 0} → Reader A → (A → Reader B) → Reader B
seq p q ts = and_then (p ts) q

-- the same, with another value
abbrev pub mapped : {A B : Type 0} → (A → B) → Reader A → Reader B
mapped f p ts = map_res f (p ts)

-- nothing
abbrev pub pure : {A : Type 0} → A → Reader A
pure a ts = Got a ts

-- a token that stands for a value
abbrev pub token_as : {A : Type 0} → Option A → Lexeme → Lexemes → Res A
token_as (Some a) t rest = Got a rest
token_as None t rest = Stuck (t ∷ rest)

abbrev pub token : {A : Type 0} → (Lexeme → Option A) → Reader A
token m [] = Stuck []
token m (t ∷ rest) = token_as (m t) t rest

-- whether the first token passes
abbrev pub starts : (Lexeme → Bool) → Lexemes → Bool
starts h [] = false
starts h (t ∷ rest) = h t

-- one or another, by the first token
abbrev pub branch : {A : Type 0} → (Lexeme → Bool) → Reader A → Reader A → Reader A
branch h p q ts = cond (starts h ts) (p ts) (q ts)

-- what stands in front of the turns that follow, if more turns follow
abbrev pub go_on : {A : Type 0} → Bool → A → Res (List A) → Lexemes → Res (List A)
go_on true a more rest = map_res (λ xs. a ∷ xs) more
go_on false a more rest = Got (a ∷ []) rest

-- As many turns as come: each begins with a token that passes h, and goes says whether one more may follow. The first list bounds them.
abbrev pub many_from : {A : Type 0} → (Lexeme → Bool) → (A → Bool) → Reader A → Lexemes → Reader (List A)
many_from h goes p [] ts = Got [] ts
many_from h goes p (t ∷ turns) ts = cond (starts h ts) (and_then (p ts) (λ a rest. go_on (goes a) a (many_from h goes p turns rest) rest)) (Got [] ts)

abbrev pub many : {A : Type 0} → (Lexeme → Bool) → (A → Bool) → Reader A → Reader (List A)
many h goes p ts = many_from h goes p ts ts

abbrev pub always : {A : Type 0} → A → Bool
always a = true
