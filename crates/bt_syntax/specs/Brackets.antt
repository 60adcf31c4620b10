-- Open brackets. A closing bracket closes one whatever its form, where one is open.
use Rattle.std.specs.Prelude.{ℕ, zero, suc, Bool, true, false, cond, nat_eq, ◌&&◌, if◌then◌else◌, [], ◌∷◌, Option, Some, None}
use Rattle.bt_lexer.specs.declared.token.Kind.{Kind}
use Rattle.bt_lexer.specs.declared.token.Kind.TheVariants as k
use Rattle.bt_syntax.specs.Lexemes.{Lexemes}

-- one of `( [ {`
abbrev pub opens : Kind → Bool
opens k.LeftParen = true
opens k.LeftBracket = true
opens k.LeftBrace = true
opens _ = false

-- one of `) ] }`
abbrev pub closes : Kind → Bool
closes k.RightParen = true
closes k.RightBracket = true
closes k.RightBrace = true
closes _ = false

abbrev pub less_one : ℕ → ℕ
less_one zero = zero
less_one (suc n) = n

-- how many brackets are open after a token, where d are before it
abbrev pub step : ℕ → Kind → ℕ
step d kind = cond (opens kind) (suc d) (cond (closes kind) (less_one d) d)

-- how many are open after some tokens
abbrev pub opened : ℕ → Lexemes → ℕ
opened d [] = d
opened d (t ∷ ts) = opened (step d t.kind) ts

abbrev pub max_open : ℕ
max_open = 64

-- the place of the first bracket that would be the 65th open one, where d are open
abbrev pub deep_at : ℕ → Lexemes → Option ℕ
deep_at d [] = None
deep_at d (t ∷ ts) = if opens t.kind && nat_eq d max_open then Some t.at else deep_at (step d t.kind) ts
