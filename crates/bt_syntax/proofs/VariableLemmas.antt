-- A token that is a variable begins with `$`.
use Rattle.std.proofs.Common.{◌≡◌, ℕ, Bool, true, false, ◌&&◌, not, List, [], ◌∷◌, Some, refl, subst, if◌then◌else◌}
use Rattle.std.specs.List.{list_all}
use Rattle.bt_lexer.specs.declared.token.Kind.{Kind}
use Rattle.bt_lexer.specs.declared.token.Kind.TheVariants.{Name, Var, Int, Text}
use Rattle.bt_lexer.specs.Kinds.{kind_of, is_name, is_var, is_number, is_text, marks, mark_in, same_text}

abbrev is_var_kind : Kind → Bool
is_var_kind Var = true
is_var_kind _ = false

and_left : (a b : Bool) → (a && b) ≡ true → a ≡ true
and_left true b h = refl
and_left false b h = absurd (cc)

and_right : (a b : Bool) → (a && b) ≡ true → b ≡ true
and_right true b h = h
and_right false b h = absurd (cc)

mark_is_no_variable : (ms : List (List ℕ × Kind)) → list_all (λ m. not (is_var_kind m.1)) ms ≡ true → (u : List ℕ) → mark_in ms u ≡ Some Var → ⊥
mark_is_no_variable [] all u h = cc
mark_is_no_variable (m ∷ ms) all u h = go (same_text u m.0) h (λ h. mark_is_no_variable ms (and_right _ _ all) u h)
  where
    some_same : (j k : Kind) → Some j ≡ Some k → j ≡ k
    some_same j k h = cc

    go : (b : Bool) → (if b then Some m.1 else mark_in ms u) ≡ Some Var → (mark_in ms u ≡ Some Var → ⊥) → ⊥
    go true h ih =
        let e : m.1 ≡ Var = some_same m.1 Var h in
        let x : not (is_var_kind Var) ≡ true = subst (λ k. not (is_var_kind k) ≡ true) e (and_left _ _ all) in cc
    go false h ih = ih h

pub variable_begins : (u : List ℕ) → kind_of u ≡ Some Var → is_var u ≡ true
unfolding kind_of
variable_begins u h = go (is_name u) (is_var u) (is_number u) (is_text u) h
  where
    go : (n v i t : Bool) → (if n then Some Name else if v then Some Var else if i then Some Int else if t then Some Text else mark_in marks u) ≡ Some Var → v ≡ true
    go true v i t h = absurd (cc)
    go false true i t h = refl
    go false false true t h = absurd (cc)
    go false false false true h = absurd (cc)
    go false false false false h = absurd (mark_is_no_variable marks refl u h)
