-- What loops have gathered so far.
use Rattle.std.proofs.Common.{◌≡◌, ℕ, Bool, true, false, List, [], ◌∷◌, ◌++◌, Option, Some, None, Result, Ok, Err, refl, sym, ap, append_assoc}
use Rattle.std.specs.BTreeMap.{insert_entry}
use Rattle.std.specs.Cmp.Lexicographic.{slice_cmp}
use Rattle.std.specs.Ordering.{nat_cmp}
use Rattle.bt_value.specs.Keys.{put_all}
use Rattle.bt_value.specs.declared.val.Val.{Val}
use Rattle.bt_value.specs.declared.message.Out.{Out}
use Rattle.bt_value.specs.declared.message.Out.TheVariants.{Value, Failed, Deleted, Nothing}
use Rattle.bt_meaning.specs.Literals.{one_more}
use Rattle.bt_meaning.specs.Lambdas.{put_in, kept}
use Rattle.bt_meaning.specs.Outcomes.{is_true}
use Rattle.bt_queries.specs.Views.{stays}

-- what was gathered, and then the rest
abbrev pub after : {A : Type 0} → List A → Result (List A) Out → Result (List A) Out
after got (Ok xs) = Ok (got ++ xs)
after got (Err o) = Err o

pub after_nothing : {A : Type 0} (r : Result (List A) Out) → after [] r ≡ r
after_nothing (Ok xs) = refl
after_nothing (Err o) = refl

pub after_one : {A : Type 0} (got : List A) (x : A) (r : Result (List A) Out) → after got (one_more (Ok (Some x)) r) ≡ after (got ++ x ∷ []) r
after_one got x (Ok xs) = ap Ok (sym (append_assoc got (x ∷ []) xs))
after_one got x (Err o) = refl

pub put_nothing : (got : List (List ℕ × Val)) → put_in got (Ok []) ≡ Ok got
put_nothing got = refl

pub put_one : (got : List (List ℕ × Val)) (n : List ℕ) (x : Val) (r : Result (List (List ℕ × Val)) Out)
    → put_in got (one_more (Ok (Some (n, x))) r) ≡ put_in (insert_entry (slice_cmp nat_cmp) got n x) r
put_one got n x (Ok ps) = refl
put_one got n x (Err o) = refl

-- what becomes of one that stays, of one that doesn't, and of a failure
pub kept_yes : (p : List ℕ × Val) (o : Out) → Ok true ≡ stays o → kept p o ≡ Ok (Some p)
kept_yes p (Value x) e = let h : is_true x ≡ true = cc in rw h refl
kept_yes p (Failed t) e = cc
kept_yes p Deleted e = cc
kept_yes p Nothing e = cc

pub kept_no : (p : List ℕ × Val) (o : Out) → Ok false ≡ stays o → kept p o ≡ Ok None
kept_no p (Value x) e = let h : is_true x ≡ false = cc in rw h refl
kept_no p (Failed t) e = cc
kept_no p Deleted e = refl
kept_no p Nothing e = refl

pub kept_failed : (p : List ℕ × Val) (o r : Out) → Err r ≡ stays o → kept p o ≡ Err r
kept_failed p (Value x) r e = cc
kept_failed p (Failed t) r e = cc
kept_failed p Deleted r e = cc
kept_failed p Nothing r e = cc
