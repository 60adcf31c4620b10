-- Elements put at the end of a list.
use Rattle.std.proofs.Common.{◌≡◌, List, [], ◌∷◌, ◌++◌, Option, Some, None, refl, append-nil}
use Rattle.bt_value.specs.declared.val.Val.{Val}
use Rattle.bt_meaning.specs.Lambdas.{alone}

pub one_more : (got : List Val) (o : Option Val) (x : Val) → Some x ≡ o → got ++ x ∷ [] ≡ got ++ alone o
one_more got o x e = rw (← e) refl

pub none_more : (got : List Val) (o : Option Val) → None ≡ o → got ≡ got ++ alone o
none_more got o e = rw (← e, append-nil) refl
