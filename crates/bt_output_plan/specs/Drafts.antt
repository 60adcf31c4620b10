-- What an output, outputs or a case of a switch are to be made as.
use Rattle.std.specs.Prelude.{ℕ, List, [], ◌∷◌, Bool, map}
use Rattle.bt_demand.specs.declared.routes.HoldPolicy.{HoldPolicy}
use Rattle.bt_schema.specs.Pointer.{under}
use Rattle.bt_outlines.specs.Outlines.{Outline, below, formed, joined, listed, plain}

-- the name of a sink, and the bytes that close its records
abbrev pub End : Type 0
End = List ℕ × List ℕ

-- What it is to be made as by the names of the sinks, which are numbered by their places, below a hold or not; the ends of its leaves,
-- as they stand; and the policies of its holds, as they stand, where each copy of a `retry` has its own.
pub record Draft (A : Type 0) : Type 0 where
  pub outline : List (List ℕ) → Bool → Outline A
  pub ends : List End
  pub holds : Bool → List HoldPolicy

-- what has no text, no leaf and no hold
abbrev pub settled : {A : Type 0} → A → Draft A
settled x = record { outline = λ names held. plain x; ends = []; holds = λ held. [] }

-- in a form of another kind
abbrev pub drafted : {A B : Type 0} → (A → B) → Draft A → Draft B
drafted f d = record { outline = λ names held. formed f (d.outline names held); ends = d.ends; holds = d.holds }

-- at the member of this name
abbrev pub at_member : {A : Type 0} → List ℕ → Draft A → Draft A
at_member key d = record { outline = λ names held. below key (d.outline names held); ends = d.ends; holds = d.holds }

-- one after another
abbrev pub in_order : {R A : Type 0} → (R → Draft A) → List R → Draft (List A)
in_order g rs = record {
  outline = λ names held. listed (map (λ r. (g r).outline names held) rs);
  ends = joined (map (λ r. (g r).ends) rs);
  holds = λ held. joined (map (λ r. (g r).holds held) rs);
}
