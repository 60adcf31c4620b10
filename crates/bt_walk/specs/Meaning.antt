-- What a walk has to know of a value.
use Rattle.std.specs.Prelude.{ℕ, List, Bool}
use Rattle.bt_value.specs.declared.val.Val.{Val}
use Rattle.bt_schema.specs.declared.places.Place.{Place}
use Rattle.bt_walk.specs.declared.above.Above.{Above}
use Rattle.bt_walk.specs.declared.counts.What.{What}
use Rattle.bt_walk.specs.Found.{Located}

-- what is found at and below a value: the whole configuration, the value's place, what stands above it, and its pointer are given
abbrev pub Walk : Type 0
Walk = Val → Place → Above → List ℕ → List Located

-- a sink's name and the bytes that end its messages
abbrev pub End : Type 0
End = List ℕ × List ℕ

-- A value, what is found at and below it, and how many leaves, holds and sources and which ends stand below it, where it is at a
-- place of a configuration of version 2 or not.
pub record Meaning : Type 0 where
  pub is : Val
  pub found : Walk
  pub count : What → Bool → Place → ℕ
  pub ends : Bool → Place → List End
