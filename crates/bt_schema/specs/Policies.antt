-- Values that the lints of one place look for below it or at the top.
use Rattle.std.specs.Prelude.{ℕ, pos, List, [], codes, Bool, false, not, ◌||◌, ◌==◌, length, Option, Some, None}
use Rattle.std.specs.Ordering.{int_eq}
use Rattle.bt_value.specs.Keys.{find}
use Rattle.bt_value.specs.declared.val.Val.{Val, out-Val}
use Rattle.bt_value.specs.declared.val.Val.TheOpen.{Val-F}
use Rattle.bt_schema.specs.declared.places.Place.{Place}
use Rattle.bt_schema.specs.declared.places.Place.TheVariants as place
use Rattle.bt_schema.specs.Texts.{period}

-- names with values
abbrev pub Members : Type 0 → Type 0
Members V = List (List ℕ × V)

-- the members of an object, and none of any other value
abbrev pub fields_in : Val-F Val → Members Val
fields_in (Val-F.Obj ms) = ms
fields_in _ = []

abbrev pub fields : Val → Members Val
fields v = fields_in (out-Val v)

-- a number other than 0
abbrev pub is_set_number : Val-F Val → Bool
is_set_number (Val-F.Int n) = not (int_eq n (pos 0))
is_set_number _ = false

-- a text that isn't empty
abbrev pub is_set_text : Val-F Val → Bool
is_set_text (Val-F.Str t) = not (length t == 0)
is_set_text _ = false

abbrev pub is_set_time : Option ℕ → Bool
is_set_time (Some n) = not (n == 0)
is_set_time None = false

-- a period other than 0
abbrev pub is_set_period : Val-F Val → Bool
is_set_period (Val-F.Str t) = is_set_time (period t)
is_set_period _ = false

-- a value is there that passes the test
abbrev pub at_key : (Val-F Val → Bool) → Option Val → Bool
at_key test (Some v) = test (out-Val v)
at_key test None = false

-- A policy is on where one of its conditions is: a count or a size other than 0, a period other than 0, or a check that isn't the
-- empty text. A value of another kind, or a period that is badly written, is no condition.
abbrev pub policy_on : Members Val → Bool
policy_on ms = at_key is_set_number (find (codes "count") ms) || at_key is_set_number (find (codes "byte_size") ms)
    || at_key is_set_period (find (codes "period") ms) || at_key is_set_text (find (codes "check") ms)

abbrev pub policy_at : Option Val → Bool
policy_at (Some v) = policy_on (fields v)
policy_at None = false

-- a hold: the fields of a `broker` whose batching is on
abbrev pub is_hold : Place → Val → Bool
is_hold place.Broker v = policy_at (find (codes "batching") (fields v))
is_hold _ v = false

abbrev pub is_two : Val-F Val → Bool
is_two (Val-F.Int n) = int_eq n (pos 2)
is_two _ = false

-- A configuration is of version 2 where its `version` is the number 2. With any other `version`, or none, it is walked as one of
-- version 1.
abbrev pub is_newer : Val → Bool
is_newer v = at_key is_two (find (codes "version") (fields v))
