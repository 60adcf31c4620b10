-- What the output of a configuration is to be made as: one row for each kind. A field that is absent, or that has a lint, reads as its
-- default.
use Rattle.std.specs.Prelude.{ℕ, zero, suc, ◌+◌, ◌-◌, ℤ, pos, List, [], ◌∷◌, ◌++◌, Bool, true, false, not, ◌&&◌, Option, Some, None, if◌then◌else◌, map, codes}
use Rattle.bt_value.specs.Keys.{find}
use Rattle.bt_value.specs.declared.val.Val.{Val, fold-Val}
use Rattle.bt_value.specs.declared.val.Val.TheOpen.{Val-F}
use Rattle.bt_ready.specs.declared.ready.Ready.{Ready}
use Rattle.bt_schema.specs.declared.forms.Language.TheVariants as language
use Rattle.bt_making.specs.Sources.{source}
use Rattle.bt_demand.specs.declared.routes.HoldPolicy.{HoldPolicy}
use Rattle.bt_outputs.specs.declared.output.Output.{Output}
use Rattle.bt_outputs.specs.declared.output.Output.TheVariants as output
use Rattle.bt_outputs.specs.declared.output.OutputCase.{OutputCase}
use Rattle.bt_outlines.specs.Outlines.{Outline, below, formed, no_pieces, optional_check_as, plain}
use Rattle.bt_output_plan.specs.Drafts.{Draft, at_member, drafted, in_order, settled}
use Rattle.bt_output_plan.specs.Fields.{Batching, closing, is_on, milliseconds, off, tries, within}
use Rattle.bt_output_plan.specs.Kinds.{Chosen, chosen}
use Rattle.bt_output_plan.specs.Sinks.{place}
use Rattle.bt_output_plan.specs.declared.kinds.Kind.{Kind}
use Rattle.bt_output_plan.specs.declared.kinds.Kind.TheVariants as kind

-- What a value is at each place where it may stand.
pub record Reading : Type 0 where
  -- a text, a boolean, a number
  pub text : List ℕ
  pub is_set : Bool
  pub number : ℤ
  -- the closing bytes of the fields of `stdout` or `file`, the path of those of `file`, and the batching of a broker
  pub closing : List ℕ
  pub path : List ℕ
  pub batching : Batching
  -- an output, a list of outputs, a case of a `switch`, a list of cases
  pub output : Draft Output
  pub outputs : Draft (List Output)
  pub switch_case : Draft (OutputCase Output)
  pub switch_cases : Draft (List (OutputCase Output))
  -- the output of a kind that has fields, whose fields the value is
  pub with_fields : Kind → Draft Output

abbrev pub Fields : Type 0
Fields = List (List ℕ × Reading)

-- ---- fields, and what they are where they are absent

abbrev pub text_of : Option Reading → List ℕ
text_of (Some r) = r.text
text_of None = []

abbrev pub is_set_of : Option Reading → Bool
is_set_of (Some r) = r.is_set
is_set_of None = false

abbrev pub number_of : Option Reading → ℤ
number_of (Some r) = r.number
number_of None = pos 0

abbrev pub closing_of : Option Reading → List ℕ
closing_of (Some r) = closing r.text
closing_of None = 10 ∷ []

abbrev pub no_batching : Batching
no_batching = record { policy = off; check = [] }

abbrev pub batching_of : Option Reading → Batching
batching_of (Some r) = r.batching
batching_of None = no_batching

abbrev pub output_of : Option Reading → Draft Output
output_of (Some r) = r.output
output_of None = settled output.Drop

abbrev pub outputs_of : Option Reading → Draft (List Output)
outputs_of (Some r) = r.outputs
outputs_of None = settled []

abbrev pub cases_of : Option Reading → Draft (List (OutputCase Output))
cases_of (Some r) = r.switch_cases
cases_of None = settled []

abbrev pub output_at : List ℕ → Fields → Draft Output
output_at key ms = at_member key (output_of (find key ms))

abbrev pub outputs_at : List ℕ → Fields → Draft (List Output)
outputs_at key ms = at_member key (outputs_of (find key ms))

abbrev pub cases_at : List ℕ → Fields → Draft (List (OutputCase Output))
cases_at key ms = at_member key (cases_of (find key ms))

-- `batching`: `count` [0], `byte_size` [0], `period` [""], `check` [""]
abbrev pub batching_in : Fields → Batching
batching_in ms = record {
  policy = record {
    count = within 16384 (number_of (find (codes "count") ms));
    byte_size = within 1073741824 (number_of (find (codes "byte_size") ms));
    period = milliseconds (text_of (find (codes "period") ms));
  };
  check = text_of (find (codes "check") ms);
}

-- ---- outputs

-- `stdout` and `file`: a record for a sink
abbrev pub leaf : List ℕ → List ℕ → Draft Output
leaf name closing = record {
  outline = λ names held. plain (output.Leaf 0 (place names name));
  ends = (name, closing) ∷ [];
  holds = λ held. [];
}

abbrev pub rejecting : List ℕ → Draft Output
rejecting text = record {
  outline = λ names held. record { form = output.Reject no_pieces; texts = λ at. source language.Interpolated text at ∷ [] };
  ends = [];
  holds = λ held. [];
}

-- the batching of a broker round its outputs
abbrev pub held_outline : List ℕ → Outline (List Output) → Outline Output
held_outline check inside =
    let ends = below (codes "batching") (below (codes "check") (optional_check_as check)) in
    record { form = output.Hold 0 ends.form (output.Broker inside.form); texts = λ at. ends.texts at ++ inside.texts at }

-- `broker`: `batching` [`{}`], `outputs`. Below a hold its batching is off
abbrev pub broker_outline : Bool → List ℕ → Draft (List Output) → List (List ℕ) → Bool → Outline Output
broker_outline on check inside names held =
    if on && not held then held_outline check (inside.outline names true) else formed output.Broker (inside.outline names held)

abbrev pub broker_holds : Bool → HoldPolicy → Draft (List Output) → Bool → List HoldPolicy
broker_holds on policy inside held = if on && not held then policy ∷ inside.holds true else inside.holds held

abbrev pub broker_as : Batching → Draft (List Output) → Draft Output
broker_as b inside = record {
  outline = broker_outline (is_on b) b.check inside;
  ends = inside.ends;
  holds = broker_holds (is_on b) b.policy inside;
}

abbrev pub broker_in : Fields → Draft Output
broker_in ms = broker_as (batching_of (find (codes "batching") ms)) (outputs_at (codes "outputs") ms)

-- a case of a `switch`: `check` [""], `continue` [false], `output`
abbrev pub switch_case_in : Fields → Draft (OutputCase Output)
switch_case_in ms =
    let inside = output_at (codes "output") ms in
    record {
      outline = λ names held.
          let check = below (codes "check") (optional_check_as (text_of (find (codes "check") ms))) in
          let there = inside.outline names held in
          record {
            form = record { check = check.form; goes_on = is_set_of (find (codes "continue") ms); output = there.form };
            texts = λ at. check.texts at ++ there.texts at;
          };
      ends = inside.ends;
      holds = inside.holds;
    }

-- `switch`: `cases`, `strict_mode` [false]
abbrev pub switch_in : Fields → Draft Output
switch_in ms = drafted (λ ks. output.Switch ks (is_set_of (find (codes "strict_mode") ms))) (cases_at (codes "cases") ms)

-- `fallback`: outputs, of which there is one at least
abbrev pub fallback : List Output → Output
fallback [] = output.Drop
fallback (o ∷ os) = output.Fallback (o ∷ os)

abbrev pub drafted_fallback : Draft (List Output) → Draft Output
drafted_fallback inside = drafted fallback inside

-- so many copies of a list
abbrev pub repeated : {A : Type 0} → ℕ → List A → List A
repeated zero xs = []
repeated (suc n) xs = xs ++ repeated n xs

-- `retry`: `max_retries`, `output`
abbrev pub retry_as : ℕ → Draft Output → Draft Output
retry_as n inside = record {
  outline = λ names held. formed (output.Retry n 0 0) (inside.outline names held);
  ends = inside.ends;
  holds = λ held. repeated n (inside.holds held);
}

abbrev pub retry_in : Fields → Draft Output
retry_in ms = retry_as (tries (number_of (find (codes "max_retries") ms))) (output_at (codes "output") ms)

-- `drop_on`: `error`, `output`
abbrev pub drop_on_in : Fields → Draft Output
drop_on_in ms = drafted (output.DropOn (is_set_of (find (codes "error") ms))) (output_at (codes "output") ms)

-- one row for each kind that has fields, but for those of leaves
abbrev pub with_fields_in : Kind → Fields → Draft Output
with_fields_in kind.Broker ms = broker_in ms
with_fields_in kind.Switch ms = switch_in ms
with_fields_in kind.Retry ms = retry_in ms
with_fields_in kind.DropOn ms = drop_on_in ms
with_fields_in _ ms = settled output.Drop

-- one row for each kind
abbrev pub output_as : Kind → Reading → Draft Output
output_as kind.Stdout r = leaf (codes "stdout") r.closing
output_as kind.File r = leaf (codes "file:" ++ r.path) r.closing
output_as kind.Reject r = rejecting r.text
output_as kind.RejectErrored r = drafted output.RejectErrored r.output
output_as kind.Fallback r = drafted_fallback r.outputs
output_as kind.Drop r = settled output.Drop
output_as kind.Broker r = r.with_fields kind.Broker
output_as kind.Switch r = r.with_fields kind.Switch
output_as kind.Retry r = r.with_fields kind.Retry
output_as kind.DropOn r = r.with_fields kind.DropOn

abbrev pub output_in : Option (Chosen Reading) → Draft Output
output_in (Some c) = at_member c.key (output_as c.kind c.value)
output_in None = settled output.Drop

-- ---- values

-- a value that is none of this
abbrev pub nothing : Reading
nothing = record {
  text = [];
  is_set = false;
  number = pos 0;
  closing = 10 ∷ [];
  path = [];
  batching = no_batching;
  output = settled output.Drop;
  outputs = settled [];
  switch_case = settled (record { check = None; goes_on = false; output = output.Drop });
  switch_cases = settled [];
  with_fields = λ k. settled output.Drop;
}

abbrev pub reading_step : Val-F Reading → Reading
reading_step (Val-F.Str t) = record nothing { text = t }
reading_step (Val-F.Bool b) = record nothing { is_set = b }
reading_step (Val-F.Int n) = record nothing { number = n }
reading_step (Val-F.Arr rs) = record nothing {
  outputs = in_order (λ r. r.output) rs;
  switch_cases = in_order (λ r. r.switch_case) rs;
}
reading_step (Val-F.Obj ms) = record nothing {
  closing = closing_of (find (codes "codec") ms);
  path = text_of (find (codes "path") ms);
  batching = batching_in ms;
  output = output_in (chosen ms);
  switch_case = switch_case_in ms;
  with_fields = λ k. with_fields_in k ms;
}
reading_step _ = nothing

-- what a value is to be made as
abbrev pub reading : Val → Reading
reading = fold-Val Reading reading_step

abbrev pub met : List (List ℕ × Val) → Fields
met ms = map (λ m. (m.0, reading m.1)) ms
