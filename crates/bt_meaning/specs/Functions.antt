-- What functions give of what their arguments give, none of which failed. A missing argument counts as Nothing.
use Rattle.std.specs.Prelude.{ℕ, zero, suc, ◌+◌, ◌-◌, ◌/◌, ◌%◌, ℤ, pos, negsuc, ◌+ℤ◌, ◌-ℤ◌, ◌*ℤ◌, List, [], ◌∷◌, ◌++◌, codes, map, nat_lt, Option, Some, None, is_some, Result, Ok, Err, if◌then◌else◌}
use Rattle.std.specs.Int.{is_negative}
use Rattle.std.specs.Int.RustNames.{unsigned_abs}
use Rattle.bt_kinds.specs.Operators.{is_zero}
use Rattle.std.specs.Str.{is_utf8}
use Rattle.bt_time.specs.Format.{digit}
use Rattle.bt_time.specs.Instants.{stamp, format_of}
use Rattle.bt_time.specs.declared.fault.TimeFault.{TimeFault}
use Rattle.bt_value.specs.Keys.{find}
use Rattle.bt_value.specs.declared.val.Val.{Val}
use Rattle.bt_value.specs.declared.val.Val.TheVariants as v
use Rattle.bt_value.specs.declared.names.FunctionId.{FunctionId}
use Rattle.bt_value.specs.declared.names.FunctionId.TheVariants as f
use Rattle.bt_value.specs.declared.message.Msg.{Msg}
use Rattle.bt_value.specs.declared.message.Out.{Out}
use Rattle.bt_value.specs.declared.message.Out.TheVariants.{Value, Failed, Deleted, Nothing}
use Rattle.bt_kinds.specs.Kinds.{on, out_of_range}
use Rattle.bt_kinds.specs.Targets.{number, string, text, bytes_of}
use Rattle.bt_meaning.specs.Contexts.{Pairs}
use Rattle.bt_meaning.specs.Outcomes.{then_value, part_of, or_null}
use Rattle.bt_meaning.specs.declared.message.Spot.{Spot}

-- the first argument
abbrev pub first : List Out → Out
first [] = Nothing
first (o ∷ os) = o

-- the others
abbrev pub rest : List Out → List Out
rest [] = []
rest (o ∷ os) = os

-- `error`: the flag's text, or null
abbrev pub error_of : Option (List ℕ) → Val
error_of (Some t) = v.Str t
error_of None = v.Null

-- the member of metadata under a key; bytes that are no UTF-8 are no key
abbrev pub meta_at : List ℕ → Pairs → Val
meta_at k ms = if is_utf8 k then or_null (find k ms) else v.Null

-- `meta`: by a string or bytes
abbrev pub meta_of : Pairs → Out → Out
meta_of ms o = then_value (codes "meta") o (λ x. on (codes "meta") (text x) (λ k. Value (meta_at (bytes_of k) ms)))

-- `throw`: a failure with the string itself
abbrev pub thrown : Out → Out
thrown o = then_value (codes "throw") o (λ x. on (codes "throw") (string x) (λ t. Failed t))

-- a number, and 0 for what is below
abbrev pub above_zero : ℤ → ℕ
above_zero (pos n) = n
above_zero (negsuc n) = 0

-- how far b lies in the direction of the step
abbrev pub distance : ℤ → ℤ → ℤ → ℤ
distance a b s = if is_negative s then a -ℤ b else b -ℤ a

-- how often a step goes into a distance, a last part counted whole
abbrev pub steps_in : ℕ → ℕ → ℕ
steps_in far step = (far + (step - 1)) / step

-- how many of a, a + s, a + 2 s, .. stand below b, or above b for a negative s
unfoldable pub range_length : ℤ → ℤ → ℤ → ℕ
range_length a b s = steps_in (above_zero (distance a b s)) (unsigned_abs s)

-- n numbers from a by steps of s
unfoldable pub range_items : ℤ → ℤ → ℕ → List Val
range_items a s zero = []
range_items a s (suc n) = range_items a s n ++ v.Int (a +ℤ pos n *ℤ s) ∷ []

-- at most 1,000,000 items
abbrev pub range_from : ℤ → ℤ → ℕ → Out
range_from a s n = if nat_lt 1000000 n then out_of_range (codes "range") else Value (v.Arr (range_items a s n))

-- a step of 0 leads nowhere
abbrev pub ranged : ℤ → ℤ → ℤ → Out
ranged a b s = if is_zero s then out_of_range (codes "range") else range_from a s (range_length a b s)

-- goes on with a number
abbrev pub with_part : Result ℤ Out → (ℤ → Out) → Out
with_part (Ok n) go = go n
with_part (Err o) go = o

-- the same with an outcome that must be a number
abbrev pub with_number : Out → (ℤ → Out) → Out
with_number o go = with_part (part_of (codes "range") number o) go

-- the step, which is 1 where it is absent
abbrev pub with_step : List Out → (ℤ → Out) → Out
with_step [] go = go (pos 1)
with_step (o ∷ os) go = with_number o go

-- `range`: numbers from the first argument on, before the second; kinds are looked at before the step
abbrev pub range_of : List Out → Out
range_of os = with_number (first os) (λ a. with_number (first (rest os)) (λ b. with_step (rest (rest os)) (λ s. ranged a b s)))

-- the last three digits
abbrev pub three_digits : ℕ → List ℕ
three_digits n = digit (n / 100) ∷ digit (n / 10) ∷ digit n ∷ []

-- a second's text up to its seconds, and then its milliseconds and `Z`; a second out of the years has none
abbrev pub with_millis : Result (List ℕ) TimeFault → ℕ → Out
with_millis (Ok t) millis = Value (v.Str (t ++ codes "." ++ three_digits millis ++ codes "Z"))
with_millis (Err e) millis = out_of_range (codes "now")

-- `now`: a moment in milliseconds since 1970, as `1970-01-01T00:00:00.000Z`, in the years 1 to 9998
abbrev pub now_of : ℕ → Out
now_of moment = with_millis (format_of (pos (moment / 1000)) stamp) (moment % 1000)

-- one case for each function
unfoldable pub function : FunctionId → List Out → Msg → Spot → Out
function f.Deleted os msg spot = Deleted
function f.Nothing os msg spot = Nothing
function f.Content os msg spot = Value (v.Bytes msg.content)
function f.Error os msg spot = Value (error_of msg.flag)
function f.Errored os msg spot = Value (v.Bool (is_some msg.flag))
function f.Meta os msg spot = meta_of msg.meta (first os)
function f.BatchIndex os msg spot = Value (v.Int (pos spot.index))
function f.BatchSize os msg spot = Value (v.Int (pos spot.size))
function f.Range os msg spot = range_of os
function f.Throw os msg spot = thrown (first os)
function f.Now os msg spot = now_of spot.moment
