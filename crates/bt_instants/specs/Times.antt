-- The methods on instants, in UTC.
use Rattle.std.specs.Prelude.{ℕ, ℤ, pos, ◌*ℤ◌, List, codes, Result, Ok, Err, if◌then◌else◌}
use Rattle.std.specs.Int.{int_div_euclid}
use Rattle.std.specs.Option.{ok_or}
use Rattle.bt_time.specs.Civil.{is_in_range}
use Rattle.bt_time.specs.Format.{seen}
use Rattle.bt_time.specs.Instants.{instant, answer, format_of}
use Rattle.bt_time.specs.declared.fault.TimeFault.{TimeFault}
use Rattle.bt_time.specs.declared.fault.TimeFault.TheVariants as fault
use Rattle.bt_value.specs.declared.val.Val.{Val, out-Val}
use Rattle.bt_value.specs.declared.val.Val.TheVariants as v
use Rattle.bt_value.specs.declared.val.Val.TheOpen.{Val-F}
use Rattle.bt_value.specs.declared.message.Out.{Out}
use Rattle.bt_value.specs.declared.message.Out.TheVariants.{Value}
use Rattle.bt_kinds.specs.Kinds.{on, failure, bad_text, out_of_range, kind_of}
use Rattle.bt_kinds.specs.Targets.{two, string}
use Rattle.bt_kinds.specs.declared.kinds.Kind.{Kind}
use Rattle.bt_instants.specs.declared.times.Stamp.{Stamp}
use Rattle.bt_instants.specs.declared.times.Stamp.TheVariants as st

-- what a value of one kind names as an instant: a number its seconds, a string its text, and any other none
abbrev stamp_at : Kind → Val-F Val → Result Stamp Kind
stamp_at kd (Val-F.Int n) = Ok (st.Seconds n)
stamp_at kd (Val-F.Str s) = Ok (st.Written s)
stamp_at kd _ = Err kd

-- what names an instant: a number of seconds, or a string; else the kind of the value
unfoldable pub stamp : Val → Result Stamp Kind
stamp x = stamp_at (kind_of x) (out-Val x)

-- a second in the range of instants
abbrev pub in_range : ℤ → ℤ → Result ℤ TimeFault
in_range s z = if is_in_range s then Ok z else Err fault.OutOfRange

-- an instant's nanoseconds, in a unit of so many of them, rounded down
abbrev pub rounded : ℤ → Result ℤ TimeFault → Result ℤ TimeFault
rounded unit (Ok n) = Ok (int_div_euclid n unit)
rounded unit (Err e) = Err e

-- whole seconds since 1970, of an instant in the range; a number is seconds already
abbrev pub second : Stamp → Result ℤ TimeFault
second (st.Seconds n) = in_range n n
second (st.Written t) = rounded (pos 1000000000) (answer (instant t))

-- whole milliseconds since 1970, of an instant in the range
abbrev pub millisecond : Stamp → Result ℤ TimeFault
millisecond (st.Seconds n) = in_range n (n *ℤ pos 1000)
millisecond (st.Written t) = rounded (pos 1000000) (answer (instant t))

-- the failure that a fault of reading or showing an instant is: `bad text` or `out of range`; want of memory is none, so that its case is never met
abbrev pub faulty : List ℕ → TimeFault → Out
faulty name fault.BadText = bad_text name
faulty name fault.OutOfRange = out_of_range name
faulty name fault.NoMemory = failure name (codes "no memory")

-- a number or text made of an instant as a value, or the failure of the fault
abbrev pub timed : {A : Type 0} → List ℕ → (A → Val) → Result A TimeFault → Out
timed name f (Ok a) = Value (f a)
timed name f (Err e) = faulty name e

-- `ts_unix()`: of a string or number, whole seconds since 1970, rounded down
abbrev pub ts_unix : Val → Out
ts_unix x = on (codes "ts_unix") (stamp x) (λ t. timed (codes "ts_unix") v.Int (second t))

-- `ts_unix_milli()`: of a string or number, whole milliseconds since 1970, rounded down
abbrev pub ts_unix_milli : Val → Out
ts_unix_milli x = on (codes "ts_unix_milli") (stamp x) (λ t. timed (codes "ts_unix_milli") v.Int (millisecond t))

-- the text of a second by a format, or the failure of the fault
abbrev pub shown_at : List ℕ → Result ℤ TimeFault → List ℕ → Out
shown_at name (Ok s) f = timed name v.Str (format_of s f)
shown_at name (Err e) f = faulty name e

-- `ts_strftime(format)`: of a string or number, the text of its whole seconds by the format
abbrev pub ts_strftime : Val → Val → Out
ts_strftime x f = on (codes "ts_strftime") (two (stamp x) (string f)) (λ p. shown_at (codes "ts_strftime") (second p.0) p.1)

-- `ts_strptime(format)`: the second that a string shows by the format, written as `YYYY-MM-DDTHH:MM:SSZ`; `bad text` where it shows none
abbrev pub ts_strptime : Val → Val → Out
ts_strptime x f = on (codes "ts_strptime") (two (string x) (string f))
    (λ p. shown_at (codes "ts_strptime") (ok_or (seen p.0 p.1) fault.BadText) (codes "%Y-%m-%dT%H:%M:%SZ"))
