-- What is wrong with a value by itself, by the form of its place.
use Rattle.std.specs.Prelude.{ℕ, ℤ, List, [], ◌∷◌, ◌++◌, Bool, false, not, ◌&&◌, ◌||◌, ◌==◌, int_lt, nat_lt, Option, Some, None, if◌then◌else◌, codes, length}
use Rattle.std.specs.Str.{bytes_eq}
use Rattle.bt_value.specs.declared.val.Val.{Val}
use Rattle.bt_value.specs.declared.val.Val.TheOpen.{Val-F}
use Rattle.bt_schema.specs.declared.forms.Form.{Form}
use Rattle.bt_schema.specs.declared.forms.Form.TheVariants as form
use Rattle.bt_schema.specs.declared.forms.Language.{Language}
use Rattle.bt_schema.specs.declared.lints.LintKind.TheVariants as kind
use Rattle.bt_schema.specs.declared.places.Place.{Place}
use Rattle.bt_schema.specs.declared.places.Place.TheVariants as place
use Rattle.bt_schema.specs.Policies.{Members}
use Rattle.bt_schema.specs.Table.{required}
use Rattle.bt_schema.specs.Texts.{period, delimiter, fits, is_lines, fits_csv, is_glob}
use Rattle.bt_walk.specs.declared.above.Above.{Above}
use Rattle.bt_walk.specs.Found.{Fact, wrong, text, when}
use Rattle.bt_walk.specs.Members.{has, kinds}
use Rattle.bt_walk.specs.Targets.{is_target}

-- A value of another kind: where an object is needed, `not an object`; at a place that is refused, `not in the profile`, whatever
-- stands there; else `wrong type`.
abbrev pub other_kind : Form → List Fact
other_kind form.Object = wrong kind.NotObject ∷ []
other_kind form.Component = wrong kind.NotObject ∷ []
other_kind form.Choice = wrong kind.NotObject ∷ []
other_kind form.AnyObject = wrong kind.NotObject ∷ []
other_kind form.Refused = wrong kind.NotInProfile ∷ []
other_kind form.AnyValue = []
other_kind _ = wrong kind.WrongType ∷ []

-- a boolean: true is refused where it has to be false
abbrev pub of_bool : Form → Bool → List Fact
of_bool form.Flag b = []
of_bool form.Never b = when b kind.NotInProfile
of_bool f b = other_kind f

-- a number, within its limits
abbrev pub of_number : Form → ℤ → List Fact
of_number (form.Number least most) n = when (int_lt n least || int_lt most n) kind.OutOfRange
of_number f n = other_kind f

abbrev pub of_delimiter : Option (List ℕ) → List Fact
of_delimiter (Some x) = when (not (fits x)) kind.OutOfRange
of_delimiter None = wrong kind.WrongType ∷ []

-- a codec: `lines`, or `delim:X` with X of 1 to 16 bytes
abbrev pub of_codec : List ℕ → List Fact
of_codec t = if is_lines t then [] else of_delimiter (delimiter t)

-- the codec of an output, which in version 1 is `lines`
abbrev pub of_output_codec : Bool → List ℕ → List Fact
of_output_codec newer t = if newer then of_codec t else when (not (is_lines t)) kind.WrongType

-- a period of at most a day, badly written, or at an input and on
abbrev pub of_period : Bool → Option ℕ → List Fact
of_period input (Some n) = when (nat_lt 86400000 n) kind.OutOfRange ++ when (input && not (n == 0)) kind.NotInProfile
of_period input None = wrong kind.WrongType ∷ []

-- a text in the mapping language, which says what is wrong with it. Where it is optional, the empty text stands for none
abbrev pub of_query : Language → Bool → List ℕ → List Fact
of_query language optional t = if optional && length t == 0 then [] else text language t ∷ []

-- a text, in a configuration of version 2 or not (`newer`) that is `config` as a whole
abbrev pub of_text : Bool → Val → Form → List ℕ → List Fact
of_text newer config form.Text t = []
of_text newer config form.FilledText t = when (length t == 0) kind.OutOfRange
of_text newer config form.Path t = when (is_glob t) kind.NotInProfile
of_text newer config form.Codec t = of_codec t
of_text newer config form.OutputCodec t = of_output_codec newer t
of_text newer config form.LinesDelimiter t = when (not (fits t)) kind.OutOfRange
of_text newer config form.CsvDelimiter t = when (not (fits_csv t)) kind.OutOfRange
of_text newer config (form.Period input) t = of_period input (period t)
of_text newer config form.Pattern t = when (not (bytes_eq t (codes "fan_out_fail_fast"))) kind.NotInProfile
of_text newer config form.Format t = when (not (is_lines t || bytes_eq t (codes "json_array"))) kind.WrongType
of_text newer config form.Target t = when (not (is_target config t)) kind.OutOfRange
of_text newer config (form.Query language optional) t = of_query language optional t
of_text newer config f t = other_kind f

abbrev pub is_past : ℕ → Option ℕ → Bool
is_past n (Some most) = nat_lt most n
is_past n None = false

-- a list of so many elements
abbrev pub of_list : Form → ℕ → List Fact
of_list (form.List least most) n = when (nat_lt n least || is_past n most) kind.OutOfRange
of_list f n = other_kind f

-- each of these fields that isn't there
abbrev pub missing : {V : Type 0} → List (List ℕ) → Members V → List Fact
missing [] ms = []
missing (name ∷ names) ms = when (not (has ms name)) (kind.Missing name) ++ missing names ms

-- What fields are wrong together, or with what stands elsewhere: `codec` and `scanner` at one input of version 2, and a test that
-- names no list of processors where `pipeline` has none.
abbrev pub together : {V : Type 0} → Place → Above → Members V → List Fact
together place.Test above ms = when (not (has ms (codes "target_processors")) && not above.has_processors) kind.OutOfRange
together place.Stdin above ms = when (above.newer && has ms (codes "codec") && has ms (codes "scanner")) kind.CodecAndScanner
together place.FileInput above ms = when (above.newer && has ms (codes "codec") && has ms (codes "scanner")) kind.CodecAndScanner
together _ above ms = []

-- an object
abbrev pub of_object : {V : Type 0} → Form → Place → Above → Members V → List Fact
of_object form.Object place above ms = missing (required place) ms ++ together place above ms
of_object form.Component place above ms = when (not (kinds place ms == 1)) kind.NotOneKind
of_object form.Choice place above ms = when (not (kinds place ms == 1)) kind.NotOneKind
of_object form.AnyObject place above ms = []
of_object f place above ms = other_kind f

-- a value, by its kind
abbrev pub of_value : {V : Type 0} → Val → Form → Place → Above → Val-F V → List Fact
of_value config f place above Val-F.Null = other_kind f
of_value config f place above (Val-F.Bool b) = of_bool f b
of_value config f place above (Val-F.Int n) = of_number f n
of_value config f place above (Val-F.Str t) = of_text above.newer config f t
of_value config f place above (Val-F.Bytes b) = other_kind f
of_value config f place above (Val-F.Arr vs) = of_list f (length vs)
of_value config f place above (Val-F.Obj ms) = of_object f place above ms
