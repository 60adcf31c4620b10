-- The plan of a configuration fits a run: its sinks have their closing bytes, its window lets a transaction in, and it looks at the items
-- of a transaction alone. So do the delimiters of lines.
use Rattle.std.proofs.Common.{◌≡◌, ℕ, zero, suc, ◌≤◌, ℤ, pos, negsuc, List, [], Bool, true, false, ◌&&◌, nat_le, if◌then◌else◌, length, map, refl, sym, ap, ◌∙◌, subst, arith, Option, Some, None, codes}
use Rattle.std.proofs.lemmas.Bool.{and_parts, leb-true}
use Rattle.std.proofs.lemmas.List.{length-map}
use Rattle.bt_carry.specs.Calls.{ReadsItems}
use Rattle.bt_input_plan.specs.declared.plan.InputPlan.{InputPlan, out-InputPlan}
use Rattle.bt_input_plan.specs.declared.plan.InputPlan.TheOpen.{InputPlan-F}
use Rattle.bt_input_plan.specs.declared.plan.InputPolicy.{InputPolicy}
use Rattle.bt_output_plan.specs.Compiled.{sinks}
use Rattle.bt_parts.specs.Parts.{parts_by}
use Rattle.bt_plan.specs.Compiled.{IsPlanOf}
use Rattle.bt_plan.specs.Numbers.{config_number, number_at, number_in, number_of, number_within, pipeline_number, window}
use Rattle.bt_ports.specs.Contents.{Contents}
use Rattle.bt_routing.specs.declared.plan.Plan.{Plan}
use Rattle.bt_schema.specs.Texts.{fits}
use Rattle.bt_value.specs.Keys.{find}
use Rattle.bt_value.specs.declared.val.Val.{Val, out-Val}
use Rattle.bt_value.specs.declared.val.Val.TheOpen.{Val-F}
use Rattle.bt_configured.specs.Configured.{as_plan}
use Rattle.bt_configured.specs.Lines.{cuts_by, lines_by, lines_in, lines_of}
use Rattle.bt_configured.specs.declared.lines.Lines.{Lines}

-- each sink of the plan of a configuration has its closing bytes
pub ends_fit : (config : Val) (p : Plan) → IsPlanOf config p → length p.sinks.list ≡ length p.ends.list
ends_fit config p is =
    ap length is.output.1.sinks_in_order ∙ length-map (sinks config) (λ e. e.0)
    ∙ sym (ap length is.output.1.closing_bytes ∙ length-map (sinks config) (λ e. e.1))

-- ---- a number of `pipeline` is its default or at least 1

within : (most default : ℕ) (n : ℤ) → 1 ≤ default → 1 ≤ number_within most default n
within most default (pos zero) h = h
within most default (pos (suc n)) h = go (nat_le 1 (suc n) && nat_le (suc n) most)
  where
    go : (b : Bool) → 1 ≤ (if b then suc n else default)
    go true = omega arith
    go false = h
within most default (negsuc n) h = h

in_value : (most default : ℕ) (v : Val-F Val) → 1 ≤ default → 1 ≤ number_in most default v
in_value most default Val-F.Null h = h
in_value most default (Val-F.Bool b) h = h
in_value most default (Val-F.Int n) h = within most default n h
in_value most default (Val-F.Str t) h = h
in_value most default (Val-F.Bytes b) h = h
in_value most default (Val-F.Arr vs) h = h
in_value most default (Val-F.Obj ms) h = h

of_found : (most default : ℕ) (v : Option Val) → 1 ≤ default → 1 ≤ number_of most default v
of_found most default (Some v) h = in_value most default (out-Val v) h
of_found most default None h = h

at_key : (most default : ℕ) (key : List ℕ) (v : Val-F Val) → 1 ≤ default → 1 ≤ number_at most default key v
at_key most default key Val-F.Null h = h
at_key most default key (Val-F.Bool b) h = h
at_key most default key (Val-F.Int n) h = h
at_key most default key (Val-F.Str t) h = h
at_key most default key (Val-F.Bytes b) h = h
at_key most default key (Val-F.Arr vs) h = h
at_key most default key (Val-F.Obj ms) h = of_found most default (find key ms) h

in_pipeline : (most default : ℕ) (key : List ℕ) (v : Option Val) → 1 ≤ default → 1 ≤ pipeline_number most default key v
in_pipeline most default key (Some v) h = at_key most default key (out-Val v) h
in_pipeline most default key None h = h

in_config : (most default : ℕ) (key : List ℕ) (v : Val-F Val) → 1 ≤ default → 1 ≤ config_number most default key v
in_config most default key Val-F.Null h = h
in_config most default key (Val-F.Bool b) h = h
in_config most default key (Val-F.Int n) h = h
in_config most default key (Val-F.Str t) h = h
in_config most default key (Val-F.Bytes b) h = h
in_config most default key (Val-F.Arr vs) h = h
in_config most default key (Val-F.Obj ms) h = in_pipeline most default key (find (codes "pipeline") ms) h

-- the window of the plan of a configuration lets a transaction in
pub window_fits : (config : Val) (p : Plan) → IsPlanOf config p → 1 ≤ p.window
window_fits config p is = subst (λ n. 1 ≤ n) (sym is.window) (in_config 16384 1024 (codes "window") (out-Val config) (omega arith))

-- ---- lines

-- the delimiter of lines has 1 to 16 bytes
abbrev pub Delimits : List ℕ → Type 0
Delimits d = (1 ≤ length d) × (length d ≤ 16)

fits_says : (d : List ℕ) → fits d ≡ true → Delimits d
fits_says d h =
    let both = and_parts (nat_le 1 (length d)) (nat_le (length d) 16) h in
    (leb-true 1 (length d) both.0, leb-true (length d) 16 both.1)

by_delimiter : (files : Option (Contents (List ℕ))) (d : List ℕ) (p : InputPolicy) (l : Lines) → lines_by files d p ≡ Some l → Delimits l.cuts.delimiter
by_delimiter files d p l = go (fits d) refl
  where
    go : (b : Bool) → fits d ≡ b → (if b then Some (record { files = files; cuts = cuts_by d p }) else None) ≡ Some l → Delimits l.cuts.delimiter
    go true h e = let is : record { files = files; cuts = cuts_by d p } ≡ l = cc in subst (λ (x : Lines). Delimits x.cuts.delimiter) is (fits_says d h)
    go false h e = absurd (cc)

in_input : (i : InputPlan-F InputPlan) (l : Lines) → lines_in i ≡ Some l → Delimits l.cuts.delimiter
in_input (InputPlan-F.Stdin d p) l e = by_delimiter None d p l e
in_input (InputPlan-F.File ns d p) l e = by_delimiter (Some ns) d p l e
in_input (InputPlan-F.Csv ns c h) l e = absurd (cc)
in_input (InputPlan-F.Sequence is) l e = absurd (cc)
in_input (InputPlan-F.Until i r) l e = absurd (cc)
in_input (InputPlan-F.Regroup i p) l e = absurd (cc)

pub delimiter_fits : (i : InputPlan) (l : Lines) → lines_of i ≡ Some l → Delimits l.cuts.delimiter
delimiter_fits i l e = in_input (out-InputPlan i) l e

-- the parts that a plan derives depend on the moment and the items of a transaction alone
pub reads_items : (p : Plan) → ReadsItems as_plan p
reads_items p t u n m i =
    ap (λ moment. parts_by p.procs p.output moment t.items.list) m ∙ ap (λ items. parts_by p.procs p.output u.moment items) i
