-- The verdict on an item by the states, as 'lost, and the verdict' has it.
use Rattle.std.specs.Prelude.{ℕ, ◌+◌, Bool, cond, eqb, ltb, ◌&&◌, List, [], ◌∷◌, Option, Some, None}
use Rattle.bt_demand.specs.Outcomes.{lost}
use Rattle.bt_demand.specs.Parts.{Part}
use Rattle.bt_demand.specs.Tree.{Tree}
use Rattle.bt_demand.specs.View.{tree}
use Rattle.bt_demand.specs.declared.routes.Routed.{Routed}
use Rattle.bt_demand.specs.Reasons.{least, refused_leaves, why}
use Rattle.bt_ledger.specs.Open.{Open, tree_of}
use Rattle.bt_ledger.specs.Due.{times, open_parts}
use Rattle.bt_ports.specs.declared.parts.Verdict.{Verdict}
use Rattle.bt_ports.specs.declared.parts.Verdict.TheVariants.{Ack, Refused}
use Rattle.bt_ports.specs.declared.parts.Cause.TheVariants.{SinkFault, Rejected}

abbrev pub is_lost_from : ℕ → Part → Bool
is_lost_from i p = ltb 0 (times i p.from) && lost p.demand

-- the least lost part that comes from an item, where the first of these parts has the number k
abbrev pub lost_from : ℕ → ℕ → List Part → Option ℕ
lost_from i k [] = None
lost_from i k (p ∷ ps) = cond (is_lost_from i p) (Some k) (lost_from i (k + 1) ps)

-- of a lost part: the fault of its least refused leaf, or that it was rejected
abbrev pub refusal : ℕ → Option ℕ → Verdict
refusal p None = Refused (Rejected p)
refusal p (Some l) = Refused (SinkFault l p)

abbrev pub verdict_by : List Part → Option ℕ → Verdict
verdict_by ps None = Ack
verdict_by ps (Some p) = refusal p (least (refused_leaves (tree_of ps p)))

abbrev pub verdict_of : Open → ℕ → Option Verdict
verdict_of o i = cond (eqb (open_parts i o.parts) 0) (Some (verdict_by o.parts (lost_from i 0 o.parts))) None

abbrev pub text_or : Option (List ℕ) → List ℕ
text_or None = []
text_or (Some w) = w

abbrev pub why_unless : Tree → Option ℕ → List ℕ
why_unless t None = text_or (why t)
why_unless t (Some l) = []

abbrev pub why_by : List Part → Option ℕ → List ℕ
why_by ps None = []
why_by ps (Some p) = why_unless (tree_of ps p) (least (refused_leaves (tree_of ps p)))

-- the text of a part that was rejected, and no text for every other verdict
abbrev pub why_of : Open → ℕ → List ℕ
why_of o i = why_by o.parts (lost_from i 0 o.parts)

abbrev pub part_of : Routed → Part
part_of r = record { from = r.from; demand = tree r.demand }
