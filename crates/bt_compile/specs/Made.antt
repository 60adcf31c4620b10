-- Processors with their texts left blank, and what their texts were made ready as.
use Rattle.std.specs.Prelude.{◌≡◌, ℕ, List, [], ◌∷◌, ◌++◌, Option, Some, None, map}
use Rattle.bt_value.specs.declared.val.Val.{Val}
use Rattle.bt_ready.specs.declared.ready.Ready.{Ready}
use Rattle.bt_messages.specs.Cases.{in_branch, in_case}
use Rattle.bt_messages.specs.declared.tree.Branch.{Branch}
use Rattle.bt_messages.specs.declared.tree.Case.{Case}
use Rattle.bt_messages.specs.declared.tree.MessageProcessor.{MessageProcessor, fold-MessageProcessor}
use Rattle.bt_messages.specs.declared.tree.MessageProcessor.TheOpen.{MessageProcessor-F}
use Rattle.bt_messages.specs.declared.tree.MessageProcessor.TheVariants as single
use Rattle.bt_proc.specs.declared.tree.Group.{Group}
use Rattle.bt_proc.specs.declared.tree.Processor.{Processor, fold-Processor}
use Rattle.bt_proc.specs.declared.tree.Processor.TheOpen.{Processor-F}
use Rattle.bt_proc.specs.declared.tree.Processor.TheVariants as processor
use Rattle.bt_making.specs.Sources.{AreMade, Part, mapping, pieces}
use Rattle.bt_compile.specs.Outlines.{blank, no_pieces}
use Rattle.bt_compile.specs.Reading.{reading}

-- lists put end to end
abbrev pub joined : {A : Type 0} → List (List A) → List A
joined [] = []
joined (xs ∷ xss) = xs ++ joined xss

-- ---- with blanks

abbrev pub blank_of : Option Ready → Option Ready
blank_of (Some r) = Some blank
blank_of None = None

abbrev pub blank_case : Case MessageProcessor → Case MessageProcessor
blank_case k = record k { check = blank_of k.check }

abbrev pub blank_branch : Branch MessageProcessor → Branch MessageProcessor
blank_branch b = record b { request = blank_of b.request; result = blank_of b.result }

abbrev pub blank_single_step : MessageProcessor-F MessageProcessor → MessageProcessor
blank_single_step (MessageProcessor-F.Mapping r) = single.Mapping blank
blank_single_step (MessageProcessor-F.Try ps) = single.Try ps
blank_single_step (MessageProcessor-F.ForEach ps) = single.ForEach ps
blank_single_step (MessageProcessor-F.Catch ps) = single.Catch ps
blank_single_step (MessageProcessor-F.Switch ks) = single.Switch (map blank_case ks)
blank_single_step (MessageProcessor-F.Branch b) = single.Branch (blank_branch b)

-- a processor that gives one message or none for each, with its texts left blank
abbrev pub blank_single : MessageProcessor → MessageProcessor
blank_single = fold-MessageProcessor MessageProcessor blank_single_step

abbrev pub blank_group : Group Processor → Group Processor
blank_group g = record g { check = blank }

abbrev pub blank_step : Processor-F Processor → Processor
blank_step (Processor-F.Message p) = processor.Message (blank_single p)
blank_step (Processor-F.Try ps) = processor.Try ps
blank_step (Processor-F.ForEach ps) = processor.ForEach ps
blank_step (Processor-F.Catch ps) = processor.Catch ps
blank_step (Processor-F.Split size) = processor.Split size
blank_step (Processor-F.GroupBy gs) = processor.GroupBy (map blank_group gs)
blank_step (Processor-F.GroupByValue bits) = processor.GroupByValue no_pieces
blank_step (Processor-F.Archive f) = processor.Archive f
blank_step (Processor-F.Unarchive f) = processor.Unarchive f

-- any processor, with its texts left blank
abbrev pub blanked : Processor → Processor
blanked = fold-Processor Processor blank_step

-- ---- what the texts were made ready as, in their order

abbrev pub part_of : Option Ready → List Part
part_of (Some r) = mapping r ∷ []
part_of None = []

abbrev pub case_parts : Case (List Part) → List Part
case_parts k = part_of k.check ++ joined k.processors

abbrev pub branch_parts : Branch (List Part) → List Part
branch_parts b = joined b.processors ++ part_of b.request ++ part_of b.result

abbrev pub single_parts_step : MessageProcessor-F (List Part) → List Part
single_parts_step (MessageProcessor-F.Mapping r) = mapping r ∷ []
single_parts_step (MessageProcessor-F.Try ps) = joined ps
single_parts_step (MessageProcessor-F.ForEach ps) = joined ps
single_parts_step (MessageProcessor-F.Catch ps) = joined ps
single_parts_step (MessageProcessor-F.Switch ks) = joined (map case_parts ks)
single_parts_step (MessageProcessor-F.Branch b) = branch_parts b

abbrev pub single_parts : MessageProcessor → List Part
single_parts = fold-MessageProcessor (List Part) single_parts_step

abbrev pub in_group : {A B : Type 0} → (A → B) → Group A → Group B
in_group f g = record { check = g.check; processors = map f g.processors }

abbrev pub group_parts : Group (List Part) → List Part
group_parts g = mapping g.check ∷ joined g.processors

abbrev pub parts_step : Processor-F (List Part) → List Part
parts_step (Processor-F.Message p) = single_parts p
parts_step (Processor-F.Try ps) = joined ps
parts_step (Processor-F.ForEach ps) = joined ps
parts_step (Processor-F.Catch ps) = joined ps
parts_step (Processor-F.Split size) = []
parts_step (Processor-F.GroupBy gs) = joined (map group_parts gs)
parts_step (Processor-F.GroupByValue bits) = pieces bits.list ∷ []
parts_step (Processor-F.Archive f) = []
parts_step (Processor-F.Unarchive f) = []

abbrev pub parts : Processor → List Part
parts = fold-Processor (List Part) parts_step
