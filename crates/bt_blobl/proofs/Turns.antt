-- One turn of the lines of `blobl`.
use Rattle.std.proofs.Common.{◌≡◌, ℕ, ◌+◌, List, [], map, refl, ap, sym, ◌∙◌, IsTrue, Bool, Some, slice_get, Result, Ok, Err, append-nil, option_map}
use Rattle.std.proofs.lemmas.Option.{slice_get-map}
use Rattle.bt_ports.specs.Contents.{Contents}
use Rattle.bt_ports.specs.World.{Tale}
use Rattle.bt_ports.specs.declared.outside.Source as Source
use Rattle.bt_ports.specs.declared.parts.Item.{Item}
use Rattle.bt_commands.specs.Input.{batches}
use Rattle.bt_intake.specs.Sources.{all_tell, told}
use Rattle.bt_commands.specs.View.{InputView}
use Rattle.bt_blobl.specs.Inside.{LineShown, TurnResult, SameLines, IsBreak, AnswerIs, NextLines, all_lines}
use Rattle.bt_blobl.specs.Meaning.{Task, line_bytes, outcome}
use Rattle.bt_blobl.specs.declared.course.PassStop.{PassStop}
use Rattle.bt_blobl.specs.declared.course.PassStop.TheVariants as stops

-- an outcome that wasn't told whole is no answer of the intake
answer-free : {S : Type 0} (stop : PassStop) (j : InputView S) → IsBreak stop → AnswerIs stop j.stopped
answer-free stops.Ended j b = absurd b
answer-free stops.ReadFault j b = absurd b
answer-free (stops.LongLine n) j b = absurd b
answer-free stops.Bound j b = absurd b
answer-free stops.PrintFailed j b = tt
answer-free stops.NoMemory j b = tt

gave-next : (stop : PassStop) (line : List ℕ) (before given : ℕ) (all : List (List ℕ)) → IsBreak stop → slice_get all before ≡ Some line → NextLines stop line before given all
gave-next stops.Ended line before given all b at = absurd b
gave-next stops.ReadFault line before given all b at = absurd b
gave-next (stops.LongLine n) line before given all b at = absurd b
gave-next stops.Bound line before given all b at = absurd b
gave-next stops.PrintFailed line before given all b at = at
gave-next stops.NoMemory line before given all b at = tt

module _ {S : Type 0} (gs : Source.Ghosts S) (i j : InputView S)
    (telling : IsTrue (all_tell gs j.sources.list) → IsTrue (all_tell gs i.sources.list))
    (same : IsTrue (all_tell gs j.sources.list) → batches j.bound (told gs j.sources.list) ≡ batches i.bound (told gs i.sources.list)) where
  same-lines : SameLines gs i j
  same-lines t = (telling t, ap (map line_bytes) (same t))

  module _ {E I : Type 0} (m : Task) (n : ℕ) (tells prints says : Bool) where
    -- memory was wanting before a line was taken
    pub turns-starved : (a : Tale E I) → TurnResult gs m n (Err stops.NoMemory) i j tells prints says a a
    turns-starved a = (
      record {
        line = [];
        breaks = record { prefix = []; prefix_is = refl; printed = λ t p. sym (append-nil a.printed); said = λ t p. refl };
        answer = tt;
        gave = λ t. tt;
      },
      same-lines,
    )

    module _ (items : Contents Item) (a b : Tale E I)
        (gives : IsTrue (all_tell gs j.sources.list) → (j.given ≡ i.given + 1) × (slice_get (batches i.bound (told gs i.sources.list)) i.given ≡ Some items.list)) where
      here : IsTrue (all_tell gs j.sources.list) → slice_get (all_lines gs j) i.given ≡ Some (line_bytes items.list)
      here t =
          ap (λ (ls : List (List ℕ)). slice_get ls i.given) (ap (map line_bytes) (same t))
          ∙ slice_get-map line_bytes (batches i.bound (told gs i.sources.list)) i.given ∙ ap (option_map line_bytes) (gives t).1

      -- a line was taken, and this became of it
      pub turns-taken : (r : Result Bool PassStop) → LineShown r n (outcome m (line_bytes items.list)) tells prints says a b → TurnResult gs m n r i j tells prints says a b
      turns-taken (Ok fault) e = (record { line = line_bytes items.list; fault_is = e.0; tells_it = e.1; given = λ t. ((gives t).0, here t) }, same-lines)
      turns-taken (Err stop) e = (record { line = line_bytes items.list; breaks = e.1; answer = answer-free stop j e.0; gave = λ t. gave-next stop _ _ _ _ e.0 (here t) }, same-lines)
