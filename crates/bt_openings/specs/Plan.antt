-- Which calls of the world open a run, in their order.
use Rattle.std.specs.Prelude.{ℕ, List, [], ◌∷◌, ◌++◌, map, Option, Some, None}
use Rattle.bt_commands.specs.Calls.{asked, source_opening}
use Rattle.bt_ports.specs.declared.parts.Asked.{Asked}
use Rattle.bt_ports.specs.declared.parts.What.TheVariants.{Sink, Answers, Source}

-- the openings of sinks by name, each with its closing bytes
abbrev pub sink_openings : (names ends : List (List ℕ)) → List Asked
sink_openings [] ends = []
sink_openings (n ∷ ns) [] = []
sink_openings (n ∷ ns) (e ∷ es) = asked Sink (Some n) (Some e) ∷ sink_openings ns es

-- the opening of the answers, with their file where there is one
abbrev pub answers_opening : Option (List ℕ) → Asked
answers_opening path = asked Answers path None

-- the opening of a source by its name
abbrev pub opening_of : List ℕ → Asked
opening_of name = asked Source (Some name) None

-- the openings of what is read: the standard input, or files in order
abbrev pub source_openings : Option (List (List ℕ)) → List Asked
source_openings None = source_opening ∷ []
source_openings (Some paths) = map opening_of paths

-- all openings of a run: the sinks in order, then the answers, and then the sources in order
abbrev pub openings : (names ends : List (List ℕ)) → (answers : Option (List ℕ)) → (files : Option (List (List ℕ))) → List Asked
openings names ends answers files = sink_openings names ends ++ answers_opening answers ∷ source_openings files
