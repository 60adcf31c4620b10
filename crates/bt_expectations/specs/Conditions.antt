-- Conditions on a message, one case each.
use Rattle.std.specs.Prelude.{ℕ, List, map, codes, Bool, true, false, Option, Some, None, Result, Ok, Err, unwrap_or, if◌then◌else◌}
use Rattle.std.specs.List.{list_all}
use Rattle.std.specs.Str.{bytes_eq, is_utf8}
use Rattle.bt_value.specs.Keys.{find}
use Rattle.bt_value.specs.Order.{equals}
use Rattle.bt_value.specs.declared.message.Msg.{Msg}
use Rattle.bt_value.specs.declared.val.Val.{Val}
use Rattle.bt_matches.specs.Patterns.{has_match}
use Rattle.bt_meaning.specs.Contents.{document}
use Rattle.bt_meaning.specs.Mapped.{checks}
use Rattle.bt_meaning.specs.declared.content.ContentFault.{ContentFault}
use Rattle.bt_meaning.specs.declared.message.Spot.{Spot}
use Rattle.bt_expectations.specs.Within.{is_within, passes_on}
use Rattle.bt_expectations.specs.declared.condition.Condition.{Condition}
use Rattle.bt_expectations.specs.declared.condition.Condition.TheVariants as condition
use Rattle.bt_expectations.specs.declared.condition.Expectation.{Expectation}
use Rattle.bt_expectations.specs.declared.condition.Expectation.TheVariants as expected

abbrev pub name_of : Condition → List ℕ
name_of condition.Bloblang = codes "bloblang"
name_of condition.ContentEquals = codes "content_equals"
name_of condition.ContentMatches = codes "content_matches"
name_of condition.JsonContains = codes "json_contains"
name_of condition.JsonEquals = codes "json_equals"
name_of condition.MetadataEquals = codes "metadata_equals"

abbrev pub condition_of : Expectation → Condition
condition_of (expected.Bloblang r) = condition.Bloblang
condition_of (expected.ContentEquals t) = condition.ContentEquals
condition_of (expected.ContentMatches p) = condition.ContentMatches
condition_of (expected.JsonContains v) = condition.JsonContains
condition_of (expected.JsonEquals v) = condition.JsonEquals
condition_of (expected.MetadataEquals ms) = condition.MetadataEquals

-- the content is UTF-8, and the pattern of a text has a match in it
abbrev pub matches : List ℕ → List ℕ → Bool
matches pattern content = if is_utf8 content then unwrap_or (has_match pattern content) false else false

-- the content reads as a value that passes a test
abbrev pub reads_as : (Val → Bool) → Result Val ContentFault → Bool
reads_as test (Ok v) = test v
reads_as test (Err fault) = false

-- each member equals the metadata of that key; a key that isn't there equals nothing
abbrev pub has_metadata : List (List ℕ × Val) → List (List ℕ × Val) → Bool
has_metadata ms meta = list_all (λ m. passes_on (equals m.1) (find m.0 meta)) ms

-- A message at a place of its batch is as expected.
abbrev pub holds : Expectation → Msg → Spot → Bool
holds (expected.Bloblang r) msg spot = checks r.mapping msg spot
holds (expected.ContentEquals t) msg spot = bytes_eq msg.content t
holds (expected.ContentMatches p) msg spot = matches p msg.content
holds (expected.JsonContains v) msg spot = reads_as (is_within v) (document msg.content)
holds (expected.JsonEquals v) msg spot = reads_as (equals v) (document msg.content)
holds (expected.MetadataEquals ms) msg spot = has_metadata ms msg.meta
