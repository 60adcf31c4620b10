-- What forms with parts mean, by their parts.
use Rattle.std.proofs.Common.{◌≡◌, ◌∙◌, List, Option, map, sym, ap}
use Rattle.bt_tree.specs.declared.tree.Word.{Word}
use Rattle.bt_tree.specs.declared.tree.Query.{Query, fold-roll-Query}
use Rattle.bt_tree.specs.declared.tree.Query.TheVariants as e
use Rattle.bt_tree.specs.declared.tree.Query.TheOpen.{Query-F}
use Rattle.bt_tree.specs.declared.tree.Suffix.{Suffix}
use Rattle.bt_tree.specs.declared.tree.Arg.{Arg}
use Rattle.bt_tree.specs.declared.tree.Case.{Case}
use Rattle.bt_tree.specs.declared.tree.Branch.{Branch}
use Rattle.bt_tree.proofs.MapLayers.{map-Call, map-Item, map-Match, map-If}
use Rattle.bt_meaning.specs.Contexts.{Where, Sense}
use Rattle.bt_meaning.specs.Value.{sense, sense_of, value}
use Rattle.bt_queries.specs.Views as views

pub item_is : (q : Query) (xs : List (Suffix Query)) (c : Where) → value (e.Item q xs) c ≡ views.item_value q xs c
item_is q xs c = ap (λ (s : Sense). s.at c) (ap sense (sym (e.rolls-Item q xs)) ∙ fold-roll-Query Sense sense_of (Query-F.Item q xs) ∙ ap sense_of (map-Item sense q xs))

pub call_is : (w : Word) (xs : List (Arg Query)) (c : Where) → value (e.Call w xs) c ≡ views.call_value w.text xs c
call_is w xs c = ap (λ (s : Sense). s.at c) (ap sense (sym (e.rolls-Call w xs)) ∙ fold-roll-Query Sense sense_of (Query-F.Call w xs) ∙ ap sense_of (map-Call sense w xs))

pub match_is : (t : Option Query) (xs : List (Case Query)) (c : Where) → value (e.Match t xs) c ≡ views.match_value t xs c
match_is t xs c = ap (λ (s : Sense). s.at c) (ap sense (sym (e.rolls-Match t xs)) ∙ fold-roll-Query Sense sense_of (Query-F.Match t xs) ∙ ap sense_of (map-Match sense t xs))

pub if_is : (bs : List (Branch Query)) (t : Option Query) (c : Where) → value (e.If bs t) c ≡ views.if_value bs t c
if_is bs t c = ap (λ (s : Sense). s.at c) (ap sense (sym (e.rolls-If bs t)) ∙ fold-roll-Query Sense sense_of (Query-F.If bs t) ∙ ap sense_of (map-If sense bs t))

pub coal_is : (q : Query) (qs : List Query) (c : Where) → value (e.Coalesce q qs) c ≡ views.coal_value q qs c
coal_is q qs c = ap (λ (s : Sense). s.at c) (ap sense (sym (e.rolls-Coalesce q qs)) ∙ fold-roll-Query Sense sense_of (Query-F.Coalesce q qs))
