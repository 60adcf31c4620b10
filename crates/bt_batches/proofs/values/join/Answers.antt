use Rattle.std.proofs.Common.{◌≡◌, ◌++◌, ◌∷◌, List, [], Some, None, sym, ◌∙◌, ap, subst, rules}
use Rattle.std.proofs.lemmas.List.{length-map}
use Rattle.std.specs.BTreeMap.{get_by_text}
use Rattle.bt_batches.specs.declared.piece.Piece.{Piece}
use Rattle.bt_batches.specs.Gathered.{IsGathered}
use Rattle.bt_batches.proofs.Gathering.{joins_known, joins_new}
use Rattle.bt_batches.proofs.values.join.Goals as goal

pub push_at-requires : goal.push_at-requires
push_at-requires c = c.requires c.args.message.0 c.in-Some.i (sym (ap (get_by_text c.args.places.now) c.as_str.ensures) ∙ sym c.place_of.ensures ∙ c.in-Some.is)

pub returns-in_ok-push_at-in-Some : goal.returns-in_ok-push_at-in-Some
returns-in_ok-push_at-in-Some c = λ ks g.
    let at : get_by_text c.args.places.now c.args.message.0 ≡ Some c.in-Some.i = sym (ap (get_by_text c.args.places.now) c.as_str.ensures) ∙ sym c.place_of.ensures ∙ c.in-Some.is in
    subst (λ (bs : List (List Piece)). IsGathered (ks ++ c.args.message ∷ []) (get_by_text c.args.places.now) bs) (sym c.in_ok-push_at-in-Some.ensures) (joins_known ks c.args.message (get_by_text c.args.places.now) _ c.in-Some.i g at)

pub returns-in_ok-push_new-in-None : goal.returns-in_ok-push_new-in-None
returns-in_ok-push_new-in-None c = λ ks g.
    let at : get_by_text c.args.places.now c.args.message.0 ≡ None = sym (ap (get_by_text c.args.places.now) c.as_str.ensures) ∙ sym c.place_of.ensures ∙ c.in-None.is in
    subst (λ (bs : List (List Piece)). IsGathered (ks ++ c.args.message ∷ []) (get_by_text c.push_new.new.places) bs) (sym c.in_ok-push_new-in-None.ensures.batches)
    (joins_new ks c.args.message (get_by_text c.args.places.now) (get_by_text c.push_new.new.places) _ _ g at c.in_ok-push_new-in-None.ensures.places (search (rules, length-map)))
