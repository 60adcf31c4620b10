-- The parts of messages, one after another.
use Rattle.std.proofs.Common.{◌≡◌, ◌+◌, ℕ, suc, List, [], ◌∷◌, ◌++◌, refl, sym, ap, ◌∙◌, subst, add-one, append_assoc}
use Rattle.bt_demand.specs.Parts.{Part, parts_of}
use Rattle.bt_demand.specs.Tree.{Tree}
use Rattle.bt_demand.specs.View.{tree}
use Rattle.bt_demand.specs.declared.routes.Routed.{Routed}
use Rattle.bt_messages.specs.Messages.{spot}
use Rattle.bt_outputs.specs.Asked.{asked}
use Rattle.bt_outputs.specs.declared.output.Output.{Output}
use Rattle.bt_batches.specs.declared.piece.Piece.{Piece}
use Rattle.bt_parts.specs.Parts.{parts_from}

abbrev part_of : Routed → Part
part_of r = record { from = r.from; demand = tree r.demand }

pub parts-push : (rs : List Routed) (r : Routed) → parts_of (rs ++ (r ∷ [])) ≡ parts_of rs ++ (part_of r ∷ [])
parts-push [] r = refl
parts-push (q ∷ rs) r = ap (λ v. part_of q ∷ v) (parts-push rs r)

-- the part of the message that comes next
pub part_more : (o : Output) (moment size i j : ℕ) (rs ss : List Routed) (r : Routed) (p : Piece) (ps qs : List Piece) (whole : List Part) → ss ≡ rs ++ (r ∷ []) → r.from ≡ p.from → tree r.demand ≡ asked o p.msg (spot size moment j) →
    j ≡ i → qs ≡ p ∷ ps → parts_of rs ++ parts_from o moment size i qs ≡ whole → parts_of ss ++ parts_from o moment size (i + 1) ps ≡ whole
part_more o moment size i j rs ss r p ps qs whole pushed from demand at next h =
    let rest : List Part = parts_from o moment size (suc i) ps in
    let wanted : tree r.demand ≡ asked o p.msg (spot size moment i) = subst (λ k. tree r.demand ≡ asked o p.msg (spot size moment k)) at demand in
    let same : part_of r ≡ record { from = p.from; demand = asked o p.msg (spot size moment i) } =
    subst (λ (v : Tree). part_of r ≡ record { from = p.from; demand = v }) wanted (subst (λ (v : List ℕ). part_of r ≡ record { from = v; demand = tree r.demand }) from refl) in
    let known : parts_of rs ++ (record { from = p.from; demand = asked o p.msg (spot size moment i) } ∷ rest) ≡ whole = subst (λ (v : List Piece). parts_of rs ++ parts_from o moment size i v ≡ whole) next h in
    let here : parts_of rs ++ (part_of r ∷ rest) ≡ whole = subst (λ (v : Part). parts_of rs ++ (v ∷ rest) ≡ whole) (sym same) known in
    let there : parts_of ss ++ rest ≡ whole = subst (λ (v : List Routed). parts_of v ++ rest ≡ whole) (sym pushed) (ap (λ v. v ++ rest) (parts-push rs r) ∙ append_assoc (parts_of rs) (part_of r ∷ []) rest ∙ here) in
    rw add-one there
