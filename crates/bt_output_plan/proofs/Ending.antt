-- Sinks of leaves that stand behind others.
use Rattle.std.proofs.Common.{◌≡◌, ℕ, zero, suc, ◌+◌, ◌<◌, List, [], ◌∷◌, ◌++◌, drop, get_or, length, map, refl, sym, ap, ◌∙◌, add-one, arith}
use Rattle.bt_outlines.specs.Outlines.{joined}
use Rattle.bt_output_plan.specs.Drafts.{End}
use Rattle.bt_output_plan.specs.Sinks.{with_end, with_ends}

pub with_more : (sinks es more : List End) → with_ends sinks (es ++ more) ≡ with_ends (with_ends sinks es) more
with_more sinks [] more = refl
with_more sinks (e ∷ es) more = with_more (with_end sinks e) es more

behind : {V : Type 0} (vs : List V) (i : ℕ) (d : V) → i < length vs → drop i vs ≡ get_or vs i d ∷ drop (suc i) vs
behind [] i d inside = absurd (omega arith)
behind (v ∷ vs) zero d inside = refl
behind (v ∷ vs) (suc i) d inside = behind vs i d (omega arith)

left : {V : Type 0} (vs : List V) (i : ℕ) (v : V) → i < length vs → v ≡ get_or vs i v → drop i vs ≡ v ∷ drop (i + 1) vs
left vs i v inside there = rw add-one (behind vs i v inside ∙ ap (λ w. w ∷ drop (suc i) vs) (sym there))

-- one more element's sinks
pub ends_next : {V R : Type 0} (reading : V → R) (g : R → List End) (vs : List V) (i : ℕ) (v : V) (now later : List End) → i < length vs → v ≡ get_or vs i v →
    later ≡ with_ends now (g (reading v)) → with_ends later (joined (map g (map reading (drop (i + 1) vs)))) ≡ with_ends now (joined (map g (map reading (drop i vs))))
ends_next reading g vs i v now later inside there pushed =
    ap (λ s. with_ends s (joined (map g (map reading (drop (i + 1) vs))))) pushed
    ∙ sym (with_more now (g (reading v)) (joined (map g (map reading (drop (i + 1) vs)))))
    ∙ ap (λ l. with_ends now (joined (map g (map reading l)))) (sym (left vs i v inside there))
