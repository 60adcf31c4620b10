-- Trees that stay late, and chains that stay.
use Rattle.std.proofs.Common.{◌≡◌, ℕ, ◌<◌, Bool, true, List, [], ◌∷◌, ◌++◌, length, get_or, set, inl, inr, arith, refl, sym, ap, ◌∙◌, Option, Some, None, MatchOption, get_or-set_same, get_or-set_other}
use Rattle.std.proofs.lemmas.Bool.Decides.{eqb_tells}
use Rattle.bt_chains.specs.declared.Entry.{Entry}
use Rattle.bt_demand.specs.Find.{begun}
use Rattle.bt_demand.specs.Flushing.{Moves}
use Rattle.bt_demand.specs.Next.{todo}
use Rattle.bt_demand.specs.Steps.{settle, wait, release, state_for}
use Rattle.bt_demand.specs.Tree.{Tree}
use Rattle.bt_demand.specs.declared.todo.Todo.TheVariants.{Wait}
use Rattle.bt_demand.proofs.Flushing.{late_stays, late_next}
use Rattle.bt_demand.proofs.Moves.{settle_steps, wait_steps, release_steps}
use Rattle.bt_ledger.specs.Book.{IsFront}
use Rattle.bt_ledger.specs.Calls.{waited, entry_of, Released as ReleasedTo}
use Rattle.bt_ledger.specs.Ledger.{Ledger, parts_in, part_tree, IsPart, with_slot, with_part, chain_at}
use Rattle.bt_ledger.specs.Open.{tree_of}
use Rattle.bt_ledger.specs.declared.slot.Slot.{Slot}
use Rattle.bt_ledger.specs.declared.slot.Slot.TheVariants.{Free}
use Rattle.bt_ledger.proofs.Room.{part_cases}
use Rattle.bt_moves.specs.Moves.{Answering, AllLate, LateKeeps, LateKeepsBut, PopKeepsLate}
use Rattle.bt_moves.proofs.Moves.{front_cases, answering_tree, front_begun}

pub late_same : (n : ℕ) (l : Ledger) → LateKeeps n l l
late_same n l h = (h, λ j w. refl)

pub late_joins : (n : ℕ) (l m k : Ledger) → LateKeeps n l m → LateKeeps n m k → LateKeeps n l k
late_joins n l m k f g h = let x = f h in let y = g x.0 in (y.0, λ j w. y.1 j w ∙ x.1 j w)

pub but_same_late : (c n : ℕ) (l : Ledger) → LateKeepsBut c n l l
but_same_late c n l h = (h, λ j w d. refl)

pub but_joins_late : (c n : ℕ) (l m k : Ledger) → LateKeepsBut c n l m → LateKeepsBut c n m k → LateKeepsBut c n l k
but_joins_late c n l m k f g h = let x = f h in let y = g x.0 in (y.0, λ j w d. y.1 j w d ∙ x.1 j w d)

pub keeps_but_late : (c n : ℕ) (l m : Ledger) → LateKeeps n l m → LateKeepsBut c n l m
keeps_but_late c n l m f h = let x = f h in (x.0, λ j w d. x.1 j w)

-- a release of a later hold leaves the chains up to n
pub above_keeps : (c n : ℕ) (l m : Ledger) → n < c → LateKeepsBut c n l m → LateKeeps n l m
above_keeps c n l m w f h = let x = f h in (x.0, λ j v. x.1 j v (λ e. absurd (omega arith)))

late_with : (n : ℕ) (l : Ledger) (s p : ℕ) (t : Tree) (cs : List (List Entry)) → IsPart l s p → begun (part_tree l s p) ≡ true → Moves n (part_tree l s p) t → AllLate n l → AllLate n (record (with_part l s p t) { chains = cs })
late_with n l s p t cs h u m f a b v = elim (part_cases l s p t a b h) [
  | inl i ↦ rw i.1 (late_stays n (part_tree l s p) t m (f s p u))
  | inr i ↦ rw i.1 (f a b (ap begun (sym i.1) ∙ v))
]

pub late_put : (n : ℕ) (l : Ledger) (s p lf : ℕ) (a : Bool) → IsPart l s p → begun (part_tree l s p) ≡ true → LateKeeps n l (with_part l s p (settle lf (state_for a) (part_tree l s p)))
late_put n l s p lf a h u f = (late_with n l s p (settle lf (state_for a) (part_tree l s p)) l.chains h u (settle_steps n lf (state_for a) (part_tree l s p)) f, λ j w. refl)

pub late_wait : (n : ℕ) (l : Ledger) (s p m : ℕ) → IsPart l s p → begun (part_tree l s p) ≡ true → todo (part_tree l s p) ≡ Some (Wait m) → LateKeeps n l (waited l s p m)
late_wait n l s p m h u e f =
    let above = late_next n m (part_tree l s p) (f s p u) e in (
      late_with n l s p (wait m (part_tree l s p)) (set l.chains m (chain_at l m ++ entry_of l s p m ∷ [])) h u (wait_steps n m (part_tree l s p)) f,
      λ j w. get_or-set_other l.chains m j (chain_at l m ++ entry_of l s p m ∷ []) [] (λ i. absurd (omega arith)),
    )

pub late_pop : (l k : Ledger) (m : ℕ) (o : Option Entry) → ReleasedTo l m o k → MatchOption o (chain_at l m ≡ []) (λ e. IsFront l m e) → PopKeepsLate m l k o
late_pop l k m None r f = f
late_pop l k m (Some e) r f = λ n w h.
    let c = front_cases (chain_at l m) l m e k r in
    rw c.2 (
      late_with n l e.slot e.part (release m (part_tree l e.slot e.part)) (set l.chains m c.0) f.part (front_begun l m e f) (release_steps n m (part_tree l e.slot e.part) w) h,
      λ j v d. get_or-set_other l.chains m j c.0 [] d,
    )

pub late_answering : (n s : ℕ) (l m : Ledger) → Answering s l m → LateKeeps n l m
late_answering n s l m a f = (λ x y v. (let e = answering_tree s l m a x y in rw e (f x y (ap begun (sym e) ∙ v))), λ j w. ap (λ (cs : List (List Entry)). get_or cs j []) a.chains)

pub late_close : (n s : ℕ) (m : Ledger) → s < length m.slots → LateKeeps n m (with_slot m s Free)
late_close n s m h f = (
  λ a b v. elim (eqb_tells a s) [
    | inl i ↦ rw (i.1, get_or-set_same m.slots s Free Free h) tt
    | inr i ↦ (let e = get_or-set_other m.slots s a Free Free i.1 in rw e (f a b (ap (λ (x : Slot). begun (tree_of (parts_in x) b)) (sym e) ∙ v)))
  ],
  λ j w. refl,
)
