-- A row as a type that may hold the type that holds it.
use mathlib.Core.Path.{◌≡◌, refl, sym, ap}
use mathlib.Core.List.{List, []}
use mathlib.Core.Former.{Former, this, const, pair, list, via, children}
use base.Stored.{code_map, Gv, gcons, gnum}
use Prim.Native.Nat.{ℕ}
use denote.RattleType.{RattleType}
use denote.HoleLaws.{Alike}
use denote.HolePlaces.{Recodes, struct_places, laid}
use denote.Hole.Carrier.{listed, list-listed}
use denote.Hole.Fix.{over}
use denote.Param.Weighed.{Weighed, w_list}
use denote.Model.Placed.{view_places}
use Rattle.std.specs.formers.vec.Vec as vec
use Rattle.std.specs.declared.alloc.Global.{Global}
use Rattle.std.specs.contracts.alloc.Global as heap
use Rattle.std.specs.contracts.impls.GlobalAllocator.TheImpl.{ghosts}
use Rattle.bt_ports.specs.Contents.{Contents}
use Rattle.bt_ports.specs.declared.sequence.Sequence.TheInside.{Inside}
use Rattle.bt_ports.specs.declared.sequence.Sequence.TheView.{view, invariant}
use Rattle.bt_ports.specs.contracts.sequence.Sequence as C
use Rattle.bt_ports.specs.contracts.sequence.Sequence.TheInside as I

abbrev pub the_former : Former {0} → Former {0}
the_former g = via (pair (list g) (const ℕ)) (λ X. Contents (g.Of X)) (λ X s. (s.list, s.spare)) (λ X v. record { list = v.0; spare = v.1 }) (λ X a. refl) (λ X v. refl)

abbrev pub the_weighed : {g : Former {0}} → Weighed g → Weighed (the_former g)
the_weighed w = record { weight = λ X μ d. (w_list w).weight X μ d.list; puts = λ X μ d. (w_list w).puts X μ d.list }

pub the_empty : Contents ⊥
the_empty = record { list = []; spare = 0 }

abbrev pub the_items : (X : Type 0) → Contents X → List X
the_items X d = d.list

pub the_items_listed : (X : Type 0) (d : Contents X) → listed _ (children (the_former this) X d) ≡ the_items X d
the_items_listed X d = list-listed X d.list

abbrev fields : Former {0}
fields = via (vec.the_former this Global) Inside (λ X a. a.vec) (λ X v. record { vec = v }) (λ X a. refl) (λ X v. refl)

module _ (R S : RattleType) (h : R.Denot → S.Denot) where
  pub the_places : Alike R S h → Alike (C.the_row R) (C.the_row S) ((the_former this).map R.Denot S.Denot h)
  the_places a = view_places fields (the_former this) view (λ X Y k u. refl) (λ X u. refl) R.Denot S.Denot h (C.the_row R).coded (C.the_row S).coded
      (invariant R.Denot) (invariant S.Denot) (λ u p q. refl) (λ u p q. refl) (λ u e. tt) (λ u e. tt)
      (over (I.the_row R)) (over (I.the_row S))
      (struct_places (I.the_type R) (I.the_type S) (vec.mapped h, tt) _ (λ d. refl) refl (laid _ _ _ (vec.the_places heap.the_row ghosts R S h a), tt))

  pub the_codes_placed : Recodes R S h → Recodes (C.the_row R) (C.the_row S) ((the_former this).map R.Denot S.Denot h)
  the_codes_placed e d = ap (λ (c : Gv). gcons c (gnum d.spare)) (sym (code_map R.coded.code S.coded.code h (λ x. sym (e x)) d.list))
