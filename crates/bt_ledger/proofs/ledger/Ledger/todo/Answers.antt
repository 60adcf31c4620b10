use Rattle.std.proofs.Common.{◌≡◌, ap, sym, ◌∙◌, subst, length, ℕ, ◌<◌, Option, Some, None, refl, get_or}
use Rattle.bt_demand.specs.Next.{todo}
use Rattle.bt_demand.specs.declared.todo.Todo.{Todo}
use Rattle.bt_demand.specs.declared.todo.Todo.TheVariants.{Put, Wait, Settled}
use Rattle.bt_ledger.specs.Calls.{TodoFits}
use Rattle.bt_ledger.specs.Book.{Booked}
use Rattle.bt_ledger.specs.Ledger.{Ledger, part_tree, parts_in}
use Rattle.bt_ledger.specs.Open.{tree_of}
use Rattle.bt_ledger.specs.declared.slot.Slot.{Slot}
use Rattle.bt_ledger.specs.declared.slot.Slot.TheVariants.{Free, Given}
use Rattle.std.proofs.lemmas.List.{get_or_default}
use Rattle.bt_ledger.proofs.Keeping.{next_known}
use Rattle.bt_ledger.proofs.ledger.Ledger.todo.Goals as goal

fits_by : (k : ℕ) (o : Option Todo) → ((n : ℕ) → o ≡ Some (Wait n) → n < k) → TodoFits k o
fits_by k None h = tt
fits_by k (Some (Put l j)) h = tt
fits_by k (Some (Wait n)) h = h n refl
fits_by k (Some (Settled b)) h = tt

pub returns-in-Given-clause-known : goal.returns-in-Given-clause-known
returns-in-Given-clause-known c =
    let book : Booked c.args.self.now = subst Booked c.self.view_is c.self.invariant.book in
    let within : c.args.slot < length c.self.inside.slots.items = subst (λ (x : Ledger). c.args.slot < length x.slots) (sym c.self.view_is) c.requires.0 in
    let here : Given c.in-Given.open ≡ get_or c.self.inside.slots.items c.args.slot Free = sym c.in-Given.is ∙ c.index.ensures ∙ get_or_default c.self.inside.slots.items c.args.slot c.index.result.now Free within in
    let next : c.todo.result ≡ todo (part_tree c.args.self.now c.args.slot c.args.part) = c.todo.ensures ∙ ap (λ (x : Slot). todo (tree_of (parts_in x) c.args.part)) here ∙ ap (λ (x : Ledger). todo (part_tree x c.args.slot c.args.part)) c.self.view_is in
    fits_by (length c.args.self.now.policies) c.todo.result (λ n e. next_known c.args.self.now c.args.slot c.args.part n book (sym next ∙ e))
