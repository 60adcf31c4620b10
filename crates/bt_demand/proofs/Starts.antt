-- What is next for two, for a leaf and for a hold.
use Rattle.std.proofs.Common.{◌≡◌, ℕ, true, false, Option, Some, None, ◌⊎◌, inl, inr, refl}
use Rattle.bt_demand.specs.Next.{both, fallback, starts, todo_of_leaf, todo_of_hold}
use Rattle.bt_demand.specs.declared.demand.Stage.{Stage}
use Rattle.bt_demand.specs.declared.demand.Stage.TheVariants.{Untried as Idle, Waiting, Released}
use Rattle.bt_demand.specs.declared.demand.State.{State}
use Rattle.bt_demand.specs.declared.demand.State.TheVariants.{Untried as Fresh, Good, Bad}
use Rattle.bt_demand.specs.declared.todo.Todo.{Todo}
use Rattle.bt_demand.specs.declared.todo.Todo.TheVariants.{Put, Wait, Settled}

-- after what starts nothing, the first that starts is next
pub both-starts : (s a r : Option Todo) → starts s ≡ false → starts a ≡ true → both s (both a r) ≡ a
both-starts s (Some (Settled m)) r e f = cc
both-starts s None r e f = cc
both-starts (Some (Settled m)) (Some (Put l k)) r e f = refl
both-starts (Some (Settled m)) (Some (Wait n)) r e f = refl
both-starts None (Some (Put l k)) r e f = refl
both-starts None (Some (Wait n)) r e f = refl
both-starts (Some (Put l k)) a r e f = cc
both-starts (Some (Wait n)) a r e f = cc

-- two that start nothing start nothing together
pub both-quiet : (a b : Option Todo) → starts a ≡ false → starts b ≡ false → starts (both a b) ≡ false
both-quiet (Some (Put l k)) b e f = cc
both-quiet (Some (Wait n)) b e f = cc
both-quiet a (Some (Put l k)) e f = cc
both-quiet a (Some (Wait n)) e f = cc
both-quiet (Some (Settled m)) (Some (Settled n)) e f = refl
both-quiet (Some (Settled m)) None e f = refl
both-quiet None (Some (Settled n)) e f = refl
both-quiet None None e f = refl

-- where a leaf or a hold is next for two, it is next for one of them
pub both-puts : (a b : Option Todo) (l k : ℕ) → both a b ≡ Some (Put l k) → (a ≡ Some (Put l k)) ⊎ (b ≡ Some (Put l k))
both-puts (Some (Put m j)) b l k e = inl e
both-puts (Some (Wait n)) b l k e = inl e
both-puts (Some (Settled m)) (Some (Put n j)) l k e = inr e
both-puts (Some (Settled m)) (Some (Wait n)) l k e = inr e
both-puts (Some (Settled m)) (Some (Settled n)) l k e = cc
both-puts (Some (Settled m)) None l k e = cc
both-puts None (Some (Put n j)) l k e = inr e
both-puts None (Some (Wait n)) l k e = inr e
both-puts None (Some (Settled n)) l k e = cc
both-puts None None l k e = cc

pub else-puts : (a b : Option Todo) (l k : ℕ) → fallback a b ≡ Some (Put l k) → (a ≡ Some (Put l k)) ⊎ ((a ≡ Some (Settled false)) × (b ≡ Some (Put l k)))
else-puts (Some (Put m j)) b l k e = inl e
else-puts (Some (Wait n)) b l k e = inl e
else-puts (Some (Settled true)) b l k e = inl e
else-puts (Some (Settled false)) b l k e = inr (refl, e)
else-puts None b l k e = inl e

pub both-waits : (a b : Option Todo) (m : ℕ) → both a b ≡ Some (Wait m) → (a ≡ Some (Wait m)) ⊎ (b ≡ Some (Wait m))
both-waits (Some (Put l j)) b m e = inl e
both-waits (Some (Wait n)) b m e = inl e
both-waits (Some (Settled k)) (Some (Put n j)) m e = inr e
both-waits (Some (Settled k)) (Some (Wait n)) m e = inr e
both-waits (Some (Settled k)) (Some (Settled n)) m e = cc
both-waits (Some (Settled k)) None m e = cc
both-waits None (Some (Put n j)) m e = inr e
both-waits None (Some (Wait n)) m e = inr e
both-waits None (Some (Settled n)) m e = cc
both-waits None None m e = cc

pub else-waits : (a b : Option Todo) (m : ℕ) → fallback a b ≡ Some (Wait m) → (a ≡ Some (Wait m)) ⊎ ((a ≡ Some (Settled false)) × (b ≡ Some (Wait m)))
else-waits (Some (Put l j)) b m e = inl e
else-waits (Some (Wait n)) b m e = inl e
else-waits (Some (Settled true)) b m e = inl e
else-waits (Some (Settled false)) b m e = inr (refl, e)
else-waits None b m e = inl e

pub hold-put : (n : ℕ) (g : Stage) (r : Option Todo) (l k : ℕ) → todo_of_hold n g r ≡ Some (Put l k) → (g ≡ Released) × (r ≡ Some (Put l k))
hold-put n Idle r l k e = cc
hold-put n Waiting r l k e = cc
hold-put n Released r l k e = (refl, e)

pub leaf-never-waits : (n k m : ℕ) (x : State) → todo_of_leaf n k x ≡ Some (Wait m) → ⊥
leaf-never-waits n k m Fresh e = cc
leaf-never-waits n k m Good e = cc
leaf-never-waits n k m Bad e = cc
