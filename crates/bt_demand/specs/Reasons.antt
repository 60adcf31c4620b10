-- Why a tree is lost: the refused leaf of the least number, or the text of a reject.
use Rattle.std.specs.Prelude.{ℕ, List, [], ◌∷◌, ◌++◌, Option, Some, None, min, cond}
use Rattle.bt_demand.specs.Outcomes.{lost}
use Rattle.bt_demand.specs.Tree.{Tree, Trees, leaf, drop, reject, all, first, hold, none, more}
use Rattle.bt_demand.specs.declared.demand.State.{State}
use Rattle.bt_demand.specs.declared.demand.State.TheVariants.{Untried as Fresh, Good, Bad}

abbrev pub number_if_refused : ℕ → State → List ℕ
number_if_refused n Fresh = []
number_if_refused n Good = []
number_if_refused n Bad = n ∷ []

abbrev mutual
  -- the numbers of the leaves whose record was refused, as they stand
  pub refused_leaves : Tree → List ℕ
  refused_leaves (leaf n k b s) = number_if_refused n s
  refused_leaves drop = []
  refused_leaves (reject w) = []
  refused_leaves (all ts) = refused_in ts
  refused_leaves (first ts) = refused_in ts
  refused_leaves (hold n e z c g) = refused_leaves c

  pub refused_in : Trees → List ℕ
  refused_in none = []
  refused_in (more t ts) = refused_leaves t ++ refused_in ts

-- the lesser of two numbers, where both are there
abbrev pub lesser : Option ℕ → Option ℕ → Option ℕ
lesser None b = b
lesser (Some x) None = Some x
lesser (Some x) (Some y) = Some (min x y)

-- the least of the numbers
abbrev pub least : List ℕ → Option ℕ
least [] = None
least (n ∷ ns) = lesser (Some n) (least ns)

abbrev pub least_of_state : ℕ → State → Option ℕ
least_of_state n Fresh = None
least_of_state n Good = None
least_of_state n Bad = Some n

abbrev mutual
  -- the least of the refused leaves' numbers, child by child
  pub least_refused : Tree → Option ℕ
  least_refused (leaf n k b s) = least_of_state n s
  least_refused drop = None
  least_refused (reject w) = None
  least_refused (all ts) = least_refused_in ts
  least_refused (first ts) = least_refused_in ts
  least_refused (hold n e z c g) = least_refused c

  pub least_refused_in : Trees → Option ℕ
  least_refused_in none = None
  least_refused_in (more t ts) = lesser (least_refused t) (least_refused_in ts)

abbrev mutual
  -- the text of a reject, followed through an All to the first lost child, through a First to the last child, and
  -- through a hold to its child
  pub why : Tree → Option (List ℕ)
  why (leaf n k b s) = None
  why drop = None
  why (reject w) = Some w
  why (all ts) = why_of_first_lost ts
  why (first ts) = why_of_last ts
  why (hold n e z c g) = why c

  pub why_of_first_lost : Trees → Option (List ℕ)
  why_of_first_lost none = None
  why_of_first_lost (more t ts) = cond (lost t) (why t) (why_of_first_lost ts)

  pub why_of_last : Trees → Option (List ℕ)
  why_of_last none = None
  why_of_last (more t none) = why t
  why_of_last (more t (more u us)) = why_of_last (more u us)
