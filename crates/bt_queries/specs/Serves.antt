-- A function value that evaluates queries, where so many more may nest.
use Rattle.std.specs.Prelude.{◌≡◌, ℕ, Result, IfOk}
use Rattle.std.specs.declared.alloc.Global.{Global}
use denote.Ref.{Bor}
use Rattle.bt_ports.specs.declared.NoMemory.{NoMemory}
use Rattle.bt_tree.specs.declared.tree.Query.{Query}
use Rattle.bt_contexts.specs.declared.context.Ctx.{Ctx}
use Rattle.bt_contexts.specs.declared.context.Got.{Got}
use Rattle.bt_meaning.specs.Value.{value}
use Rattle.bt_contexts.specs.Seen.{seen, out_of}

-- It takes any query and context, and what it gives is the value.
pub record Serves (room : ℕ) (pre : Global → ℕ → Bor Query → Bor Ctx → Type 0)
    (post : Global → ℕ → Bor Query → Bor Ctx → Result Got NoMemory → Type 0) : Type 0 where
  pub callable : (alloc : Global) (q : Bor Query) (c : Bor Ctx) → pre alloc room q c
  pub gives : (alloc : Global) (q : Bor Query) (c : Bor Ctx) (r : Result Got NoMemory) → post alloc room q c r
      → IfOk r (λ g. out_of g ≡ value q.now (seen c.now))
