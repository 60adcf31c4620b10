-- A ledger by what it is kept in.
use Rattle.std.proofs.Common.{◌≡◌, ℕ, List, [], ◌∷◌, length, set, get_or, refl, ap, ◌∙◌, Option, Some, None, IsSome, option_map, false, arith}
use Rattle.bt_demand.specs.Next.{todo}
use Rattle.bt_demand.specs.Tree.{Tree}
use Rattle.bt_ledger.proofs.Pooled.{LeftFront, chain_is, length_listed}
use Rattle.bt_ledger.specs.Calls.{last_ends}
use Rattle.std.proofs.lemmas.List.{length-map}
use Rattle.bt_chains.specs.declared.Entry.{Entry}
use Rattle.bt_chains.specs.Places.{Places}
use Rattle.bt_demand.specs.declared.routes.HoldPolicy.{HoldPolicy}
use Rattle.bt_ledger.specs.Ledger.{Ledger}
use Rattle.bt_ledger.specs.Pooled.{chains_of, ledger_of, listed}
use Rattle.bt_ledger.specs.declared.slot.Slot.{Slot}

pub ledger_is : (ss us : List Slot) (ps : List HoldPolicy) (q : Places) (n : ℕ) (cs : List (List Entry)) → ss ≡ us → length q.entries ≡ n → chains_of q ≡ cs
    → ledger_of ss ps q ≡ record { slots = us; policies = ps; entries = n; chains = cs }
ledger_is ss us ps q n cs e f g = rw (e, f, g) refl

pub chains_length : (q : Places) → length (chains_of q) ≡ length q.chains
chains_length q = length-map q.chains (listed q.entries)

abbrev entry : ℕ → ℕ → ℕ → ℕ → ℕ → Entry
entry s p n a c = record { slot = s; part = p; node = n; size = a; moment = c }

pub entry_is : (s p n a b c d : ℕ) → a ≡ b → c ≡ d → entry s p n a c ≡ entry s p n b d
entry_is s p n a b c d e f = rw (e, f) refl

-- the front that a pop gave, and the rest of its chain
pub record Front (p q : Places) (n : ℕ) (e : Entry) : Type 0 where
  pub rest : List Entry
  pub was : get_or (chains_of p) n [] ≡ e ∷ rest
  pub chains : chains_of q ≡ set (chains_of p) n rest

front_go : (p q : Places) (n : ℕ) (e : Entry) (es : List Entry) → get_or (chains_of p) n [] ≡ es → LeftFront es p q n (Some e) → Front p q n e
front_go p q n e [] w h = cc
front_go p q n e (x ∷ es) w h = let i : x ≡ e = cc in record { rest = es; was = w ∙ ap (λ y. y ∷ es) i; chains = h.1 }

pub front_split : (p q : Places) (n : ℕ) (e : Entry) → LeftFront (get_or (chains_of p) n []) p q n (Some e) → Front p q n e
front_split p q n e h = front_go p q n e (get_or (chains_of p) n []) refl h

none_go : (p q : Places) (n : ℕ) (es : List Entry) → get_or (chains_of p) n [] ≡ es → LeftFront es p q n None → (get_or (chains_of p) n [] ≡ []) × (q ≡ p)
none_go p q n [] w h = (w, h.1)
none_go p q n (x ∷ es) w h = cc

pub none_split : (p q : Places) (n : ℕ) → LeftFront (get_or (chains_of p) n []) p q n None → (get_or (chains_of p) n [] ≡ []) × (q ≡ p)
none_split p q n h = none_go p q n (get_or (chains_of p) n []) refl h

pub chain_length : (p : Places) (k : ℕ) → length (get_or (chains_of p) k []) ≡ length (get_or p.chains k [])
chain_length p k = ap length (chain_is p k) ∙ length_listed p.entries (get_or p.chains k [])

pub empty_ends : (l : Ledger) (es : List Entry) → length es ≡ 0 → last_ends l es ≡ false
empty_ends l [] h = refl
empty_ends l (e ∷ es) h = absurd (omega arith)

pub there : (o : Option Tree) → IsSome o → option_map todo o ≡ None → ⊥
there None h e = cc
there (Some t) h e = cc
