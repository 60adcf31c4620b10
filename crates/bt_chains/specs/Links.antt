-- How the lists of a pool are kept: each place has a link to the one behind it.
use Rattle.std.specs.Prelude.{◌≡◌, ℕ, zero, suc, ◌+◌, ◌<◌, ◌^◌, cond, eqb, ltb, List, [], ◌∷◌, length, map, get_or, set, Option, Some, None}
use Rattle.bt_chains.specs.declared.Entry.{Entry}
use Rattle.bt_chains.specs.declared.Chain.{Chain}
use Rattle.bt_chains.specs.Places.{times, times_all, occupied, last_or}

-- so many places, from one on along the links
abbrev pub walk : ℕ → List ℕ → ℕ → List ℕ
walk zero ns h = []
walk (suc k) ns h = h ∷ walk k ns (get_or ns h 0)

-- where so many steps along the links lead
abbrev pub beyond : ℕ → List ℕ → ℕ → ℕ
beyond zero ns h = h
beyond (suc k) ns h = beyond k ns (get_or ns h 0)

abbrev pub places : List ℕ → List Chain → List (List ℕ)
places ns cs = map (λ (c : Chain). walk c.len ns c.first) cs

-- how many places the chains have
abbrev pub held : List Chain → ℕ
held [] = 0
held (c ∷ cs) = c.len + held cs

-- the link of a chain's last place, which leads to no place
abbrev pub no_place : ℕ
no_place = 4294967295

-- a chain stops after its length, at its last place
pub record IsEnded (ns : List ℕ) (c : Chain) : Type 0 where
  pub past : beyond c.len ns c.first ≡ no_place
  pub last : last_or (walk c.len ns c.first) c.last ≡ c.last

-- each place with an entry is in one chain once, each other is free, and each chain is as long as it says
pub record IsLinked (es : List (Option Entry)) (ns : List ℕ) (cs : List Chain) (f fl : ℕ) : Type 0 where
  pub chained : (x : ℕ) → times_all x (places ns cs) ≡ occupied (get_or es x None)
  pub vacant : (x : ℕ) → times x (walk fl ns f) + occupied (get_or es x None) ≡ cond (ltb x (length es)) 1 0
  pub counted : held cs + fl ≡ length es
  pub ends : (k : ℕ) (d : Chain) → k < length cs → IsEnded ns (get_or cs k d)
  pub linked : length ns ≡ length es
  pub small : length es < 2 ^ 32

-- the links after a place came behind a chain's last
abbrev pub joined : Chain → ℕ → List ℕ → List ℕ
joined c p ns = cond (eqb c.len 0) ns (set ns c.last p)

-- the chain with a place behind its last
abbrev pub grown : Chain → ℕ → Chain
grown c p = record { first = cond (eqb c.len 0) p c.first; last = p; len = c.len + 1 }

-- where a link leads, if to a place
abbrev pub onward : ℕ → Option ℕ
onward n = cond (eqb n no_place) None (Some n)

-- what is behind a place with this entry and this link
abbrev pub link_after : Option Entry → ℕ → Option ℕ
link_after None n = None
link_after (Some _) n = onward n
