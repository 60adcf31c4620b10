-- What a pool holds, as its callers see it: entries that stand at places, and lists of places.
use Rattle.std.specs.Prelude.{◌≡◌, ◌≢◌, ℕ, zero, suc, ◌+◌, cond, eqb, ltb, List, [], ◌∷◌, ◌++◌, length, get_or, set, replicate, Option, Some, None}
use Rattle.bt_chains.specs.declared.Entry.{Entry}

-- the entry of each place, the places of each chain from its front, and the free places
pub record Places : Type 0 where
  pub entries : List (Option Entry)
  pub chains : List (List ℕ)
  pub free : List ℕ

abbrev pub entry_at : Places → ℕ → Option Entry
entry_at p x = get_or p.entries x None

abbrev pub chain_at : Places → ℕ → List ℕ
chain_at p k = get_or p.chains k []

-- how often a place stands in a list
abbrev pub times : ℕ → List ℕ → ℕ
times x [] = 0
times x (y ∷ ys) = cond (eqb x y) 1 0 + times x ys

-- how often a place stands in all the lists together
abbrev pub times_all : ℕ → List (List ℕ) → ℕ
times_all x [] = 0
times_all x (ys ∷ yss) = times x ys + times_all x yss

abbrev pub total_length : List (List ℕ) → ℕ
total_length [] = 0
total_length (ys ∷ yss) = length ys + total_length yss

-- how many entries stand there: one or none
abbrev pub occupied : Option Entry → ℕ
occupied None = 0
occupied (Some _) = 1

-- A place with an entry stands once in the chains and isn't free. A place without one stands in no chain, and once
-- among the free places. Nothing else stands in either.
pub record IsSound (p : Places) : Type 0 where
  pub chained : (x : ℕ) → times_all x p.chains ≡ occupied (entry_at p x)
  pub vacant : (x : ℕ) → times x p.free + occupied (entry_at p x) ≡ cond (ltb x (length p.entries)) 1 0
  pub counted : total_length p.chains + length p.free ≡ length p.entries

abbrev pub front_of : List ℕ → Option ℕ
front_of [] = None
front_of (x ∷ xs) = Some x

-- the last of a list, and a given one where it is empty
abbrev pub last_or : List ℕ → ℕ → ℕ
last_or [] d = d
last_or (x ∷ xs) d = last_or xs x

abbrev pub last_of : List ℕ → Option ℕ
last_of [] = None
last_of (x ∷ xs) = Some (last_or xs x)

-- what stands right behind a place in a list
abbrev pub behind : ℕ → List ℕ → Option ℕ
behind x [] = None
behind x (y ∷ ys) = cond (eqb x y) (front_of ys) (behind x ys)

abbrev pub or_else : Option ℕ → Option ℕ → Option ℕ
or_else None o = o
or_else (Some x) o = Some x

-- what stands right behind a place in the chain that it stands in
abbrev pub after_of : ℕ → List (List ℕ) → Option ℕ
after_of x [] = None
after_of x (ys ∷ yss) = or_else (behind x ys) (after_of x yss)

-- the entry at the front of a chain
abbrev pub front_entry : List (Option Entry) → List ℕ → Option Entry
front_entry es [] = None
front_entry es (x ∷ xs) = get_or es x None

-- the numbers from one on, so many
abbrev pub numbers_from : ℕ → ℕ → List ℕ
numbers_from zero i = []
numbers_from (suc k) i = i ∷ numbers_from k (i + 1)

-- every place free, from place 0 on, and every chain empty
abbrev pub all_free : ℕ → ℕ → Places
all_free n m = record { entries = replicate n None; chains = replicate m []; free = numbers_from n 0 }

-- The entry came to chain k's end, at place x, which was free. No other place's entry changed, and no other chain. What
-- stands behind a place changed at the chain's former last alone.
pub record IsPushed (p q : Places) (k : ℕ) (e : Entry) (x : ℕ) : Type 0 where
  pub was_free : p.free ≡ x ∷ q.free
  pub entries : q.entries ≡ set p.entries x (Some e)
  pub chains : q.chains ≡ set p.chains k (chain_at p k ++ x ∷ [])
  pub others : (y : ℕ) → last_of (chain_at p k) ≢ Some y → after_of y q.chains ≡ after_of y p.chains

-- Place x, the front of chain k, became free. No other place's entry changed, and no other chain, nor what stands behind
-- any other place.
pub record IsFreed (p q : Places) (k x : ℕ) (xs : List ℕ) (r : Option Entry) : Type 0 where
  pub taken : r ≡ entry_at p x
  pub entries : q.entries ≡ set p.entries x None
  pub chains : q.chains ≡ set p.chains k xs
  pub free : q.free ≡ x ∷ p.free
  pub others : (y : ℕ) → y ≢ x → after_of y q.chains ≡ after_of y p.chains

abbrev pub FrontLeft : List ℕ → Places → Places → ℕ → Option Entry → Type 0
FrontLeft [] p q k r = (r ≡ None) × (q ≡ p)
FrontLeft (x ∷ xs) p q k r = IsFreed p q k x xs r

-- the front of chain k left, where there was one
abbrev pub IsPopped : Places → Places → ℕ → Option Entry → Type 0
IsPopped p q k r = FrontLeft (chain_at p k) p q k r
