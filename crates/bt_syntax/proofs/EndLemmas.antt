-- What the answer at the end of a whole list says.
use Rattle.std.proofs.Common.{◌≡◌, ℕ, arith, [], ◌∷◌, None, Ok, Err, Result, IfOk, IfErr, refl, subst}
use Rattle.bt_syntax.specs.declared.fault.SyntaxFault.{SyntaxFault}
use Rattle.bt_syntax.specs.declared.stop.Stop.{Stop}
use Rattle.bt_syntax.specs.declared.stop.Stop.TheVariants as stop
use Rattle.bt_syntax.specs.Lexemes.{Lexeme, Lexemes}
use Rattle.bt_syntax.specs.Brackets.{deep_at}
use Rattle.bt_syntax.specs.Places.{FirstBad, Refuses}
use Rattle.bt_syntax.specs.Reading.{Got, Stuck, Reader}
use Rattle.bt_tree.specs.declared.tree.Mapping.{Mapping}
use Rattle.bt_syntax.specs.Grammar.{ReadsMapping, ReadsCheck}
use Rattle.bt_syntax.specs.Readers.{query, mapping_by, mapping, check_by, check}
use Rattle.bt_syntax.specs.Code.{Reads, ended}
use Rattle.bt_syntax.proofs.MappingLemmas.{mapping_read, mapping_longer, mapping_stuck, mapping_shallow, check_read, check_longer, check_stuck, check_shallow}

module _ {A : Type 0} (f : Reader A) (R : A → Lexemes → Type 0)
    (whole : (ts : Lexemes) (a : A) → f ts ≡ Got a [] → R a ts)
    (long : (ts : Lexemes) (a : A) (t : Lexeme) (rest : Lexemes) → f ts ≡ Got a (t ∷ rest) → FirstBad A R ts (t ∷ rest))
    (short : (ts rest : Lexemes) → f ts ≡ Stuck rest → FirstBad A R ts rest)
    (ts rest : Lexemes) (end : ℕ) where
  pub ended_read : (found : Result A Stop) (r : Result A SyntaxFault) → Reads (f ts) found rest → r ≡ ended found rest end → IfOk r (λ a. R a ts)
  ended_read (Ok a) r g e = go rest g e
    where
      go : (rest : Lexemes) → f ts ≡ Got a rest → r ≡ ended (Ok a) rest end → IfOk r (λ a. R a ts)
      go [] g e = rw e (whole ts a g)
      go (t ∷ rest) g e = rw e tt
  ended_read (Err stop.Stuck) r g e = rw e tt
  ended_read (Err stop.Deep) r g e = rw e tt
  ended_read (Err stop.NoMemory) r g e = rw e tt

  pub ended_refused : deep_at 0 ts ≡ None → (found : Result A Stop) (r : Result A SyntaxFault) → Reads (f ts) found rest → r ≡ ended found rest end → IfErr r (λ x. Refuses R ts end x)
  ended_refused shallow (Ok a) r g e = go rest g e
    where
      go : (rest : Lexemes) → f ts ≡ Got a rest → r ≡ ended (Ok a) rest end → IfErr r (λ x. Refuses R ts end x)
      go [] g e = rw e tt
      go (t ∷ rest) g e = rw e (shallow, t ∷ rest, long ts a t rest g, refl)
  ended_refused shallow (Err stop.Stuck) r g e = rw e (shallow, rest, short ts rest g, refl)
  ended_refused shallow (Err stop.Deep) r g e = rw e tt
  ended_refused shallow (Err stop.NoMemory) r g e = rw e tt

mapping_longer_by : (ts : Lexemes) (x : Mapping) (t : Lexeme) (rest : Lexemes) → mapping 64 ts ≡ Got x (t ∷ rest) → FirstBad Mapping ReadsMapping ts (t ∷ rest)
mapping_longer_by ts x t rest h = mapping_longer ts x (t ∷ rest) h (omega arith)

module _ (ts ws rest : Lexemes) (found : Result Mapping Stop) (same : ws ≡ ts) (shallow : deep_at 0 ts ≡ None) (reads : Reads (mapping_by (query 64) ws) found rest) where
  mapping_reads : Reads (mapping 64 ts) found rest
  unfolding mapping
  mapping_reads = subst (λ y. Reads (mapping_by (query 64) y) found rest) same reads

  pub mapping_is_read : (end : ℕ) (r : Result Mapping SyntaxFault) → r ≡ ended found rest end → IfOk r (λ x. ReadsMapping x ts)
  mapping_is_read end r e = ended_read (mapping 64) ReadsMapping mapping_read mapping_longer_by mapping_stuck ts rest end found r mapping_reads e

  pub mapping_is_refused : (end : ℕ) (r : Result Mapping SyntaxFault) → r ≡ ended found rest end → IfErr r (λ x. Refuses ReadsMapping ts end x)
  mapping_is_refused end r e = ended_refused (mapping 64) ReadsMapping mapping_read mapping_longer_by mapping_stuck ts rest end shallow found r mapping_reads e

  pub mapping_is_shallow : found ≡ Err stop.Deep → ⊥
  mapping_is_shallow e = mapping_shallow ts shallow (subst (λ y. Reads (mapping 64 ts) y rest) e mapping_reads)

check_longer_by : (ts : Lexemes) (x : Mapping) (t : Lexeme) (rest : Lexemes) → check 64 ts ≡ Got x (t ∷ rest) → FirstBad Mapping ReadsCheck ts (t ∷ rest)
check_longer_by ts x t rest h = check_longer ts x (t ∷ rest) h (omega arith)

module _ (ts ws rest : Lexemes) (found : Result Mapping Stop) (same : ws ≡ ts) (shallow : deep_at 0 ts ≡ None) (reads : Reads (check_by (query 64) ws) found rest) where
  check_reads : Reads (check 64 ts) found rest
  unfolding check
  check_reads = subst (λ y. Reads (check_by (query 64) y) found rest) same reads

  pub check_is_read : (end : ℕ) (r : Result Mapping SyntaxFault) → r ≡ ended found rest end → IfOk r (λ x. ReadsCheck x ts)
  check_is_read end r e = ended_read (check 64) ReadsCheck check_read check_longer_by check_stuck ts rest end found r check_reads e

  pub check_is_refused : (end : ℕ) (r : Result Mapping SyntaxFault) → r ≡ ended found rest end → IfErr r (λ x. Refuses ReadsCheck ts end x)
  check_is_refused end r e = ended_refused (check 64) ReadsCheck check_read check_longer_by check_stuck ts rest end shallow found r check_reads e

  pub check_is_shallow : found ≡ Err stop.Deep → ⊥
  check_is_shallow e = check_shallow ts shallow (subst (λ y. Reads (check 64 ts) y rest) e check_reads)
