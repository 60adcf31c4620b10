-- The openings of the first of a list of sinks or sources, and of the next one.
use Rattle.std.proofs.Common.{◌≡◌, ℕ, zero, suc, ◌+◌, ◌<◌, ◌≤◌, false, List, [], ◌∷◌, ◌++◌, length, take, drop, map, get_or, ◌⊎◌, inl, inr, arith, refl, sym, ap, ◌∙◌, subst, Option, Some, None}
use Rattle.std.specs.Prelude.{if◌then◌else◌}
use Rattle.bt_commands.specs.Calls.{asked}
use Rattle.bt_openings.specs.Objects.{FreshSink, FreshSinks, FreshSource, FreshSources, HasBytes, IsFile, SinksPlaced, SourcesAre, StdinIs}
use Rattle.bt_openings.specs.Opened.{AreSources}
use Rattle.bt_openings.specs.Openings.{AllMade}
use Rattle.bt_openings.specs.Plan.{sink_openings, opening_of}
use Rattle.bt_ports.specs.World.{Tale, is_stdin, source_bytes}
use Rattle.bt_ports.specs.declared.outside.Sink as Sink
use Rattle.bt_ports.specs.declared.outside.Source as Source
use Rattle.bt_ports.specs.declared.parts.Asked.{Asked}
use Rattle.bt_ports.specs.declared.parts.Named.{Named}
use Rattle.bt_ports.specs.declared.parts.What.TheVariants.{Sink as ASink}

same_call : (n m e f : List ℕ) → n ≡ m → e ≡ f → asked ASink (Some n) (Some e) ≡ asked ASink (Some m) (Some f)
same_call n m e f p q = rw (p, q) refl

pub openings_next : (ns es : List (List ℕ)) (i : ℕ) (n e d f : List ℕ) → length ns ≡ length es → i < length ns → n ≡ get_or ns i d → e ≡ get_or es i f
    → sink_openings (take (i + 1) ns) (take (i + 1) es) ≡ sink_openings (take i ns) (take i es) ++ asked ASink (Some n) (Some e) ∷ []
openings_next [] es i n e d f w h p q = absurd (omega arith)
openings_next (x ∷ xs) [] i n e d f w h p q = absurd (omega arith)
openings_next (x ∷ xs) (y ∷ ys) zero n e d f w h p q = ap (λ c. c ∷ []) (same_call x n y e (sym p) (sym q))
openings_next (x ∷ xs) (y ∷ ys) (suc i) n e d f w h p q =
    let k : suc i + 1 ≡ suc (i + 1) = omega arith in
    ap (λ j. sink_openings (take j (x ∷ xs)) (take j (y ∷ ys))) k ∙ ap (λ cs. asked ASink (Some x) (Some y) ∷ cs) (openings_next xs ys i n e d f (omega arith) (omega arith) p q)

none_left : (es : List (List ℕ)) (i : ℕ) → sink_openings [] es ≡ sink_openings (take i []) (take i es) ++ sink_openings (drop i []) (drop i es)
none_left es zero = refl
none_left es (suc i) = refl

pub openings_rest : (ns es : List (List ℕ)) (i : ℕ) → length ns ≡ length es → sink_openings ns es ≡ sink_openings (take i ns) (take i es) ++ sink_openings (drop i ns) (drop i es)
openings_rest ns es zero w = refl
openings_rest [] es (suc i) w = none_left es (suc i)
openings_rest (x ∷ xs) [] (suc i) w = absurd (omega arith)
openings_rest (x ∷ xs) (y ∷ ys) (suc i) w = ap (λ cs. asked ASink (Some x) (Some y) ∷ cs) (openings_rest xs ys i (omega arith))

pub openings_length : (ns es : List (List ℕ)) (i : ℕ) → length ns ≡ length es → i ≤ length ns → length (sink_openings (take i ns) (take i es)) ≡ i
openings_length ns es zero w h = refl
openings_length [] es (suc i) w h = absurd (omega arith)
openings_length (x ∷ xs) [] (suc i) w h = absurd (omega arith)
openings_length (x ∷ xs) (y ∷ ys) (suc i) w h = let a = openings_length xs ys i (omega arith) (omega arith) in omega arith

pub paths_next : (ns : List (List ℕ)) (i : ℕ) (n d : List ℕ) → i < length ns → n ≡ get_or ns i d → map opening_of (take (i + 1) ns) ≡ map opening_of (take i ns) ++ opening_of n ∷ []
paths_next [] i n d h p = absurd (omega arith)
paths_next (x ∷ xs) zero n d h p = ap (λ m. opening_of m ∷ []) (sym p)
paths_next (x ∷ xs) (suc i) n d h p =
    let k : suc i + 1 ≡ suc (i + 1) = omega arith in
    ap (λ j. map opening_of (take j (x ∷ xs))) k ∙ ap (λ cs. opening_of x ∷ cs) (paths_next xs i n d (omega arith) p)

pub paths_rest : (ns : List (List ℕ)) (i : ℕ) → map opening_of ns ≡ map opening_of (take i ns) ++ map opening_of (drop i ns)
paths_rest ns zero = refl
paths_rest [] (suc i) = refl
paths_rest (x ∷ xs) (suc i) = ap (λ cs. opening_of x ∷ cs) (paths_rest xs i)

pub paths_length : (ns : List (List ℕ)) (i : ℕ) → i ≤ length ns → length (map opening_of (take i ns)) ≡ i
paths_length ns zero h = refl
paths_length [] (suc i) h = absurd (omega arith)
paths_length (x ∷ xs) (suc i) h = let a = paths_length xs i (omega arith) in omega arith

at_end : {T : Type 0} (xs : List T) (x : T) (k : ℕ) (d : T) → k < length (xs ++ x ∷ []) → ((k < length xs) × (get_or (xs ++ x ∷ []) k d ≡ get_or xs k d)) ⊎ ((k ≡ length xs) × (get_or (xs ++ x ∷ []) k d ≡ x))
at_end [] x zero d h = inr (refl, refl)
at_end [] x (suc k) d h = absurd (omega arith)
at_end (y ∷ ys) x zero d h = inl (omega arith, refl)
at_end (y ∷ ys) x (suc k) d h = elim (at_end ys x k d (omega arith)) [ inl i ↦ inl (let a = i.0 in omega arith, i.1) | inr i ↦ inr (let a = i.0 in omega arith, i.1) ]

-- what is so of each, once there is one more
each_next : {T : Type 0} (P : ℕ → T → Type 0) (xs : List T) (x : T) → ((k : ℕ) (d : T) → k < length xs → P k (get_or xs k d)) → P (length xs) x → (k : ℕ) (d : T) → k < length (xs ++ x ∷ []) → P k (get_or (xs ++ x ∷ []) k d)
each_next P xs x f h k d w = elim (at_end xs x k d w) [
  | inl i ↦ subst (λ y. P k y) (sym i.1) (f k d i.0)
  | inr i ↦ subst (λ y. P k y) (sym i.1) (subst (λ j. P j x) (sym i.0) h)
]

pub placed_next : {K : Type 0} (g : Sink.Ghosts K) (n : ℕ) (ks us : List K) (x : K) → us ≡ ks ++ x ∷ [] → SinksPlaced g n ks → g.place x ≡ n + length ks → SinksPlaced g n us
placed_next g n ks us x e f h = subst (λ vs. SinksPlaced g n vs) (sym e) (each_next (λ k y. g.place y ≡ n + k) ks x f h)

pub fresh_next : {K : Type 0} (g : Sink.Ghosts K) (ks us : List K) (x : K) → us ≡ ks ++ x ∷ [] → FreshSinks g ks → FreshSink g x → FreshSinks g us
fresh_next g ks us x e f h = subst (λ vs. FreshSinks g vs) (sym e) (each_next (λ k y. FreshSink g y) ks x f h)

length_both : (xs ys : List Asked) → length (xs ++ ys) ≡ length xs + length ys
length_both [] ys = omega arith
length_both (x ∷ xs) ys = let e = length_both xs ys in omega arith

pub made_length : {E I : Type 0} (calls : List Asked) (a b : Tale E I) → AllMade calls a b → length b.calls ≡ length a.calls + length calls
made_length {E} {I} calls a b e = ap (λ (u : Tale E I). length u.calls) e ∙ length_both a.calls calls

pub made_files : {E I : Type 0} (calls : List Asked) (a b : Tale E I) → AllMade calls a b → b.files ≡ a.files
made_files {E} {I} calls a b e = ap (λ (u : Tale E I). u.files) e

any_default : (xs : List (List ℕ)) (i : ℕ) (d e : List ℕ) → i < length xs → get_or xs i d ≡ get_or xs i e
any_default [] i d e h = absurd (omega arith)
any_default (x ∷ xs) zero d e h = refl
any_default (x ∷ xs) (suc i) d e h = any_default xs i d e (omega arith)

file_bytes : (files : List ℕ → Option (List ℕ)) (stdin name bytes : List ℕ) → is_stdin name ≡ false → source_bytes files stdin name ≡ Some bytes → files name ≡ Some bytes
file_bytes files stdin name bytes e h = sym (ap (λ v. if v then Some stdin else files name) e) ∙ h

-- a source that was opened is the file of the next path
pub is_file : {S : Type 0} (g : Source.Ghosts S) (files later : List ℕ → Option (List ℕ)) (stdin path d : List ℕ) (paths : List (List ℕ)) (n i : ℕ) (x : Named S) → i < length paths → path ≡ get_or paths i d → later ≡ files
    → x.path ≡ Some path → g.place x.source ≡ n → FreshSource g x.source → HasBytes g later stdin path x.source → IsFile g n files (get_or paths i []) x
is_file g files later stdin path d paths n i x w e f named placed fresh bytes =
    let p : path ≡ get_or paths i [] = e ∙ any_default paths i d [] w in
    subst (λ q. IsFile g n files q x) p (record {
      named = named;
      place = placed;
      fresh = fresh;
      bytes = λ z t. file_bytes files stdin path (g.bytes x.source) z (subst (λ h. source_bytes h stdin path ≡ Some (g.bytes x.source)) f (bytes t));
    })

pub files_next : {S : Type 0} (g : Source.Ghosts S) (n : ℕ) (files : List ℕ → Option (List ℕ)) (paths : List (List ℕ)) (ns us : List (Named S)) (x : Named S) → us ≡ ns ++ x ∷ [] → SourcesAre g n files paths ns
    → IsFile g (n + length ns) files (get_or paths (length ns) []) x → SourcesAre g n files paths us
files_next g n files paths ns us x e f h = subst (λ vs. SourcesAre g n files paths vs) (sym e) (each_next (λ k y. IsFile g (n + k) files (get_or paths k []) y) ns x f h)

pub all_length : (ns es : List (List ℕ)) → length ns ≡ length es → length (sink_openings ns es) ≡ length ns
all_length [] es w = refl
all_length (x ∷ xs) [] w = absurd (omega arith)
all_length (x ∷ xs) (y ∷ ys) w = let a = all_length xs ys (omega arith) in omega arith

-- the sources are those of a world that told the same files and standard input
pub sources_at : {S E I : Type 0} (g : Source.Ghosts S) (m n : ℕ) (b a : Tale E I) (files : Option (List (List ℕ))) (ns : List (Named S)) → m ≡ n → b.stdin ≡ a.stdin → b.files ≡ a.files → AreSources g m b files ns → AreSources g n a files ns
sources_at g m n b a None ns p s f h = subst (λ k. StdinIs g k a.stdin ns) p (subst (λ x. StdinIs g m x ns) s h)
sources_at g m n b a (Some paths) ns p s f h = subst (λ k. SourcesAre g k a.files paths ns) p (subst (λ x. SourcesAre g m x paths ns) f h)

pub fresh_sources_next : {S : Type 0} (g : Source.Ghosts S) (ns us : List (Named S)) (x : Named S) → us ≡ ns ++ x ∷ [] → FreshSources g ns → FreshSource g x.source → FreshSources g us
fresh_sources_next g ns us x e f h = subst (λ vs. FreshSources g vs) (sym e) (each_next (λ k y. FreshSource g y.source) ns x f h)

-- one source
pub fresh_source_only : {S : Type 0} (g : Source.Ghosts S) (ns us : List (Named S)) (x : Named S) → us ≡ ns ++ x ∷ [] → ns ≡ [] → FreshSource g x.source → FreshSources g us
fresh_source_only g ns us x e z h = fresh_sources_next g ns us x e (λ k d w. (let a = ap length z in absurd (omega arith))) h
