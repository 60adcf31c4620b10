-- The form of mapping that is run so far: what its reader answers, token by token, is the one reading of the text.
use Rattle.std.proofs.Common.{◌≡◌, ℕ, suc, pos, ◌+◌, ◌-◌, ◌≤◌, ◌<◌, Bool, true, false, ◌&&◌, ◌==◌, nat_le, List, [], ◌∷◌, ◌++◌, map, length, take, drop, codes, get_or, Option, Some, None, option_map, Result, Ok, Err, IfOk, IfSome, if◌then◌else◌, refl, sym, ap, subst, ◌∙◌, arith, rules, append_assoc}
use Rattle.std.specs.List.{AllByRecursion, list_all}
use Rattle.std.specs.Str.{bytes_eq}
use Rattle.std.proofs.Math.Seq.{take-append_seam, take-length, get_or-append_seam}
use Rattle.std.proofs.lemmas.Bool.{and_parts, le-leb}
use Rattle.std.proofs.lemmas.List.{take_more, length-append}
use Rattle.std.proofs.lemmas.Slice.Eq.{bytes_eq-Decides}
use Rattle.bt_lexer.specs.Bytes.{quote}
use Rattle.bt_lexer.specs.Lines.{HasTokens, is_name_kind}
use Rattle.bt_lexer.specs.Places.{line_of}
use Rattle.bt_lexer.specs.Spans.{AreSpans, IsSpan}
use Rattle.bt_lexer.specs.Spelling.{Spells, IsPart}
use Rattle.bt_lexer.specs.Strings.{is_plain, text_value}
use Rattle.bt_lexer.specs.Tokens.{is_dot, int_value}
use Rattle.bt_lexer.specs.declared.token.Kind.{Kind}
use Rattle.bt_lexer.specs.declared.token.Kind.TheVariants as kinds
use Rattle.bt_lexer.specs.declared.token.Token.{Token}
use Rattle.bt_lexer.proofs.KindLemmas.{false_right, nat_eq_same}
use Rattle.bt_lexer.proofs.OneReading.{one_list}
use Rattle.bt_lexer.proofs.SpanLemmas.{tokens_spans}
use Rattle.bt_lexer.proofs.SpellingLemmas.{spelled_text}
use Rattle.bt_syntax.specs.Built.{bytes_of, IsName, AreSteps, path, ReadsQuery, has_only_blanks, assignment, BuiltReading, are_names, is_built_query, IsBuilt}
use Rattle.bt_syntax.specs.BuiltTokens as parts
use Rattle.bt_tree.specs.declared.tree.Mapping.{Mapping}
use Rattle.bt_tree.specs.declared.tree.Query.{Query, the_lemmas}
use Rattle.bt_tree.specs.declared.tree.Query.TheVariants as queries
use Rattle.bt_tree.specs.declared.tree.Suffix.{Suffix}
use Rattle.bt_tree.specs.declared.tree.Suffix.TheVariants as suffixes

-- some steps, and then those of the rest
abbrev pub behind : List (Suffix Query) → Option (List (Suffix Query)) → Option (List (Suffix Query))
behind xs o = option_map (λ ys. xs ++ ys) o

pub behind-one : (xs : List (Suffix Query)) (name : List ℕ) (o : Option (List (Suffix Query))) → behind xs (parts.one_more name o) ≡ behind (xs ++ suffixes.Name name ∷ []) o
behind-one xs name None = refl
behind-one xs name (Some ys) = ap Some (sym (append_assoc xs (suffixes.Name name ∷ []) ys))

pub each_span : (s : List ℕ) (low : ℕ) (ts : List Token) → AreSpans s low ts → AllByRecursion (IsSpan s) ts
each_span s low [] h = tt
each_span s low (t ∷ ts) h = (h.1, each_span s t.to ts h.2)

-- tests ------------------------------------------------------------------

both : (a b : Bool) → a ≡ true → b ≡ true → (a && b) ≡ true
both true true p q = refl
both true false p q = q
both false b p q = p

chosen : {X : Type 0} (b : Bool) (x y : X) → b ≡ true → (if b then x else y) ≡ x
chosen true x y e = refl
chosen false x y e = cc

name_kind : (k : Kind) → is_name_kind k ≡ true → k ≡ kinds.Name
name_kind kinds.Name e = refl
name_kind _ e = cc

dot_kind : (k : Kind) → is_dot k ≡ true → k ≡ kinds.Dot
dot_kind kinds.Dot e = refl
dot_kind _ e = cc

assign_kind : (k : Kind) → parts.is_assign k ≡ true → k ≡ kinds.Assign
assign_kind kinds.Assign e = refl
assign_kind _ e = cc

named : (s : List ℕ) (t : Token) (name : List ℕ) → parts.is_name s t name ≡ true → IsName s t name
named s t name e =
    let p = and_parts (is_name_kind t.kind) (bytes_eq (bytes_of s t) name) e in
    record { kind = name_kind t.kind p.0; bytes = (bytes_eq-Decides (bytes_of s t) name).0 p.1 }

named_so : (s : List ℕ) (t : Token) (name : List ℕ) → IsName s t name → parts.is_name s t name ≡ true
named_so s t name n =
    both (is_name_kind t.kind) (bytes_eq (bytes_of s t) name) (ap is_name_kind n.kind) ((bytes_eq-Decides (bytes_of s t) name).1 n.bytes)

-- steps ------------------------------------------------------------------

one_step : (b : Bool) (name : List ℕ) (o : Option (List (Suffix Query))) (xs : List (Suffix Query)) → (if b then parts.one_more name o else None) ≡ Some xs →
    (b ≡ true) × ((ys : List (Suffix Query)) × (o ≡ Some ys) × (xs ≡ suffixes.Name name ∷ ys))
one_step true name (Some ys) xs e = (refl, (ys, refl, cc))
one_step true name None xs e = cc
one_step false name o xs e = cc

record Steps (s : List ℕ) (ts : List Token) (xs : List (Suffix Query)) : Type 0 where
  pub names : List (List ℕ)
  pub same : xs ≡ map suffixes.Name names
  pub are : AreSteps s ts names

steps_sound : (s : List ℕ) (ts : List Token) (xs : List (Suffix Query)) → parts.steps_of s ts ≡ Some xs → Steps s ts xs
steps_sound s [] xs e = record { names = []; same = cc; are = AreSteps.none }
steps_sound s (dot ∷ []) xs e = cc
steps_sound s (dot ∷ name ∷ ts) xs e =
    let f = one_step (parts.is_step dot name) (bytes_of s name) (parts.steps_of s ts) xs e in
    let p = and_parts (is_dot dot.kind) (is_name_kind name.kind) f.0 in
    let rest : Steps s ts f.1.0 = steps_sound s ts f.1.0 f.1.1 in
    record { names = bytes_of s name ∷ rest.names; same = f.1.2 ∙ ap (λ ys. suffixes.Name (bytes_of s name) ∷ ys) rest.same; are = AreSteps.step dot name (dot_kind dot.kind p.0) (name_kind name.kind p.1) rest.are }

steps_complete : (s : List ℕ) (ts : List Token) (names : List (List ℕ)) → AreSteps s ts names → parts.steps_of s ts ≡ Some (map suffixes.Name names)
steps_complete s ts names AreSteps.none = refl
steps_complete s ts names (AreSteps.step {ts = us} {names = more} dot name d n r) =
    chosen (parts.is_step dot name) (parts.one_more (bytes_of s name) (parts.steps_of s us)) None (both (is_dot dot.kind) (is_name_kind name.kind) (ap is_dot d) (ap is_name_kind n))
    ∙ ap (parts.one_more (bytes_of s name)) (steps_complete s us more r)

path_from : (names : List (List ℕ)) → parts.from_this (map suffixes.Name names) ≡ path names
path_from [] = refl
path_from (name ∷ names) = refl

-- texts ------------------------------------------------------------------

front_last : (d : ℕ) (v : List ℕ) → take (length v) (d ∷ v) ++ get_or (d ∷ v) (length v) 0 ∷ [] ≡ d ∷ v
front_last d v =
    let below : length v < length (d ∷ v) = omega arith in
    let whole : length v + 1 ≡ length (d ∷ v) = omega arith in
    sym (take_more (d ∷ v) (length v) 0 below) ∙ ap (λ n. take n (d ∷ v)) whole ∙ take-length (d ∷ v)

pub plain_spells : (v : List ℕ) → list_all is_plain v ≡ true → Spells v v
plain_spells [] h = Spells.nothing
plain_spells (c ∷ v) h = let p = and_parts (is_plain c) (list_all is_plain v) h in Spells.part (IsPart.plain c p.0) (plain_spells v p.1)

record Simple (u v : List ℕ) : Type 0 where
  pub whole : u ≡ quote ∷ (v ++ quote ∷ [])
  pub plain : list_all is_plain v ≡ true

framed : (c last : ℕ) (front w : List ℕ) → c ≡ quote → last ≡ quote → front ++ last ∷ [] ≡ w → c ∷ w ≡ quote ∷ (front ++ quote ∷ [])
framed c last front w p q e = cc

simple_sound : (u : List ℕ) → parts.is_simple u ≡ true → Simple u (parts.inner u)
simple_sound [] e = cc
simple_sound (c ∷ []) e = cc
simple_sound (c ∷ d ∷ v) e =
    let u : List ℕ = c ∷ d ∷ v in
    let p = and_parts (nat_le 2 (length u) && c == quote && get_or u (length u - 1) 0 == quote) (list_all is_plain (parts.inner u)) e in
    let q = and_parts (nat_le 2 (length u) && c == quote) (get_or u (length u - 1) 0 == quote) p.0 in
    let r = and_parts (nat_le 2 (length u)) (c == quote) q.0 in
    let at : length u - 1 ≡ suc (length v) = omega arith in
    let n : length u - 1 - 1 ≡ length v = omega arith in
    let last : get_or (d ∷ v) (length v) 0 ≡ quote = ap (λ k. get_or (c ∷ d ∷ v) k 0) (sym at) ∙ nat_eq_same (get_or u (length u - 1) 0) quote q.1 in
    record {
      whole = framed c (get_or (d ∷ v) (length v) 0) (parts.inner u) (d ∷ v) (nat_eq_same c quote r.1) last (ap (λ k. take k (d ∷ v) ++ get_or (d ∷ v) (length v) 0 ∷ []) n ∙ front_last d v);
      plain = p.1;
    }

inner_of : (v : List ℕ) → parts.inner (quote ∷ (v ++ quote ∷ [])) ≡ v
inner_of v =
    let n : length (quote ∷ (v ++ quote ∷ [])) - 1 - 1 ≡ length v = omega (arith, length-append v (quote ∷ [])) in
    ap (λ k. take k (v ++ quote ∷ [])) n ∙ take-append_seam v (quote ∷ [])

simple_complete : (v : List ℕ) → list_all is_plain v ≡ true → parts.is_simple (quote ∷ (v ++ quote ∷ [])) ≡ true
simple_complete v h =
    let u : List ℕ = quote ∷ (v ++ quote ∷ []) in
    let size : length u - 1 ≡ length (quote ∷ v) = omega (arith, length-append v (quote ∷ [])) in
    let long : 2 ≤ length u = omega (arith, length-append v (quote ∷ [])) in
    let last : get_or u (length u - 1) 0 ≡ quote = ap (λ n. get_or u n 0) size ∙ get_or-append_seam (quote ∷ v) quote [] 0 in
    both (nat_le 2 (length u) && true && get_or u (length u - 1) 0 == quote) (list_all is_plain (parts.inner u))
    (both (nat_le 2 (length u) && true) (get_or u (length u - 1) 0 == quote) (both (nat_le 2 (length u)) true (le-leb 2 (length u) long) refl) (ap (λ c. c == quote) last))
    (ap (list_all is_plain) (inner_of v) ∙ h)

pub simple_value : (u : List ℕ) → parts.is_simple u ≡ true → text_value u ≡ parts.inner u
simple_value u e =
    let f = simple_sound u e in ap text_value f.whole ∙ (spelled_text (parts.inner u) (parts.inner u) (plain_spells (parts.inner u) f.plain)).1

-- literals ---------------------------------------------------------------

some_same : {X : Type 0} (x y : X) → Some x ≡ Some y → x ≡ y
some_same x y e = cc

constant_sound : (P : Query → Type 0) (a b c : Bool) (q : Query) → (a ≡ true → P queries.Null) → (b ≡ true → P queries.True) → (c ≡ true → P queries.False) →
    (if a then Some queries.Null else if b then Some queries.True else if c then Some queries.False else None) ≡ Some q → P q
constant_sound P true b c q f g h e = subst P (some_same queries.Null q e) (f refl)
constant_sound P false true c q f g h e = subst P (some_same queries.True q e) (g refl)
constant_sound P false false true q f g h e = subst P (some_same queries.False q e) (h refl)
constant_sound P false false false q f g h e = cc

text_sound : (P : Query → Type 0) (b : Bool) (x q : Query) → (b ≡ true → P x) → (if b then Some x else None) ≡ Some q → P q
text_sound P true x q f e = subst P (some_same x q e) (f refl)
text_sound P false x q f e = cc

is_word : (s : List ℕ) (t : Token) (name : List ℕ) → t.kind ≡ kinds.Name → bytes_eq (bytes_of s t) name ≡ true → IsName s t name
is_word s t name k e = record { kind = k; bytes = (bytes_eq-Decides (bytes_of s t) name).0 e }

literal_sound : (s : List ℕ) (t : Token) (k : Kind) (q : Query) → t.kind ≡ k → parts.literal_of k t.from (bytes_of s t) ≡ Some q → ReadsQuery s (t ∷ []) q
literal_sound s t kinds.Name q k e =
    let P : Query → Type 0 = λ q. ReadsQuery s (t ∷ []) q in
    constant_sound P (bytes_eq (bytes_of s t) (codes "null")) (bytes_eq (bytes_of s t) (codes "true")) (bytes_eq (bytes_of s t) (codes "false")) q
    (λ b. ReadsQuery.null t (is_word s t (codes "null") k b)) (λ b. ReadsQuery.holds t (is_word s t (codes "true") k b)) (λ b. ReadsQuery.fails t (is_word s t (codes "false") k b)) e
literal_sound s t kinds.Int q k e =
    let P : Query → Type 0 = λ q. ReadsQuery s (t ∷ []) q in subst P (some_same (queries.Int (pos (int_value (bytes_of s t)))) q e) (ReadsQuery.int t k)
literal_sound s t kinds.Text q k e =
    let u = bytes_of s t in
    let P : Query → Type 0 = λ q. ReadsQuery s (t ∷ []) q in
    text_sound P (parts.is_simple u) (queries.Quoted (record { at = t.from; text = parts.inner u })) q
    (λ b. let f = simple_sound u b in ReadsQuery.text t (parts.inner u) k f.whole f.plain) e
literal_sound s t _ q k e = cc

-- queries ----------------------------------------------------------------

path_sound : (s : List ℕ) (t : Token) (ts : List Token) (o : Option (List (Suffix Query))) (q : Query) → IsName s t (codes "this") →
    ((xs : List (Suffix Query)) → o ≡ Some xs → Steps s ts xs) → option_map parts.from_this o ≡ Some q → ReadsQuery s (t ∷ ts) q
path_sound s t ts None q n f e = cc
path_sound s t ts (Some xs) q n f e =
    let g : Steps s ts xs = f xs refl in
    let P : Query → Type 0 = λ q. ReadsQuery s (t ∷ ts) q in
    subst P (sym (path_from g.names) ∙ ap parts.from_this (sym g.same) ∙ some_same (parts.from_this xs) q e) (ReadsQuery.this t n g.are)

alone_sound : (s : List ℕ) (t : Token) (ts : List Token) (o : Option Query) (q : Query) → (o ≡ Some q → ReadsQuery s (t ∷ []) q) → parts.alone o ts ≡ Some q → ReadsQuery s (t ∷ ts) q
alone_sound s t [] o q f e = f e
alone_sound s t (u ∷ us) o q f e = cc

by_this : (s : List ℕ) (t : Token) (ts : List Token) (b : Bool) (q : Query) → (b ≡ true → IsName s t (codes "this")) →
    (if b then option_map parts.from_this (parts.steps_of s ts) else parts.alone (parts.literal_of t.kind t.from (bytes_of s t)) ts) ≡ Some q → ReadsQuery s (t ∷ ts) q
by_this s t ts true q n e = path_sound s t ts (parts.steps_of s ts) q (n refl) (λ xs g. steps_sound s ts xs g) e
by_this s t ts false q n e = alone_sound s t ts (parts.literal_of t.kind t.from (bytes_of s t)) q (literal_sound s t t.kind q refl) e

query_sound : (s : List ℕ) (ts : List Token) (q : Query) → parts.query_of s ts ≡ Some q → ReadsQuery s ts q
query_sound s [] q e = cc
query_sound s (t ∷ ts) q e = by_this s t ts (parts.is_name s t (codes "this")) q (named s t (codes "this")) e

-- another name than `this`
not_this : (s : List ℕ) (t : Token) (name : List ℕ) → IsName s t name → bytes_eq name (codes "this") ≡ false → parts.is_name s t (codes "this") ≡ false
not_this s t name n h = false_right (is_name_kind t.kind) (bytes_eq (bytes_of s t) (codes "this")) (ap (λ u. bytes_eq u (codes "this")) n.bytes ∙ h)

-- another kind than a name
no_name : (s : List ℕ) (t : Token) (name : List ℕ) → is_name_kind t.kind ≡ false → parts.is_name s t name ≡ false
no_name s t name h = ap (λ b. b && bytes_eq (bytes_of s t) name) h

literal_alone : (s : List ℕ) (t : Token) (q : Query) → parts.is_name s t (codes "this") ≡ false → parts.literal_of t.kind t.from (bytes_of s t) ≡ Some q → parts.query_of s (t ∷ []) ≡ Some q
literal_alone s t q h e =
    ap (λ b. if b then option_map parts.from_this (parts.steps_of s []) else parts.alone (parts.literal_of t.kind t.from (bytes_of s t)) []) h ∙ e

literal_by : (t : Token) (k : Kind) (u v : List ℕ) → t.kind ≡ k → u ≡ v → parts.literal_of t.kind t.from u ≡ parts.literal_of k t.from v
literal_by t k u v p e = ap (λ k. parts.literal_of k t.from u) p ∙ ap (parts.literal_of k t.from) e

query_complete : (s : List ℕ) (ts : List Token) (q : Query) → ReadsQuery s ts q → parts.query_of s ts ≡ Some q
query_complete s ts q (ReadsQuery.null t n) = literal_alone s t queries.Null (not_this s t (codes "null") n refl) (literal_by t kinds.Name (bytes_of s t) (codes "null") n.kind n.bytes)
query_complete s ts q (ReadsQuery.holds t n) = literal_alone s t queries.True (not_this s t (codes "true") n refl) (literal_by t kinds.Name (bytes_of s t) (codes "true") n.kind n.bytes)
query_complete s ts q (ReadsQuery.fails t n) = literal_alone s t queries.False (not_this s t (codes "false") n refl) (literal_by t kinds.Name (bytes_of s t) (codes "false") n.kind n.bytes)
query_complete s ts q (ReadsQuery.int t k) =
    literal_alone s t (queries.Int (pos (int_value (bytes_of s t)))) (no_name s t (codes "this") (ap is_name_kind k)) (literal_by t kinds.Int (bytes_of s t) (bytes_of s t) k refl)
query_complete s ts q (ReadsQuery.text t v k e h) =
    literal_alone s t (queries.Quoted (record { at = t.from; text = v })) (no_name s t (codes "this") (ap is_name_kind k))
    (literal_by t kinds.Text (bytes_of s t) (quote ∷ (v ++ quote ∷ [])) k e ∙ chosen (parts.is_simple (quote ∷ (v ++ quote ∷ []))) (Some (queries.Quoted (record { at = t.from; text = parts.inner (quote ∷ (v ++ quote ∷ [])) }))) None (simple_complete v h)
    ∙ ap (λ v. Some (queries.Quoted (record { at = t.from; text = v }))) (inner_of v))
query_complete s ts q (ReadsQuery.this {ts = us} {names = names} t n r) =
    chosen (parts.is_name s t (codes "this")) (option_map parts.from_this (parts.steps_of s us)) (parts.alone (parts.literal_of t.kind t.from (bytes_of s t)) us) (named_so s t (codes "this") n)
    ∙ ap (option_map parts.from_this) (steps_complete s us names r) ∙ ap Some (path_from names)

-- mappings ---------------------------------------------------------------

record Assigns (s : List ℕ) (root mark : Token) (value : List Token) (m : Mapping) : Type 0 where
  pub root_is : IsName s root (codes "root")
  pub mark_is : mark.kind ≡ kinds.Assign
  pub query : Query
  pub reads : ReadsQuery s value query
  pub gives : m ≡ assignment root.from (line_of s root.from) query

assigns_by : (s : List ℕ) (root mark : Token) (value : List Token) (o : Option Query) (m : Mapping) → IsName s root (codes "root") → mark.kind ≡ kinds.Assign →
    ((q : Query) → o ≡ Some q → ReadsQuery s value q) → option_map (assignment root.from (line_of s root.from)) o ≡ Some m → Assigns s root mark value m
assigns_by s root mark value None m n k f e = cc
assigns_by s root mark value (Some q) m n k f e =
    record { root_is = n; mark_is = k; query = q; reads = f q refl; gives = sym (some_mapping (assignment root.from (line_of s root.from) q) m e) }
  where
    some_mapping : (x y : Mapping) → Some x ≡ Some y → x ≡ y
    some_mapping x y e = cc

assigns : (s : List ℕ) (root mark : Token) (value : List Token) (m : Mapping) (b : Bool) → (b ≡ true → IsName s root (codes "root") × (mark.kind ≡ kinds.Assign)) →
    (if b then option_map (assignment root.from (line_of s root.from)) (parts.query_of s value) else None) ≡ Some m → Assigns s root mark value m
assigns s root mark value m true f e = assigns_by s root mark value (parts.query_of s value) m (f refl).0 (f refl).1 (query_sound s value) e
assigns s root mark value m false f e = cc

pub mapping_sound : (s : List ℕ) (ts : List Token) (m : Mapping) → HasTokens s ts → has_only_blanks s 0 ts ≡ true → parts.assignment_of s ts ≡ Some m → BuiltReading s m
mapping_sound s [] m h b e = cc
mapping_sound s (root ∷ []) m h b e = cc
mapping_sound s (root ∷ mark ∷ value) m h b e =
    let f : Assigns s root mark value m = assigns s root mark value m (parts.is_name s root (codes "root") && parts.is_assign mark.kind)
    (λ c. let p = and_parts (parts.is_name s root (codes "root")) (parts.is_assign mark.kind) c in (named s root (codes "root") p.0, assign_kind mark.kind p.1)) e in
    record { root = root; assign = mark; value = value; query = f.query; tokens = h; blanks = b; root_is = f.root_is; assign_is = f.mark_is; reads = f.reads; gives = f.gives }

sound_by : (s : List ℕ) (ts : List Token) (m : Mapping) (b : Bool) → HasTokens s ts → (b ≡ true → has_only_blanks s 0 ts ≡ true) → (if b then parts.assignment_of s ts else None) ≡ Some m → BuiltReading s m
sound_by s ts m true h f e = mapping_sound s ts m h (f refl) e
sound_by s ts m false h f e = cc

-- what the reader finds is a reading
pub read_sound : (s : List ℕ) (ts : List Token) (m : Mapping) → HasTokens s ts → parts.mapping_of s ts ≡ Some m → BuiltReading s m
read_sound s ts m h e = sound_by s ts m (has_only_blanks s 0 ts) h (λ b. b) e

mapping_complete : (s : List ℕ) (ts : List Token) (root mark : Token) (value : List Token) (q : Query) → ts ≡ root ∷ mark ∷ value → has_only_blanks s 0 (root ∷ mark ∷ value) ≡ true →
    IsName s root (codes "root") → mark.kind ≡ kinds.Assign → ReadsQuery s value q → parts.mapping_of s ts ≡ Some (assignment root.from (line_of s root.from) q)
mapping_complete s ts root mark value q same b n k r =
    ap (parts.mapping_of s) same
    ∙ chosen (has_only_blanks s 0 (root ∷ mark ∷ value)) (parts.assignment_of s (root ∷ mark ∷ value)) None b
    ∙ chosen (parts.is_name s root (codes "root") && parts.is_assign mark.kind) (option_map (assignment root.from (line_of s root.from)) (parts.query_of s value)) None
    (both (parts.is_name s root (codes "root")) (parts.is_assign mark.kind) (named_so s root (codes "root") n) (ap parts.is_assign k))
    ∙ ap (option_map (assignment root.from (line_of s root.from))) (query_complete s value q r)

-- a reading is what the reader finds
pub read_complete : (s : List ℕ) (ts : List Token) (m : Mapping) → HasTokens s ts → BuiltReading s m → parts.mapping_of s ts ≡ Some m
read_complete s ts m h r =
    mapping_complete s ts r.root r.assign r.value r.query (one_list s ts (r.root ∷ r.assign ∷ r.value) h r.tokens) r.blanks r.root_is r.assign_is r.reads ∙ ap Some (sym r.gives)

pub one_reading : (s : List ℕ) (m n : Mapping) → BuiltReading s m → BuiltReading s n → m ≡ n
one_reading s m n p q =
    let ts : List Token = p.root ∷ p.assign ∷ p.value in
    same m n (sym (read_complete s ts m p.tokens p) ∙ read_complete s ts n p.tokens q)
  where
    same : (x y : Mapping) → Some x ≡ Some y → x ≡ y
    same x y e = cc

names_are : (names : List (List ℕ)) → are_names (map suffixes.Name names) ≡ true
names_are [] = refl
names_are (name ∷ names) = names_are names

path_built : (names : List (List ℕ)) → is_built_query (path names) ≡ true
path_built [] = search (rules, the_lemmas)
path_built (name ∷ names) = let h = names_are names in search (rules, the_lemmas, h)

query_built : (s : List ℕ) (ts : List Token) (q : Query) → ReadsQuery s ts q → is_built_query q ≡ true
query_built s ts q (ReadsQuery.null t n) = search (rules, the_lemmas)
query_built s ts q (ReadsQuery.holds t n) = search (rules, the_lemmas)
query_built s ts q (ReadsQuery.fails t n) = search (rules, the_lemmas)
query_built s ts q (ReadsQuery.int t k) = search (rules, the_lemmas)
query_built s ts q (ReadsQuery.text t v k e h) = search (rules, the_lemmas)
query_built s ts q (ReadsQuery.this {names = names} t n r) = path_built names

pub reading_built : (s : List ℕ) (m : Mapping) → BuiltReading s m → IsBuilt m
reading_built s m r = record { at = r.root.from; line = line_of s r.root.from; query = r.query; is = r.gives; built = query_built s r.value r.query r.reads }

-- what the reader's functions answer ---------------------------------------

pub spans_of : (s : List ℕ) (ts us : List Token) → us ≡ ts → HasTokens s ts → AreSpans s 0 us
spans_of s ts us e h = tokens_spans s us (subst (λ (ts : List Token). HasTokens s ts) (sym e) h)

pub each_of : (s : List ℕ) (ts us : List Token) → us ≡ ts → HasTokens s ts → AllByRecursion (IsSpan s) us
each_of s ts us e h = each_span s 0 us (spans_of s ts us e h)

pub text_found : (u v : List ℕ) (at : ℕ) → parts.is_simple u ≡ true → v ≡ text_value u → Some (queries.Quoted (record { at = at; text = v })) ≡ parts.text_of u at
text_found u v at b e =
    ap (λ v. Some (queries.Quoted (record { at = at; text = v }))) (e ∙ simple_value u b)
    ∙ sym (chosen (parts.is_simple u) (Some (queries.Quoted (record { at = at; text = parts.inner u }))) None b)

none_found : (s : List ℕ) (ts : List Token) (m : Mapping) → HasTokens s ts → None ≡ parts.mapping_of s ts → BuiltReading s m → ⊥
none_found s ts m h e r = let f : parts.mapping_of s ts ≡ Some m = read_complete s ts m h r in cc

module _ {E : Type 0} (s : List ℕ) (us ts : List Token) where
  pub found_read : (r : Result (Option Mapping) E) → us ≡ ts → HasTokens s ts → IfOk r (λ found. found ≡ parts.mapping_of s us) → IfOk r (λ found. IfSome found (λ m. BuiltReading s m))
  found_read (Err e) same h f = tt
  found_read (Ok None) same h f = tt
  found_read (Ok (Some m)) same h f = read_sound s ts m h (ap (parts.mapping_of s) (sym same) ∙ sym f)

  pub found_built : (r : Result (Option Mapping) E) → us ≡ ts → HasTokens s ts → IfOk r (λ found. found ≡ parts.mapping_of s us) → IfOk r (λ found. IfSome found (λ m. IsBuilt m))
  found_built (Err e) same h f = tt
  found_built (Ok None) same h f = tt
  found_built (Ok (Some m)) same h f = reading_built s m (read_sound s ts m h (ap (parts.mapping_of s) (sym same) ∙ sym f))

  pub found_none : (r : Result (Option Mapping) E) → us ≡ ts → HasTokens s ts → IfOk r (λ found. found ≡ parts.mapping_of s us) →
      IfOk r (λ found. found ≡ None → (m : Mapping) → BuiltReading s m → ⊥)
  found_none (Err e) same h f = tt
  found_none (Ok found) same h f = λ none m. none_found s ts m h (sym none ∙ f ∙ ap (parts.mapping_of s) same)

rest_two : (dot name : Token) (ts : List Token) → take (length (dot ∷ name ∷ ts) - 2) ts ≡ ts
rest_two dot name ts =
    let n : length (dot ∷ name ∷ ts) - 2 ≡ length ts = omega arith in
    ap (λ k. take k ts) n ∙ take-length ts

steps_on : (s : List ℕ) (rest : List Token) (d : Token) → 2 ≤ length rest → parts.is_step (get_or rest 0 d) (get_or rest 1 d) ≡ true →
    parts.steps_of s rest ≡ parts.one_more (bytes_of s (get_or rest 1 d)) (parts.steps_of s (take (length rest - 2) (drop 2 rest)))
steps_on s [] d h b = absurd (omega arith)
steps_on s (dot ∷ []) d h b = absurd (omega arith)
steps_on s (dot ∷ name ∷ ts) d h b =
    chosen (parts.is_step dot name) (parts.one_more (bytes_of s name) (parts.steps_of s ts)) None b
    ∙ ap (λ ts. parts.one_more (bytes_of s name) (parts.steps_of s ts)) (sym (rest_two dot name ts))

pub spans_on : (s : List ℕ) (rest : List Token) → AllByRecursion (IsSpan s) rest → AllByRecursion (IsSpan s) (take (length rest - 2) (drop 2 rest))
spans_on s [] h = tt
spans_on s (dot ∷ []) h = tt
spans_on s (dot ∷ name ∷ ts) h = subst (λ (ts : List Token). AllByRecursion (IsSpan s) ts) (sym (rest_two dot name ts)) h.1.1

-- one more step
pub steps_next : (s : List ℕ) (tokens rest : List Token) (d : Token) (xs new : List (Suffix Query)) (name : List ℕ) → 2 ≤ length rest →
    parts.is_step (get_or rest 0 d) (get_or rest 1 d) ≡ true → parts.steps_of s tokens ≡ behind xs (parts.steps_of s rest) →
    name ≡ bytes_of s (get_or rest 1 d) → new ≡ xs ++ suffixes.Name name ∷ [] →
    parts.steps_of s tokens ≡ behind new (parts.steps_of s (take (length rest - 2) (drop 2 rest)))
steps_next s tokens rest d xs new name h b same is grown =
    let later : List Token = take (length rest - 2) (drop 2 rest) in
    same ∙ ap (behind xs) (steps_on s rest d h b ∙ ap (λ n. parts.one_more n (parts.steps_of s later)) (sym is))
    ∙ behind-one xs name (parts.steps_of s later) ∙ ap (λ xs. behind xs (parts.steps_of s later)) (sym grown)
