-- Messages whose origins stand, through processors.
use Rattle.std.proofs.Common.{ℕ, ◌+◌, List, [], ◌∷◌, ◌++◌, map, length, Bool, true, false, cond, Option, Some, None, Result, Ok, Err, subst, if◌then◌else◌}
use Rattle.std.specs.List.{AllByRecursion, enumerate_from, filter, flat_map}
use Rattle.std.specs.Ordering.{nat_cmp}
use Rattle.std.specs.Set.{sorted_merge}
use Rattle.std.specs.Str.{bytes_eq}
use Rattle.bt_value.specs.declared.val.Val.{Val}
use Rattle.bt_value.specs.declared.message.Msg.{Msg}
use Rattle.bt_cut.specs.Cuts.{pieces_after, left}
use Rattle.bt_messages.specs.Messages.{is_flagged}
use Rattle.bt_messages.specs.Steps.{step}
use Rattle.bt_batches.specs.declared.piece.Piece.{Piece}
use Rattle.bt_batches.specs.Pieces.{flagged_piece, without_flag, filled, joined, with_origins, origins_of}
use Rattle.bt_batches.specs.Grouping.{is_full, passing, others, pieces_of, Keyed, keyed, texts_of, appearing, of_text, all_keyed, by_value}
use Rattle.bt_batches.specs.Archives.{origins, archived, as_array, documents, with_contents, with_elements}
use Rattle.bt_mappings.specs.declared.interpolation.Bit.{Bit}
use Rattle.bt_proc.specs.declared.tree.Format.{Format}
use Rattle.bt_proc.specs.declared.tree.Format.TheVariants.{Lines, JsonArray}
use Rattle.bt_proc.specs.declared.tree.Group.{Group}
use Rattle.bt_proc.specs.declared.tree.Processor.{Processor, fold-roll-Processor, ind-Processor, roll-Processor, map-Processor}
use Rattle.bt_proc.specs.declared.tree.Processor.TheOpen.{Processor-F}
use Rattle.bt_proc.specs.Procs.{Effect, in_order, run, alone, tried_by, tried, caught, grouped, archive, unarchive, effect_of, effect, procs}
use Rattle.bt_parts.specs.Origins.{Stands, AllStand, BatchesStand}
use Rattle.bt_parts.proofs.Unions.{union_stands}

-- lists ---------------------------------------------------------------------

join : {X : Type 0} (P : X → Type 0) (xs ys : List X) → AllByRecursion P xs → AllByRecursion P ys → AllByRecursion P (xs ++ ys)
join P [] ys h k = k
join P (x ∷ xs) ys h k = (h.0, join P xs ys h.1 k)

-- what is made of each, end to end
spread : {X Y : Type 0} (P : X → Type 0) (Q : Y → Type 0) (f : X → List Y) → ((x : X) → P x → AllByRecursion Q (f x)) → (xs : List X) → AllByRecursion P xs → AllByRecursion Q (flat_map f xs)
spread P Q f each [] h = tt
spread P Q f each (x ∷ xs) h = join Q (f x) (flat_map f xs) (each x h.0) (spread P Q f each xs h.1)

mapped : {X Y : Type 0} (P : X → Type 0) (Q : Y → Type 0) (f : X → Y) → ((x : X) → P x → Q (f x)) → (xs : List X) → AllByRecursion P xs → AllByRecursion Q (map f xs)
mapped P Q f each [] h = tt
mapped P Q f each (x ∷ xs) h = (each x h.0, mapped P Q f each xs h.1)

kept_one : {X : Type 0} (P : X → Type 0) (b : Bool) (x : X) (xs : List X) → P x → AllByRecursion P xs → AllByRecursion P (cond b (x ∷ xs) xs)
kept_one P true x xs h k = (h, k)
kept_one P false x xs h k = k

kept : {X : Type 0} (P : X → Type 0) (p : X → Bool) (xs : List X) → AllByRecursion P xs → AllByRecursion P (filter p xs)
kept P p [] h = tt
kept P p (x ∷ xs) h = kept_one P (p x) x (filter p xs) h.0 (kept P p xs h.1)

numbered : {X : Type 0} (P : X → Type 0) (i : ℕ) (xs : List X) → AllByRecursion P xs → AllByRecursion (λ (e : ℕ × X). P e.1) (enumerate_from i xs)
numbered P i [] h = tt
numbered P i (x ∷ xs) h = (h.0, numbered P (i + 1) xs h.1)

-- batches ---------------------------------------------------------------------

abbrev One : ℕ → Piece → Type 0
One n p = Stands n p.from

filled_stands : (n : ℕ) (ps : List Piece) → AllStand n ps → BatchesStand n (filled ps)
filled_stands n [] h = tt
filled_stands n (p ∷ ps) h = (h, tt)

joined_stands : (n : ℕ) (bs : List (List Piece)) → BatchesStand n bs → AllStand n (joined bs)
joined_stands n bs h = spread (AllStand n) (One n) (λ b. b) (λ b k. k) bs h

-- an effect that keeps origins standing
abbrev Keeps : Effect → Type 0
Keeps f = (moment n : ℕ) (ps : List Piece) → AllStand n ps → BatchesStand n (f moment ps)

in_order_stands : (fs : List Effect) → AllByRecursion Keeps fs → (moment n : ℕ) (bs : List (List Piece)) → BatchesStand n bs → BatchesStand n (in_order fs moment bs)
in_order_stands [] keeps moment n bs h = h
in_order_stands (f ∷ fs) keeps moment n bs h = in_order_stands fs keeps.1 moment n (flat_map (f moment) bs) (spread (AllStand n) (AllStand n) (f moment) (λ b k. keeps.0 moment n b k) bs h)

run_stands : (fs : List Effect) → AllByRecursion Keeps fs → Keeps (run fs)
run_stands fs keeps moment n ps h = in_order_stands fs keeps moment n (filled ps) (filled_stands n ps h)

alone_stands : (fs : List Effect) → AllByRecursion Keeps fs → (moment n : ℕ) (p : Piece) → One n p → AllStand n (alone fs moment p)
alone_stands fs keeps moment n p h = joined_stands n (run fs moment (p ∷ [])) (run_stands fs keeps moment n (p ∷ []) (h, tt))

either_stands : (n : ℕ) (b : Bool) (ps qs : List Piece) → AllStand n ps → AllStand n qs → AllStand n (if b then ps else qs)
either_stands n true ps qs h k = h
either_stands n false ps qs h k = k

tried_by_stands : (f : Effect) → Keeps f → (moment n : ℕ) (p : Piece) → One n p → AllStand n (tried_by f moment p)
tried_by_stands f keeps moment n p h = either_stands n (is_flagged p.msg) (p ∷ []) (joined (f moment (p ∷ []))) (h, tt) (joined_stands n (f moment (p ∷ [])) (keeps moment n (p ∷ []) (h, tt)))

tried_stands : (fs : List Effect) → AllByRecursion Keeps fs → (moment n : ℕ) (ps : List Piece) → AllStand n ps → AllStand n (tried fs moment ps)
tried_stands [] keeps moment n ps h = h
tried_stands (f ∷ fs) keeps moment n ps h = tried_stands fs keeps.1 moment n (flat_map (tried_by f moment) ps) (spread (One n) (One n) (tried_by f moment) (λ p k. tried_by_stands f keeps.0 moment n p k) ps h)

caught_stands : (fs : List Effect) → AllByRecursion Keeps fs → (moment n : ℕ) (p : Piece) → One n p → AllStand n (caught fs moment p)
caught_stands fs keeps moment n p h =
    either_stands n (is_flagged p.msg) (map without_flag (alone fs moment p)) (p ∷ []) (mapped (One n) (One n) without_flag (λ q k. k) (alone fs moment p) (alone_stands fs keeps moment n p h)) (h, tt)

-- messages in their places
placed : (n : ℕ) (xs : List (Option Msg)) (os : List (List ℕ)) → AllByRecursion (Stands n) os → AllStand n (with_origins xs os)
placed n [] os h = tt
placed n (x ∷ xs) [] h = tt
placed n (None ∷ xs) (o ∷ os) h = placed n xs os h.1
placed n (Some x ∷ xs) (o ∷ os) h = (h.0, placed n xs os h.1)

-- pieces of a size
left_stands : (n : ℕ) (qs : List Piece) → AllStand n qs → BatchesStand n (left qs)
left_stands n [] h = tt
left_stands n (q ∷ qs) h = (h, tt)

cut_one : (n : ℕ) (b : Bool) (got : List Piece) (after on : List (List Piece)) → AllStand n got → BatchesStand n after → BatchesStand n on → BatchesStand n (if b then got ∷ after else on)
cut_one n true got after on h k g = (h, k)
cut_one n false got after on h k g = g

cut_stands : (n size : ℕ) (got ps : List Piece) → AllStand n got → AllStand n ps → BatchesStand n (pieces_after (is_full size) got ps)
cut_stands n size got [] h k = left_stands n got h
cut_stands n size got (p ∷ ps) h k =
    let more : AllStand n (got ++ (p ∷ [])) = join (One n) got (p ∷ []) h (k.0, tt) in
    cut_one n (is_full size (got ++ (p ∷ []))) (got ++ (p ∷ [])) (pieces_after (is_full size) [] ps) (pieces_after (is_full size) (got ++ (p ∷ [])) ps) more
    (cut_stands n size [] ps tt k.1) (cut_stands n size (got ++ (p ∷ [])) ps more k.1)

-- groups
abbrev Numbered : ℕ → ℕ × Piece → Type 0
Numbered n e = Stands n e.1.from

bare_stands : (n : ℕ) (es : List (ℕ × Piece)) → AllByRecursion (Numbered n) es → AllStand n (pieces_of es)
bare_stands n es h = mapped (Numbered n) (One n) (λ e. e.1) (λ e k. k) es h

grouped_stands : (gs : List (Group Effect)) → AllByRecursion (λ (g : Group Effect). AllByRecursion Keeps g.processors) gs → (size moment n : ℕ) (es : List (ℕ × Piece)) → AllByRecursion (Numbered n) es →
    BatchesStand n (grouped gs size moment es)
grouped_stands [] keeps size moment n es h = filled_stands n (pieces_of es) (bare_stands n es h)
grouped_stands (g ∷ gs) keeps size moment n es h =
    join (AllStand n) (run g.processors moment (pieces_of (passing g.check size moment es))) (grouped gs size moment (others g.check size moment es))
    (run_stands g.processors keeps.0 moment n (pieces_of (passing g.check size moment es)) (bare_stands n (passing g.check size moment es) (kept (Numbered n) _ es h)))
    (grouped_stands gs keeps.1 size moment n (others g.check size moment es) (kept (Numbered n) _ es h))

abbrev WithText : ℕ → Keyed → Type 0
WithText n k = Stands n k.1.from

by_text_stands : (n : ℕ) (ks : List Keyed) → AllByRecursion (WithText n) ks → (ts : List (List ℕ)) → BatchesStand n (map (of_text ks) ts)
by_text_stands n ks h [] = tt
by_text_stands n ks h (t ∷ ts) = (mapped (WithText n) (One n) (λ k. k.1) (λ k s. s) (filter (λ k. bytes_eq k.0 t) ks) (kept (WithText n) _ ks h), by_text_stands n ks h ts)

by_value_stands : (bits : List Bit) (moment n : ℕ) (ps : List Piece) → AllStand n ps → BatchesStand n (by_value bits moment ps)
by_value_stands bits moment n ps h =
    by_text_stands n (all_keyed bits moment ps) (mapped (Numbered n) (WithText n) (keyed bits (length ps) moment) (λ e k. k) (enumerate_from 0 ps) (numbered (One n) 0 ps h)) (appearing (texts_of (all_keyed bits moment ps)))

-- archives
origins_stand : (n : ℕ) (from : List ℕ) (ps : List Piece) → Stands n from → AllStand n ps → Stands n (origins from ps)
origins_stand n from [] h k = h
origins_stand n from (p ∷ ps) h k = origins_stand n (sorted_merge nat_cmp true from p.from) ps (union_stands n from p.from h k.0) k.1

archived_stands : (n : ℕ) (content : List ℕ) (ps : List Piece) → AllStand n ps → AllStand n (archived content ps)
archived_stands n content [] h = tt
archived_stands n content (p ∷ ps) h = (origins_stand n p.from ps h.0 h.1, tt)

array_stands : (n : ℕ) (r : Result (List Val) (List ℕ)) (ps : List Piece) → AllStand n ps → AllStand n (as_array r ps)
array_stands n (Ok xs) ps h = archived_stands n _ ps h
array_stands n (Err t) ps h = mapped (One n) (One n) (flagged_piece t) (λ p k. k) ps h

archive_stands : (f : Format) (n : ℕ) (ps : List Piece) → AllStand n ps → AllStand n (archive f ps)
archive_stands Lines n ps h = archived_stands n _ ps h
archive_stands JsonArray n ps h = array_stands n (documents ps) ps h

contents_stand : (n : ℕ) (p : Piece) → One n p → (cs : List (List ℕ)) → AllStand n (with_contents p cs)
contents_stand n p h [] = tt
contents_stand n p h (c ∷ cs) = (h, contents_stand n p h cs)

elements_stand : (n : ℕ) (p : Piece) → One n p → (r : Result (List Val) (List ℕ)) → AllStand n (with_elements p r)
elements_stand n p h (Ok xs) = contents_stand n p h _
elements_stand n p h (Err t) = (h, tt)

unarchive_stands : (f : Format) (n : ℕ) (p : Piece) → One n p → AllStand n (unarchive f p)
unarchive_stands Lines n p h = contents_stand n p h _
unarchive_stands JsonArray n p h = elements_stand n p h _

-- processors ---------------------------------------------------------------------

abbrev Shown : Type 0
Shown = (f : Processor) × Keeps (effect f)

abbrev processors : List Shown → List Processor
processors fs = map (λ (e : Shown). e.0) fs

effects : (fs : List Shown) → AllByRecursion Keeps (map effect (processors fs))
effects [] = tt
effects (f ∷ fs) = (f.1, effects fs)

abbrev group_with : {A B : Type 0} → (A → B) → Group A → Group B
group_with f g = record { check = g.check; processors = map f g.processors }

groups : (gs : List (Group Shown)) → AllByRecursion (λ (g : Group Effect). AllByRecursion Keeps g.processors) (map (group_with effect) (map (group_with (λ (e : Shown). e.0)) gs))
groups [] = tt
groups (g ∷ gs) = (effects g.processors, groups gs)

abbrev under : Processor-F Shown → Processor-F Processor
under y = map-Processor Shown Processor (λ e. e.0) y

level : (y : Processor-F Shown) → Keeps (effect_of (map-Processor Processor Effect effect (under y)))
level (Processor-F.Message m) moment n ps h = filled_stands n _ (placed n (step m moment (map (λ p. Some p.msg) ps)) (origins_of ps) (mapped (One n) (Stands n) (λ p. p.from) (λ p k. k) ps h))
level (Processor-F.Try fs) moment n ps h = filled_stands n _ (spread (One n) (One n) _ (λ p k. tried_stands (map effect (processors fs)) (effects fs) moment n (p ∷ []) (k, tt)) ps h)
level (Processor-F.ForEach fs) moment n ps h = filled_stands n _ (spread (One n) (One n) _ (λ p k. alone_stands (map effect (processors fs)) (effects fs) moment n p k) ps h)
level (Processor-F.Catch fs) moment n ps h = filled_stands n _ (spread (One n) (One n) _ (λ p k. caught_stands (map effect (processors fs)) (effects fs) moment n p k) ps h)
level (Processor-F.Split size) moment n ps h = cut_stands n size [] ps tt h
level (Processor-F.GroupBy gs) moment n ps h = grouped_stands _ (groups gs) (length ps) moment n (enumerate_from 0 ps) (numbered (One n) 0 ps h)
level (Processor-F.GroupByValue bits) moment n ps h = by_value_stands bits.list moment n ps h
level (Processor-F.Archive f) moment n ps h = filled_stands n _ (archive_stands f n ps h)
level (Processor-F.Unarchive f) moment n ps h = filled_stands n _ (spread (One n) (One n) (unarchive f) (λ p k. unarchive_stands f n p k) ps h)

one_stands : (f : Processor) → Keeps (effect f)
one_stands = ind-Processor (λ f. Keeps (effect f)) (λ x y is. subst (λ z. Keeps (effect (roll-Processor z))) is (rw (fold-roll-Processor Effect effect_of (under y)) (level y)))

all_stand : (fs : List Processor) → AllByRecursion Keeps (map effect fs)
all_stand [] = tt
all_stand (f ∷ fs) = (one_stands f, all_stand fs)

pub procs_stand : (fs : List Processor) → Keeps (procs fs)
procs_stand fs = run_stands (map effect fs) (all_stand fs)
