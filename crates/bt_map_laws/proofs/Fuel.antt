-- With fuel for as many applications as there are maps, more changes nothing.
use Rattle.std.proofs.Common.{◌≡◌, ℕ, zero, suc, ◌+◌, ◌≤◌, List, [], ◌∷◌, length, map, Option, Some, None, Result, Ok, Err, refl, sym, ap, ◌∙◌, arith, length-append}
use Rattle.std.specs.List.{Contains}
use Rattle.std.proofs.lemmas.List.Elements.{Contains-append_left, Contains-append_right}
use Rattle.std.proofs.Math.Path.{fun_ext}
use Rattle.bt_value.specs.declared.val.Val.{Val}
use Rattle.bt_value.specs.declared.message.Msg.{Msg}
use Rattle.bt_value.specs.declared.message.Out.{Out}
use Rattle.bt_value.specs.declared.message.Out.TheVariants.{Nothing}
use Rattle.bt_tree.specs.declared.tree.Word.{Word}
use Rattle.bt_tree.specs.declared.tree.MapStmt.{MapStmt}
use Rattle.bt_tree.specs.declared.tree.MapStmt.TheVariants as ms
use Rattle.bt_tree.specs.declared.tree.Mapping.{Mapping}
use Rattle.bt_tree.specs.declared.tree.Stmt.{Stmt}
use Rattle.bt_tree.specs.declared.tree.Stmt.TheVariants as st
use Rattle.bt_findings.specs.declared.finding.Finding.TheVariants as found
use Rattle.bt_lints.specs.Lints.{body_findings, map_names, map_stmt_findings, stmt_maps}
use Rattle.bt_lints.specs.declared.lint.MapLintKind.TheVariants as kind
use Rattle.bt_lints.specs.declared.lint.Use.{Use}
use Rattle.bt_meaning.specs.Contexts.{Where}
use Rattle.bt_meaning.specs.Outcomes.{key_text}
use Rattle.bt_meaning.specs.Statements.{assigned, at_state, bound, with_root, with_vars}
use Rattle.bt_meaning.specs.Maps.{applied, fresh, map_of, map_step, map_steps, run_map}
use Rattle.bt_meaning.specs.Mapped.{maps_of, top}
use Rattle.bt_meaning.specs.declared.message.Spot.{Spot}
use Rattle.bt_meaning.specs.declared.state.State.{State}
use Rattle.bt_map_laws.specs.Environments.{Environment, inside, with_maps}
use Rattle.bt_map_laws.specs.Nests.{HasNo, map_count}
use Rattle.bt_map_laws.proofs.Agreement.{queries_depend_on_what_they_apply}
use Rattle.bt_map_laws.proofs.Linted.{acyclic, linked, map_stands, named, right_arguments}
use Rattle.bt_map_laws.proofs.Nested.{IsApart, Met, apart_more, apart_none, few, met_more, met_none}

-- ---- bodies

module _ (f g : Environment) where
  abbrev IsRight : List MapStmt → Type 0
  IsRight xs = (at : ℕ) → Contains (body_findings xs) (found.WrongArguments at) → ⊥

  abbrev Agree : List MapStmt → Type 0
  Agree xs = (w : Word) → Contains (body_findings xs) (found.Apply w) → (x : Val) → f w.text x ≡ g w.text x

  step_same : (y : MapStmt) → ((at : ℕ) → Contains (map_stmt_findings y) (found.WrongArguments at) → ⊥) →
      ((w : Word) → Contains (map_stmt_findings y) (found.Apply w) → (x : Val) → f w.text x ≡ g w.text x) →
      (c : Where) (s : State) → map_step (with_maps f c) y s ≡ map_step (with_maps g c) y s
  step_same (ms.Root at ns q) right same c s =
      ap (λ (o : Out). with_root s (assigned (map key_text ns) o s.root)) (queries_depend_on_what_they_apply q f g right same (at_state c s))
  step_same (ms.Let n q) right same c s =
      ap (λ (o : Out). with_vars s (bound n o s.vars)) (queries_depend_on_what_they_apply q f g right same (at_state c s))

  steps_same : (xs : List MapStmt) → IsRight xs → Agree xs → (c : Where) (s : Result State (List ℕ)) → map_steps (with_maps f c) xs s ≡ map_steps (with_maps g c) xs s
  steps_same xs right same c (Err t) = refl
  steps_same [] right same c (Ok s) = refl
  steps_same (y ∷ ys) right same c (Ok s) =
      ap (λ (r : Result State (List ℕ)). map_steps (with_maps f c) ys r)
      (step_same y (λ at h. right at (Contains-append_left (map_stmt_findings y) (body_findings ys) (found.WrongArguments at) h))
      (λ w h. same w (Contains-append_left (map_stmt_findings y) (body_findings ys) (found.Apply w) h)) c s)
      ∙ steps_same ys (λ at h. right at (Contains-append_right (map_stmt_findings y) (body_findings ys) (found.WrongArguments at) h))
      (λ w h. same w (Contains-append_right (map_stmt_findings y) (body_findings ys) (found.Apply w) h)) c (map_step (with_maps g c) y s)

  run_same : (o : Option (List MapStmt)) → ((xs : List MapStmt) → o ≡ Some xs → IsRight xs) → ((xs : List MapStmt) → o ≡ Some xs → Agree xs) →
      (c : Where) → run_map o (with_maps f c) ≡ run_map o (with_maps g c)
  run_same None right same c = refl
  run_same (Some xs) right same c = steps_same xs (right xs refl) (same xs refl) c (Ok fresh)

nothing_of : (o : Option (List MapStmt)) → ((xs : List MapStmt) → o ≡ Some xs → ⊥) → (c : Where) → run_map o c ≡ Nothing
nothing_of None never c = refl
nothing_of (Some xs) never c = absurd (never xs refl)

-- ---- maps

one_at_most : (y : Stmt) → length (stmt_maps y) ≤ 1
one_at_most (st.Map at n xs) = omega arith
one_at_most _ = omega arith

no_more_maps : (ss : List Stmt) → length (map_names ss) ≤ length ss
no_more_maps [] = omega arith
no_more_maps (y ∷ ss) = simp length-append (omega (arith, one_at_most y, no_more_maps ss))

module _ (p : Mapping) (how : Use) (no_cycle : HasNo kind.MapCycle p how) (no_wrong : HasNo kind.WrongArguments p how) (msg : Msg) (spot : Spot) where
  abbrev gives : ℕ → Environment
  gives i = applied i (maps_of p) msg spot

  nothing_at : (i : ℕ) (n : List ℕ) (x : Val) → ((xs : List MapStmt) → map_of n (maps_of p) ≡ Some xs → ⊥) → gives i n x ≡ Nothing
  nothing_at zero n x never = refl
  nothing_at (suc i) n x never = nothing_of (map_of n (maps_of p)) never (inside (gives i) msg spot x)

  in_maps : (n : List ℕ) (xs : List MapStmt) → map_of n (maps_of p) ≡ Some xs → Contains (map_names (maps_of p)) n
  in_maps n xs e = let h = map_stands n (maps_of p) xs e in named (maps_of p) h.0 n xs h.1

  -- where all maps were met, none is left
  none_left : (vs : List (List ℕ)) (n : List ℕ) → Met (maps_of p) vs → IsApart (maps_of p) vs n → map_count p ≤ length vs → (xs : List MapStmt) → map_of n (maps_of p) ≡ Some xs → ⊥
  none_left vs n met apart all xs e = omega (arith, few (maps_of p) (n ∷ vs) (met_more (maps_of p) vs n met apart (in_maps n xs e)))

  pub stable : (i j : ℕ) (vs : List (List ℕ)) (n : List ℕ) → Met (maps_of p) vs → IsApart (maps_of p) vs n → map_count p ≤ i + length vs → map_count p ≤ j + length vs → (x : Val) →
      gives i n x ≡ gives j n x
  stable zero j vs n met apart a b x = sym (nothing_at j n x (none_left vs n met apart (omega arith)))
  stable (suc i) zero vs n met apart a b x = nothing_at (suc i) n x (none_left vs n met apart (omega arith))
  stable (suc i) (suc j) vs n met apart a b x =
      run_same (gives i) (gives j) (map_of n (maps_of p))
      (λ xs e. let h = map_stands n (maps_of p) xs e in right_arguments p how no_wrong h.0 n xs h.1)
      (λ xs e w k y.
      let h = map_stands n (maps_of p) xs e in
      stable i j (n ∷ vs) w.text (met_more (maps_of p) vs n met apart (in_maps n xs e))
      (apart_more (maps_of p) vs n w.text (acyclic p how no_cycle) apart (linked (maps_of p) h.0 n xs w h.1 k))
      (omega arith) (omega arith) y)
      (inside (gives i) msg spot x)

  pub same_gives : (i j : ℕ) → map_count p ≤ i → map_count p ≤ j → (n : List ℕ) (x : Val) → gives i n x ≡ gives j n x
  same_gives i j a b n x = stable i j [] n (met_none (maps_of p)) (apart_none (maps_of p) n) (omega arith) (omega arith) x

  pub bodies_give : (i : ℕ) → map_count p ≤ i → (n : List ℕ) (x : Val) → gives i n x ≡ run_map (map_of n (maps_of p)) (inside (gives i) msg spot x)
  bodies_give i a n x = same_gives i (suc i) a (omega arith) n x

  pub same_top : (i : ℕ) → map_count p ≤ i → with_maps (gives i) (top p msg spot) ≡ top p msg spot
  same_top i a = ap (λ (f : Environment). with_maps f (top p msg spot)) (fun_ext (λ n. fun_ext (same_gives i (length (maps_of p)) a (no_more_maps (maps_of p)) n)))
