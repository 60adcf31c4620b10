use Rattle.std.proofs.Common.{◌≡◌, ℕ, ◌+◌, Ok, Err, ◌++◌, ◌∷◌, [], ◌∙◌, map, take, drop, get_or, ap, sym, subst, arith, length, length-append}
use Rattle.bt_openings.specs.Objects.{IsFile}
use Rattle.bt_openings.specs.Openings.{Opens}
use Rattle.bt_openings.specs.Plan.{opening_of}
use Rattle.bt_openings.proofs.Rows.{paths_next, paths_rest, paths_length, files_next, fresh_sources_next, is_file, made_files, made_length}
use Rattle.bt_openings.proofs.Steps.{opens_then, opens_stopped, opens_early}
use Rattle.bt_ports.specs.Contents.{Contents}
use Rattle.bt_ports.specs.declared.parts.Named.{Named}
use Rattle.bt_openings.proofs.sources.open_files.Goals as goal

pub returns-in-Err-open_file-clause-opens : goal.returns-in-Err-open_file-clause-opens
returns-in-Err-open_file-clause-opens g c =
    let ns = c.args.paths.now in
    let i = c.files.i in
    let now = map opening_of (take i ns) in
    let call = opening_of c.as_str.result.now in
    let next : map opening_of (take (i + 1) ns) ≡ now ++ call ∷ [] = paths_next ns i c.as_str.result.now c.index-paths-i.result c.files-test.true (c.as_str.ensures ∙ c.index-paths-i.is) in
    let rest = map opening_of (drop (i + 1) ns) in
    let whole : map opening_of ns ≡ (now ++ call ∷ []) ++ rest = paths_rest ns (i + 1) ∙ ap (λ cs. cs ++ rest) next in
    subst (λ cs. Opens {T = Contents (Named g.row.W-S.Denot)} g.W.World cs (Err c.in-Err-open_file.stop) c.args.world.now c.open_file.new.world) (sym whole)
    (opens_early g.W.World (now ++ call ∷ []) rest c.in-Err-open_file.stop c.args.world.now c.open_file.new.world
    (opens_stopped g.W.World {V = ℕ} now (call ∷ []) 0 c.in-Err-open_file.stop c.args.world.now c.files.world c.open_file.new.world c.files.invariant.opens c.in-Err-open_file.ensures.opens))

pub files-preserved : goal.files-preserved
files-preserved g c =
    let ns = c.args.paths.now in
    let i = c.files.i in
    let now = map opening_of (take i ns) in
    let call = opening_of c.as_str.result.now in
    let first = length (g.W.World.tale c.args.world.now).calls + 1 in
    let files = (g.W.World.tale c.args.world.now).files in
    let here = c.as_str.ensures ∙ c.index-paths-i.is in
    let next : map opening_of (take (i + 1) ns) ≡ now ++ call ∷ [] = paths_next ns i c.as_str.result.now c.index-paths-i.result c.files-test.true here in
    record {
      many = ap length c.push_reserved.ensures.list ∙ (length-append c.files.sources.list (c.in-Ok.named ∷ []) ∙ ap (λ n. n + 1) c.files.invariant.many);
      room = let a = c.push_reserved.ensures.spare in let b = c.files.invariant.room in omega arith;
      opens = subst (λ cs. Opens {T = ℕ} g.W.World cs (Ok 0) c.args.world.now c.open_file.new.world) (sym next)
          (opens_then g.W.World now (call ∷ []) 0 c.in-Ok.named 0 c.args.world.now c.files.world c.open_file.new.world c.files.invariant.opens c.in-Ok.ensures.opens);
      fresh = fresh_sources_next g.W.S.Source c.files.sources.list c.push_reserved.new.self.list c.in-Ok.named c.push_reserved.ensures.list c.files.invariant.fresh c.in-Ok.ensures.fresh;
      are = λ t.
          (let u = c.in-Ok.ensures.opens.told.0 t in
          let made = c.files.invariant.opens.tells u in
          let before = made_length now (g.W.World.tale c.args.world.now) (g.W.World.tale c.files.world) made in
          let many = paths_length ns i (let h = c.files-test.true in omega arith) in
          let placed = c.in-Ok.ensures.placed t in
          let file = is_file g.W.S.Source files (g.W.World.tale c.files.world).files (g.W.World.tale c.files.world).stdin c.as_str.result.now c.index-paths-i.result ns (first + i) i c.in-Ok.named c.files-test.true here
          (made_files now (g.W.World.tale c.args.world.now) (g.W.World.tale c.files.world) made) c.in-Ok.ensures.path (omega arith) c.in-Ok.ensures.fresh (c.in-Ok.ensures.bytes t) in
          files_next g.W.S.Source first files ns c.files.sources.list c.push_reserved.new.self.list c.in-Ok.named c.push_reserved.ensures.list (c.files.invariant.are u)
          (subst (λ k. IsFile g.W.S.Source (first + k) files (get_or ns k []) c.in-Ok.named) (sym c.files.invariant.many) file));
    }
