use Rattle.std.proofs.Common.{◌++◌, ◌∷◌, List, ℕ, drop, sym, ◌∙◌, ap, arith}
use Rattle.std.specs.List.{flat_map}
use Rattle.bt_batches.specs.declared.piece.Piece.{Piece}
use Rattle.bt_batches.specs.Archives.{contents}
use Rattle.bt_batches.proofs.Contents.{joined_first, behind_first}
use Rattle.bt_batches.proofs.archive.joined.Goals as goal

pub returns-in_ok-content-in-len1-up : goal.returns-in_ok-content-in-len1-up
returns-in_ok-content-in-len1-up c =
    let all = joined_first c.args.batch.now c.first-item.result (omega arith) in
    c.in_ok-content-in-len1-up.ensures
    ∙ ap (λ (ps : List Piece). c.as_slice.result.now ++ flat_map (λ b. 10 ∷ b) (contents ps)) (behind_first c.args.batch.now)
    ∙ ap (λ (x : List ℕ). x ++ flat_map (λ b. 10 ∷ b) (contents (drop 1 c.args.batch.now))) (c.as_slice.ensures ∙ ap (λ (p : Piece). p.msg.content) c.first-item.is) ∙ sym all
