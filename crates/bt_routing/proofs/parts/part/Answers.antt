use Rattle.std.proofs.Common.{◌≤◌, length, refl, ap, ◌∙◌, arith}
use Rattle.bt_demand.specs.Tree.{more, none}
use Rattle.bt_demand.specs.View.{tree}
use Rattle.bt_demand.specs.WellFormed.{leaves_in}
use Rattle.bt_outputs.specs.Asked.{no_shift}
use Rattle.bt_outputs.specs.Bytes.{with_bytes}
use Rattle.bt_outputs.proofs.Filling.{filled}
use Rattle.bt_routing.specs.Blank.{blank}
use Rattle.bt_routing.proofs.Fillings.{heads, one_length}
use Rattle.bt_routing.proofs.parts.part.Goals as goal

pub returns-clause-demand : goal.returns-clause-demand
returns-clause-demand c =
    let enough : length (leaves_in (more (tree c.in_ok-demand.demand) none)) ≤ c.in_ok-left.left = omega (arith, one_length (tree c.in_ok-demand.demand), c.in_ok-left.ensures) in
    heads (tree c.fill.new.d) (with_bytes c.args.piece.msg.content (tree c.in_ok-demand.demand)) ((c.in_ok-fill.ensures enough).filled c.args.piece.msg.content (λ some. refl))
    ∙ ap (with_bytes c.args.piece.msg.content) c.in_ok-demand.ensures ∙ filled c.args.output.now no_shift (blank c.args.piece.msg c.args.spot) c.args.piece.msg.content
