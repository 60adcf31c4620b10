use Rattle.std.proofs.Common.{◌≡◌, true, rules, get_or}
use Rattle.bt_lexer.specs.declared.token.Kind.TheVariants as kinds
use Rattle.bt_lexer.specs.declared.token.Token.{Token}
use Rattle.bt_syntax.specs.BuiltTokens as parts
use Rattle.bt_syntax.proofs.BuiltLemmas.{spans_on, steps_next}
use Rattle.bt_syntax.proofs.built.steps.Goals as goal

pub loop-rest-preserved : goal.loop-rest-preserved
loop-rest-preserved c =
    let none : Token = record { kind = kinds.Name; from = 0; to = 0 } in
    let rest = c.loop-rest.rest.now in
    let step : parts.is_step (get_or rest 0 none) (get_or rest 1 none) ≡ true = search rules in
    record {
      spans = spans_on c.args.text.now rest c.loop-rest.invariant.spans;
      same = steps_next c.args.text.now c.args.tokens.now rest none c.loop-rest.steps c.push_step.new.steps c.piece.result.now c.in-len2-up.len_at_least step
          c.loop-rest.invariant.same c.piece.ensures c.in_ok-push_step.ensures;
    }
