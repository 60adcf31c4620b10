use Rattle.std.proofs.Common.{inl, inr}
use Rattle.bt_lints.specs.Lints.{IsLint}
use Rattle.bt_lints.proofs.Members.{contains_none}
use Rattle.bt_lints.proofs.mapping.lint_mapping.Goals as goal

pub returns-clause-all : goal.returns-clause-all
returns-clause-all c = λ x.
    let same = c.arranged.ensures.same x in
    let has = c.in_ok-lints_of.ensures.has x in (
      (λ h. elim (has.0 (same.0 h)) as (λ _. IsLint c.args.m.now c.args.how x) [ inl k ↦ contains_none x (rw c.new-found.ensures.list at k) | inr l ↦ l ]),
      (λ l. same.1 (has.1 (inr l))),
    )
