use Rattle.std.proofs.Common.{◌≡◌, true, refl}
use Rattle.clap.specs.Words.{is_simple_and_free, is_simple}
use Rattle.bt_command_line.specs.Forms.{app, has_form, rows}
use Rattle.bt_command_line.specs.declared.commands.Word.{Word}
use Rattle.bt_command_line.specs.declared.commands.Word.TheVariants as word
use Rattle.clap.proofs.OnLiterals.{clap_on_literals}
use Rattle.bt_command_line.proofs.Faults.{failed_at, form_at, rows_at}
use Rattle.bt_command_line.proofs.forms.matches_of.Goals as goal

is_free : (w : Word) → is_simple_and_free (app w) ≡ true
unfolding clap_on_literals
is_free word.Run = refl
is_free word.Lint = refl
is_free word.Test = refl
is_free word.Blobl = refl
is_free word.Load = refl
is_free word.Audit = refl

pub returns-clause-fails : goal.returns-clause-fails
unfolding has_form
returns-clause-fails c =
    failed_at (app c.args.word) _ c.in_ok-form.ensures.form _ c.try_get_matches_from.result c.try_get_matches_from.ensures.kinds (is_free c.args.word)

simple : (w : Word) → is_simple (app w) ≡ true
unfolding clap_on_literals
simple word.Run = refl
simple word.Lint = refl
simple word.Test = refl
simple word.Blobl = refl
simple word.Load = refl
simple word.Audit = refl

pub returns-clause-rows : goal.returns-clause-rows
unfolding rows
returns-clause-rows c =
    rows_at (app c.args.word) _ c.in_ok-form.ensures.form _ c.try_get_matches_from.result c.try_get_matches_from.ensures.matches (simple c.args.word)

pub returns-clause-form : goal.returns-clause-form
unfolding has_form
returns-clause-form c =
    form_at (app c.args.word) _ c.in_ok-form.ensures.form _ c.try_get_matches_from.result c.try_get_matches_from.ensures.kinds (is_free c.args.word)
