use Rattle.std.proofs.Common.{List, ◌∷◌, ◌++◌, map, ap, sym, ◌∙◌}
use Rattle.bt_lexer.specs.declared.token.Kind.TheVariants as k
use Rattle.bt_syntax.specs.declared.keywords.Keyword.TheVariants as w
use Rattle.bt_tree.specs.declared.tree.Query.{Query}
use Rattle.bt_tree.specs.declared.tree.Suffix.{Suffix}
use Rattle.bt_tree.specs.declared.tree.Term.{Term}
use Rattle.bt_tree.specs.Parts.{in_suffix, in_option}
use Rattle.bt_words.specs.Printing as print
use Rattle.bt_words.specs.Printing.{Pieces, query}
use Rattle.bt_words.proofs.PrintedLayers.{of_args, printed-Call, printed-Object, printed-Item, printed-Product, printed-Sum, printed-Match}
use Rattle.bt_print.specs.Parts as parts
use Rattle.bt_print.specs.Steps.{after}
use Rattle.bt_print.proofs.StepLemmas.{on_ok}
use Rattle.bt_print.proofs.printer.Printer.node.Goals as goal

abbrev item : Query → List (Suffix Query) → Pieces
item q xs = query q ++ (print.gap_between (print.begins_with_digit (print.text_of (query q))) (print.begins_with_int (map (in_suffix query) xs)) ++ print.all_of (map parts.suffix xs))

abbrev numeric : Query → List (Term Query) → Pieces
numeric q xs = query q ++ print.all_of (map parts.term xs)

pub returns-in-Call : goal.returns-in-Call
returns-in-Call g c =
    on_ok c.call.result
    (λ h. h ∙ ap (λ xs. after c.args.out.now (print.name c.in-Call.name.text ∷ of_args xs)) c.as_slice.ensures
    ∙ ap (after c.args.out.now) (sym (ap query c.in-Call.is ∙ printed-Call c.in-Call.name c.in-Call.args))) c.call.ensures

pub returns-in-Object : goal.returns-in-Object
returns-in-Object g c =
    on_ok c.object.result
    (λ h. h ∙ ap (λ xs. after c.args.out.now (print.bracketed k.LeftBrace k.RightBrace (print.between print.comma (map parts.member xs)))) c.as_slice-in-Object.ensures
    ∙ ap (after c.args.out.now) (sym (ap query c.in-Object.is ∙ printed-Object c.in-Object.members))) c.object.ensures

pub returns-in-Item : goal.returns-in-Item
returns-in-Item g c =
    on_ok c.item.result
    (λ h. h ∙ ap (λ q. after c.args.out.now (item q c.as_slice-in-Item.result.now)) c.get-in-Item.ensures ∙ ap (λ xs. after c.args.out.now (item c.in-Item.head xs)) c.as_slice-in-Item.ensures
    ∙ ap (after c.args.out.now) (sym (ap query c.in-Item.is ∙ printed-Item c.in-Item.head c.in-Item.suffixes))) c.item.ensures

pub returns-in-Product : goal.returns-in-Product
returns-in-Product g c =
    on_ok c.numeric.result
    (λ h. h ∙ ap (λ q. after c.args.out.now (numeric q c.as_slice-in-Product.result.now)) c.get-in-Product.ensures ∙ ap (λ xs. after c.args.out.now (numeric c.in-Product.first xs)) c.as_slice-in-Product.ensures
    ∙ ap (after c.args.out.now) (sym (ap query c.in-Product.is ∙ printed-Product c.in-Product.first c.in-Product.terms))) c.numeric.ensures

pub returns-in-Sum : goal.returns-in-Sum
returns-in-Sum g c =
    on_ok c.numeric-in-Sum.result
    (λ h. h ∙ ap (λ q. after c.args.out.now (numeric q c.as_slice-in-Sum.result.now)) c.get-in-Sum.ensures ∙ ap (λ xs. after c.args.out.now (numeric c.in-Sum.first xs)) c.as_slice-in-Sum.ensures
    ∙ ap (after c.args.out.now) (sym (ap query c.in-Sum.is ∙ printed-Sum c.in-Sum.first c.in-Sum.terms))) c.numeric-in-Sum.ensures

pub returns-in-Match : goal.returns-in-Match
returns-in-Match g c =
    on_ok c.match_query.result
    (λ h. h ∙ ap (λ xs. after c.args.out.now (print.keyword w.Match ∷ (print.subject (in_option query c.in-Match.subject) ++ print.block (print.between print.comma (map parts.one_case xs))))) c.as_slice-in-Match.ensures
    ∙ ap (after c.args.out.now) (sym (ap query c.in-Match.is ∙ printed-Match c.in-Match.subject c.in-Match.cases))) c.match_query.ensures
