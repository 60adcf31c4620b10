-- The literal patterns of a mapping, in order of the text.
use Rattle.std.specs.Prelude.{◌≡◌, ◌⊎◌, ℕ, List, [], ◌∷◌, flat_map, None, is_some, true}
use Rattle.bt_tree.specs.declared.tree.MapStmt.{MapStmt}
use Rattle.bt_tree.specs.declared.tree.MapStmt.TheVariants as ms
use Rattle.bt_tree.specs.declared.tree.Mapping.{Mapping}
use Rattle.bt_tree.specs.declared.tree.Mapping.TheVariants as m
use Rattle.bt_tree.specs.declared.tree.Stmt.{Stmt}
use Rattle.bt_tree.specs.declared.tree.Stmt.TheVariants as st
use Rattle.bt_tree.specs.declared.tree.Word.{Word}
use Rattle.bt_findings.specs.Found.{findings}
use Rattle.bt_findings.specs.declared.finding.Finding.{Finding}
use Rattle.bt_findings.specs.declared.finding.Finding.TheVariants as found
use Rattle.bt_patterns.specs.Patterns.{pattern_of_text}
use Rattle.bt_literals.specs.declared.patterns.PatternFault.{PatternFault}
use Rattle.bt_literals.specs.declared.patterns.PatternFault.TheVariants as fault

-- what is found in a mapping's queries
abbrev pub map_stmt_findings : MapStmt → List Finding
map_stmt_findings (ms.Root at path q) = findings q
map_stmt_findings (ms.Let name q) = findings q

abbrev pub stmt_findings : Stmt → List Finding
stmt_findings (st.Root at line path q) = findings q
stmt_findings (st.Meta line key q) = findings q
stmt_findings (st.Let line name q) = findings q
stmt_findings (st.Map at name body) = flat_map map_stmt_findings body

abbrev pub mapping_findings : Mapping → List Finding
mapping_findings (m.Query line q) = findings q
mapping_findings (m.Statements stmts) = flat_map stmt_findings stmts

-- the literal patterns among findings
abbrev pub patterns_among : List Finding → List Word
patterns_among [] = []
patterns_among (found.Pattern w ∷ xs) = w ∷ patterns_among xs
patterns_among (_ ∷ xs) = patterns_among xs

abbrev pub patterns : Mapping → List Word
patterns x = patterns_among (mapping_findings x)

abbrev pub texts : List Word → List (List ℕ)
texts [] = []
texts (w ∷ ws) = w.text ∷ texts ws

-- a literal that the grammar of patterns reads, and that doesn't nest too deeply
abbrev pub IsRead : Word → Type 0
IsRead w = is_some (pattern_of_text w.text) ≡ true

-- each of the literals is read
abbrev pub AllRead : List Word → Type 0
AllRead [] = Unit {0}
AllRead (w ∷ ws) = IsRead w × AllRead ws

-- of the literals, the first that isn't read stands at that place
abbrev pub FirstBad : ℕ → List Word → Type 0
FirstBad at [] = ⊥
FirstBad at (w ∷ ws) = ((w.at ≡ at) × (pattern_of_text w.text ≡ None)) ⊎ (IsRead w × FirstBad at ws)

-- why patterns of these literals are refused; want of memory may come at any time
abbrev pub IsRefused : List Word → PatternFault → Type 0
IsRefused ws (fault.Bad at) = FirstBad at ws
IsRefused ws fault.NoMemory = Unit {0}
