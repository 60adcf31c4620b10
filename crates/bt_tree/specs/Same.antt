-- Mappings without their places and lines: what a mapping and its printed text agree in.
use Rattle.std.specs.Prelude.{◌≡◌, map}
use Rattle.bt_tree.specs.declared.tree.Word.{Word}
use Rattle.bt_tree.specs.declared.tree.Query.{Query, fold-Query, roll-Query}
use Rattle.bt_tree.specs.declared.tree.Query.TheVariants as e
use Rattle.bt_tree.specs.declared.tree.Query.TheOpen.{Query-F}
use Rattle.bt_tree.specs.declared.tree.Suffix.{Suffix}
use Rattle.bt_tree.specs.declared.tree.Suffix.TheVariants as s
use Rattle.bt_tree.specs.declared.tree.MapStmt.{MapStmt}
use Rattle.bt_tree.specs.declared.tree.MapStmt.TheVariants as ms
use Rattle.bt_tree.specs.declared.tree.Stmt.{Stmt}
use Rattle.bt_tree.specs.declared.tree.Stmt.TheVariants as st
use Rattle.bt_tree.specs.declared.tree.Mapping.{Mapping}
use Rattle.bt_tree.specs.declared.tree.Mapping.TheVariants as m

abbrev pub word_erased : Word → Word
word_erased w = record { at = 0; text = w.text }

abbrev pub suffix_erased : Suffix Query → Suffix Query
suffix_erased (s.Method w xs) = s.Method (word_erased w) xs
suffix_erased x = x

-- a query whose parts have no places any more
abbrev pub erase_step : Query-F Query → Query
erase_step (Query-F.Quoted w) = e.Quoted (word_erased w)
erase_step (Query-F.Root at) = e.Root 0
erase_step (Query-F.Name w) = e.Name (word_erased w)
erase_step (Query-F.Var w) = e.Var (word_erased w)
erase_step (Query-F.Call w xs) = e.Call (word_erased w) xs
erase_step (Query-F.Item q xs) = e.Item q (map suffix_erased xs)
erase_step q = roll-Query q

abbrev pub query_erased : Query → Query
query_erased = fold-Query Query erase_step

abbrev pub map_stmt_erased : MapStmt → MapStmt
map_stmt_erased (ms.Root at xs q) = ms.Root 0 xs (query_erased q)
map_stmt_erased (ms.Let name q) = ms.Let name (query_erased q)

abbrev pub stmt_erased : Stmt → Stmt
stmt_erased (st.Root at line xs q) = st.Root 0 0 xs (query_erased q)
stmt_erased (st.Meta line x q) = st.Meta 0 x (query_erased q)
stmt_erased (st.Let line name q) = st.Let 0 name (query_erased q)
stmt_erased (st.Map at name xs) = st.Map 0 name (map map_stmt_erased xs)

abbrev pub mapping_erased : Mapping → Mapping
mapping_erased (m.Query line q) = m.Query 0 (query_erased q)
mapping_erased (m.Statements xs) = m.Statements (map stmt_erased xs)

-- the same but for places and lines
abbrev pub IsSame : Mapping → Mapping → Type 0
IsSame x y = mapping_erased x ≡ mapping_erased y
