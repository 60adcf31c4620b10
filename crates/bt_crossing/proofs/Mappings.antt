-- A mapping may cross threads, as its parts may. Of a struct or an enum, where it is a field, and by itself.
use denote.RattleType.{RattleType}
use denote.Param.Send.{IsSend, IsSync, sendable}
use Rattle.std.proofs.Crossing.{crosses}
use Rattle.std.proofs.string.String.TheSendSync as string
use Rattle.sqlite_items.proofs.items.Items.TheSendSync as items
use Rattle.sqlite_items.proofs.boxed.Boxed.TheSendSync as boxed
use Rattle.bt_ports.specs.contracts.text.Text as Text
use Rattle.bt_tree.proofs.tree.Query.TheLaws.TheKnot.{both_send-Query, both_sync-Query}
use Rattle.bt_tree.specs.contracts.tree.Word as Word
use Rattle.bt_tree.specs.contracts.tree.Key as Key
use Rattle.bt_tree.specs.contracts.tree.Arg as Arg
use Rattle.bt_tree.specs.contracts.tree.Suffix as Suffix
use Rattle.bt_tree.specs.contracts.tree.Member as Member
use Rattle.bt_tree.specs.contracts.tree.Term as Term
use Rattle.bt_tree.specs.contracts.tree.Case as Case
use Rattle.bt_tree.specs.contracts.tree.Branch as Branch
use Rattle.bt_tree.specs.contracts.tree.Query as Query
use Rattle.bt_tree.specs.contracts.tree.MapStmt as MapStmt
use Rattle.bt_tree.specs.contracts.tree.Stmt as Stmt
use Rattle.bt_tree.specs.contracts.tree.Mapping as Mapping

pub Text-send : IsSend Text.the_row
Text-send = search (sendable, crosses, string.the_field_send) depth 40 fits 10000

pub Text-field-send : IsSend Text.the_field.row
Text-field-send = search (sendable, crosses, string.the_field_send) depth 40 fits 10000

pub Text-sync : IsSync Text.the_row
Text-sync = search (sendable, crosses, string.the_field_sync) depth 40 fits 10000

pub Text-field-sync : IsSync Text.the_field.row
Text-field-sync = search (sendable, crosses, string.the_field_sync) depth 40 fits 10000

Key-send : IsSend Key.the_row
Key-send = search (sendable, Text-field-send) depth 40 fits 10000

Key-field-send : IsSend Key.the_field.row
Key-field-send = search (sendable, Text-field-send) depth 40 fits 10000

Key-sync : IsSync Key.the_row
Key-sync = search (sendable, Text-field-sync) depth 40 fits 10000

Key-field-sync : IsSync Key.the_field.row
Key-field-sync = search (sendable, Text-field-sync) depth 40 fits 10000

Word-field-send : IsSend Word.the_field.row
Word-field-send = search (sendable, Text-field-send) depth 40 fits 10000

Word-field-sync : IsSync Word.the_field.row
Word-field-sync = search (sendable, Text-field-sync) depth 40 fits 10000

Arg-send : (h : RattleType) → IsSend h → IsSend (Arg.the_row h)
Arg-send h s = search (sendable, Text-field-send) depth 40 fits 10000

Arg-field-send : (h : RattleType) → IsSend h → IsSend (Arg.the_field h).row
Arg-field-send h s = search (sendable, Text-field-send) depth 40 fits 10000

Arg-sync : (h : RattleType) → IsSync h → IsSync (Arg.the_row h)
Arg-sync h s = search (sendable, Text-field-sync) depth 40 fits 10000

Arg-field-sync : (h : RattleType) → IsSync h → IsSync (Arg.the_field h).row
Arg-field-sync h s = search (sendable, Text-field-sync) depth 40 fits 10000

Suffix-send : (h : RattleType) → IsSend h → IsSend (Suffix.the_row h)
Suffix-send h s = search (sendable, Text-field-send, Word-field-send, items.the_send, Arg-send, Arg-field-send) depth 40 fits 10000

Suffix-sync : (h : RattleType) → IsSync h → IsSync (Suffix.the_row h)
Suffix-sync h s = search (sendable, Text-field-sync, Word-field-sync, items.the_sync, Arg-sync, Arg-field-sync) depth 40 fits 10000

Member-send : (h : RattleType) → IsSend h → IsSend (Member.the_row h)
Member-send h s = search (sendable, Text-field-send) depth 40 fits 10000

Member-sync : (h : RattleType) → IsSync h → IsSync (Member.the_row h)
Member-sync h s = search (sendable, Text-field-sync) depth 40 fits 10000

Term-send : (h : RattleType) → IsSend h → IsSend (Term.the_row h)
Term-send h s = search (sendable) depth 40 fits 10000

Term-sync : (h : RattleType) → IsSync h → IsSync (Term.the_row h)
Term-sync h s = search (sendable) depth 40 fits 10000

Case-send : (h : RattleType) → IsSend h → IsSend (Case.the_row h)
Case-send h s = search (sendable) depth 40 fits 10000

Case-sync : (h : RattleType) → IsSync h → IsSync (Case.the_row h)
Case-sync h s = search (sendable) depth 40 fits 10000

Branch-send : (h : RattleType) → IsSend h → IsSend (Branch.the_row h)
Branch-send h s = search (sendable) depth 40 fits 10000

Branch-sync : (h : RattleType) → IsSync h → IsSync (Branch.the_row h)
Branch-sync h s = search (sendable) depth 40 fits 10000

-- what a query is made of, but queries
ruleset parts = (sendable, items.the_send, items.the_sync, boxed.the_send, boxed.the_sync, Key-field-send, Key-field-sync, Word-field-send, Word-field-sync, Arg-send, Arg-sync, Suffix-send, Suffix-sync, Member-send, Member-sync, Term-send, Term-sync, Case-send, Case-sync, Branch-send, Branch-sync)

Query-field-send : IsSend Query.the_field.row
Query-field-send = both_send-Query
    (search parts depth 40) (search parts depth 40) (search parts depth 40) (search parts depth 40) (search parts depth 40) (search parts depth 40)
    (search parts depth 40) (search parts depth 40) (search parts depth 40) (search parts depth 40) (search parts depth 40) (search parts depth 40)
    (search parts depth 40) (search parts depth 40) (search parts depth 40) (search parts depth 40) (search parts depth 40) (search parts depth 40)
    (search parts depth 40) (search parts depth 40) (search parts depth 40) (search parts depth 40) (search parts depth 40) (search parts depth 40)
    (search parts depth 40) (search parts depth 40) (search parts depth 40) (search parts depth 40) (search parts depth 40) (search parts depth 40)

Query-field-sync : IsSync Query.the_field.row
Query-field-sync = both_sync-Query
    (search parts depth 40) (search parts depth 40) (search parts depth 40) (search parts depth 40) (search parts depth 40) (search parts depth 40)
    (search parts depth 40) (search parts depth 40) (search parts depth 40) (search parts depth 40) (search parts depth 40) (search parts depth 40)
    (search parts depth 40) (search parts depth 40) (search parts depth 40) (search parts depth 40) (search parts depth 40) (search parts depth 40)
    (search parts depth 40) (search parts depth 40) (search parts depth 40) (search parts depth 40) (search parts depth 40) (search parts depth 40)
    (search parts depth 40) (search parts depth 40) (search parts depth 40) (search parts depth 40) (search parts depth 40) (search parts depth 40)

MapStmt-send : IsSend MapStmt.the_row
MapStmt-send = search (sendable, items.the_send, Key-send, Text-field-send, Query-field-send) depth 40 fits 10000

MapStmt-sync : IsSync MapStmt.the_row
MapStmt-sync = search (sendable, items.the_sync, Key-sync, Text-field-sync, Query-field-sync) depth 40 fits 10000

Stmt-send : IsSend Stmt.the_row
Stmt-send = search (sendable, items.the_send, Key-send, Text-field-send, Query-field-send, MapStmt-send) depth 40 fits 10000

Stmt-sync : IsSync Stmt.the_row
Stmt-sync = search (sendable, items.the_sync, Key-sync, Text-field-sync, Query-field-sync, MapStmt-sync) depth 40 fits 10000

pub Mapping-field-send : IsSend Mapping.the_field.row
Mapping-field-send = search (sendable, items.the_send, Stmt-send, Query-field-send) depth 40 fits 10000

pub Mapping-field-sync : IsSync Mapping.the_field.row
Mapping-field-sync = search (sendable, items.the_sync, Stmt-sync, Query-field-sync) depth 40 fits 10000
