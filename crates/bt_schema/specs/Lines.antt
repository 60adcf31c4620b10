-- The line of a lint.
use Rattle.std.specs.Prelude.{ℕ, List, ◌++◌, codes}
use Rattle.bt_schema.specs.declared.lints.Lint.{Lint}
use Rattle.bt_schema.specs.declared.lints.LintKind.{LintKind}
use Rattle.bt_schema.specs.declared.lints.LintKind.TheVariants as kind

abbrev pub missing : List ℕ → List ℕ
missing name = codes "missing field " ++ name

-- what is wrong, in words. A fault or a lint of a mapping comes with its own text
abbrev pub text_of : LintKind → List ℕ
text_of kind.NotObject = codes "not an object"
text_of kind.UnknownField = codes "unknown field"
text_of (kind.Missing name) = missing name
text_of kind.WrongType = codes "wrong type"
text_of kind.OutOfRange = codes "out of range"
text_of kind.UnknownKind = codes "unknown kind"
text_of kind.NotOneKind = codes "not exactly one kind"
text_of kind.NotInProfile = codes "not in the profile"
text_of (kind.Fault text) = text
text_of (kind.MappingLint text) = text
text_of kind.BatchingBelow = codes "batching below batching"
text_of kind.ChangesNumber = codes "changes the number of messages"
text_of kind.TooMany = codes "too many"
text_of kind.CodecAndScanner = codes "codec and scanner"
text_of kind.TwoCodecs = codes "two codecs for one sink"

-- the pointer, which is empty for the whole, and what is wrong there
unfoldable pub line : Lint → List ℕ
line lint = lint.pointer ++ codes ": " ++ text_of lint.kind
