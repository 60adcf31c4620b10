-- A refusal with words for another reason.
use Rattle.std.proofs.Common.{ℕ, List, [], ◌∷◌, inl}
use Rattle.bt_schema.specs.declared.forms.Language.{Language}
use Rattle.bt_schema.specs.declared.forms.Language.TheVariants as language
use Rattle.bt_syntax.specs.Grammar.{ReadsCheck, ReadsMapping}
use Rattle.bt_making.specs.Made.{IsRefusal, IsUnready, IsUnreadyText}
use Rattle.bt_making.specs.Sources.{AreRefused, IsUnmade, source}
use Rattle.bt_making.specs.declared.refusal.Refusal.{Refusal}
use Rattle.bt_making.specs.declared.refusal.Refusal.TheVariants as refusal

pub refused_so : (P Q : List ℕ → Type 0) (at : List ℕ) (r : Refusal) → ((words : List ℕ) → P words → Q words) → IsRefusal P at r → IsRefusal Q at r
refused_so P Q at (refusal.Lint l) f h = (h.0, f h.0 h.1, h.2)
refused_so P Q at refusal.NoMemory f h = tt

-- the refusal of a text is that of the text alone among texts
refused_alone : (how : Language) (text at : List ℕ) (r : Refusal) → IsRefusal (IsUnmade how text) at r → AreRefused (source how text at ∷ []) r
refused_alone how text at (refusal.Lint l) h = inl h
refused_alone how text at refusal.NoMemory h = tt

pub mapping_refused : (text at : List ℕ) (r : Refusal) → IsRefusal (IsUnready ReadsMapping text) at r → AreRefused (source language.Mapping text at ∷ []) r
mapping_refused text at r h = refused_alone language.Mapping text at r h

pub check_refused : (text at : List ℕ) (r : Refusal) → IsRefusal (IsUnready ReadsCheck text) at r → AreRefused (source language.Check text at ∷ []) r
check_refused text at r h = refused_alone language.Check text at r h

pub pieces_refused : (text at : List ℕ) (r : Refusal) → IsRefusal (IsUnreadyText text) at r → AreRefused (source language.Interpolated text at ∷ []) r
pieces_refused text at r h = refused_alone language.Interpolated text at r h
