-- What a put at a sink adds.
use Rattle.std.specs.Prelude.{◌≡◌, List, [], ◌∷◌, ◌++◌, Result, Ok, Err}
use Rattle.bt_ports.specs.declared.parts.Record.{Record}

-- Ok puts the record at the end of the accepted list and a failure at the end of the refused list, and the other
-- list stays
abbrev pub PutAdds : {A E : Type 0} → Result A E → Record → List Record → List Record → List Record → List Record → Type 0
PutAdds (Ok v) r accepted refused accepted' refused' = (accepted' ≡ accepted ++ r ∷ []) × (refused' ≡ refused)
PutAdds (Err e) r accepted refused accepted' refused' = (accepted' ≡ accepted) × (refused' ≡ refused ++ r ∷ [])
