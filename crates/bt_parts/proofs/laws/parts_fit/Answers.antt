use Rattle.bt_parts.proofs.Fits.{fit}
use Rattle.bt_parts.proofs.laws.parts_fit.Goals as goal

pub returns : goal.returns
returns c = λ fs o sinks policies moment is h. fit fs o sinks policies moment is h
