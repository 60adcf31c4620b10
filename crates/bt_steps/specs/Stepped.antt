-- What a step makes of a tree.
use Rattle.bt_demand.specs.Steps.{settle, wait, release, state_for}
use Rattle.bt_demand.specs.Tree.{Tree}
use Rattle.bt_steps.specs.declared.step.Step.{Step}
use Rattle.bt_steps.specs.declared.step.Step.TheVariants.{Settle, Wait, Release}

abbrev pub stepped : Step → Tree → Tree
stepped (Settle l a) t = settle l (state_for a) t
stepped (Wait n) t = wait n t
stepped (Release n) t = release n t
