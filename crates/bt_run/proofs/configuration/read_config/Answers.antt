use Rattle.bt_run.proofs.FirstCall.{fits-says, halt-says, reads-halted, reads-on, reads-unfit, refused-says}
use Rattle.bt_run.proofs.configuration.read_config.Goals as goal

pub returns-in-None-clause-makes : goal.returns-in-None-clause-makes
returns-in-None-clause-makes g c = reads-on g.W.World c.args.config.now c.in-Ok.linted _ c.args.world.now c.read_linted.new.world c.in-Ok.ensures.reads

pub returns-in-None-clause-form : goal.returns-in-None-clause-form
returns-in-None-clause-form g c = λ t. fits-says c.in-Ok.linted _ (c.in-Ok.ensures.reads.says t) c.in-None.ensures

pub returns-in-Some-clause-makes : goal.returns-in-Some-clause-makes
returns-in-Some-clause-makes g c =
    reads-unfit g.W.World c.args.config.now c.in-Ok.linted c.in-Some.unfit c.refuse.result c.args.world.now c.read_linted.new.world c.refuse.new.world c.in-Ok.ensures.reads c.in-Some.ensures c.refuse.ensures.refuses c.refuse.ensures.says

pub returns-in-Some-clause-form : goal.returns-in-Some-clause-form
returns-in-Some-clause-form g c = λ t.
    let says = c.in-Ok.ensures.reads.says (c.refuse.ensures.says.told.0 t) in
    refused-says c.in-Ok.linted c.in-Some.unfit c.refuse.result _ says c.in-Some.ensures c.refuse.ensures.refuses

pub returns-in-Err-clause-makes : goal.returns-in-Err-clause-makes
returns-in-Err-clause-makes g c = rw c.halt_of.ensures (reads-halted g.W.World c.args.config.now c.in-Err.halt c.args.world.now c.read_linted.new.world c.in-Err.ensures.reads)

pub returns-in-Err-clause-form : goal.returns-in-Err-clause-form
returns-in-Err-clause-form g c = rw c.halt_of.ensures (λ t. halt-says c.in-Err.halt _ (c.in-Err.ensures.reads.says t))
