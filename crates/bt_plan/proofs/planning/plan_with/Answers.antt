use Rattle.bt_plan.proofs.planning.plan_with.Goals as goal

pub returns : goal.returns
returns c = record {
  procs = c.requires.procs;
  output = (c.args.output.leaves, c.requires.output);
  threads = c.threads.ensures;
  window = c.window.ensures;
}
