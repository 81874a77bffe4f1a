use Rattle.examples.proofs.NewWorlds.{answers_of_new}
use Rattle.examples.proofs.agents.answers.Goals as goal

pub returns-in-Ok-run : goal.returns-in-Ok-run
returns-in-Ok-run g c = record {
  one_pool = answers_of_new g.R.Reset.leaves c.in-Ok.ensures.world c.in-Ok.ensures.is_new
      c.in-Ok.ensures.reset c.new-seen.ensures.items c.in-Ok-run.is c.run.ensures.run;
}
