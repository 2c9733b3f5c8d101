use Rattle.std.proofs.Common.{refl}
use Rattle.clap.proofs.OnLiterals.{clap_on_literals}
use Rattle.ticklab_line.specs.Lines.{command_in, faults}
use Rattle.ticklab_line.proofs.laws.law_hunts.Goals as goal

pub returns : goal.returns
unfolding clap_on_literals faults command_in
returns c = record {
  plain = ((refl, refl), refl);
  seed = ((refl, refl), refl);
  runs = ((refl, refl), refl);
  from = ((refl, refl), refl);
  steps = ((refl, refl), refl);
  jobs = ((refl, refl), refl);
  least = ((refl, refl), refl);
  most_runs = ((refl, refl), refl);
  most_steps = ((refl, refl), refl);
  least_threads = ((refl, refl), refl);
  most_threads = ((refl, refl), refl);
  uniform = ((refl, refl), refl);
  never = ((refl, refl), refl);
  threads_alone = ((refl, refl), refl);
  threads_seed = (refl, refl);
  threads_runs_given = (refl, refl);
  threads_from = (refl, refl);
  threads_steps = (refl, refl);
  threads_jobs = (refl, refl);
  threads_uniform = (refl, refl);
  threads_never = (refl, refl);
  threads_schedule = (refl, refl);
  threads_json = (refl, refl);
  json_threads = (refl, refl);
  json_schedule = (refl, refl);
  schedule_json = (refl, refl);
  steps_threads = (refl, refl);
  uniform_threads = (refl, refl);
  all = (refl, refl);
}
