use Rattle.std.proofs.Common.{refl}
use Rattle.clap.proofs.OnLiterals.{clap_on_literals}
use Rattle.ticklab_line.specs.Lines.{command_in, faults}
use Rattle.ticklab_line.proofs.laws.law_no_commands.Goals as goal

pub returns : goal.returns
unfolding clap_on_literals faults command_in
returns c = record {
  nothing = refl;
  unknown = refl;
  help = refl;
  explore_help = refl;
  hunt_help = refl;
  help_command = refl;
  merged_true = refl;
  alone_true = refl;
  version = refl;
  short_version = refl;
  version_first = refl;
  explore_version = refl;
  labels_version = refl;
  no_file = refl;
  no_path = refl;
  no_jobs = refl;
  no_schedule = refl;
  no_moves = refl;
  no_number = refl;
  large_number = refl;
  no_memory = refl;
  much_memory = refl;
  draw_json = refl;
  no_process = refl;
  no_step = refl;
  too_narrow = refl;
  trace_title = refl;
  one_number = refl;
  many_steps = refl;
  large_seed = refl;
  many_runs = refl;
  no_run = refl;
  late_run = refl;
  many_jobs = refl;
  no_jobs_of_a_hunt = refl;
  many_jobs_of_a_hunt = refl;
  no_times = refl;
  no_turns = refl;
  many_turns = refl;
  late_step = refl;
  no_last_step = refl;
  late_last_step = refl;
  too_wide = refl;
  no_processes = refl;
  seven_processes = refl;
}
