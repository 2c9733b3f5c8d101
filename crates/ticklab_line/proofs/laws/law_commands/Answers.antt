use Rattle.std.proofs.Common.{refl}
use Rattle.clap.proofs.OnLiterals.{clap_on_literals}
use Rattle.ticklab_line.specs.Lines.{command_in, faults}
use Rattle.ticklab_line.proofs.laws.law_commands.Goals as goal

pub returns : goal.returns
unfolding clap_on_literals faults command_in
returns c = record {
  explore = λ rest. ((refl, refl), refl);
  code_never = (refl, refl);
  drawn_code_never = (refl, refl);
  lift_never = (refl, refl);
  page_lift = (refl, refl);
  alone = refl;
  alone_of_ends = refl;
  alone_of_a_hunt = refl;
  whole = refl;
  whole_of_a_trace = refl;
  json = refl;
  json_of_a_hunt = refl;
  json_of_explore = refl;
  json_of_ends = refl;
  json_of_a_check = refl;
  json_of_explain = refl;
  whole_of_explain = refl;
  whole_of_a_check = refl;
  merged_single = (refl, refl);
  single_merged = (refl, refl);
  wait_free_alone = (refl, refl);
  alone_wait_free = (refl, refl);
  json_schedule = (refl, refl);
  schedule_json = (refl, refl);
  all = refl;
}
