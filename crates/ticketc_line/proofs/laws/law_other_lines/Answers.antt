use Rattle.std.proofs.Common.{refl}
use Rattle.clap.proofs.OnLiterals.{clap_on_literals}
use Rattle.ticketc_line.specs.Line.{command_in, is_taken}
use Rattle.ticketc_line.proofs.laws.law_other_lines.Goals as goal

pub returns : goal.returns
unfolding clap_on_literals is_taken command_in
returns c = record { nothing = refl; no_words = refl; help = refl; help_flag = refl; order_help = refl; version = refl; unknown = refl }
