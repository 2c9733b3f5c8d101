use Rattle.code_text.proofs.Unique.{round_trip}
use Rattle.code_text.proofs.laws.law_round_trip.Goals as goal

pub returns : goal.returns
returns c = round_trip
