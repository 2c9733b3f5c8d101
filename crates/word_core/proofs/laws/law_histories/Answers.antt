use Rattle.word_core.proofs.Histories.{history_stands, word_stands, beginning, next_step, one_step, history_rows}
use Rattle.word_core.proofs.laws.law_histories.Goals as goal

pub returns : goal.returns
returns c = record { stands = history_stands; words = word_stands; begins = beginning; follows = next_step; adds = one_step; rows = history_rows }
