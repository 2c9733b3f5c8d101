use Rattle.ticklab_page.proofs.Unmarked.{unmarked}
use Rattle.ticklab_page.proofs.laws.law_shown.Goals as goal

pub returns : goal.returns
returns c = unmarked
