-- How what a file comes to compares with what is expected of it.
use Rattle.language_questions.specs.declared.questions.Expected.{Expected}
use Rattle.language_questions.specs.declared.questions.Expected.TheVariants as X
use Rattle.ticklab_check.specs.declared.checked.Checked.{Checked}
use Rattle.ticklab_check.specs.declared.checked.Checked.TheVariants as C
use Rattle.ticklab_check.specs.declared.checked.Comparison.{Comparison}
use Rattle.ticklab_check.specs.declared.checked.Comparison.TheVariants as V
use Rattle.ticklab_check.specs.declared.found.Found.{Found}
use Rattle.ticklab_check.specs.declared.found.Found.TheVariants as F

-- what is found, beside what was expected
abbrev pub compared : Found → Expected → Comparison
compared (F.Safe states) X.Safe = V.AsExpected
compared (F.Ends states) X.Safe = V.AsExpected
compared F.Trap X.Trap = V.AsExpected
compared F.Never X.Never = V.AsExpected
compared (F.Stuck states) X.Stuck = V.AsExpected
compared (F.Endless states) X.Stuck = V.AsExpected
compared (F.NotWaitFree states) X.NotWaitFree = V.AsExpected
compared (F.NotAlone states) X.NotAlone = V.AsExpected
compared (F.Limit states) expected = V.Limit
compared found expected = V.Otherwise

-- nothing else is expected of a refused file than to be a program
abbrev pub comparison_of : Checked → Comparison
comparison_of (C.Refused report) = V.Otherwise
comparison_of (C.Searched found expected lines) = compared found expected
