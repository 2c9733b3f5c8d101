-- The words that may stand after `#!`, after `#! expect`, and at the end of a line `#! ends`.
use Rattle.std.specs.Prelude.{ℕ, List, [], ◌∷◌, codes}
use Rattle.language_questions.specs.declared.questions.Condition.{Condition}
use Rattle.language_questions.specs.declared.questions.Condition.TheVariants as C
use Rattle.language_questions.specs.declared.questions.Expected.{Expected}
use Rattle.language_questions.specs.declared.questions.Expected.TheVariants as X
use Rattle.language_questions.specs.declared.spelled.Directive.{Directive}
use Rattle.language_questions.specs.declared.spelled.Directive.TheVariants as D

abbrev pub directives : List (List ℕ × Directive)
directives = (codes "never", D.Never) ∷ (codes "ends", D.Ends) ∷ (codes "expect", D.Expect) ∷ []

abbrev pub expectations : List (List ℕ × Expected)
expectations =
    (codes "safe", X.Safe) ∷ (codes "trap", X.Trap) ∷ (codes "never", X.Never) ∷ (codes "stuck", X.Stuck)
    ∷ (codes "not_wait_free", X.NotWaitFree) ∷ (codes "not_alone", X.NotAlone) ∷ []

abbrev pub conditions : List (List ℕ × Condition)
conditions = (codes "wait_free", C.WaitFree) ∷ (codes "alone", C.Alone) ∷ []
