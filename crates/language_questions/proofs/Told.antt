-- A fault that isn't want of memory is the defined one.
use Rattle.std.proofs.Common.{◌≡◌, Result, Err, refl}
use Rattle.base.specs.Refusing.{FailsBut}
use Rattle.language_questions.specs.Reading.{is_memory}
use Rattle.language_questions.specs.declared.fault.QuestionFault.{QuestionFault}
use Rattle.language_questions.specs.declared.fault.QuestionFault.TheVariants as F

pub told : {V : Type 0} (e : QuestionFault) (r : Result V QuestionFault) → FailsBut is_memory e r → (e ≡ F.NoMemory → ⊥) → r ≡ Err e
told (F.BadCharacter span) r fails other = fails
told (F.NumberTooBig span) r fails other = fails
told (F.Unexpected missing span) r fails other = fails
told (F.TooDeep span) r fails other = fails
told (F.Unknown span) r fails other = fails
told (F.NotShared span) r fails other = fails
told (F.Twice span) r fails other = fails
told (F.TwoMeanings span) r fails other = fails
told (F.NoSuchProcess span) r fails other = fails
told (F.NoSuchWord span) r fails other = fails
told (F.NotAsked span) r fails other = fails
told (F.EndsTwice span) r fails other = fails
told (F.NotExpected span) r fails other = fails
told (F.ExpectTwice span) r fails other = fails
told F.NoMemory r fails other = absurd (other refl)
