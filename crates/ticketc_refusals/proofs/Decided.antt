-- Each input is a text, a program and a code, or it has one refusal as such; it is never both (`IsDecided`).
--
-- The idea. The crates below show this of texts that are short. An input that is too long or no UTF-8 is none of the
-- three, and has the refusal of no text, which is found first. So each of the three is decided by cases: of the bytes
-- (`text_or_none`), then of the text, then of its kinds. The difficulty is only that each case has to be told apart from
-- all others, in both directions. Read `text_decided` first; `program_decided` and `code_decided` go the same way.
use Rattle.std.proofs.Common.{◌≡◌, ◌≤◌, ◌∙◌, ◌⊎◌, inl, inr, ℕ, Bool, true, false, List, length, drop, codes, Option, Some, None, Result, Ok, Err, ap, refl, sym, arith, true≢false}
use Rattle.std.proofs.lemmas.Bool.{cases_Bool}
use Rattle.std.proofs.lemmas.Bool.Decides.{Decides-eqb, leb_tells}
use Rattle.std.proofs.lemmas.Slice.Eq.{starts_is}
use Rattle.std.proofs.lemmas.Str.{IsUtf8-from_is_utf8, is_utf8-from_IsUtf8}
use Rattle.std.specs.Str.{is_utf8}
use Rattle.std.specs.Str.Lossy.{utf8_valid_len}
use Rattle.base.specs.Plain.{Name, WholeProgram}
use Rattle.tick_syntax.specs.RoundTrip.{IsTextOf}
use Rattle.tick_syntax.specs.Decided.{IsWithinLimits}
use Rattle.tick_syntax.specs.declared.fault.TextFault.{TextFault}
use Rattle.tick_syntax.proofs.Offered.{one_program, one_refusal, never_both, never_neither, program_text_begins}
use Rattle.tick_kinds.specs.Refusals.{first_refusal}
use Rattle.tick_kinds.specs.declared.fault.KindFault.{KindFault}
use Rattle.tick_kinds.proofs.Offered.{acceptance_law}
use Rattle.code_core.specs.Instructions.{StepCode}
use Rattle.code_core.specs.declared.fault.CodeFault.{CodeFault}
use Rattle.code_text.specs.CodeText.{ReadsAs}
use Rattle.code_text.proofs.Offered.{one_reading, some_reading}
use Rattle.ticketc_refusals.specs.Refusals.{BeginsCode, CodeIn, IsCode, IsCodeRefused, IsNoText, IsProgram, IsProgramRefused, IsText, ProgramIn, TextIn, no_code, no_program, not_accepted, not_utf8, too_long, unread_code, unread_program}
use Rattle.ticketc_refusals.specs.declared.refusal.Refusal.{Refusal}
use Rattle.ticketc_refusals.specs.declared.refusal.Refusal.TheVariants.{Text, Kinds, Code}

-- it is taken for one thing, or has one refusal, and never both
pub record IsDecided {T R : Type 0} (taken : T → Type 0) (refused : R → Type 0) : Type 0 where
  pub one : (x y : T) → taken x → taken y → x ≡ y
  pub one_refused : (a b : R) → refused a → refused b → a ≡ b
  pub never : (x : T) (a : R) → taken x → refused a → ⊥
  pub either : ((x : T) × taken x) ⊎ ((a : R) × refused a)

no_text : (input : List ℕ) (refusal : Refusal) → IsText input → IsNoText input refusal → ⊥
no_text input refusal is (too_long long told) = absurd (omega (arith, long, is.short))
no_text input refusal is (not_utf8 short isnt told) = isnt is.utf8

one_no_text : (input : List ℕ) (a b : Refusal) → IsNoText input a → IsNoText input b → a ≡ b
one_no_text input a b (too_long long told) (too_long more same) = told ∙ sym same
one_no_text input a b (too_long long told) (not_utf8 short isnt same) = absurd (omega (arith, long, short))
one_no_text input a b (not_utf8 short isnt told) (too_long long same) = absurd (omega (arith, long, short))
one_no_text input a b (not_utf8 short isnt told) (not_utf8 less never same) = told ∙ sym same

abbrev Texts : List ℕ → Type 0
Texts input = ((text : List ℕ) × TextIn input text) ⊎ ((refusal : Refusal) × IsNoText input refusal)

by_bytes : (input : List ℕ) → length input ≤ 1000000 → (b : Bool) → is_utf8 input ≡ b → Texts input
by_bytes input short true is = inl (input, (record { short = short; utf8 = IsUtf8-from_is_utf8 input is }, refl))
by_bytes input short false is =
    inr (
      Text (TextFault.BadCharacter (utf8_valid_len input)),
      not_utf8 short (λ utf8. true≢false (sym (is_utf8-from_IsUtf8 input utf8) ∙ is)) refl,
    )

text_or_none : (input : List ℕ) → Texts input
text_or_none input = elim (leb_tells (length input) 1000000) [
  | inl short ↦ by_bytes input short.1 (is_utf8 input) refl
  | inr long ↦ inr (Text TextFault.TextTooLong, too_long (omega (arith, long.1)) refl)
]

pub text_decided : (input : List ℕ) → IsDecided (TextIn input) (IsNoText input)
text_decided input = record {
  one = λ x y a b. a.1 ∙ sym b.1;
  one_refused = one_no_text input;
  never = λ x a is isnt. no_text input a is.0 isnt;
  either = text_or_none input;
}

within : (input : List ℕ) (is : IsProgram input) → IsWithinLimits input is.program
within input is = (is.text.short, is.is_text, is.shallow)

some_is : {T : Type 0} (a b : T) → Some a ≡ Some b → a ≡ b
some_is a b h = cc

accepted_and_refused : (p : WholeProgram Name) (fault : KindFault) → first_refusal p ≡ None → first_refusal p ≡ Some fault → ⊥
accepted_and_refused p fault none some = absurd (cc)

no_program_in : (input : List ℕ) (refusal : Refusal) → IsProgram input → IsProgramRefused input refusal → ⊥
no_program_in input refusal is (unread_program none) = no_text input refusal is.text none
no_program_in input refusal is (no_program fault text isnt told) = never_both input is.program fault (within input is) isnt
no_program_in input refusal is (not_accepted p fault text is_text shallow first told) =
    accepted_and_refused p fault
    (ap first_refusal (one_program input p is.program is_text is.is_text) ∙ (acceptance_law is.program).0 is.accepted) first

one_no_program : (input : List ℕ) (a b : Refusal) → IsProgramRefused input a → IsProgramRefused input b → a ≡ b
one_no_program input a b (unread_program none) (unread_program other) = one_no_text input a b none other
one_no_program input a b (unread_program none) (no_program fault text isnt told) = absurd (no_text input a text none)
one_no_program input a b (unread_program none) (not_accepted p fault text is_text shallow first told) = absurd (no_text input a text none)
one_no_program input a b (no_program fault text isnt told) (unread_program none) = absurd (no_text input b text none)
one_no_program input a b (not_accepted p fault text is_text shallow first told) (unread_program none) = absurd (no_text input b text none)
one_no_program input a b (no_program fault text isnt told) (no_program other same never said) =
    told ∙ ap (λ z. Text z) (one_refusal input fault other isnt never) ∙ sym said
one_no_program input a b (no_program fault text isnt told) (not_accepted p other same is_text shallow first said) =
    absurd (never_both input p fault (same.short, is_text, shallow) isnt)
one_no_program input a b (not_accepted p other same is_text shallow first said) (no_program fault text isnt told) =
    absurd (never_both input p fault (same.short, is_text, shallow) isnt)
one_no_program input a b (not_accepted p fault text is_text shallow first told) (not_accepted q other same is_other low next said) =
    told ∙ ap (λ z. Kinds z) (some_is fault other (sym first ∙ ap first_refusal (one_program input p q is_text is_other) ∙ next)) ∙ sym said

abbrev Programs : List ℕ → Type 0
Programs input = ((p : WholeProgram Name) × ProgramIn input p) ⊎ ((refusal : Refusal) × IsProgramRefused input refusal)

by_kinds : (input : List ℕ) → IsText input → (p : WholeProgram Name) → IsWithinLimits input p → (o : Option KindFault) → first_refusal p ≡ o
    → Programs input
by_kinds input text p limits None none =
    inl (p, (record { text = text; program = p; is_text = limits.1; shallow = limits.2; accepted = (acceptance_law p).1 none }, refl))
by_kinds input text p limits (Some fault) first = inr (Kinds fault, not_accepted p fault text limits.1 limits.2 first refl)

by_text : (input : List ℕ) → IsText input → Programs input
by_text input text = elim (never_neither input) [
  | inl found ↦ by_kinds input text found.0 found.1 (first_refusal found.0) refl
  | inr found ↦ inr (Text found.0, no_program found.0 text found.1 refl)
]

program_or_none : (input : List ℕ) → Programs input
program_or_none input = elim (text_or_none input) [
  | inl found ↦ by_text input found.1.0
  | inr found ↦ inr (found.0, unread_program found.1)
]

pub program_decided : (input : List ℕ) → IsDecided (ProgramIn input) (IsProgramRefused input)
program_decided input = record {
  one = λ p q a b. a.1 ∙ one_program input a.0.program b.0.program a.0.is_text b.0.is_text ∙ sym b.1;
  one_refused = one_no_program input;
  never = λ p a is isnt. no_program_in input a is.0 isnt;
  either = program_or_none input;
}

ok_is : (c d : StepCode) → (let a : Result StepCode CodeFault = Ok c in let b : Result StepCode CodeFault = Ok d in a ≡ b) → c ≡ d
ok_is c d h = cc

err_is : (f g : CodeFault) → (let a : Result StepCode CodeFault = Err f in let b : Result StepCode CodeFault = Err g in a ≡ b) → f ≡ g
err_is f g h = cc

code_and_fault : (input : List ℕ) (c : StepCode) (fault : CodeFault) → ReadsAs input (Ok c) → ReadsAs input (Err fault) → ⊥
code_and_fault input c fault reads fails =
    let same : Ok c ≡ Err fault = one_reading input (Ok c) (Err fault) reads fails in
    absurd (cc)

no_code_in : (input : List ℕ) (refusal : Refusal) → IsCode input → IsCodeRefused input refusal → ⊥
no_code_in input refusal is (unread_code none) = no_text input refusal is.text none
no_code_in input refusal is (no_code fault text fails told) = code_and_fault input is.code fault is.reads fails

one_no_code : (input : List ℕ) (a b : Refusal) → IsCodeRefused input a → IsCodeRefused input b → a ≡ b
one_no_code input a b (unread_code none) (unread_code other) = one_no_text input a b none other
one_no_code input a b (unread_code none) (no_code fault text fails told) = absurd (no_text input a text none)
one_no_code input a b (no_code fault text fails told) (unread_code none) = absurd (no_text input b text none)
one_no_code input a b (no_code fault text fails told) (no_code other same ends said) =
    told ∙ ap (λ z. Code z) (err_is fault other (one_reading input (Err fault) (Err other) fails ends)) ∙ sym said

abbrev Codes : List ℕ → Type 0
Codes input = ((c : StepCode) × CodeIn input c) ⊎ ((refusal : Refusal) × IsCodeRefused input refusal)

by_reading : (input : List ℕ) → IsText input → (reading : Result StepCode CodeFault) → ReadsAs input reading → Codes input
by_reading input text (Ok c) reads = inl (c, (record { text = text; code = c; reads = reads }, refl))
by_reading input text (Err fault) reads = inr (Code fault, no_code fault text reads refl)

code_or_none : (input : List ℕ) → Codes input
code_or_none input = elim (text_or_none input) [
  | inl found ↦ let read = some_reading input in by_reading input found.1.0 read.0 read.1
  | inr found ↦ inr (found.0, unread_code found.1)
]

pub code_decided : (input : List ℕ) → IsDecided (CodeIn input) (IsCodeRefused input)
code_decided input = record {
  one = λ c d a b. a.1 ∙ ok_is a.0.code b.0.code (one_reading input (Ok a.0.code) (Ok b.0.code) a.0.reads b.0.reads) ∙ sym b.1;
  one_refused = one_no_code input;
  never = λ c a is isnt. no_code_in input a is.0 isnt;
  either = code_or_none input;
}

-- an input begins as codes do, or it doesn't
pub begins_or_not : (input : List ℕ) → BeginsCode input ⊎ (BeginsCode input → ⊥)
begins_or_not input =
    let tells = starts_is Decides-eqb input (codes "tickcode ") _ refl in
    elim (cases_Bool _) [
      | inl begins ↦ inl (drop 9 input, sym (tells.0 begins))
      | inr none ↦ inr (λ begins. true≢false (sym (tells.1 begins.0 (sym begins.1)) ∙ none))
    ]

-- no program begins so
pub program_begins_otherwise : (input : List ℕ) (p : WholeProgram Name) → IsTextOf input p → BeginsCode input → ⊥
program_begins_otherwise input p is begins =
    true≢false (sym ((starts_is Decides-eqb input (codes "tickcode ") _ refl).1 begins.0 (sym begins.1)) ∙ program_text_begins input p is)
