-- A text as a page shows it has no mark (`unmarked`): byte by byte, by what each is (`byte_by`).
use Rattle.std.proofs.Common.{◌≡◌, ◌∙◌, ap, refl, arith, zero-add, sym, ℕ, ◌+◌, Bool, true, false, if◌then◌else◌, List, [], ◌∷◌, ◌++◌, codes}
use Rattle.std.specs.Prelude.{◌==◌, ◌||◌, nat_lt}
use Rattle.ticklab_page.specs.Laws.{is_mark, marks}
use Rattle.ticklab_page.specs.Shown.{shown, shown_byte}

counted : (t : Bool) (x y z : ℕ) → x ≡ y + z → (if t then 1 + x else x) ≡ (if t then 1 + y else y) + z
counted true x y z e = omega (arith, e)
counted false x y z e = e

marks-append : (a b : List ℕ) → marks (a ++ b) ≡ marks a + marks b
marks-append [] b = sym (zero-add (marks b))
marks-append (x ∷ a) b = counted (is_mark x) (marks (a ++ b)) (marks a) (marks b) (marks-append a b)

-- a byte as it is shown, by what it is
byte_by : (tab amp lt gt quote tick odd : Bool) (b : ℕ) → is_mark b ≡ lt || (gt || (quote || tick))
    → marks (if tab then 9 ∷ [] else if amp then codes "&amp;" else if lt then codes "&lt;" else if gt then codes "&gt;" else if quote then codes "&quot;" else if tick then codes "&#39;" else if odd then codes "?" else b ∷ []) ≡ 0
byte_by true amp lt gt quote tick odd b is = refl
byte_by false true lt gt quote tick odd b is = refl
byte_by false false true gt quote tick odd b is = refl
byte_by false false false true quote tick odd b is = refl
byte_by false false false false true tick odd b is = refl
byte_by false false false false false true odd b is = refl
byte_by false false false false false false true b is = refl
byte_by false false false false false false false b is = ap (λ (t : Bool). if t then 1 else 0) is

pub unmarked : (text : List ℕ) → marks (shown text) ≡ 0
unmarked [] = refl
unmarked (b ∷ text) =
    marks-append (shown_byte b) (shown text)
    ∙ ap (λ (k : ℕ). k + marks (shown text)) (byte_by (b == 9) (b == 38) (b == 60) (b == 62) (b == 34) (b == 39) (nat_lt b 32 || (b == 127)) b refl)
    ∙ zero-add (marks (shown text)) ∙ unmarked text
