-- What calls add one after the other, as one text.
use Rattle.std.proofs.Common.{◌≡◌, ◌∙◌, ap, append_assoc, ℕ, List, ◌++◌, IfOk, OnOk, Result, Ok, Err}

-- what holds where a call succeeds, by what follows from it
pub on_ok : {T E : Type 0} {P Q : Type 0} (r : Result T E) → (P → Q) → OnOk r P → OnOk r Q
on_ok (Ok x) f p = f p
on_ok (Err e) f p = p

pub if_ok : {T E : Type 0} {P Q : T → Type 0} (r : Result T E) → ((x : T) → P x → Q x) → IfOk r P → IfOk r Q
if_ok (Ok x) f p = f x p
if_ok (Err e) f p = p

pub two : (a b c p q : List ℕ) → b ≡ a ++ p → c ≡ b ++ q → c ≡ a ++ (p ++ q)
two a b c p q first second = second ∙ ap (λ (x : List ℕ). x ++ q) first ∙ append_assoc a p q

pub three : (a b c d p q s : List ℕ) → b ≡ a ++ p → c ≡ b ++ q → d ≡ c ++ s → d ≡ a ++ (p ++ q ++ s)
three a b c d p q s first second third =
    third ∙ ap (λ (x : List ℕ). x ++ s) (two a b c p q first second) ∙ append_assoc a (p ++ q) s
