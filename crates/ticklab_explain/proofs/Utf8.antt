-- Bytes as a text, and whether they are one.
use Rattle.std.proofs.Common.{◌≡◌, ℕ, List, [], Bool, true, false, ap, refl, if◌then◌else◌}
use Rattle.std.proofs.lemmas.Str.{IsUtf8-from_is_utf8, is_utf8-from_IsUtf8}
use Rattle.std.specs.Str.{IsUtf8, is_utf8}
use Rattle.ticklab_explain.specs.Settings.{as_text}

pub is_text : (bytes : List ℕ) → IsUtf8 bytes → is_utf8 bytes ≡ true
is_text bytes h = is_utf8-from_IsUtf8 bytes h

pub is_no_text : (bytes : List ℕ) → (IsUtf8 bytes → ⊥) → is_utf8 bytes ≡ false
is_no_text bytes h =
    elim (is_utf8 bytes) as (λ b. is_utf8 bytes ≡ b → b ≡ false) [
      | true ↦ λ t. absurd (h (IsUtf8-from_is_utf8 bytes t))
      | false ↦ λ f. refl
    ] refl

pub text_kept : (bytes : List ℕ) → IsUtf8 bytes → as_text bytes ≡ bytes
unfolding as_text
text_kept bytes h = ap (λ (b : Bool). if b then bytes else []) (is_text bytes h)

pub no_text_dropped : (bytes : List ℕ) → (IsUtf8 bytes → ⊥) → as_text bytes ≡ []
unfolding as_text
no_text_dropped bytes h = ap (λ (b : Bool). if b then bytes else []) (is_no_text bytes h)
