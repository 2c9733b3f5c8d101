-- Scans of labels beside scans of tickets.
use Rattle.std.proofs.Common.{◌≡◌, ℕ, zero, suc, List, [], ◌∷◌, ◌∙◌, sym, length, set, get_or, replicate, arith}
use Rattle.std.proofs.lemmas.List.{length-set, length-replicate}
use Rattle.ticket_core.specs.Tickets.{start_tickets}
use Rattle.word_core.specs.Stamps.{Labels, start_labels}
use Rattle.word_core.specs.Agreement.{Agrees}
use Rattle.word_core.proofs.Offered.{agreement_law}

-- each scan of labels agrees with the scan of tickets in the same slot
pub record ScansAgree (n : ℕ) (scans : List (List ℕ)) (held : List Labels) : Type 0 where
  pub many : length held ≡ length scans
  pub each : (s : ℕ) → Agrees n (get_or scans s (start_tickets n)) (get_or held s (start_labels n))

-- two lists written at one place keep a relation of their elements
written : {X Y : Type 0} (R : X → Y → Type 0) (xs : List X) (ys : List Y) (s : ℕ) (x c : X) (y d : Y)
    → length ys ≡ length xs → R x y
    → ((k : ℕ) → R (get_or xs k c) (get_or ys k d)) → (k : ℕ) → R (get_or (set xs s x) k c) (get_or (set ys s y) k d)
written R [] [] s x c y d same h all k = all k
written R [] (y' ∷ ys) s x c y d same h all k = absurd (omega arith)
written R (x' ∷ xs) [] s x c y d same h all k = absurd (omega arith)
written R (x' ∷ xs) (y' ∷ ys) zero x c y d same h all zero = h
written R (x' ∷ xs) (y' ∷ ys) zero x c y d same h all (suc k) = all (suc k)
written R (x' ∷ xs) (y' ∷ ys) (suc s) x c y d same h all zero = all 0
written R (x' ∷ xs) (y' ∷ ys) (suc s) x c y d same h all (suc k) =
    written R xs ys s x c y d (omega arith) h (λ j. all (suc j)) k

pub scan_taken : (n s : ℕ) (tickets : List ℕ) (labels : Labels) (scans : List (List ℕ))
    (held : List Labels)
    → Agrees n tickets labels → ScansAgree n scans held → ScansAgree n (set scans s tickets) (set held s labels)
scan_taken n s tickets labels scans held agrees are = record {
  many = length-set held s labels ∙ are.many ∙ sym (length-set scans s tickets);
  each = written (Agrees n) scans held s tickets (start_tickets n) labels (start_labels n) are.many agrees are.each;
}

never_taken : {X Y : Type 0} (R : X → Y → Type 0) (x : X) (y : Y) → R x y → (many k : ℕ)
    → R (get_or (replicate many x) k x) (get_or (replicate many y) k y)
never_taken R x y h zero k = h
never_taken R x y h (suc many) zero = h
never_taken R x y h (suc many) (suc k) = never_taken R x y h many k

pub scans_start : (n many : ℕ) → ScansAgree n (replicate many (start_tickets n)) (replicate many (start_labels n))
scans_start n many = record {
  many = length-replicate many (start_labels n) ∙ sym (length-replicate many (start_tickets n));
  each = never_taken (Agrees n) (start_tickets n) (start_labels n) (agreement_law.start n) many;
}
