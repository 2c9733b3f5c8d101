-- The report of a refusal that an input has.
use Rattle.std.proofs.Common.{◌≡◌, ℕ, List, subst, sym}
use Rattle.ticklab_explain.specs.Reports.{Tells}
use Rattle.ticketc_refusals.specs.declared.refusal.Refusal.{Refusal}

pub tells_had : (P : Refusal → Type 0) (name text report : List ℕ) (refusal : Refusal) → P refusal
    → Tells (λ told. told ≡ refusal) name text report → Tells P name text report
tells_had P name text report refusal had t =
    record { refusal = t.refusal; had = subst P (sym t.had) had; told = t.told }
