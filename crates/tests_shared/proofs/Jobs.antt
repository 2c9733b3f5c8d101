-- The passes of a table with their places.
use Rattle.std.proofs.Common.{◌≡◌, ℕ, ◌+◌, ◌<◌, true, List, length, get_or, ap, ◌∙◌, arith}
use Rattle.std.specs.Prelude.{Some, slice_get, slice_set}
use Rattle.std.specs.List.{enumerate_from}
use Rattle.std.proofs.lemmas.List.FromFn.{get_or-enumerate_from}
use Rattle.std.proofs.lemmas.Option.{get_or_from_slice_get}
use Rattle.stamp_table.specs.Passes.{PassView, none_held, part}

-- each place has the pass of its process
pub its_pass : (n : ℕ) (all : PassView) (passes : List PassView) → length passes ≡ n
    → ((p : ℕ) → p < n → slice_get passes p ≡ Some (part all (slice_set none_held p true)))
    → (p : ℕ) (d : ℕ × PassView) → p < n → get_or (enumerate_from 0 passes) p d ≡ (p, part all (slice_set none_held p true))
its_pass n all passes count each p d below =
    let there : get_or passes p d.1 ≡ part all (slice_set none_held p true) = get_or_from_slice_get passes p _ d.1 (each p below) in
    let here : 0 + p ≡ p = omega arith in
    get_or-enumerate_from 0 passes p d (omega (arith, below, count)) ∙ ap {B = ℕ × PassView} (λ k. (k, get_or passes p d.1)) here
    ∙ ap {B = ℕ × PassView} (λ x. (p, x)) there
