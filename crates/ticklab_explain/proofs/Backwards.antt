-- Tokens from the last on.
use Rattle.std.proofs.Common.{◌≡◌, ◌∙◌, ◌<◌, ◌≤◌, ◌+◌, ◌-◌, ℕ, List, [], ◌∷◌, Some, ap, arith, get_or, length, reverse, take}
use Rattle.std.proofs.lemmas.List.{reverse-append, take_more}
use Rattle.std.specs.Option.{option_map_or}
use Rattle.tick_syntax.specs.declared.token.Token.{Token}
use Rattle.ticklab_explain.specs.Settings.{counted, text_at, unclosed}

last_first : (xs : List Token) (i : ℕ) (d : Token) → i < length xs → reverse (take (i + 1) xs) ≡ get_or xs i d ∷ reverse (take i xs)
last_first xs i d inside = ap reverse (take_more xs i d inside) ∙ reverse-append (take i xs) (get_or xs i d ∷ [])

-- what is unclosed before a place, by what the token right before it counts
pub one_back : (text : List ℕ) (tokens : List Token) (at closed : ℕ) (d : Token) → 0 < at → at ≤ length tokens
    → unclosed text closed (reverse (take at tokens))
    ≡ option_map_or (λ more. unclosed text more (reverse (take (at - 1) tokens)))
    (counted (text_at text (get_or tokens (at - 1) d).span) closed) (Some (get_or tokens (at - 1) d).span)
one_back text tokens at closed d some within =
    let e : at ≡ (at - 1) + 1 = omega arith in
    ap (λ k. unclosed text closed (reverse (take k tokens))) e
    ∙ ap (unclosed text closed) (last_first tokens (at - 1) d (omega arith))
