-- What the tails of a list of tokens say, from one to the next.
use Rattle.std.proofs.Common.{◌≡◌, ◌∙◌, ◌<◌, ◌+◌, ◌-◌, ℕ, List, ◌∷◌, ap, arith, get_or, length, take, drop, refl, sym, if◌then◌else◌}
use Rattle.std.proofs.lemmas.List.{drop_more, length-drop, take_all}
use Rattle.base.specs.Plain.{nowhere}
use Rattle.tick_syntax.specs.declared.token.Sort.TheVariants as K
use Rattle.tick_syntax.specs.declared.token.Token.{Token}
use Rattle.ticklab_explain.specs.Parts.{last_open, leading, opens, trailing}

some : Token
some = record { sort = K.Sign; span = nowhere }

-- a slice from here up to the end is the tail
pub to_end : (tokens : List Token) (i : ℕ) → take (length tokens - i) (drop i tokens) ≡ drop i tokens
to_end tokens i = take_all (length tokens - i) (drop i tokens) (omega (arith, length-drop i tokens))

-- one token on, where no operand reaches from it to the end
passed : (text : List ℕ) (token : Token) (rest : List Token)
    → (length (leading text (token ∷ rest)) ≡ length (token ∷ rest) → ⊥) → trailing text rest ≡ trailing text (token ∷ rest)
passed text token rest differs = grind (arith, differs)

pub trailing_next : (text : List ℕ) (tokens : List Token) (i : ℕ) → i < length tokens
    → (length (leading text (drop i tokens)) ≡ length (drop i tokens) → ⊥)
    → trailing text (drop (i + 1) tokens) ≡ trailing text (drop i tokens)
trailing_next text tokens i inside differs =
    let here : drop i tokens ≡ get_or tokens i some ∷ drop (i + 1) tokens = drop_more tokens i some inside in
    passed text (get_or tokens i some) (drop (i + 1) tokens) (rw here at differs) ∙ sym (ap (trailing text) here)

pub last_open_next : (text : List ℕ) (found tokens : List Token) (i : ℕ) → i < length tokens
    → last_open text (if opens text (drop i tokens) then drop i tokens else found) (drop (i + 1) tokens)
    ≡ last_open text found (drop i tokens)
last_open_next text found tokens i inside = rw (drop_more tokens i some inside) refl
