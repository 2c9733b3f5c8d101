-- The definitions of a text's tokens, computed on small texts.
use Rattle.std.proofs.Common.{◌≡◌, ℕ, List, [], ◌∷◌, ◌++◌, true, false, refl, arith}
use Rattle.std.specs.Prelude.{codes}
use Rattle.tick_syntax.specs.Characters.{is_keyword, is_name_part, is_sign}
use Rattle.tick_syntax.specs.Spelling.{gap_length, starts, TokenAt, Spells, FirstFault, is_word, is_number}
use Rattle.tick_syntax.specs.declared.token.Token.{Token}
use Rattle.tick_syntax.specs.declared.token.Sort.TheVariants.{Name, Num, Sign}
use Rattle.tick_syntax.specs.declared.fault.TextFault.TheVariants.{BadCharacter, NumberTooBig}

-- a comment ends before a line feed, and not before a carriage return
gap_of_comment : gap_length (codes " # y" ++ 13 ∷ codes "z" ++ 10 ∷ codes "end") ≡ 7
gap_of_comment = refl

-- the name `x` at the front of a text
abbrev name_token : Token
name_token = record { sort = Name; span = record { start = 0; end = 1 } }

name_first : (more : List ℕ) → starts is_name_part more ≡ false → TokenAt 0 (codes "x" ++ more) name_token more
name_first more ends =
    record { piece = codes "x"; split = refl; kind = (record { word = refl; longest = ends }, refl, omega arith); place = refl }

-- a name, a sign of two bytes, a number, a gap
spelled : Spells (codes "x<=1 # y") (name_token ∷ record { sort = Sign; span = record { start = 1; end = 3 } } ∷ record { sort = Num 1; span = record { start = 3; end = 4 } } ∷ [])
spelled = (
  codes "<=1 # y",
  name_first (codes "<=1 # y") refl,
  (
    codes "1 # y",
    record { piece = codes "<="; split = refl; kind = record { sign = refl; longest = refl }; place = refl },
    (
      codes " # y",
      record {
        piece = codes "1";
        split = refl;
        kind = (record { number = refl; longest = refl }, refl, omega arith);
        place = refl;
      },
      refl,
    ),
  ),
)

-- `!` alone, after a name
lone_bang : FirstFault (codes "x ! y") (BadCharacter 2)
lone_bang = (name_token ∷ [], (codes " ! y", name_first (codes " ! y") refl, (omega arith, refl, refl)))

big_number : FirstFault (codes "4294967296") (NumberTooBig (record { start = 0; end = 10 }))
big_number = ([], (codes "4294967296", [], refl, record { number = refl; longest = refl }, omega arith, refl))

keywords_are_words : (is_keyword (codes "older") ≡ true) × (is_keyword (codes "Older") ≡ false) × (is_word (codes "_a1") ≡ true) × (is_word (codes "1a") ≡ false) × (is_number (codes "0012") ≡ true)
keywords_are_words = (refl, refl, refl, refl, refl)

signs : (is_sign (codes "!=") ≡ true) × (is_sign (codes "!") ≡ false) × (is_sign (codes ">=") ≡ false) × (is_sign (codes "%") ≡ true)
signs = (refl, refl, refl, refl)
