-- What of a list fits after a text: one more, one less, and nothing after what is no UTF-8.
use Rattle.std.proofs.Common.{◌≡◌, ◌≢◌, ℕ, List, [], ◌∷◌, ◌++◌, Bool, true, false, ◌<◌, ◌≤◌, ◌+◌, get_or, inl, inr, append-nil, append_assoc, drop, length, refl, subst, sym}
use Rattle.std.proofs.lemmas.List.{drop_all, drop_more}
use Rattle.std.specs.Str.{IsUtf8}
use Rattle.ticklab_explain.specs.Following.{AreFitting, BeginsProgram, Fits, IsWhole, MayFollow, Tests, sample}
use Rattle.ticklab_explain.specs.declared.wanted.Wanted.{Wanted}
use Rattle.ticklab_explain.specs.declared.wanted.Wanted.TheVariants.{Statement, Value, Expression, Operator, Name, Number, TextEnd, Word}

-- besides the text's end each fits where it may follow
pub fits_as_follows : (front : List ℕ) (one : Wanted) → one ≢ TextEnd → (b : Bool) → Tests (MayFollow front one) b → Tests (Fits front one) b
fits_as_follows front Statement h b t = t
fits_as_follows front Value h b t = t
fits_as_follows front Expression h b t = t
fits_as_follows front Operator h b t = t
fits_as_follows front Name h b t = t
fits_as_follows front Number h b t = t
fits_as_follows front TextEnd h b t = absurd (h refl)
fits_as_follows front (Word terminal) h b t = t

-- the text's end fits where the text is whole
pub end_fits : (front : List ℕ) → IsUtf8 front → (b : Bool) → Tests (IsWhole front) b → Tests (Fits front TextEnd) b
end_fits front utf8 true h = (utf8, h)
end_fits front utf8 false h = λ both. h both.1

pub follows : (front text : List ℕ) (one : Wanted) → IsUtf8 front → text ≡ front ++ (10 ∷ []) ++ sample one → (b : Bool)
    → Tests (BeginsProgram text) b → Tests (MayFollow front one) b
follows front text one utf8 e true h = (utf8, subst BeginsProgram e h)
follows front text one utf8 e false h = λ both. h (subst BeginsProgram (sym e) both.1)

fits_utf8 : (front : List ℕ) (one : Wanted) → Fits front one → IsUtf8 front
fits_utf8 front Statement h = h.0
fits_utf8 front Value h = h.0
fits_utf8 front Expression h = h.0
fits_utf8 front Operator h = h.0
fits_utf8 front Name h = h.0
fits_utf8 front Number h = h.0
fits_utf8 front TextEnd h = h.0
fits_utf8 front (Word terminal) h = h.0

pub none_fits : (front : List ℕ) → (IsUtf8 front → ⊥) → (among : List Wanted) → AreFitting front among []
none_fits front bad [] = refl
none_fits front bad (one ∷ more) = inr (λ h. bad (fits_utf8 front one h), none_fits front bad more)

module _ (front : List ℕ) (among items : List Wanted) (index : ℕ) (d : Wanted) (inside : index < length among)
    (so_far : (rest : List Wanted) → AreFitting front (drop index among) rest → AreFitting front among (items ++ rest)) where
  pub one_more : Fits front (get_or among index d) → (rest : List Wanted) → AreFitting front (drop (index + 1) among) rest
      → AreFitting front among ((items ++ get_or among index d ∷ []) ++ rest)
  one_more fits rest after =
      subst (AreFitting front among) (sym (append_assoc items (get_or among index d ∷ []) rest))
      (so_far (get_or among index d ∷ rest)
      (subst (λ ds. AreFitting front ds (get_or among index d ∷ rest)) (sym (drop_more among index d inside)) (inl (rest, fits, after, refl))))

  pub one_less : (Fits front (get_or among index d) → ⊥) → (rest : List Wanted) → AreFitting front (drop (index + 1) among) rest
      → AreFitting front among (items ++ rest)
  one_less none rest after =
      so_far rest (subst (λ ds. AreFitting front ds rest) (sym (drop_more among index d inside)) (inr (none, after)))

-- past the last of them nothing fits
pub the_end : (front : List ℕ) (among items : List Wanted) (index : ℕ) → length among ≤ index
    → ((rest : List Wanted) → AreFitting front (drop index among) rest → AreFitting front among (items ++ rest)) → AreFitting front among items
the_end front among items index past so_far =
    subst (AreFitting front among) (append-nil items)
    (so_far [] (subst (λ ds. AreFitting front ds []) (sym (drop_all index among past)) refl))
