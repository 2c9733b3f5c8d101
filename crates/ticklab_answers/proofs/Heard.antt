-- What is written of files, one after the other, is what is written of all of them: by induction over the files.
use Rattle.std.proofs.Common.{◌≡◌, ◌∙◌, ◌++◌, ℕ, List, [], ◌∷◌, Some, None, ap, refl, subst, sym}
use Rattle.std.proofs.lemmas.List.{append-nil, append_assoc}
use Rattle.std.specs.Io.KnownBytes.{Appends}
use Rattle.ticklab_check.specs.Listening.{Hears}
use Rattle.ticklab_check.specs.Wording.{files_lines}
use Rattle.ticklab_check.specs.declared.checked.Timed.{Timed}
use Rattle.ticklab_check.specs.declared.source.Source.{Source}
use Rattle.ticklab_answers.specs.Hearing.{WritesAll, WritesFile}
use Rattle.ticklab_answers.specs.Serving.{Grows, Known, all_shown}
use Rattle.ticklab_answers.specs.declared.colours.Colours.{Colours}
use Rattle.ticklab_answers.specs.declared.host.Host.{Host}

nothing_appended : (known : Known) → Appends known known []
nothing_appended None = tt
nothing_appended (Some bytes) = sym (append-nil bytes)

both_appended : (old between new : Known) (first second : List ℕ) → Appends old between first → Appends between new second → Appends old new (first ++ second)
both_appended None between new first second one other = tt
both_appended (Some xs) None new first second one other = absurd one
both_appended (Some xs) (Some ys) None first second one other = absurd other
both_appended (Some xs) (Some ys) (Some zs) first second one other =
    other ∙ ap (λ (l : List ℕ). l ++ second) one ∙ append_assoc xs first second

both_untouched : (old between new : Known) (first second : List ℕ) → (first ≡ [] → between ≡ old) → (second ≡ [] → new ≡ between) → first ++ second ≡ [] → new ≡ old
both_untouched old between new [] second one other none = other none ∙ one refl
both_untouched old between new (byte ∷ first) second one other none = absurd (cc none)

-- nothing is written
pub grows_not : (known : Known) → Grows known known []
grows_not known = record { appended = nothing_appended known; untouched = λ none. refl }

-- one text is written, and then another
pub grows_on : (old between new : Known) (first second : List ℕ) → Grows old between first → Grows between new second → Grows old new (first ++ second)
grows_on old between new first second one other = record {
  appended = both_appended old between new first second one.appended other.appended;
  untouched = both_untouched old between new first second one.untouched other.untouched;
}

module _ {F O T : Type 0} (contents : O → Known) where
  -- nothing is written, whatever was read
  pub writes_nothing : (before after : Host F O T) → after.version ≡ before.version → after.err ≡ before.err → after.colours ≡ before.colours → after.out ≡ before.out
      → WritesAll contents before after []
  writes_nothing before after version err colours out = record {
    version = version;
    err = err;
    colours = colours;
    out = subst (λ (o : O). Grows (contents before.out) (contents o) []) (sym out) (grows_not (contents before.out));
  }

  pub all_written : (before after : Host F O T) (sources : List Source) (files : List Timed) → Hears (WritesFile contents) before sources files after
      → WritesAll contents before after (files_lines sources files) × (after.files ≡ before.files)
  all_written before after [] [] heard = (
    subst (λ (h : Host F O T). WritesAll contents before h []) heard (writes_nothing before before refl refl refl refl),
    ap (λ (h : Host F O T). h.files) (sym heard),
  )
  all_written before after [] (timed ∷ files) heard = absurd heard
  all_written before after (source ∷ sources) [] heard = absurd heard
  all_written before after (source ∷ sources) (timed ∷ files) heard =
      let between = heard.0 in
      let one = heard.1 in
      let more = all_written between after sources files heard.2 in (
        record {
          version = more.0.version ∙ one.version;
          err = more.0.err ∙ one.err;
          colours = more.0.colours ∙ one.colours;
          out =
              grows_on (contents before.out) (contents between.out) (contents after.out) _ _ one.out
              (subst (λ (c : Colours). Grows (contents between.out) (contents after.out) (all_shown c.out (files_lines sources files))) one.colours more.0.out);
        },
        more.1 ∙ one.files,
      )
