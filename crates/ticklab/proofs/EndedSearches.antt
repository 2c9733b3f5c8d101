-- What files come to of which searches have ended, while other searches go on and others yet have to be begun.
-- The idea. So far each file of which a search has ended has come to what it should, and the listener heard of it. The searches
-- that go on are those of the next files, `flying`, and behind these stand the files whose searches have to be begun
-- (`AreOnTheWay`). A search that ends adds what its file comes to, and one more is begun (`one_more_ended`).
use Rattle.std.proofs.Common.{◌≡◌, ◌∙◌, ◌++◌, ◌+◌, ◌<◌, ◌≤◌, ◌*◌, ℕ, List, [], ◌∷◌, ap, arith, length, refl, subst, sym}
use Rattle.std.proofs.lemmas.List.{append-nil, append_assoc}
use Rattle.std.specs.List.{AllZip}
use Rattle.searches_states.specs.declared.limits.Limits.{Limits}
use Rattle.ticklab_check.specs.Checking.{SourceComesTo}
use Rattle.ticklab_check.specs.Listening.{Hears}
use Rattle.ticklab_check.specs.declared.checked.Timed.{Timed}
use Rattle.ticklab_check.specs.declared.source.Source.{Source}
use Rattle.ticklab.specs.Searching.{AreSearched, IsHeardOf, IsSearchOf, OneMoreBegun}
use Rattle.ticklab.specs.declared.search.FileSearch.{FileSearch}

abbrev pub FileComesTo : Limits → Source → Timed → Type 0
FileComesTo limits source timed = SourceComesTo limits source timed.checked

-- one more search at the end
zip_push : (limits : Limits) (sources : List Source) (searches : List FileSearch) (source : Source) (search : FileSearch)
    → AllZip (IsSearchOf limits) sources searches → IsSearchOf limits source search → AllZip (IsSearchOf limits) (sources ++ source ∷ []) (searches ++ search ∷ [])
zip_push limits [] [] source search all one = (one, tt)
zip_push limits [] (other ∷ searches) source search all one = absurd all
zip_push limits (other ∷ sources) [] source search all one = absurd all
zip_push limits (other ∷ sources) (first ∷ searches) source search all one = (all.0, zip_push limits sources searches source search all.1 one)

zip_long : (limits : Limits) (sources : List Source) (searches : List FileSearch) → AllZip (IsSearchOf limits) sources searches → searches ≡ [] → sources ≡ []
zip_long limits [] searches all none = refl
zip_long limits (source ∷ sources) searches all none = absurd (subst (AllZip (IsSearchOf limits) (source ∷ sources)) none all)

module _ (limits : Limits) {L : Type 0} (hears : L → Source → Timed → L → Type 0) (sources : List Source) (start : L) where
  pub record AreOnTheWay (searches : List FileSearch) (rest : List Source) (files : List Timed) (now : L) : Type 0 where
    pub flying : List Source
    pub of : AllZip (IsSearchOf limits) flying searches
    -- while files are left some search goes on
    pub some : searches ≡ [] → rest ≡ []
    pub come : (more : List Timed) → AllZip (FileComesTo limits) (flying ++ rest) more → AllZip (FileComesTo limits) sources (files ++ more)
    pub heard : (more : List Timed) (after : L) → Hears hears now (flying ++ rest) more after → Hears hears start sources (files ++ more) after

  pub none_ended : (flying rest : List Source) (searches : List FileSearch) → AllZip (IsSearchOf limits) flying searches → (searches ≡ [] → rest ≡ [])
      → sources ≡ flying ++ rest → AreOnTheWay searches rest [] start
  none_ended flying rest searches of some whole = record {
    flying = flying;
    of = of;
    some = some;
    come = λ more come. subst (λ (all : List Source). AllZip (FileComesTo limits) all more) (sym whole) come;
    heard = λ more after heard. subst (λ (all : List Source). Hears hears start all more after) (sym whole) heard;
  }

  -- a search has ended, and the next one was begun
  begun_too : (flying rest others : List Source) (searches after_it : List FileSearch) (files : List Timed) (now : L) → AllZip (IsSearchOf limits) flying searches
      → ((more : List Timed) → AllZip (FileComesTo limits) (flying ++ rest) more → AllZip (FileComesTo limits) sources (files ++ more))
      → ((more : List Timed) (after : L) → Hears hears now (flying ++ rest) more after → Hears hears start sources (files ++ more) after)
      → OneMoreBegun limits rest searches after_it others → AreOnTheWay after_it others files now
  begun_too flying [] others searches after_it files now of come heard one = record {
    flying = flying;
    of = subst (AllZip (IsSearchOf limits) flying) (sym one.1) of;
    some = λ none. one.0;
    come = λ more is. come more (subst (λ (l : List Source). AllZip (FileComesTo limits) (flying ++ l) more) one.0 is);
    heard = λ more after is. heard more after (subst (λ (l : List Source). Hears hears now (flying ++ l) more after) one.0 is);
  }
  begun_too flying (source ∷ rest) others searches after_it files now of come heard one =
      let search = one.1.0 in
      let same : (flying ++ source ∷ []) ++ others ≡ flying ++ source ∷ rest = ap (λ (l : List Source). (flying ++ source ∷ []) ++ l) one.0 ∙ append_assoc flying (source ∷ []) rest in
      record {
        flying = flying ++ source ∷ [];
        of = subst (AllZip (IsSearchOf limits) (flying ++ source ∷ [])) (sym one.1.2) (zip_push limits flying searches source search of one.1.1);
        some = λ none. absurd (never_empty searches search (sym one.1.2 ∙ none));
        come = λ more is. come more (subst (λ (l : List Source). AllZip (FileComesTo limits) l more) same is);
        heard = λ more after is. heard more after (subst (λ (l : List Source). Hears hears now l more after) same is);
      }
    where
      never_empty : (all : List FileSearch) (last : FileSearch) → all ++ last ∷ [] ≡ [] → ⊥
      never_empty [] last none = cc none
      never_empty (first ∷ all) last none = cc none

  more_ended : (search : FileSearch) (searches after_it : List FileSearch) (rest others : List Source) (files : List Timed) (now next : L) (timed : Timed)
      (flying : List Source) → AllZip (IsSearchOf limits) flying (search ∷ searches)
      → ((more : List Timed) → AllZip (FileComesTo limits) (flying ++ rest) more → AllZip (FileComesTo limits) sources (files ++ more))
      → ((more : List Timed) (after : L) → Hears hears now (flying ++ rest) more after → Hears hears start sources (files ++ more) after)
      → IsHeardOf hears search timed now next → OneMoreBegun limits rest searches after_it others → AreOnTheWay after_it others (files ++ timed ∷ []) next
  more_ended search searches after_it rest others files now next timed [] of come heard told one = absurd of
  more_ended search searches after_it rest others files now next timed (source ∷ flying) of come heard told one =
      begun_too flying rest others searches after_it (files ++ timed ∷ []) next of.1
      (λ more is. subst (AllZip (FileComesTo limits) sources) (sym (append_assoc files (timed ∷ []) more)) (come (timed ∷ more) (told.comes limits source of.0, is)))
      (λ more after is. subst (λ (all : List Timed). Hears hears start sources all after) (sym (append_assoc files (timed ∷ []) more))
      (heard (timed ∷ more) after (next, subst (λ (s : Source). hears now s timed next) of.0.0 told.heard, is))) one

  pub one_more_ended : (search : FileSearch) (searches after_it : List FileSearch) (rest others : List Source) (files : List Timed) (now next : L) (timed : Timed)
      → AreOnTheWay (search ∷ searches) rest files now → IsHeardOf hears search timed now next → OneMoreBegun limits rest searches after_it others
      → AreOnTheWay after_it others (files ++ timed ∷ []) next
  one_more_ended search searches after_it rest others files now next timed way told one =
      more_ended search searches after_it rest others files now next timed way.flying way.of way.come way.heard told one

  -- none goes on
  pub all_ended : (searches : List FileSearch) (rest : List Source) (files : List Timed) (now : L) → searches ≡ [] → AreOnTheWay searches rest files now
      → AreSearched limits hears start now sources files
  all_ended searches rest files now none way =
      let gone : way.flying ++ rest ≡ [] = ap (λ (l : List Source). l ++ rest) (zip_long limits way.flying searches way.of none) ∙ way.some none in
      record {
        come = subst (AllZip (FileComesTo limits) sources) (append-nil files) (way.come [] (subst (λ (l : List Source). AllZip (FileComesTo limits) l []) (sym gone) tt));
        heard =
            subst (λ (all : List Timed). Hears hears start sources all now) (append-nil files)
            (way.heard [] now (subst (λ (l : List Source). Hears hears now l [] now) (sym gone) refl));
      }
