-- What a watch hears of one search, and of one after the other.
use Rattle.std.proofs.Common.{◌≡◌, ◌++◌, ℕ, Bool, List, [], ◌∷◌, map, refl, subst, sym}
use Rattle.base.specs.Plain.{WholeProgram}
use Rattle.language_properties.specs.declared.property.Property.{Property}
use Rattle.searches_states.specs.declared.limits.Limits.{Limits}
use Rattle.searches_states.specs.Watching.{Told, IsWatched}
use Rattle.searches_states.specs.Watching as watching
use Rattle.searches_explore.specs.Lines.{lines_of}
use Rattle.searches_explore.specs.Never.{AreToldFor}
use Rattle.searches_states.specs.declared.verdict.Verdict.{Verdict}
use Rattle.searches_explore.specs.declared.fault.Fault.{Fault}
use Rattle.ticklab_verdicts.specs.BySteps.{SeesBy}
use Rattle.ticklab_verdicts.specs.Hearing.{Heard, Hears, HearsOf, IsHeard, begun, hearing, seen}
use Rattle.ticklab_files.specs.Responses.{Refuses}
use Rattle.ticklab_files.specs.declared.response.Response.{Response}
use Rattle.ticklab_verdicts.specs.prover.Searches.{AreHeardFor}

module _ {W : Type 0} (begins finds : W → Bool → W → Type 0) (sees : W → ℕ → ℕ → ℕ → W → Type 0) where
  seen_all : (before after : W) (told : List Told) → watching.Hears sees before told after
      → Hears (hearing begins finds sees) before (map seen told) after
  seen_all before after [] is = is
  seen_all before after (one ∷ told) (between, first, rest) = (between, first, seen_all between after told rest)

  -- a search that began, by steps of this kind
  pub began : {E : Type 0} (before between after : W) (m n : Bool) → n ≡ m → (a : WholeProgram ℕ) (lines : List Property) (limits : Limits) (e : Verdict Fault E)
      → begins before n between → IsWatched sees between after (AreToldFor a (SeesBy m a (lines_of lines)) limits e) → IsHeard (hearing begins finds sees) before after (AreHeardFor m a lines limits e)
  began before between after m n same a lines limits e first watched = record {
    heard = begun m ∷ map seen watched.told;
    is = (between, subst (λ (k : Bool). begins before k between) same first, seen_all between after watched.told watched.heard);
    lawful = record { told = watched.told; are = watched.lawful; whole = refl };
  }

module _ {W : Type 0} (hears : HearsOf W) where
  heard_both : (before between after : W) (first more : List Heard) → Hears hears before first between → Hears hears between more after
      → Hears hears before (first ++ more) after
  heard_both before between after [] more is then = subst (λ (w : W). Hears hears w more after) (sym is) then
  heard_both before between after (one ∷ first) more (next, is, rest) then = (next, is, heard_both next between after first more rest then)

  -- one after the other
  pub heard_then : (before between after : W) {P Q R : List Heard → Type 0}
      → ((first more : List Heard) → P first → Q more → R (first ++ more)) → IsHeard hears before between P → IsHeard hears between after Q
      → IsHeard hears before after R
  heard_then before between after f p q = record {
    heard = p.heard ++ q.heard;
    is = heard_both before between after p.heard q.heard p.is q.is;
    lawful = f p.heard q.heard p.lawful q.lawful;
  }

  pub heard_as : (before after : W) {P Q : List Heard → Type 0} → ((heard : List Heard) → P heard → Q heard) → IsHeard hears before after P
      → IsHeard hears before after Q
  heard_as before after f p = record { heard = p.heard; is = p.is; lawful = f p.heard p.lawful }

  -- nothing of an input that is refused
  pub unheard_of : (before after : W) {number : ℕ} {Q : List ℕ → Type 0} (P : Response → List Heard → Type 0)
      → ((x : Response) → Refuses number Q x → P x []) → (x : Response) → Refuses number (λ report. Q report × (before ≡ after)) x
      → IsHeard hears before after (P x)
  unheard_of before after P f x refused = record {
    heard = [];
    is = refused.told.1;
    lawful = f x (record { status = refused.status; nothing = refused.nothing; told = refused.told.0 });
  }
