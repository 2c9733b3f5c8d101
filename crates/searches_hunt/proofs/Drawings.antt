-- The first steps of a run, one more at a time, and those that follow. So a fault within a run is one of its schedule
-- (`fault_whole`); one that has none up to its end, or up to where all have stopped, has a schedule without a fault
-- (`faultless_whole`, `stopped_whole`).
-- The idea. The schedule of a run is drawn step by step, and its first steps are the drawing of as many
-- (`drawn_first`). What a loop knows after so many steps is `IsAfter`; `steps_on` says that it holds after one more.
-- The difficulty is small: a number of steps is at most that of the run or not, and each case is a line.
-- Read `drawn_first` and `steps_on` first.
use Rattle.std.proofs.Common.{◌≡◌, ⊎_elim, ℕ, zero, suc, ◌+◌, ◌-◌, ◌<◌, ◌≤◌, false, List, [], ◌∷◌, ◌++◌, length, take, refl, sym, ◌∙◌, ap, arith}
use Rattle.std.proofs.lemmas.List.{take_all, take_at}
use Rattle.base.specs.Plain.{WholeProgram}
use Rattle.language_properties.specs.Properties.{Formula}
use Rattle.tick_source.specs.Source.{SourceState, source_step, source_run, source_start, source}
use Rattle.searches_explore.specs.Lines.{is_fault}
use Rattle.searches_hunt.specs.declared.plan.Mode.{Mode}
use Rattle.searches_hunt.specs.declared.plan.Plan.{Plan}
use Rattle.searches_hunt.specs.declared.drawing.ScheduleDraw.{ScheduleDraw}
use Rattle.rand_pcg.specs.Lcg.{Lcg}
use Rattle.rand_pcg.specs.Pcg.{pcg32}
use Rattle.searches_hunt.specs.Draws.{chosen, more_steps, fresh, drawing_by, next_drawing, drawn, start_drawing, random_schedule}
use Rattle.searches_hunt.specs.Hunts.{IsPartOf}
use Rattle.searches_hunt.specs.Never.{HasFault, IsFaultless}
use Rattle.searches_hunt.specs.prover.Tries.{drawing_after, first_steps, FaultsWithin, IsFaultlessTo, IsAfter}
use Rattle.searches_hunt.proofs.Runs.{most_or_more, run_append}
use Rattle.searches_hunt.proofs.Left.{part_first}

abbrev more_left : ScheduleDraw → ℕ → ScheduleDraw
more_left d k = record d { more = k }

on_by : (mode : Mode) (n : ℕ) (d : ScheduleDraw) (k : ℕ) → 0 < k → record d { more = k - 1 } ≡ drawing_by mode n d k
on_by mode n d zero h = absurd (omega arith)
on_by mode n d (suc k) h = ap (more_left d) (let e : suc k - 1 ≡ k = omega arith in e)

-- the process of the last word goes on
pub goes_on : (mode : Mode) (n : ℕ) (d : ScheduleDraw) → 0 < d.more → record d { more = d.more - 1 } ≡ next_drawing mode n d
unfolding next_drawing
goes_on mode n d h = on_by mode n d d.more h

-- a new word is drawn
pub draws_word : (mode : Mode) (n : ℕ) (d : ScheduleDraw) → d.more ≡ 0 → (word p more : ℕ) (g : Lcg) → p ≡ chosen n word → more ≡ more_steps mode word
    → (word, g) ≡ pcg32 d.generator → record { process = p; more = more; generator = g } ≡ next_drawing mode n d
unfolding next_drawing
draws_word mode n d none word p more g is_p is_more drawn_word =
    (λ i. record { process = is_p i; more = is_more i; generator = g })
    ∙ ap (fresh mode n) drawn_word
    ∙ ap (drawing_by mode n d) (sym none)

pub after_more : (mode : Mode) (n k : ℕ) (d : ScheduleDraw) → drawing_after mode n (suc k) d ≡ next_drawing mode n (drawing_after mode n k d)
after_more mode n zero d = refl
after_more mode n (suc k) d = after_more mode n k (next_drawing mode n d)

pub drawn_more : (mode : Mode) (n k : ℕ) (d : ScheduleDraw)
    → drawn mode n (suc k) d ≡ drawn mode n k d ++ (next_drawing mode n (drawing_after mode n k d)).process ∷ []
drawn_more mode n zero d = refl
drawn_more mode n (suc k) d = ap (λ xs. (next_drawing mode n d).process ∷ xs) (drawn_more mode n k (next_drawing mode n d))

-- so many steps are these and those that follow
drawn_parts : (mode : Mode) (n k j : ℕ) (d : ScheduleDraw) → drawn mode n (j + k) d ≡ drawn mode n k d ++ drawn mode n j (drawing_after mode n k d)
drawn_parts mode n zero j d = ap (λ i. drawn mode n i d) (let e : j + 0 ≡ j = omega arith in e)
drawn_parts mode n (suc k) j d =
    ap (λ i. drawn mode n i d) (let e : j + suc k ≡ suc (j + k) = omega arith in e)
    ∙ ap (λ xs. (next_drawing mode n d).process ∷ xs) (drawn_parts mode n k j (next_drawing mode n d))

pub drawn_first : (mode : Mode) (n k m : ℕ) (d : ScheduleDraw) → k ≤ m
    → drawn mode n m d ≡ drawn mode n k d ++ drawn mode n (m - k) (drawing_after mode n k d)
drawn_first mode n k m d h =
    ap (λ i. drawn mode n i d) (let e : m ≡ (m - k) + k = omega arith in e) ∙ drawn_parts mode n k (m - k) d

pub drawn_length : (mode : Mode) (n k : ℕ) (d : ScheduleDraw) → length (drawn mode n k d) ≡ k
drawn_length mode n zero d = refl
drawn_length mode n (suc k) d = ap suc (drawn_length mode n k (next_drawing mode n d))

module _ (a : WholeProgram ℕ) (plan : Plan) (run : ℕ) where
  -- one step more of the run
  pub one_more : (k : ℕ) (s s' : SourceState) → s ≡ first_steps a plan run k
      → s' ≡ source_step a.processes (next_drawing plan.mode a.processes (drawing_after plan.mode a.processes k (start_drawing plan.seed run))).process s
      → s' ≡ first_steps a plan run (k + 1)
  one_more k s s' is step =
      let d = start_drawing plan.seed run in
      let next : k + 1 ≡ suc k = omega arith in
      step
      ∙ ap (source_step a.processes (next_drawing plan.mode a.processes (drawing_after plan.mode a.processes k d)).process) is
      ∙ sym (run_append a.processes (drawn plan.mode a.processes k d) ((next_drawing plan.mode a.processes (drawing_after plan.mode a.processes k d)).process ∷ []) (source_start a))
      ∙ ap (source a) (sym (drawn_more plan.mode a.processes k d))
      ∙ ap (λ i. first_steps a plan run i) (sym next)

  -- what a step makes of how far the run has come
  pub made_on : (lines : List Formula) (k p : ℕ) (s s' : SourceState) (d d' : ScheduleDraw) → IsAfter a lines plan run k s d
      → d' ≡ next_drawing plan.mode a.processes d → p ≡ d'.process → s' ≡ source_step a.processes p s → s' ≡ first_steps a plan run (k + 1)
  made_on lines k p s s' d d' before drew is step =
      let next : d' ≡ next_drawing plan.mode a.processes (drawing_after plan.mode a.processes k (start_drawing plan.seed run)) =
      drew ∙ ap (next_drawing plan.mode a.processes) before.drew in
      one_more k s s' before.made (step ∙ ap (λ q. source_step a.processes q s) (is ∙ ap (λ e. e.process) next))

  pub faultless_start : (lines : List Formula) → is_fault lines (source_start a) ≡ false → IsFaultlessTo a lines plan run 0
  faultless_start lines none k h = ap (λ j. is_fault lines (first_steps a plan run j)) (let e : k ≡ 0 = omega arith in e) ∙ none

  -- one step more without a fault
  pub faultless_on : (lines : List Formula) (k : ℕ) → IsFaultlessTo a lines plan run k → is_fault lines (first_steps a plan run (k + 1)) ≡ false
      → IsFaultlessTo a lines plan run (k + 1)
  faultless_on lines k before now j h = ⊎_elim (before j)
      (λ above. ap (λ i. is_fault lines (first_steps a plan run i)) (let e : j ≡ k + 1 = omega arith in e) ∙ now)
      (most_or_more j k)

  pub steps_on : (lines : List Formula) (k p : ℕ) (s s' : SourceState) (d d' : ScheduleDraw) → IsAfter a lines plan run k s d
      → d' ≡ next_drawing plan.mode a.processes d → p ≡ d'.process → s' ≡ source_step a.processes p s
      → d'.process < a.processes → is_fault lines s' ≡ false → IsAfter a lines plan run (k + 1) s' d'
  steps_on lines k p s s' d d' before drew is step below none =
      let made = made_on lines k p s s' d d' before drew is step in
      record {
        made = made;
        drew = drew ∙ ap (next_drawing plan.mode a.processes) before.drew ∙ sym (after_more plan.mode a.processes k (start_drawing plan.seed run))
            ∙ ap (λ i. drawing_after plan.mode a.processes i (start_drawing plan.seed run)) (let e : suc k ≡ k + 1 = omega arith in e);
        faultless = faultless_on lines k before.faultless (ap (is_fault lines) (sym made) ∙ none);
        process = below;
      }

  -- the first steps are part of the run
  pub part_of_run : (k : ℕ) → k ≤ plan.steps → IsPartOf (drawn plan.mode a.processes k (start_drawing plan.seed run)) (random_schedule plan a.processes run)
  part_of_run k h =
      let d = start_drawing plan.seed run in
      part_first (drawn plan.mode a.processes k d) (drawn plan.mode a.processes (plan.steps - k) (drawing_after plan.mode a.processes k d))
      (random_schedule plan a.processes run) (drawn_first plan.mode a.processes k plan.steps d h)

  -- the first steps of its schedule are its first steps
  first_of_run : (k : ℕ) → k ≤ plan.steps → source a (take k (random_schedule plan a.processes run)) ≡ first_steps a plan run k
  first_of_run k h =
      let d = start_drawing plan.seed run in
      let first = drawn plan.mode a.processes k d in
      let rest = drawn plan.mode a.processes (plan.steps - k) (drawing_after plan.mode a.processes k d) in
      ap (source a) (ap (take k) (drawn_first plan.mode a.processes k plan.steps d h) ∙ take_at first rest k (drawn_length plan.mode a.processes k d))

  -- and all of it are all its steps
  all_of_run : (k : ℕ) → plan.steps ≤ k → source a (take k (random_schedule plan a.processes run)) ≡ first_steps a plan run plan.steps
  all_of_run k h =
      let d = start_drawing plan.seed run in
      ap (source a) (take_all k (random_schedule plan a.processes run) (let e = drawn_length plan.mode a.processes plan.steps d in omega arith))

  -- a fault within the run is one of its schedule
  pub fault_whole : (lines : List Formula) (k : ℕ) → FaultsWithin a lines plan run k → HasFault a lines (random_schedule plan a.processes run)
  fault_whole lines k f = record {
    steps = k;
    within = let e = drawn_length plan.mode a.processes plan.steps (start_drawing plan.seed run) in let h = f.within in omega arith;
    fault = ap (is_fault lines) (first_of_run k f.within) ∙ f.fault;
  }

  -- Without a fault up to its end the run's schedule has none.
  pub faultless_whole : (lines : List Formula) → IsFaultlessTo a lines plan run plan.steps → IsFaultless a lines (random_schedule plan a.processes run)
  faultless_whole lines none k = ⊎_elim
      (λ h. ap (is_fault lines) (first_of_run k h) ∙ none k h)
      (λ h. ap (is_fault lines) (all_of_run k (omega arith)) ∙ none plan.steps (omega arith))
      (most_or_more k plan.steps)

  -- Where nothing more happens after the first steps, the run comes to what they do.
  stopped_first : (k j : ℕ) (s : SourceState) → k ≤ j → s ≡ first_steps a plan run k
      → ((schedule : List ℕ) → source_run a.processes schedule s ≡ s) → first_steps a plan run j ≡ s
  stopped_first k j s h is idle =
      let d = start_drawing plan.seed run in
      let first = drawn plan.mode a.processes k d in
      let rest = drawn plan.mode a.processes (j - k) (drawing_after plan.mode a.processes k d) in
      ap (source a) (drawn_first plan.mode a.processes k j d h)
      ∙ run_append a.processes first rest (source_start a)
      ∙ ap (source_run a.processes rest) (sym is) ∙ idle rest

  pub stopped_whole : (lines : List Formula) (k : ℕ) (s : SourceState) → s ≡ first_steps a plan run k → IsFaultlessTo a lines plan run k
      → ((schedule : List ℕ) → source_run a.processes schedule s ≡ s) → IsFaultless a lines (random_schedule plan a.processes run)
  stopped_whole lines k s is none idle = faultless_whole lines (λ j h. ⊎_elim
      (none j)
      (λ above. ap (is_fault lines) (stopped_first k j s (omega arith) is idle ∙ is) ∙ none k (omega arith))
      (most_or_more j k))
