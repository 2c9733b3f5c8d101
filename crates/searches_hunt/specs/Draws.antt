-- The random schedules: each follows from the seed, the number of its run and how many steps it has.
use Rattle.std.specs.Prelude.{ℕ, zero, suc, ◌*◌, ◌/◌, ◌%◌, ◌^◌, List, [], ◌∷◌}
use Rattle.rand_pcg.specs.Lcg.{Lcg, started, increment_of}
use Rattle.rand_pcg.specs.Pcg.{multiplier_64, pcg32}
use Rattle.searches_hunt.specs.declared.plan.Mode.{Mode}
use Rattle.searches_hunt.specs.declared.plan.Mode.TheVariants.{Bursts, Uniform}
use Rattle.searches_hunt.specs.declared.plan.Plan.{Plan}
use Rattle.searches_hunt.specs.declared.drawing.ScheduleDraw.{ScheduleDraw}

-- The process of `n` that a word stands for: the word is a part of 2 ^ 32, and this is that part of `n`.
abbrev pub chosen : ℕ → ℕ → ℕ
chosen n word = word * n / 2 ^ 32

-- how many more steps the process makes at once: 0 to 15 in a burst
abbrev pub more_steps : Mode → ℕ → ℕ
more_steps Bursts word = word % 16
more_steps Uniform word = 0

-- what a new word of the generator says
abbrev pub fresh : Mode → ℕ → ℕ × Lcg → ScheduleDraw
fresh mode n (word, generator) = record { process = chosen n word; more = more_steps mode word; generator = generator }

abbrev pub drawing_by : Mode → ℕ → ScheduleDraw → ℕ → ScheduleDraw
drawing_by mode n d zero = fresh mode n (pcg32 d.generator)
drawing_by mode n d (suc more) = record d { more = more }

-- The process that drew the last word goes on, or a new word is drawn.
unfoldable pub next_drawing : Mode → ℕ → ScheduleDraw → ScheduleDraw
next_drawing mode n d = drawing_by mode n d d.more

-- the processes of so many steps
abbrev pub drawn : Mode → ℕ → ℕ → ScheduleDraw → List ℕ
drawn mode n zero d = []
drawn mode n (suc steps) d = (next_drawing mode n d).process ∷ drawn mode n steps (next_drawing mode n d)

-- The stream of the generator is the number of the run, and the seed is where it starts.
unfoldable pub start_drawing : ℕ → ℕ → ScheduleDraw
start_drawing seed run = record { process = 0; more = 0; generator = started 64 multiplier_64 seed (increment_of 64 run) }

-- the schedule of a run, of `n` processes
abbrev pub random_schedule : Plan → ℕ → ℕ → List ℕ
random_schedule plan n run = drawn plan.mode n plan.steps (start_drawing plan.seed run)
