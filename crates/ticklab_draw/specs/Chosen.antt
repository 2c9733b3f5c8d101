-- Which marks of a run a picture shows: those of a step and of later ones, and perhaps only what other processes can see.
use Rattle.std.specs.Prelude.{ℕ, Bool, true, ◌||◌, ◌&&◌, nat_le, not, List}
use Rattle.std.specs.List.{count_by}
pub use Rattle.ticklab_trace.specs.Folds.{is_shared_act}
use Rattle.ticklab_draw.specs.declared.look.Look.{Look}
use Rattle.ticklab_draw.specs.declared.mark.Mark.{Mark}
use Rattle.ticklab_draw.specs.declared.mark.Sight.{Sight}
use Rattle.ticklab_draw.specs.declared.mark.Sight.TheVariants as S

-- a lost exchange is one by which a process sees what others do
abbrev pub is_shared : Sight → Bool
is_shared (S.Act act) = is_shared_act act
is_shared sight = true

abbrev pub is_chosen : Look → Mark → Bool
is_chosen look m = nat_le look.from m.step && (not look.is_shared || is_shared m.sight)

-- how many of these marks are shown
abbrev pub chosen_count : Look → List Mark → ℕ
chosen_count look marks = count_by (is_chosen look) marks
