-- The runs that a hunt tries, as members of an object.
use Rattle.std.specs.Prelude.{ℕ, Bool, codes}
use Rattle.std.specs.Fmt.{decimal}
use Rattle.searches_hunt.specs.declared.plan.Plan.{Plan}
use Rattle.serde_json.specs.Data.{Data, boolean, string, object, Members, no_members, member, put}
use Rattle.ticklab_json.specs.Members.{count}

-- which random schedules were tried; a seed may need more than the 53 bits that a number of JSON surely has
abbrev pub plan_members : Plan → ℕ → Members
plan_members plan from =
    member (codes "from") (count from) (member (codes "runs") (count plan.runs)
    (member (codes "seed") (string (decimal plan.seed)) (member (codes "steps") (count plan.steps) no_members)))

-- none of them has a fault, where so many lines must never hold; and whether a line `#! ends` of the file isn't asked
abbrev pub empty_hunt_data : Plan → ℕ → ℕ → Bool → Data
empty_hunt_data plan from lines ends_unasked =
    object (put (codes "ends_unasked") (boolean ends_unasked) (put (codes "never_lines") (count lines)
    (put (codes "answer") (string (codes "none")) (plan_members plan from))))
