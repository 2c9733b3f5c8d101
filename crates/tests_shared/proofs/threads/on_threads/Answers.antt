use Rattle.std.proofs.Common.{rules, ◌≡◌, ◌<◌, ℕ, true, List, length, slice_set, slice_index_or, vec_items, vec_len, subst, sym, ap, ◌∙◌}
use Rattle.std.specs.List.{enumerate_from}
use Rattle.std.proofs.lemmas.List.FromFn.{length-enumerate_from}
use Rattle.stamp_table.specs.Passes.{PassView, none_held, part}
use Rattle.tests_shared.proofs.Jobs.{its_pass}
use Rattle.tests_shared.proofs.threads.on_threads.Given as given
use Rattle.tests_shared.proofs.threads.on_threads.Goals as goal
use Rattle.tests_shared.proofs.threads.on_threads.Goals.{In_ok-jobs}

-- each job is a process of the table, with its pass
its_job : (g : given.Over) (c : In_ok-jobs g) (p : ℕ) (d : ℕ × PassView) → p < c.args.table.now.n
    → slice_index_or (vec_items c.in_ok-jobs.jobs) p d ≡ (p, part c.args.all (slice_set none_held p true))
its_job g c p d below =
    let count : length (vec_items c.in-Ok.passes) ≡ c.args.table.now.n = search rules in
    ap (λ (jobs : List (ℕ × PassView)). slice_index_or jobs p d) c.in_ok-jobs.ensures
    ∙ its_pass c.args.table.now.n c.args.all (vec_items c.in-Ok.passes) count c.in-Ok.ensures.each p d below

job_count : (g : given.Over) (c : In_ok-jobs g) → vec_len c.in_ok-jobs.jobs ≡ c.args.table.now.n
job_count g c =
    let count : length (vec_items c.in-Ok.passes) ≡ c.args.table.now.n = search rules in
    let same : length (vec_items c.in_ok-jobs.jobs) ≡ c.args.table.now.n =
    ap length c.in_ok-jobs.ensures ∙ length-enumerate_from 0 (vec_items c.in-Ok.passes) ∙ count in
    search rules

pub map_vec-requires-after_bounds : goal.map_vec-requires-after_bounds
map_vec-requires-after_bounds g c κs within = λ i x below is.
    let count = job_count g (goal.at.map_vec-requires-after_bounds g c).In_ok-jobs in
    let inside : i < c.args.table.now.n = search rules in
    let same : x ≡ (i, part c.args.all (slice_set none_held i true)) = is ∙ its_job g (goal.at.map_vec-requires-after_bounds g c).In_ok-jobs i x inside in
    subst (λ (y : ℕ × PassView). g.F.Fn.pre c.args.work.now (y.1, (y.0, tt))) (sym same) (c.requires.can i inside)

pub returns-clause-count : goal.returns-clause-count
returns-clause-count g c = let count = job_count g (goal.at.returns-clause-count g c).In_ok-jobs in c.in_ok-done.ensures.len ∙ count

pub returns-clause-each : goal.returns-clause-each
returns-clause-each g c = λ p d below.
    let count = job_count g (goal.at.returns-clause-each g c).In_ok-jobs in
    let inside : p < length (vec_items c.in_ok-jobs.jobs) = search rules in
    let gave = (c.in_ok-done.ensures.each p d inside).1 in
    let same = sym (gave.job_is gave.job) ∙ its_job g (goal.at.returns-clause-each g c).In_ok-jobs p gave.job below in
    subst (λ (y : ℕ × PassView). g.F.Fn.post c.args.work.now (y.1, (y.0, tt)) (slice_index_or (vec_items c.in_ok-done.done) p d)) same gave.call.met
