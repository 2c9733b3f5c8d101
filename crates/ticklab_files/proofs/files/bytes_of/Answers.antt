use Rattle.std.proofs.Common.{◌≡◌, ◌∙◌, ◌≤◌, ℕ, Bool, true, false, IfOk, Result, Vec, Global, arith, length, subst, sym}
use Rattle.std.specs.Prelude.{bytes_eq, codes}
use Rattle.std.specs.declared.io.Error.{Error}
use Rattle.ticklab_files.specs.Faults.{Causes, IsOfFile, IsUnread}
use Rattle.ticklab_files.specs.Reading.{IsReadOnce}
use Rattle.ticklab_files.specs.declared.fault.ReadFault.TheVariants.{TooLong}
use Rattle.ticklab_files.proofs.Faulted.{for_cause}
use Rattle.ticklab_files.proofs.files.bytes_of.Goals.{then-is_input, else-is_input}
use Rattle.ticklab_files.proofs.files.bytes_of.Goals as goal

-- 64 MiB were read, by one call
pub returns-then-len-ge-MOST_BYTES-clause-err : goal.returns-then-len-ge-MOST_BYTES-clause-err
returns-then-len-ge-MOST_BYTES-clause-err g c =
    let reads = g.F.Files.Reads in
    let reads_input = g.F.Files.ReadsInput in
    let causes : Causes = IsUnread reads reads_input g.F.Files.Lists g.F.Files.Fails in
    let before = c.args.files.now in
    let after = c.if-is_input.files in
    let name = c.args.name.now in
    let bytes = c.in-Ok.bytes.items in
    let many : 67108864 ≤ length bytes = (let ge = c.if-len-ge-MOST_BYTES.true in let is = c.len.ensures in omega (arith, ge, is)) in
    let once : IsReadOnce reads reads_input (bytes_eq name (codes "-")) before name bytes after = elim c.if-is_input.branch [
      | then-is_input w ↦
          subst (λ (b : Bool). IsReadOnce reads reads_input b before name bytes after) (sym w.if-is_input.true ∙ c.is_input.ensures)
          (subst (λ (r : Result (Vec ℕ Global) Error). IfOk r (λ v. reads_input before 67108864 v.items after)) (sym w.read-is ∙ c.in-Ok.is)
          (subst (λ (files : g.row.F.Denot). IfOk w.input-read.result (λ v. reads_input before 67108864 v.items files)) (sym w.files-is) w.input-read.ensures.ok))
      | else-is_input w ↦
          subst (λ (b : Bool). IsReadOnce reads reads_input b before name bytes after) (sym w.if-is_input.false ∙ c.is_input.ensures)
          (subst (λ (r : Result (Vec ℕ Global) Error). IfOk r (λ v. reads before name 67108864 v.items after)) (sym w.read-is ∙ c.in-Ok.is)
          (subst (λ (files : g.row.F.Denot). IfOk w.file-read.result (λ v. reads before name 67108864 v.items files)) (sym w.files-is) w.file-read.ensures.ok))
    ] in
    for_cause causes name TooLong (before, after, bytes, once, many) c.of_file.result c.of_file.ensures
