use Rattle.std.proofs.Common.{◌≡◌, ◌∙◌, ◌&&◌, ℕ, Bool, false, Global, List, Some, Vec, ap, sym, true≢false}
use Rattle.ticklab_files.specs.Faults.{Causes, IsUnread}
use Rattle.ticklab_files.specs.Reading.{in_file, is_input, schedule_file}
use Rattle.ticklab_files.specs.Ways.{texts_in}
use Rattle.ticklab_files.specs.declared.fault.ReadFault.TheVariants.{NoText}
use Rattle.ticklab_files.proofs.Faulted.{for_cause, of_file_as}
use Rattle.ticklab_files.proofs.files.texts_of.Goals.{else-is_input_read-via-then-is_input_read+else-is_input, else-is_input_read-via-else-is_input_read}
use Rattle.ticklab_files.proofs.files.texts_of.Goals as goal

pub returns-in-Ok-clause-ok : goal.returns-in-Ok-clause-ok
returns-in-Ok-clause-ok g c =
    let is_it = is_input c.in-Some.name.now in
    let free : (c.args.is_input_read && is_it) ≡ false = elim c.else-is_input_read.branch [
      | else-is_input_read-via-then-is_input_read+else-is_input w ↦ ap (λ (read : Bool). read && is_it) w.if-is_input_read.true ∙ sym w.if-is_input.ensures
      | else-is_input_read-via-else-is_input_read w ↦ ap (λ (read : Bool). read && is_it) w.if-is_input_read.false
    ] in
    in_file c.in_ok-bytes.bytes.items c.in-Some.ensures free c.in_ok-bytes.ensures.ok (c.in_ok-texts_in-in-Ok.ensures ∙ ap (λ (v : Vec ℕ Global). texts_in v.items) c.in-Ok.ensures.ok)

pub returns-clause-err : goal.returns-clause-err
returns-clause-err g c =
    let causes : Causes = IsUnread g.F.Files.Reads g.F.Files.ReadsInput g.F.Files.Lists g.F.Files.Fails in
    let given = c.args.given.now in
    let name = c.in-Some.name.now in
    let fault = c.of_file-in-Err.result in
    of_file_as causes (λ (n : List ℕ). n ≡ name) (λ (n : List ℕ). schedule_file given ≡ Some n) (λ n is. c.in-Some.ensures ∙ ap Some (sym is)) fault
    (for_cause causes name NoText (
      c.args.files.now,
      c.bytes_of.new.files,
      c.in_ok-bytes.bytes.items,
      c.in_ok-bytes.ensures.ok,
      λ is_text. true≢false (sym (c.in-Err.ensures.succeeds is_text)),
    ) fault c.of_file-in-Err.ensures)
