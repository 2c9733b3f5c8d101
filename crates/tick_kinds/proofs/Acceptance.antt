-- What checking a program comes to: exactly the accepted programs are not refused
-- (`accepted_unless_refused`), the first refusal is told unless memory was refused (`refused`), and every
-- number in a resolved body is within its section (`body_within`).
--
-- The idea. `program_told` says what checking answers: the first of `refusals p`, or the resolved body where that
-- list is empty; it puts together what is told of declarations (`Telling`) and of the body (`Statements`). So the
-- question is when the list is empty. `accepted_from` takes the empty list apart and reads the fields of `IsAccepted`
-- off its parts; `clear_from` goes back. The numbers of the body are within their sections by `block_within` of
-- `Statements`. The difficulty is in the limits: a refusal looks at the number of one declaration, `IsAccepted` at
-- the length of a section (`section_limit`). Read `accepted_from` first.
use Rattle.std.proofs.Common.{◌≡◌, ◌≢◌, ◌≤◌, ◌+◌, ◌↔◌, ℕ, Bool, true, false, if◌then◌else◌, ◌&&◌, nat_le, List, [], ◌∷◌, ◌++◌, length, map, Some, None, Ok, Err, refl, sym, ap, ◌∙◌, subst, arith, true≢false}
use Rattle.std.proofs.lemmas.Bool.{leb-true, le-leb}
use Rattle.std.specs.List.{flat_map, AllByRecursion}
use Rattle.tick_kinds.specs.declared.fault.KindFault.{KindFault}
use Rattle.tick_kinds.specs.declared.fault.KindFault.TheVariants as F
use Rattle.tick_kinds.specs.declared.kind.Kind.TheVariants as K
use Rattle.tick_kinds.specs.Accepted.{IsAccepted}
use Rattle.base.specs.Refusing.{◌>>=◌}
use Rattle.tick_kinds.specs.prover.Checked.{Fails, checked_block, checked_declarations, checked_program}
use Rattle.tick_kinds.specs.Declarations.{declarations, numbered, slot_in}
use Rattle.tick_kinds.specs.Refusals.{use_refusals, declarations_refusals, processes_refusals, refusals, first, first_refusal}
use Rattle.tick_kinds.specs.Resolution.{resolved}
use Rattle.tick_kinds.specs.Uses.{block_uses}
use Rattle.tick_kinds.proofs.Accepting.{IsOnce, IsSmall, front_empty, back_empty, both_empty, kept_empty, pairs_from, once_from, declarations_fine, declarations_clear, smalls, fresh_first, all_left, all_right, all_both, within_limit, numbers_small}
use Rattle.tick_kinds.proofs.Telling.{told, told-then, declarations_told}
use Rattle.tick_kinds.proofs.Statements.{block_told, InBlock, block_within}
use Rattle.tick_kinds.proofs.Using.{letters-declarations, uses_declared, uses_clear}
use Rattle.base.specs.Plain.{Name, Block, WholeProgram}

pub program_told : (p : WholeProgram Name) → checked_program p ≡ told (refusals p) (resolved p).body
unfolding checked_program
program_told p = by (nat_le 1 p.processes && nat_le p.processes 6)
  where
    rest :
        (checked_declarations (declarations p) (λ _. None) >>= λ look. checked_block look p.body)
        ≡ told
        (declarations_refusals (declarations p) [] ++ flat_map (use_refusals (slot_in (declarations p))) (block_uses p.body))
        (resolved p).body
    rest = told-then _ _ _ _ _ _ (declarations_told (declarations p) []) (block_told (slot_in (declarations p)) p.body)

    by :
        (b : Bool)
        → (if b then (checked_declarations (declarations p) (λ _. None) >>= λ look. checked_block look p.body) else Err (F.Processes p.span))
        ≡ told
        ((if b then [] else F.Processes p.span ∷ [])
        ++ (declarations_refusals (declarations p) [] ++ flat_map (use_refusals (slot_in (declarations p))) (block_uses p.body)))
        (resolved p).body
    by true = rest
    by false = refl

and_left : (a b : Bool) → (a && b) ≡ true → a ≡ true
and_left true b h = refl
and_left false b h = h

and_right : (a b : Bool) → (a && b) ≡ true → b ≡ true
and_right true b h = h
and_right false b h = absurd (true≢false (sym h))

module _ (p : WholeProgram Name) where
  abbrev uses_refusals : List KindFault
  uses_refusals = flat_map (use_refusals (slot_in (declarations p))) (block_uses p.body)

  -- the numbers of all that is declared, section by section
  section_limit :
      AllByRecursion IsSmall (declarations p)
      → (length p.variables ≤ 64) × (length p.scans ≤ 16) × (length p.registers ≤ 8)
  section_limit h =
      let rest = all_right IsSmall (numbered K.Variable p.variables 0) _ h in
      let v : 0 + length p.variables ≤ 64 = within_limit K.Variable p.variables 0 (all_left IsSmall _ _ h) (omega arith) in
      let s : 0 + length p.scans ≤ 16 = within_limit K.Scan p.scans 0 (all_left IsSmall _ _ rest) (omega arith) in
      let r : 0 + length p.registers ≤ 8 = within_limit K.Register p.registers 0 (all_right IsSmall (numbered K.Scan p.scans 0) _ rest) (omega arith) in
      (omega arith, omega arith, omega arith)

  pub accepted_from : refusals p ≡ [] → IsAccepted p
  accepted_from h =
      let number = kept_empty (nat_le 1 p.processes && nat_le p.processes 6) _ (front_empty (processes_refusals p) _ h) in
      let rest = back_empty (processes_refusals p) _ h in
      let fine = declarations_fine (declarations p) [] (front_empty _ uses_refusals rest) in
      let limits = section_limit (smalls [] _ fine.0) in
      record {
        some_process = leb-true _ _ (and_left (nat_le 1 p.processes) _ number);
        processes = leb-true _ _ (and_right (nat_le 1 p.processes) _ number);
        once = pairs_from _ fine.1;
        variables = limits.0;
        scans = limits.1;
        registers = limits.2;
        uses = uses_declared p (block_uses p.body) (back_empty (declarations_refusals (declarations p) []) _ rest);
      }

  pub clear_from : IsAccepted p → refusals p ≡ []
  clear_from a =
      let some : nat_le 1 p.processes ≡ true = le-leb _ _ a.some_process in
      let most : nat_le p.processes 6 ≡ true = le-leb _ _ a.processes in
      let processes : processes_refusals p ≡ [] =
      ap (λ b. if b then [] else F.Processes p.span ∷ []) (ap (λ b. b && nat_le p.processes 6) some ∙ most) in
      let small : AllByRecursion IsSmall (declarations p) =
      all_both IsSmall (numbered K.Variable p.variables 0) _
      (numbers_small K.Variable p.variables 0 (omega (arith, a.variables)))
      (all_both IsSmall (numbered K.Scan p.scans 0) _
      (numbers_small K.Scan p.scans 0 (omega (arith, a.scans)))
      (numbers_small K.Register p.registers 0 (omega (arith, a.registers)))) in
      let once : IsOnce (map (λ d. d.name.letters) (declarations p)) = once_from _ a.once in
      let declared : declarations_refusals (declarations p) [] ≡ [] =
      declarations_clear (declarations p) [] (fresh_first _ small) once in
      let used : uses_refusals ≡ [] =
      uses_clear p (subst IsOnce (letters-declarations p) once) (block_uses p.body) a.uses in
      both_empty _ _ processes (both_empty _ _ declared used)

  pub not_refused : (b : Block ℕ) → checked_program p ≡ Ok b → refusals p ≡ []
  not_refused b h = by (refusals p) (sym (program_told p) ∙ h)
    where
      by : (fs : List KindFault) → told fs (resolved p).body ≡ Ok b → fs ≡ []
      by [] e = refl
      by (f ∷ fs) e = absurd (cc)

  pub resolved_so : (b : Block ℕ) → checked_program p ≡ Ok b → b ≡ (resolved p).body
  resolved_so b h = by (refusals p) (sym (program_told p) ∙ h)
    where
      by : (fs : List KindFault) → told fs (resolved p).body ≡ Ok b → b ≡ (resolved p).body
      by [] e = cc
      by (f ∷ fs) e = absurd (cc)

  pub refused_first : (e : KindFault) → checked_program p ≡ Err e → first_refusal p ≡ Some e
  refused_first e h = by (refusals p) (sym (program_told p) ∙ h)
    where
      by : (fs : List KindFault) → told fs (resolved p).body ≡ Err e → first fs ≡ Some e
      by [] g = absurd (cc)
      by (f ∷ fs) g = let same : f ≡ e = cc in ap Some same

  failed : (e : KindFault) → Fails e (checked_program p) → e ≢ F.NoMemory → checked_program p ≡ Err e
  failed F.NoMemory h n = absurd (n refl)
  failed (F.Processes s) h n = h
  failed (F.Twice s) h n = h
  failed (F.Unknown s) h n = h
  failed (F.WrongKind s w k) h n = h
  failed (F.TooMany s) h n = h

  pub refused : (e : KindFault) → Fails e (checked_program p) → e ≢ F.NoMemory → first_refusal p ≡ Some e
  refused e h n = refused_first e (failed e h n)

  accepted_ok : IsAccepted p → checked_program p ≡ Ok (resolved p).body
  accepted_ok a = program_told p ∙ ap (λ fs. told fs (resolved p).body) (clear_from a)

  pub memory_alone : (e : KindFault) → Fails e (checked_program p) → IsAccepted p → e ≡ F.NoMemory
  memory_alone F.NoMemory h a = refl
  memory_alone (F.Processes s) h a = let g : checked_program p ≡ Ok (resolved p).body = accepted_ok a in absurd (cc)
  memory_alone (F.Twice s) h a = let g : checked_program p ≡ Ok (resolved p).body = accepted_ok a in absurd (cc)
  memory_alone (F.Unknown s) h a = let g : checked_program p ≡ Ok (resolved p).body = accepted_ok a in absurd (cc)
  memory_alone (F.WrongKind s w k) h a = let g : checked_program p ≡ Ok (resolved p).body = accepted_ok a in absurd (cc)
  memory_alone (F.TooMany s) h a = let g : checked_program p ≡ Ok (resolved p).body = accepted_ok a in absurd (cc)

  pub body_within : (b : Block ℕ) → checked_program p ≡ Ok b → InBlock p b
  body_within b h =
      let none : refusals p ≡ [] = not_refused b h in
      let uses : uses_refusals ≡ [] =
      back_empty (declarations_refusals (declarations p) []) _ (back_empty (processes_refusals p) _ none) in
      subst (InBlock p) (sym (resolved_so b h)) (block_within p p.body uses)

  pub accepted_within : IsAccepted p → InBlock p (resolved p).body
  accepted_within a = body_within (resolved p).body (accepted_ok a)

  pub accepted : (b : Block ℕ) → checked_program p ≡ Ok b → IsAccepted p
  accepted b h = accepted_from (not_refused b h)

pub accepted_unless_refused : (p : WholeProgram Name) → IsAccepted p ↔ (first_refusal p ≡ None)
accepted_unless_refused p = (λ a. ap first (clear_from p a), λ h. accepted_from p (by (refusals p) h))
  where
    by : (fs : List KindFault) → first fs ≡ None → fs ≡ []
    by [] h = refl
    by (f ∷ fs) h = absurd (cc)
