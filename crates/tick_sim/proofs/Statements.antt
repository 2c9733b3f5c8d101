-- From where the code of the remaining statements begins, quiet steps lead to the instruction that ends
-- the next step of the program, or to a stamp.
--
-- The idea. A step of the program is one statement; its code is an expression or two, and one instruction that
-- does what the statement does. The instructions of the expressions are quiet: nobody sees them, and they neither
-- ask for what is shared nor end a step. So all that is to be compared is the last instruction with the statement,
-- and the place at which each leaves its process.
--
-- `Leads rest m k stack` says it: from place `k`, with this stack, a process that has `rest` left gets to the end of
-- the step in at most `m` quiet steps. It has three cases (`Match.antt`): the instruction at `k` ends the step
-- (`ends_here`), it is quiet and leads on (`quietly`), or a stamp begins there (`stamps`), whose loop is another
-- page's. Where the step ends, `SameStep` is shown for any tickets and labels that agree: tickets and labels agree
-- again, rows and what was told are the same, and the process stands between two steps (`Between`).
--
-- The pages before this one give the two halves. `last_value` and `two_values` (`Quiet.antt`) run the expressions,
-- by induction on them, and leave the instruction with its operands; a trap in them is done there too. `Stands`
-- (`Stands.antt`) says that the code of what remains stands at a place, jumps to it counted.
--
-- There is a lemma for each statement, `.._leads`. Its last part is `refl` four times: with its operands known, the
-- instruction computes to what the statement computes to. Four want more. An index may be past the processes: both
-- sides ask the same, so it is one question about one `Bool` (`get_same`, `older_same`, `held_same`). A comparison
-- answers by labels what the program answers by tickets: `agreement_law` has that it is the same. A test goes on with
-- one of two blocks before what follows (`test_same`). And a loop that goes round has its own code again as what
-- remains, which is why the size of the way (`m`) is counted along `Stands` and not along the tree: the way back to
-- the loop's beginning is one jump, and there it begins anew.
--
-- `stands_lead` is the induction, over how the code of what remains stands: at the end of all, at a jump, or at the
-- beginning of a statement's code.
use Rattle.std.proofs.Common.{◌≡◌, ℕ, suc, ◌+◌, ◌≤◌, Bool, true, false, if◌then◌else◌, List, [], ◌∷◌, ◌++◌, length, refl, ap, sym, ◌∙◌, subst, arith, Option, Some, None}
use Rattle.std.specs.Prelude.{◌==◌, ◌&&◌, nat_lt, slice_set}
use Rattle.std.proofs.lemmas.Bool.{ltb-true}
use Rattle.base.specs.declared.status.Status.TheVariants.{Running}
use Rattle.base.specs.declared.status.Trap.{Trap}
use Rattle.base.specs.declared.status.Trap.TheVariants as T
use Rattle.base.specs.declared.event.Act.{Act}
use Rattle.base.specs.declared.event.Act.TheVariants as A
use Rattle.base.specs.Operators.{truth_value}
use Rattle.base.specs.Observables.{told_ranks}
use Rattle.base.specs.RegisterRows.{register_at, register_set}
use Rattle.code_core.specs.declared.instr.Instr.{Instr}
use Rattle.code_core.specs.declared.instr.Instr.TheVariants as I
use Rattle.ticket_core.specs.Tickets.{ticket_ranks, older_ticket, holds_ticket}
use Rattle.word_core.specs.Stamps.{Labels, label_at, is_present}
use Rattle.word_core.specs.Order.{older_label, label_ranks}
use Rattle.word_core.specs.Agreement.{Agrees}
use Rattle.word_core.proofs.Offered.{agreement_law}
use Rattle.base.specs.Plain.{Expression, Statement, assign, get, put, stamp, clear, scan, copy, older, held, out, branch, repeat, Block, nil, cons, onto}
use Rattle.tick_source.specs.Source as S
use Rattle.tick_source.specs.Values.{value}
use Rattle.code_machine.specs.Machine as C
use Rattle.code_machine.specs.Machine.{CodeProcess, CodeStep, alone, asks}
use Rattle.code_machine.specs.declared.ask.Ask.TheVariants as Q
use Rattle.tick_lower.specs.Lowered.{expression_length, statement_length, block_length, expression_code, statement_code, block_code}
use Rattle.tick_lower.proofs.Offered.{expression_long, block_long, HasAt, has_front, has_back}
use Rattle.tick_sim.proofs.Scans.{ScansAgree, scan_taken}
use Rattle.tick_sim.proofs.Stands.{first_steps, Stands, ends, jumps, begins, StandsAt, block_stands}
use Rattle.tick_sim.proofs.Match as M
use Rattle.tick_sim.proofs.Match.{at, Between, over, rests, ends_here, stamps, quietly}
use Rattle.tick_sim.proofs.Quiet.{last_value, two_values}

-- Process `q` runs, and its scans agree with those of the program.
module _ (n : ℕ) (code : List Instr) (p : ℕ) (q : CodeProcess) (scans : List (List ℕ)) (runs : q.status ≡ Running)
    (agreed : ScansAgree n scans q.scans) where
  abbrev Leads : Block ℕ → ℕ → ℕ → List ℕ → Type 0
  Leads = M.Leads n code p q scans

  abbrev SameStep : Labels → List (List ℕ) → S.SourceStep → CodeStep → Option Instr → Type 0
  SameStep = M.SameStep n code p

  -- what a step of the program does that goes on, or traps
  abbrev goes : List ℕ → List (List ℕ) → List ℕ → List (List ℕ) → Block ℕ → Option Act → S.SourceStep
  goes tickets rows = S.goes n p tickets rows q.variables scans

  abbrev traps : List ℕ → List (List ℕ) → Block ℕ → Trap → S.SourceStep
  traps tickets rows = S.traps n p tickets rows q.variables scans

  -- The code of this statement leads to the end of its first step, and the code after it does the rest.
  abbrev StatementLeads : Statement ℕ → Type 0
  StatementLeads s =
      (k : ℕ) (rest : Block ℕ) (m : ℕ) → HasAt code k (statement_code k s) → statement_length s + m ≤ length code
      → Stands code m (k + statement_length s) rest → Leads (cons s rest) (first_steps s) k []

  stands_from : (k k' m : ℕ) (rest : Block ℕ) → k ≡ k' → Stands code m k rest → StandsAt code k' rest
  stands_from k k' m rest same stands = (m, subst (λ k. Stands code m k rest) same stands)

  -- between two steps again: the code at this place does what remains
  goes_on : {variables : List ℕ} {scans' : List (List ℕ)} {scans'' : List Labels} {k : ℕ} {rest : Block ℕ}
      → ScansAgree n scans' scans'' → StandsAt code k rest
      → Between n code (record { variables = variables; scans = scans'; rest = rest; status = Running })
      (record q { place = k; stack = []; variables = variables; scans = scans'' })
  goes_on agree stands = rests (refl, runs, refl, agree) refl stands

  assign_leads : (x : ℕ) (e : Expression ℕ) → StatementLeads (assign x e)
  assign_leads x e k rest m has few stands =
      let last : ℕ = k + expression_length e in
      let after : StandsAt code (last + 1) rest = stands_from _ (last + 1) m rest (omega arith) stands in
      last_value n code p q scans (cons (assign x e) rest) rest e (I.Store x) [] k []
      (λ tickets rows v. goes tickets rows (slice_set q.variables x v) scans rest None) has (λ tickets rows. refl)
      (λ v tickets labels rows agrees.
      record { ends = refl; agrees = agrees; same_rows = refl; same_act = refl; between = goes_on agreed after })

  -- A statement that is an expression and one instruction on the process that the expression tells.
  index_leads : (s : Statement ℕ) (e : Expression ℕ) (i : Instr) (does : ℕ → List ℕ → List (List ℕ) → S.SourceStep) (k : ℕ) (rest : Block ℕ)
      → HasAt code k (expression_code e ++ i ∷ [])
      → ((tickets : List ℕ) (rows : List (List ℕ)) → S.did n p tickets rows q.variables scans (cons s rest)
      ≡ S.with_value n p tickets rows q.variables scans rest (value n p q.variables e) (λ j. S.with_index n p tickets rows q.variables scans rest j (does j tickets rows)))
      → ((j : ℕ) (tickets : List ℕ) (labels : Labels) (rows : List (List ℕ)) → Agrees n tickets labels
      → SameStep labels rows (S.with_index n p tickets rows q.variables scans rest j (does j tickets rows))
      (C.does (at q (k + expression_length e) (j ∷ [])) n p i) (Some i))
      → Leads (cons s rest) (expression_length e + 1) k []
  index_leads s e i does k rest has =
      last_value n code p q scans (cons s rest) rest e i [] k []
      (λ tickets rows j. S.with_index n p tickets rows q.variables scans rest j (does j tickets rows)) has

  abbrev source_gets : ℕ → ℕ → ℕ → Block ℕ → List ℕ → List (List ℕ) → S.SourceStep
  source_gets x r i rest tickets rows =
      let v = register_at rows r i in
      goes tickets rows (slice_set q.variables x v) scans rest (Some (A.Get r i v))

  -- a process that there is, or a trap
  get_same : (x r i k : ℕ) (rest : Block ℕ) (tickets : List ℕ) (labels : Labels) (rows : List (List ℕ))
      → Agrees n tickets labels
      → StandsAt code (k + 1) rest → (inside : Bool)
      → SameStep labels rows
      (if inside then source_gets x r i rest tickets rows else traps tickets rows rest T.Index)
      (if inside then asks (Q.Get r i) (C.receives (at q k (i ∷ [])) r i x)
      else alone (C.traps (at q k (i ∷ [])) T.Index)) (Some (I.Get r x))
  get_same x r i k rest tickets labels rows agrees after true =
      record { ends = refl; agrees = agrees; same_rows = refl; same_act = refl; between = goes_on agreed after }
  get_same x r i k rest tickets labels rows agrees after false =
      record { ends = refl; agrees = agrees; same_rows = refl; same_act = refl; between = over refl tt }

  get_leads : (x r : ℕ) (e : Expression ℕ) → StatementLeads (get x r e)
  get_leads x r e k rest m has few stands =
      let last : ℕ = k + expression_length e in
      index_leads (get x r e) e (I.Get r x) (λ i. source_gets x r i rest) k rest has (λ tickets rows. refl)
      (λ i tickets labels rows agrees. get_same x r i last rest tickets labels rows agrees (stands_from _ (last + 1) m rest (omega arith) stands) (nat_lt i n))

  put_leads : (r : ℕ) (e : Expression ℕ) → StatementLeads (put r e)
  put_leads r e k rest m has few stands =
      let last : ℕ = k + expression_length e in
      let after : StandsAt code (last + 1) rest = stands_from _ (last + 1) m rest (omega arith) stands in
      last_value n code p q scans (cons (put r e) rest) rest e (I.Put r) [] k []
      (λ tickets rows v. record (goes tickets rows q.variables scans rest (Some (A.Put r v)))
      { rows = register_set rows r p v })
      has (λ tickets rows. refl)
      (λ v tickets labels rows agrees.
      record { ends = refl; agrees = agrees; same_rows = refl; same_act = refl; between = goes_on agreed after })

  out_leads : (e : Expression ℕ) → StatementLeads (out e)
  out_leads e k rest m has few stands =
      let last : ℕ = k + expression_length e in
      let after : StandsAt code (last + 1) rest = stands_from _ (last + 1) m rest (omega arith) stands in
      last_value n code p q scans (cons (out e) rest) rest e I.Out [] k []
      (λ tickets rows v. goes tickets rows q.variables scans rest (Some (A.Out v))) has (λ tickets rows. refl)
      (λ v tickets labels rows agrees.
      record { ends = refl; agrees = agrees; same_rows = refl; same_act = refl; between = goes_on agreed after })

  stamp_leads : StatementLeads stamp
  stamp_leads k rest m has few stands =
      stamps (omega arith) (record { after = rest; is = refl; empty = refl; has = has; stands = (m, stands) })

  clear_leads : StatementLeads clear
  clear_leads k rest m has few stands =
      ends_here (omega arith) I.Clear has.0 (λ tickets labels rows agrees. record {
        ends = refl;
        agrees = agreement_law.cleared n p tickets labels agrees;
        same_rows = refl;
        same_act = refl;
        between = goes_on agreed (m, stands);
      })

  -- what a scan tells is the same of tickets and of labels
  told_same : (tickets : List ℕ) (labels : Labels) → Agrees n tickets labels
      → Some (A.Scan (told_ranks (length tickets) (ticket_ranks tickets)))
      ≡ Some (A.Scan (told_ranks n (label_ranks labels)))
  told_same tickets labels agrees =
      ap (λ many. Some (A.Scan (told_ranks many (ticket_ranks tickets)))) (agrees.by.count ∙ agrees.are.count)
      ∙ ap (λ ranks. Some (A.Scan (told_ranks n ranks))) (sym (agreement_law.stands n tickets labels agrees).ranks)

  scan_leads : (s : ℕ) → StatementLeads (scan s)
  scan_leads s k rest m has few stands =
      ends_here (omega arith) (I.Scan s) has.0 (λ tickets labels rows agrees. record {
        ends = refl;
        agrees = agrees;
        same_rows = refl;
        same_act = told_same tickets labels agrees;
        between = goes_on (scan_taken n s tickets labels scans q.scans agrees agreed) (m, stands);
      })

  copy_leads : (t s : ℕ) → StatementLeads (copy t s)
  copy_leads t s k rest m has few stands =
      let taken = scan_taken n t (S.scan_at n scans s) (C.scan_at q n s) scans q.scans (agreed.each s) agreed in
      ends_here (omega arith) (I.Copy s t) has.0
      (λ tickets labels rows agrees.
      record { ends = refl; agrees = agrees; same_rows = refl; same_act = refl; between = goes_on taken (m, stands) })

  abbrev source_compares : ℕ → ℕ → ℕ → ℕ → Block ℕ → List ℕ → List (List ℕ) → S.SourceStep
  source_compares x s i j rest tickets rows =
      let answer = truth_value (older_ticket (S.scan_at n scans s) i j) in
      goes tickets rows (slice_set q.variables x answer) scans rest (Some (A.Older i j answer))

  -- the instruction, where this is its answer
  abbrev code_compares : ℕ → ℕ → ℕ → ℕ → Bool → C.Moved
  code_compares x i j k answer =
      C.sets (at q k (j ∷ i ∷ [])) x (truth_value answer) [] (Some (A.Older i j (truth_value answer)))

  -- both processes, or a trap
  older_same : (x s i j k : ℕ) (rest : Block ℕ) (tickets : List ℕ) (labels : Labels) (rows : List (List ℕ))
      → Agrees n tickets labels → StandsAt code (k + 1) rest → (inside inside' : Bool)
      → nat_lt i n ≡ inside → nat_lt j n ≡ inside'
      → SameStep labels rows
      (if inside then (if inside' then source_compares x s i j rest tickets rows else traps tickets rows rest T.Index)
      else traps tickets rows rest T.Index)
      (alone (if inside && inside' then code_compares x i j k (older_label (C.scan_at q n s) i j)
      else C.traps (at q k (j ∷ i ∷ [])) T.Index)) (Some (I.Older s x))
  older_same x s i j k rest tickets labels rows agrees after true true i_in j_in =
      let same : older_label (C.scan_at q n s) i j ≡ older_ticket (S.scan_at n scans s) i j =
      (agreement_law.stands n (S.scan_at n scans s) (C.scan_at q n s) (agreed.each s)).older i j (ltb-true i n i_in)
      (ltb-true j n j_in) in
      subst (λ b. SameStep labels rows (source_compares x s i j rest tickets rows) (alone (code_compares x i j k b))
      (Some (I.Older s x)))
      (sym same)
      (record { ends = refl; agrees = agrees; same_rows = refl; same_act = refl; between = goes_on agreed after })
  older_same x s i j k rest tickets labels rows agrees after true false i_in j_in =
      record { ends = refl; agrees = agrees; same_rows = refl; same_act = refl; between = over refl tt }
  older_same x s i j k rest tickets labels rows agrees after false inside' i_in j_in =
      record { ends = refl; agrees = agrees; same_rows = refl; same_act = refl; between = over refl tt }

  older_leads : (x s : ℕ) (e f : Expression ℕ) → StatementLeads (older x s e f)
  older_leads x s e f k rest m has few stands =
      let last : ℕ = k + expression_length e + expression_length f in
      let whole : Leads (cons (older x s e f) rest) (expression_length e + (expression_length f + 1)) k [] =
      two_values n code p q scans (cons (older x s e f) rest) rest e f (I.Older s x) k
      (λ tickets rows i j. S.with_index n p tickets rows q.variables scans rest i
      (S.with_index n p tickets rows q.variables scans rest j (source_compares x s i j rest tickets rows)))
      has (λ tickets rows. refl)
      (λ i j tickets labels rows agrees.
      older_same x s i j last rest tickets labels rows agrees (stands_from _ (last + 1) m rest (omega arith) stands)
      (nat_lt i n) (nat_lt j n) refl refl) in
      let same : expression_length e + (expression_length f + 1) ≡ expression_length e + expression_length f + 1 =
      omega arith in
      subst (λ m. Leads (cons (older x s e f) rest) m k []) same whole

  abbrev source_holds : ℕ → ℕ → ℕ → Block ℕ → List ℕ → List (List ℕ) → S.SourceStep
  source_holds x s i rest tickets rows =
      let answer = truth_value (holds_ticket (S.scan_at n scans s) i) in
      goes tickets rows (slice_set q.variables x answer) scans rest (Some (A.Held i answer))

  -- the instruction, where this is its answer
  abbrev code_holds : ℕ → ℕ → ℕ → Bool → C.Moved
  code_holds x i k answer = C.sets (at q k (i ∷ [])) x (truth_value answer) [] (Some (A.Held i (truth_value answer)))

  -- a process that there is, or a trap
  held_same : (x s i k : ℕ) (rest : Block ℕ) (tickets : List ℕ) (labels : Labels) (rows : List (List ℕ))
      → Agrees n tickets labels → StandsAt code (k + 1) rest → (inside : Bool) → nat_lt i n ≡ inside
      → SameStep labels rows
      (if inside then source_holds x s i rest tickets rows else traps tickets rows rest T.Index)
      (alone (if inside then code_holds x i k (is_present (label_at (C.scan_at q n s) i))
      else C.traps (at q k (i ∷ [])) T.Index)) (Some (I.Held s x))
  held_same x s i k rest tickets labels rows agrees after true i_in =
      let same : is_present (label_at (C.scan_at q n s) i) ≡ holds_ticket (S.scan_at n scans s) i =
      (agreement_law.stands n (S.scan_at n scans s) (C.scan_at q n s) (agreed.each s)).held i (ltb-true i n i_in) in
      subst (λ b. SameStep labels rows (source_holds x s i rest tickets rows) (alone (code_holds x i k b))
      (Some (I.Held s x)))
      (sym same)
      (record { ends = refl; agrees = agrees; same_rows = refl; same_act = refl; between = goes_on agreed after })
  held_same x s i k rest tickets labels rows agrees after false i_in =
      record { ends = refl; agrees = agrees; same_rows = refl; same_act = refl; between = over refl tt }

  held_leads : (x s : ℕ) (e : Expression ℕ) → StatementLeads (held x s e)
  held_leads x s e k rest m has few stands =
      let last : ℕ = k + expression_length e in
      index_leads (held x s e) e (I.Held s x) (λ i. source_holds x s i rest) k rest has (λ tickets rows. refl)
      (λ i tickets labels rows agrees. held_same x s i last rest tickets labels rows agrees (stands_from _ (last + 1) m rest (omega arith) stands) (nat_lt i n) refl)

  -- one of two blocks
  test_same : (v k l : ℕ) (a b : Block ℕ) (tickets : List ℕ) (labels : Labels) (rows : List (List ℕ))
      → Agrees n tickets labels
      → StandsAt code l b → StandsAt code (k + 1) a → (zero : Bool)
      → SameStep labels rows (goes tickets rows q.variables scans (if zero then b else a) None)
      (alone (C.goes (at q k (v ∷ [])) (if zero then l else k + 1) [] None)) (Some (I.JumpZero l))
  test_same v k l a b tickets labels rows agrees at_b at_a true =
      record { ends = refl; agrees = agrees; same_rows = refl; same_act = refl; between = goes_on agreed at_b }
  test_same v k l a b tickets labels rows agrees at_b at_a false =
      record { ends = refl; agrees = agrees; same_rows = refl; same_act = refl; between = goes_on agreed at_a }

  branch_leads : (e : Expression ℕ) (a b : Block ℕ) → StatementLeads (branch e a b)
  branch_leads e a b k rest m has few stands =
      let last : ℕ = k + expression_length e in
      let first : ℕ = last + 1 in
      let first_end : ℕ = first + block_length a in
      let second : ℕ = first_end + 1 in
      let end : ℕ = second + block_length b in
      let same : k + statement_length (branch e a b) ≡ end = omega arith in
      let after : Stands code m end rest = subst (λ x. Stands code m x rest) same stands in
      let then_code : List Instr = block_code first a ++ I.Jump end ∷ block_code second b in
      let long = expression_long e in
      let tested =
      (has_back code k last (expression_code e) (I.JumpZero second ∷ then_code) (omega (arith, long)) has).1 in
      let at_jump =
      has_back code first first_end (block_code first a) (I.Jump end ∷ block_code second b)
      (omega (arith, block_long a first)) tested in
      let at_end : Stands code (suc m) first_end rest = jumps end at_jump.0 (omega arith) after in
      let in_first = block_stands code a (suc m) first first_end rest
      (has_front code first (block_code first a) (I.Jump end ∷ block_code second b) tested) refl (omega arith) at_end in
      let in_second = block_stands code b m second end rest at_jump.1 refl (omega arith) after in
      last_value n code p q scans (cons (branch e a b) rest) rest e (I.JumpZero second) then_code k []
      (λ tickets rows v. goes tickets rows q.variables scans (if v == 0 then onto b rest else onto a rest) None)
      has (λ tickets rows. refl)
      (λ v tickets labels rows agrees. test_same v last second (onto a rest) (onto b rest) tickets labels rows agrees
      (in_second.0, in_second.2) (in_first.0, in_first.2) (v == 0))

  repeat_leads : (e : Expression ℕ) (a : Block ℕ) → StatementLeads (repeat e a)
  repeat_leads e a k rest m has few stands =
      let again : Block ℕ = cons (repeat e a) rest in
      let last : ℕ = k + expression_length e in
      let first : ℕ = last + 1 in
      let first_end : ℕ = first + block_length a in
      let end : ℕ = first_end + 1 in
      let same : k + statement_length (repeat e a) ≡ end = omega arith in
      let after : Stands code m end rest = subst (λ x. Stands code m x rest) same stands in
      let then_code : List Instr = block_code first a ++ I.Jump k ∷ [] in
      let long = expression_long e in
      let tested =
      (has_back code k last (expression_code e) (I.JumpZero end ∷ then_code) (omega (arith, long)) has).1 in
      let at_jump =
      has_back code first first_end (block_code first a) (I.Jump k ∷ []) (omega (arith, block_long a first)) tested in
      let at_start : Stands code (expression_length e + 1) k again = begins (repeat e a) has few stands in
      let at_end : Stands code (suc (expression_length e + 1)) first_end again =
      jumps k at_jump.0 (omega arith) at_start in
      let inside = block_stands code a (suc (expression_length e + 1)) first first_end again
      (has_front code first (block_code first a) (I.Jump k ∷ []) tested) refl (omega arith) at_end in
      last_value n code p q scans again rest e (I.JumpZero end) then_code k []
      (λ tickets rows v. goes tickets rows q.variables scans (if v == 0 then rest else onto a again) None)
      has (λ tickets rows. refl)
      (λ v tickets labels rows agrees. test_same v last end (onto a again) rest tickets labels rows agrees
      (m, after) (inside.0, inside.2) (v == 0))

  statement_leads : (s : Statement ℕ) → StatementLeads s
  statement_leads (assign x e) = assign_leads x e
  statement_leads (get x r e) = get_leads x r e
  statement_leads (put r e) = put_leads r e
  statement_leads stamp = stamp_leads
  statement_leads clear = clear_leads
  statement_leads (scan s) = scan_leads s
  statement_leads (copy t s) = copy_leads t s
  statement_leads (older x s e f) = older_leads x s e f
  statement_leads (held x s e) = held_leads x s e
  statement_leads (out e) = out_leads e
  statement_leads (branch e a b) = branch_leads e a b
  statement_leads (repeat e a) = repeat_leads e a

  -- quiet steps lead from the code of the remaining statements to the end of the next step
  pub stands_lead : (m k : ℕ) (rest : Block ℕ) → Stands code m k rest → Leads rest m k []
  stands_lead _ k nil (ends here some) =
      ends_here (omega arith) I.Halt here
      (λ tickets labels rows agrees.
      record { ends = refl; agrees = agrees; same_rows = refl; same_act = refl; between = over refl tt })
  stands_lead _ k rest (jumps {m = m} to here few stands) =
      quietly (I.Jump to) here refl refl (stands_lead m to rest stands)
  stands_lead _ k _ (begins {m = m} {rest = rest} s has few stands) = statement_leads s k rest m has few stands
