-- The instructions of an expression are made quietly and leave its value on the stack, whatever others do
-- meanwhile: `expression_leads`.
--
-- The proof is by induction on the expression, with what follows it as the conclusion: whatever leads on from
-- the value leads on from the expression. So the two operands of an operator are put one before the other,
-- and a trap inside is at once the trap of the statement.
-- The difficulty is in the operator, where three parts may trap. `then_leads` hands on the trap of an
-- operand, and `operate_leads` is the case split on what the operator comes to.
-- Statements use `last_value` (an expression, and the instruction that takes its value) and `two_values`.
-- Read `Leads` and `LeadsWith` in `Match.antt` first, then `expression_leads`.
use Rattle.std.proofs.Common.{◌≡◌, ℕ, suc, ◌+◌, List, [], ◌∷◌, ◌++◌, refl, ap, sym, ◌∙◌, subst, arith, Result, Ok, Err, Some, None, false}
use Rattle.std.specs.Prelude.{slice_get, slice_index}
use Rattle.base.specs.declared.operator.Op.{Op}
use Rattle.base.specs.declared.status.Trap.{Trap}
use Rattle.base.specs.Operators.{operation}
use Rattle.code_core.specs.declared.instr.Instr.{Instr}
use Rattle.code_core.specs.declared.instr.Instr.TheVariants as I
use Rattle.word_core.specs.Stamps.{Labels}
use Rattle.word_core.specs.Agreement.{Agrees}
use Rattle.base.specs.Plain.{Expression, number, named, me, count, binary, Block}
use Rattle.tick_source.specs.Values.{operated, value}
use Rattle.tick_source.specs.Source as S
use Rattle.code_machine.specs.Machine as C
use Rattle.code_machine.specs.Machine.{CodeProcess, CodeStep, alone}
use Rattle.tick_lower.specs.Lowered.{expression_length, expression_code}
use Rattle.tick_lower.proofs.Offered.{expression_long, HasAt, has_front, has_back}
use Rattle.tick_sim.specs.Maps.{ended}
use Rattle.tick_sim.proofs.Match as M
use Rattle.tick_sim.proofs.Match.{at, over, ends_here, quietly}

-- Process `q` runs this code; only its place and its stack change. `scans` are those of the program.
module _ (n : ℕ) (code : List Instr) (p : ℕ) (q : CodeProcess) (scans : List (List ℕ)) (rest : Block ℕ) where
  abbrev Leads : ℕ → ℕ → List ℕ → Type 0
  Leads = M.Leads n code p q scans rest

  abbrev LeadsWith : ℕ → ℕ → List ℕ → Result ℕ Trap → Type 0
  LeadsWith = M.LeadsWith n code p q scans rest

  -- one quiet step first
  step_first : (m k k' : ℕ) (stack stack' : List ℕ) (i : Instr) → slice_get code k ≡ Some i
      → C.does (at q k stack) n p i ≡ alone (record { process = at q k' stack'; act = None }) → ended i None ≡ false
      → Leads m k' stack' → Leads (1 + m) k stack
  step_first m k k' stack stack' i here makes quiet leads =
      let same : suc m ≡ 1 + m = omega arith in
      subst (λ m. Leads m k stack) same (quietly i here makes quiet leads)

  -- the operator of two values
  operate_leads : (op : Op) (a b m k k' : ℕ) (stack : List ℕ) → slice_get code k ≡ Some (I.Bin op) → k + 1 ≡ k'
      → LeadsWith m k' stack (operation op a b) → Leads (1 + m) k (b ∷ a ∷ stack)
  operate_leads op a b m k k' stack here next =
      case (operation op a b) refl
    where
      case : (r : Result ℕ Trap) → operation op a b ≡ r → LeadsWith m k' stack r → Leads (1 + m) k (b ∷ a ∷ stack)
      case (Ok v) e leads =
          step_first m k k' (b ∷ a ∷ stack) (v ∷ stack) (I.Bin op) here
          (ap (λ r. alone (C.results (at q k (b ∷ a ∷ stack)) stack r)) e
          ∙ ap (λ k. alone (record { process = at q k (v ∷ stack); act = None })) next)
          refl leads
      case (Err t) e (after, source) =
          ends_here (omega arith) (I.Bin op) here (λ tickets labels rows agrees.
          subst (λ r. M.SameStep n code p labels rows (S.did n p tickets rows q.variables scans rest)
          (alone (C.results (at q k (b ∷ a ∷ stack)) stack r)) (Some (I.Bin op))) (sym e)
          (subst (λ d. M.SameStep n code p labels rows d (alone (C.traps (at q k (b ∷ a ∷ stack)) t)) (Some (I.Bin op)))
          (sym (source tickets rows))
          (record { ends = refl; agrees = agrees; same_rows = refl; same_act = refl; between = over refl tt })))

  -- the value of one operand, where `on` goes on with it
  then_leads : (f : Result ℕ Trap → Result ℕ Trap) (m m' k k' : ℕ) (stack stack' : List ℕ)
      → ((t : Trap) → f (Err t) ≡ Err t) → ((v : ℕ) → LeadsWith m k stack (f (Ok v)) → Leads m' k' (v ∷ stack'))
      → (r : Result ℕ Trap) → LeadsWith m k stack (f r) → LeadsWith m' k' stack' r
  then_leads f m m' k k' stack stack' traps on (Ok v) leads = on v leads
  then_leads f m m' k k' stack stack' traps on (Err t) leads = subst (LeadsWith m k stack) (traps t) leads

  expression_leads : (e : Expression ℕ) (m k : ℕ) (stack : List ℕ) → HasAt code k (expression_code e)
      → LeadsWith m (k + expression_length e) stack (value n p q.variables e) → Leads (expression_length e + m) k stack
  expression_leads (number v) m k stack has leads =
      step_first m k (k + 1) stack (v ∷ stack) (I.Push v) has.0 refl refl leads
  expression_leads (named x) m k stack has leads =
      step_first m k (k + 1) stack (slice_index q.variables x ∷ stack) (I.Load x) has.0 refl refl leads
  expression_leads me m k stack has leads = step_first m k (k + 1) stack (p ∷ stack) I.Me has.0 refl refl leads
  expression_leads count m k stack has leads = step_first m k (k + 1) stack (n ∷ stack) I.Count has.0 refl refl leads
  expression_leads (binary a op b) m k stack has leads =
      let second : ℕ = k + expression_length a in
      let last : ℕ = second + expression_length b in
      let end : ℕ = k + expression_length (binary a op b) in
      let va : Result ℕ Trap = value n p q.variables a in
      let vb : Result ℕ Trap = value n p q.variables b in
      let more : HasAt code second (expression_code b ++ I.Bin op ∷ []) =
      has_back code k second (expression_code a) (expression_code b ++ I.Bin op ∷ [])
      (omega (arith, expression_long a)) has in
      let here : HasAt code last (I.Bin op ∷ []) =
      has_back code second last (expression_code b) (I.Bin op ∷ []) (omega (arith, expression_long b)) more in
      let after_b : (x y : ℕ) → LeadsWith m end stack (operated op (Ok x) (Ok y)) → Leads (1 + m) last (y ∷ x ∷ stack) =
      λ x y. operate_leads op x y m last end stack here.0 (omega arith) in
      let after_a : (x : ℕ) → LeadsWith m end stack (operated op (Ok x) vb)
      → Leads (expression_length b + (1 + m)) second (x ∷ stack) =
      λ x leads. expression_leads b (1 + m) second (x ∷ stack)
      (has_front code second (expression_code b) (I.Bin op ∷ []) more)
      (then_leads (λ r. operated op (Ok x) r) m (1 + m) end last stack (x ∷ stack) (λ t. refl) (after_b x) vb leads) in
      let both : Leads (expression_length a + (expression_length b + (1 + m))) k stack =
      expression_leads a (expression_length b + (1 + m)) k stack
      (has_front code k (expression_code a) (expression_code b ++ I.Bin op ∷ []) has)
      (then_leads (λ r. operated op r vb) m (expression_length b + (1 + m)) end second stack stack (λ t. refl) after_a
      va leads) in
      let same : expression_length a + (expression_length b + (1 + m)) ≡ expression_length (binary a op b) + m =
      omega arith in
      subst (λ m. Leads m k stack) same both

  -- an expression, and the instruction that takes its value
  pub last_value : (after : Block ℕ) (e : Expression ℕ) (i : Instr) (is : List Instr) (k : ℕ) (stack : List ℕ)
      (then_this : List ℕ → List (List ℕ) → ℕ → S.SourceStep) → HasAt code k (expression_code e ++ i ∷ is)
      → ((tickets : List ℕ) (rows : List (List ℕ)) → S.did n p tickets rows q.variables scans rest
      ≡ S.with_value n p tickets rows q.variables scans after (value n p q.variables e) (then_this tickets rows))
      → ((v : ℕ) (tickets : List ℕ) (labels : Labels) (rows : List (List ℕ)) → Agrees n tickets labels
      → M.SameStep n code p labels rows (then_this tickets rows v)
      (C.does (at q (k + expression_length e) (v ∷ stack)) n p i) (Some i))
      → Leads (expression_length e + 1) k stack
  last_value after e i is k stack then_this has source same_step =
      expression_leads e 1 k stack (has_front code k (expression_code e) (i ∷ is) has)
      (case (value n p q.variables e) refl)
    where
      source_is : (r : Result ℕ Trap) → value n p q.variables e ≡ r → (tickets : List ℕ) (rows : List (List ℕ))
          → S.did n p tickets rows q.variables scans rest
          ≡ S.with_value n p tickets rows q.variables scans after r (then_this tickets rows)
      source_is r is tickets rows =
          source tickets rows
          ∙ ap (λ r. S.with_value n p tickets rows q.variables scans after r (then_this tickets rows)) is

      case : (r : Result ℕ Trap) → value n p q.variables e ≡ r → LeadsWith 1 (k + expression_length e) stack r
      case (Ok v) value_is =
          ends_here (omega arith) i
          (has_back code k (k + expression_length e) (expression_code e) (i ∷ is)
          (omega (arith, expression_long e)) has).0
          (λ tickets labels rows agrees.
          subst (λ d. M.SameStep n code p labels rows d (C.does (at q (k + expression_length e) (v ∷ stack)) n p i)
          (Some i))
          (sym (source_is (Ok v) value_is tickets rows)) (same_step v tickets labels rows agrees))
      case (Err t) value_is = (after, source_is (Err t) value_is)

  -- two expressions, and the instruction that takes both values
  pub two_values : (after : Block ℕ) (e f : Expression ℕ) (i : Instr) (k : ℕ)
      (then_this : List ℕ → List (List ℕ) → ℕ → ℕ → S.SourceStep)
      → HasAt code k (expression_code e ++ (expression_code f ++ i ∷ []))
      → ((tickets : List ℕ) (rows : List (List ℕ)) → S.did n p tickets rows q.variables scans rest
      ≡ S.with_value n p tickets rows q.variables scans after (value n p q.variables e)
      (λ a. S.with_value n p tickets rows q.variables scans after (value n p q.variables f) (then_this tickets rows a)))
      → ((a b : ℕ) (tickets : List ℕ) (labels : Labels) (rows : List (List ℕ)) → Agrees n tickets labels
      → M.SameStep n code p labels rows (then_this tickets rows a b)
      (C.does (at q (k + expression_length e + expression_length f) (b ∷ a ∷ [])) n p i) (Some i))
      → Leads (expression_length e + (expression_length f + 1)) k []
  two_values after e f i k then_this has source same_step =
      expression_leads e (expression_length f + 1) k []
      (has_front code k (expression_code e) (expression_code f ++ i ∷ []) has)
      (case (value n p q.variables e) refl)
    where
      source_is : (r : Result ℕ Trap) → value n p q.variables e ≡ r → (tickets : List ℕ) (rows : List (List ℕ))
          → S.did n p tickets rows q.variables scans rest ≡ S.with_value n p tickets rows q.variables scans after r
          (λ a. S.with_value n p tickets rows q.variables scans after (value n p q.variables f)
          (then_this tickets rows a))
      source_is r is tickets rows =
          source tickets rows ∙ ap (λ r. S.with_value n p tickets rows q.variables scans after r
          (λ a. S.with_value n p tickets rows q.variables scans after (value n p q.variables f)
          (then_this tickets rows a))) is

      case : (r : Result ℕ Trap) → value n p q.variables e ≡ r
          → LeadsWith (expression_length f + 1) (k + expression_length e) [] r
      case (Ok a) value_is =
          last_value after f i [] (k + expression_length e) (a ∷ []) (λ tickets rows. then_this tickets rows a)
          (has_back code k (k + expression_length e) (expression_code e) (expression_code f ++ i ∷ [])
          (omega (arith, expression_long e)) has)
          (source_is (Ok a) value_is) (same_step a)
      case (Err t) value_is = (after, source_is (Err t) value_is)
