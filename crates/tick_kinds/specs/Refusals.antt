-- Why a program is refused: each fault, in order of the text. The first fault is the one that is told.
use Rattle.std.specs.Prelude.{ℕ, List, [], ◌∷◌, ◌++◌, Bool, true, false, ◌&&◌, Option, Some, None, is_some, if◌then◌else◌, nat_lt, nat_le}
use Rattle.std.specs.List.{flat_map}
use Rattle.tick_kinds.specs.declared.fault.KindFault.{KindFault}
use Rattle.tick_kinds.specs.declared.fault.KindFault.TheVariants as F
use Rattle.tick_kinds.specs.declared.kind.Kind.{Kind}
use Rattle.tick_kinds.specs.declared.kind.Kind.TheVariants as K
use Rattle.tick_kinds.specs.Declarations.{Slot, Declaration, declarations, slot_in, limit}
use Rattle.tick_kinds.specs.Uses.{Use, block_uses}
use Rattle.base.specs.Plain.{Name, WholeProgram}

abbrev pub is_kind : Kind → Kind → Bool
is_kind K.Variable K.Variable = true
is_kind K.Scan K.Scan = true
is_kind K.Register K.Register = true
is_kind _ _ = false

-- not 1 to 6 processes
abbrev pub processes_refusals : WholeProgram Name → List KindFault
processes_refusals p = if nat_le 1 p.processes && nat_le p.processes 6 then [] else F.Processes p.span ∷ []

-- A name that was declared before, in whichever section; else one past the limit of its kind.
abbrev pub declaration_refusals : List Declaration → Declaration → List KindFault
declaration_refusals before d =
    if is_some (slot_in before d.name.letters) then F.Twice d.name.span ∷ []
    else if nat_lt d.slot.1 (limit d.slot.0) then [] else F.TooMany d.name.span ∷ []

abbrev pub declarations_refusals : List Declaration → List Declaration → List KindFault
declarations_refusals [] before = []
declarations_refusals (d ∷ ds) before = declaration_refusals before d ++ declarations_refusals ds (before ++ d ∷ [])

-- A name that is not declared, or is something else than its place wants.
abbrev pub use_refusals_by : Use → Option Slot → List KindFault
use_refusals_by u None = F.Unknown u.name.span ∷ []
use_refusals_by u (Some slot) =
    if is_kind u.wanted slot.0 then [] else F.WrongKind u.name.span u.wanted slot.0 ∷ []

abbrev pub use_refusals : (List ℕ → Option Slot) → Use → List KindFault
use_refusals look u = use_refusals_by u (look u.name.letters)

abbrev pub refusals : WholeProgram Name → List KindFault
refusals p =
    processes_refusals p
    ++ (declarations_refusals (declarations p) []
    ++ flat_map (use_refusals (slot_in (declarations p))) (block_uses p.body))

abbrev pub first : {A : Type 0} → List A → Option A
first [] = None
first (x ∷ xs) = Some x

abbrev pub first_refusal : WholeProgram Name → Option KindFault
first_refusal p = first (refusals p)
