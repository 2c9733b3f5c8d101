-- A settled answer is what was answered, or tells the report of a refusal.
use Rattle.std.proofs.Common.{◌≡◌, ℕ, List, [], Result, Ok, Err, IfOk, IfErr, IsErrAnd, MatchResult, subst, sym}
use Rattle.std.specs.Prelude.{Vec}
use Rattle.std.specs.Global.{Global}
use Rattle.ticklab_files.specs.Responses.{Gives, Refuses}
use Rattle.ticklab_files.specs.Stops.{IfRefused, IsRefusal, TellsReport}
use Rattle.ticklab_files.specs.declared.response.Response.{Response}
use Rattle.ticklab_files.specs.declared.stop.NoAnswer.{NoAnswer}
use Rattle.ticklab_files.specs.declared.stop.NoAnswer.TheVariants.{Refused, Fault}

-- what goes out is what the answer was made of
pub gives_of : {P : List ℕ → Type 0} {number : ℕ} (x : Response) (out : Vec ℕ Global) → x.status ≡ number → x.told.items ≡ [] → x.out ≡ out → P out.items
    → Gives number P x
gives_of {P} x out status told same held = record { status = status; quiet = told; out = subst (λ (o : Vec ℕ Global). P o.items) (sym same) held }

refuses_by : {Q : List ℕ → Type 0} (x : Response) (report : List ℕ) → TellsReport x report → Q report → Refuses 1 Q x
refuses_by {Q} x report t told = record { status = t.status; nothing = t.nothing; told = subst Q (sym t.told) told }

pub settled_with : {P R : Response → Type 0} {Q : List ℕ → Type 0} (answered : Result Response NoAnswer) (x : Response)
    → ((x : Response) → P x → R x) → ((x : Response) → Refuses 1 Q x → R x)
    → IfOk answered P → IfErr answered (λ stop. IfRefused stop Q)
    → MatchResult answered (λ given. x ≡ given) (IsRefusal x) → R x
settled_with {P} (Ok given) x f g ok err same = f x (subst P (sym same) ok)
settled_with (Err (Refused report)) x f g ok err told = g x (refuses_by x report.items told err)
settled_with (Err (Fault fault)) x f g ok err told = absurd told

-- the report of a refusal, told for another reason
pub refused_as : {P Q : List ℕ → Type 0} (stop : NoAnswer) → ((report : List ℕ) → P report → Q report) → IfRefused stop P → IfRefused stop Q
refused_as (Refused report) f h = f report.items h
refused_as (Fault fault) f h = tt

-- a `?` hands a stop on
pub stopped_by : {T : Type 0} (Q : List ℕ → Type 0) (stop : NoAnswer) (r : Result T NoAnswer) → IsErrAnd r (λ d. d ≡ stop) → IfRefused stop Q
    → IfErr r (λ d. IfRefused d Q)
stopped_by Q stop (Ok x) err held = tt
stopped_by Q stop (Err d) err held = subst (λ s. IfRefused s Q) (sym err) held

pub then_ok : {T E : Type 0} {P Q : T → Type 0} (r : Result T E) → ((x : T) → P x → Q x) → IfOk r P → IfOk r Q
then_ok (Ok x) f held = f x held
then_ok (Err e) f held = tt
