-- What others see of a step, as an object.
use Rattle.std.specs.Prelude.{ℕ, List, codes, map, take}
use Rattle.base.specs.Plain.{Name, WholeProgram}
use Rattle.base.specs.declared.event.Act.{Act}
use Rattle.base.specs.declared.event.Act.TheVariants as A
use Rattle.serde_json.specs.Data.{Data, string, array, object, Members, no_members, member}
use Rattle.serde_json.specs.View.{items_of}
use Rattle.tick_play.specs.Lines.{trap_text}
use Rattle.ticklab_trace.specs.TraceText.{name_at}
use Rattle.ticklab_json.specs.Members.{count}

-- of this kind, with members after that of the kind
abbrev pub of_kind : List ℕ → Members → Members
of_kind kind members = member (codes "kind") (string kind) members

abbrev pub event_members : WholeProgram Name → Act → Members
event_members a (A.Put r v) =
    of_kind (codes "put") (member (codes "register") (string (name_at a.registers r)) (member (codes "value") (count v) no_members))
event_members a (A.Get r i v) =
    of_kind (codes "get") (member (codes "process") (count i)
    (member (codes "register") (string (name_at a.registers r)) (member (codes "value") (count v) no_members)))
event_members a A.Stamp = of_kind (codes "stamp") no_members
event_members a A.Clear = of_kind (codes "clear") no_members
event_members a (A.Scan ranks) =
    of_kind (codes "scan") (member (codes "ranks") (array (items_of (map count (take a.processes ranks)))) no_members)
event_members a (A.Older i j answer) =
    member (codes "answer") (count answer) (member (codes "first") (count i)
    (of_kind (codes "older") (member (codes "second") (count j) no_members)))
event_members a (A.Held i answer) =
    member (codes "answer") (count answer) (of_kind (codes "held") (member (codes "process") (count i) no_members))
event_members a (A.Out v) = of_kind (codes "out") (member (codes "value") (count v) no_members)
event_members a (A.Trap t) = of_kind (codes "trap") (member (codes "trap") (string (trap_text t)) no_members)
event_members a A.End = of_kind (codes "end") no_members

abbrev pub event_data : WholeProgram Name → Act → Data
event_data a act = object (event_members a act)
