-- What steps of both machines show alike.
use Rattle.std.specs.Prelude.{Option, Some, None}
use Rattle.base.specs.declared.event.Act.{Act}
use Rattle.base.specs.declared.event.Act.TheVariants as A

-- the order of the processes is shown after a step that may change it
abbrev pub shown : {X : Type 0} → Option Act → X → Option X
shown (Some A.Stamp) order = Some order
shown (Some A.Clear) order = Some order
shown _ order = None
