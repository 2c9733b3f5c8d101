-- Every number in a resolved block names something that is declared, as `Uses` says beside the uses.
pub use Rattle.tick_kinds.specs.Uses.{IsExpressionWithin, IsStatementWithin, IsWithin}
