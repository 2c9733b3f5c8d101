-- The plain tree of a tree that the code declares, which `Plain` defines beside plain trees.
pub use Rattle.base.specs.Plain.{name_of, expression_of, statement_of, row_of, block_of, tree_of}
