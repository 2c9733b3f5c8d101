use Rattle.std.proofs.Common.{refl, map}
use Rattle.tick_kinds.specs.declared.kind.Kind.TheVariants as K
use Rattle.tick_kinds.specs.Declarations.{numbered}
use Rattle.base.specs.Plain.{name_of}
use Rattle.std.proofs.lemmas.Result.{err_from_is_err_and}
use Rattle.tick_kinds.proofs.Declaring.{declared_from, first_section_fails, second_section_fails, third_section_fails, sections_declared}
use Rattle.tick_kinds.proofs.names.Names.of.Goals as goal

pub returns : goal.returns
returns c =
    rw (declared_from c.new.result c.new.ensures.empty c.args.tree.now _ _ _ c.deref.ensures.value c.deref-2.ensures.value c.deref-3.ensures.value)
    (sections_declared _ _ _ _ _ c.in_ok-declare_all.ensures _ c.in_ok-declare_all-2.ensures _ c.in_ok-declare_all-3.ensures)

pub returns-in_err-declare_all : goal.returns-in_err-declare_all
returns-in_err-declare_all c =
    let p = err_from_is_err_and c.from_residual.result c.from_residual.ensures.1 in
    rw (p.1, p.2, declared_from c.new.result c.new.ensures.empty c.args.tree.now _ _ _ c.deref.ensures.value refl refl)
    (first_section_fails _ (numbered K.Scan (map name_of c.args.tree.now.scans.items) 0) (numbered K.Register (map name_of c.args.tree.now.registers.items) 0) _ _ c.in_err-declare_all.ensures)

pub returns-in_err-declare_all-2 : goal.returns-in_err-declare_all-2
returns-in_err-declare_all-2 c =
    let p = err_from_is_err_and c.from_residual-in_err-declare_all-2.result c.from_residual-in_err-declare_all-2.ensures.1 in
    rw (p.1, p.2, declared_from c.new.result c.new.ensures.empty c.args.tree.now _ _ _ c.deref.ensures.value c.deref-2.ensures.value refl)
    (second_section_fails _ _ _ _ _ c.in_ok-declare_all.ensures _ c.in_err-declare_all-2.ensures)

pub returns-in_err-declare_all-3 : goal.returns-in_err-declare_all-3
returns-in_err-declare_all-3 c =
    let p = err_from_is_err_and c.from_residual-in_err-declare_all-3.result c.from_residual-in_err-declare_all-3.ensures.1 in
    rw (p.1, p.2, declared_from c.new.result c.new.ensures.empty c.args.tree.now _ _ _ c.deref.ensures.value c.deref-2.ensures.value c.deref-3.ensures.value)
    (third_section_fails _ _ _ _ _ c.in_ok-declare_all.ensures _ c.in_ok-declare_all-2.ensures _ c.in_err-declare_all-3.ensures)
