use Rattle.std.proofs.Common.{rules}
use Rattle.word_core.specs.Packed.{word}
use Rattle.word_core.specs.declared.history.SharedAct.TheVariants.{Load}
use Rattle.tick_run.proofs.Serving.{seen_labels, lost_served, read_served, write_served, clear_served}
use Rattle.tick_run.proofs.worker.served.Goals as goal

pub returns-in-LoadWord-clause-word : goal.returns-in-LoadWord-clause-word
returns-in-LoadWord-clause-word g c = record {
  are = seen_labels c.args.table.now c.args.code.now c.args.p c.args.ask c.args.pass.now c.load.new.pass c.requires.fits c.requires.here c.requires.held
      (Load (word c.load.result)) c.load.result c.load.ensures.step c.load.ensures.labels;
  ordered = c.load.ensures.ordered.ordered;
}

pub returns-in-Lost-clause-served : goal.returns-in-Lost-clause-served
returns-in-Lost-clause-served g c =
    lost_served c.args.table.now c.args.code.now c.args.p c.args.ask c.args.pass.now c.exchange.new.pass c.requires.fits c.requires.here c.requires.held
    c.in-Exchange.old c.in-Exchange.new c.in-Lost.found c.in-Exchange.is c.in-Lost.ensures.step c.in-Lost.ensures.labels

pub returns-in-Get-clause-served : goal.returns-in-Get-clause-served
returns-in-Get-clause-served g c =
    read_served c.args.table.now c.args.code.now c.args.p c.args.ask c.args.pass.now c.read.new.pass c.requires.fits c.requires.here c.requires.held
    c.in-Get.r c.in-Get.i c.read.result c.in-Get.is (search rules)

pub returns-in-Put-clause-served : goal.returns-in-Put-clause-served
returns-in-Put-clause-served g c =
    write_served c.args.table.now c.args.code.now c.args.p c.args.ask c.args.pass.now c.write.new.pass c.requires.fits c.requires.here c.requires.held
    c.in-Put.r c.in-Put.v c.in-Put.is (search rules)

pub returns-in-Clear-clause-served : goal.returns-in-Clear-clause-served
returns-in-Clear-clause-served g c =
    clear_served c.args.table.now c.args.code.now c.args.p c.args.ask c.args.pass.now c.clear.new.pass c.requires.fits c.requires.here c.requires.held
    (word c.clear.ensures.clears.found) c.in-Clear.is c.clear.ensures.clears.step
