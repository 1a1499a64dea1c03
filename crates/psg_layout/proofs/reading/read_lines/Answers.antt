use Rattle.std.proofs.Common.{get_or, subst}
use Rattle.psg_layout.specs.Reading.{IsLineRead}
use Rattle.psg_layout.proofs.LastLaws.{no_text_there, read_init, read_next, read_bad, read_end}
use Rattle.psg_layout.proofs.reading.read_lines.Goals as goal

pub loop-text-init : goal.loop-text-init
loop-text-init c = read_init c.args.definition.now c.args.texts.now c.new-read.result (c.new-read.ensures c.args.definition.now)

pub loop-text-preserved : goal.loop-text-preserved
loop-text-preserved c =
    read_next c.args.definition.now c.args.texts.now c.loop-text.text-index c.loop-text.line c.in_ok-line.line no_text_there c.loop-text.read c.read.new.self c.loop-text-test.true c.loop-text.invariant
    (subst (λ f. IsLineRead c.args.definition.now (get_or c.args.texts.now c.loop-text.text-index no_text_there).now c.loop-text.read c.read.new.self f) c.in-None.is c.in_ok-found.ensures) c.in_ok-line.ensures

pub returns-in-Some-clause-err : goal.returns-in-Some-clause-err
returns-in-Some-clause-err c =
    read_bad c.args.definition.now c.args.texts.now c.loop-text.text-index c.loop-text.line c.code_of-code.result no_text_there c.loop-text.read c.read.new.self c.in-Some.failed c.loop-text-test.true
    c.loop-text.invariant (subst (λ f. IsLineRead c.args.definition.now (get_or c.args.texts.now c.loop-text.text-index no_text_there).now c.loop-text.read c.read.new.self f) c.in-Some.is c.in_ok-found.ensures) c.code_of-code.ensures

pub returns-clause-ok : goal.returns-clause-ok
returns-clause-ok c =
    read_end c.args.definition.now c.args.texts.now c.loop-text.text-index c.loop-text.line c.loop-text.read (record { groups = c.of.result; breaks = c.of-2.result }) c.loop-text-test.false
    c.loop-text.invariant c.of.ensures c.of-2.ensures
