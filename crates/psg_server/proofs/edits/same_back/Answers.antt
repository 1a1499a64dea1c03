use Rattle.std.proofs.Common.{sym, true≢false, ◌∙◌}
use Rattle.psg_server.proofs.EditLaws.{back_start, back_step, tail_is}
use Rattle.psg_server.proofs.edits.same_back.Goals as goal

pub back-init : goal.back-init
back-init c = back_start c.args.text.now c.args.wanted.now c.args.from c.requires.text c.requires.wanted

pub back-preserved : goal.back-preserved
back-preserved c =
    back_step c.args.text.now c.args.wanted.now c.args.from c.back.size c.back.tail c.tail_with-tail.result c.begin_lines.result
    (c.are_alike.ensures.0 c.back-test.true) c.begin_lines.ensures c.tail_with-tail.ensures c.back.invariant

pub returns-clause-tail : goal.returns-clause-tail
returns-clause-tail c =
    tail_is c.args.text.now c.args.wanted.now c.args.from c.back.size c.back.tail c.back.invariant
    (λ alike. true≢false (sym (c.are_alike.ensures.1 alike) ∙ c.back-test.false))
