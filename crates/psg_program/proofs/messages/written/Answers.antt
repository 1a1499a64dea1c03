use Rattle.std.proofs.Common.{subst, ap₂}
use Rattle.psg_grammar.specs.WellFormed.{fixed_words}
use Rattle.psg_program.proofs.TokenSpans.{spans_end, spans_order, spans_start}
use Rattle.psg_program.proofs.messages.written.Goals as goal

pub unreachable-requires : goal.unreachable-requires
unreachable-requires c =
    absurd (c.in-None.ensures.cases
    (spans_order c.args.text.now c.utf8.text c.args.token.now c.requires)
    (spans_start c.args.text.now c.utf8.text c.args.token.now c.requires)
    (spans_end c.args.text.now c.utf8.text c.args.token.now c.requires))
