use Rattle.psg_terms.proofs.Lists.{in_at, slice_get_item}
use Rattle.psg_wanted.proofs.texts.push_after_ors.Goals as goal

pub push_after_or-requires : goal.push_after_or-requires
push_after_or-requires c =
    c.requires c.term-item.result
    (in_at c.args.terms.now c.loop-term.term-index c.term-item.result
    (slice_get_item c.args.terms.now c.loop-term.term-index c.term-item.result c.loop-term-test.true c.term-item.is))
