use Rattle.std.proofs.Common.{◌<◌, length, arith}
use Rattle.std.proofs.lemmas.Option.{slice_get_within}
use Rattle.psg_terms.proofs.Lists.{each_at, slice_get_item}
use Rattle.psg_unparse.specs.declared.spans.Span.{Span}
use Rattle.psg_unparse.proofs.SpliceSteps.{every_span}
use Rattle.psg_unparse.proofs.splicing.are_begun.Goals as goal

pub returns-then-not-is_begun-clause-no : goal.returns-then-not-is_begun-clause-no
returns-then-not-is_begun-clause-no c = λ e all.
    c.is_begun.ensures.no c.if-not-is_begun.true
    (each_at (λ (s : Span). 0 < s.end) c.args.spans.now all c.loop-span.span-index c.span-item.result
    (slice_get_item c.args.spans.now c.loop-span.span-index c.span-item.result c.loop-span-test.true c.span-item.is))

pub returns-clause-yes : goal.returns-clause-yes
returns-clause-yes c = λ t. every_span (λ (s : Span). 0 < s.end) c.args.spans.now (λ k s e. c.loop-span.invariant k s
    (let lt : k < length c.args.spans.now = slice_get_within c.args.spans.now k s e in
    omega (arith, lt, c.loop-span-test.false)) e)
