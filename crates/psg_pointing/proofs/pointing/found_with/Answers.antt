use Rattle.std.proofs.Common.{sym, ◌∙◌}
use Rattle.psg_ranges.specs.Forests.{from_nth}
use Rattle.psg_pointing.proofs.Walks.{so_far_next, so_far_same}
use Rattle.psg_pointing.proofs.pointing.found_with.Goals as goal

pub returns-then-on-clause-so_far : goal.returns-then-on-clause-so_far
returns-then-on-clause-so_far c = λ f e so.
    so_far_next c.args.tokens.now c.args.byte f c.args.next
    (sym (c.is_on-on.ensures (from_nth f c.args.next.number) e) ∙ c.if-on.true) e

pub returns-clause-so_far : goal.returns-clause-so_far
returns-clause-so_far c = λ f e so.
    so_far_same c.args.tokens.now c.args.byte f c.args.next.number c.args.found so
    (sym (c.is_on-on.ensures (from_nth f c.args.next.number) e) ∙ c.if-on.false)
