use Rattle.std.proofs.Common.{sym, subst}
use Rattle.psg_scope.specs.Headers.{IsOrdered}
use Rattle.psg_scope.proofs.HeaderLaws.{of_halves}
use Rattle.psg_scope.proofs.joining.+header_of.Goals as goal

pub returns-clause-header : goal.returns-clause-header
returns-clause-header t c = of_halves _ _ _ _ c.split_at.ensures.by_index.0 (c.in_ok-joined.ensures.region _ _ _ _ _ _ c.in_ok-left.ensures.header c.in_ok-right.ensures.header)

pub returns-clause-ordered : goal.returns-clause-ordered
returns-clause-ordered t c = c.in_ok-joined.ensures.ordered

pub returns-in_default-clause-ordered : goal.returns-in_default-clause-ordered
returns-in_default-clause-ordered t c = subst IsOrdered (sym c.empty.ensures) (record { keys_rise = tt; spaces_rise = tt })

pub returns-then-positions-le1-clause-ordered : goal.returns-then-positions-le1-clause-ordered
returns-then-positions-le1-clause-ordered t c = subst IsOrdered (sym c.in_ok-only.ensures) (record { keys_rise = (tt, tt); spaces_rise = tt })
