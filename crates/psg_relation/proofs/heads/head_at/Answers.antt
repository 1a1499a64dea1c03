use Rattle.std.proofs.Common.{arith}
use Rattle.psg_terms.proofs.Lists.{slice_get_item}
use Rattle.psg_relation.proofs.Indexing.{some_head, no_head, head_within}
use Rattle.psg_relation.proofs.heads.head_at.Goals as goal

pub returns-then-column-row-clause-some : goal.returns-then-column-row-clause-some
returns-then-column-row-clause-some c =
    some_head c.args.row.now c.args.column c.index-row-column.result c.head_of.result
    (slice_get_item c.args.row.now c.args.column c.index-row-column.result c.if-column-row.true c.index-row-column.is) c.head_of.ensures

pub returns-then-column-row-clause-none : goal.returns-then-column-row-clause-none
returns-then-column-row-clause-none c =
    no_head c.args.row.now c.args.column c.index-row-column.result c.head_of.result
    (slice_get_item c.args.row.now c.args.column c.index-row-column.result c.if-column-row.true c.index-row-column.is) c.head_of.ensures

pub returns-clause-none : goal.returns-clause-none
returns-clause-none c = λ h there.
    let within = head_within c.args.row.now c.args.column h there in
    let least = c.if-column-row.false in
    absurd (omega (arith, within, least))
