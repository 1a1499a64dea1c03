use Rattle.std.proofs.Common.{inl, inr, arith}
use Rattle.psg_terms.proofs.DeclareFaults.{constructor_fault, sort_fault, no_fault}
use Rattle.psg_terms.proofs.declare.distinct.Goals as goal

pub returns-in-Some-clause-err : goal.returns-in-Some-clause-err
returns-in-Some-clause-err c =
    inr (constructor_fault c.args.sorts.now c.args.placed.now c.in_ok-k.field-0 c.in-Some.k c.in_ok-sort.sort c.index-placed-k.result c.in_ok-share.field-0
    c.in-Some.is c.in_ok-k.ensures.some c.in_ok-k.ensures.within c.requires.order c.in_ok-sort.ensures.front c.index-placed-k.is c.in_ok-share.ensures)

pub returns-then-sort-sorts-clause-err : goal.returns-then-sort-sorts-clause-err
returns-then-sort-sorts-clause-err c =
    inl (sort_fault c.args.sorts.now c.in_ok-k.field-0 c.in_ok-sort.sort c.args.placed.now c.index-sorts-sort.result c.in_ok-share-2.field-0
    c.in_default.is c.in_ok-k.ensures.none c.requires.order c.if-sort-sorts.true (c.in_ok-sort.ensures.repeat c.if-sort-sorts.true) c.index-sorts-sort.is c.in_ok-share-2.ensures)

pub returns-clause-ok : goal.returns-clause-ok
returns-clause-ok c =
    no_fault c.args.sorts.now c.in_ok-k.field-0 c.in_ok-sort.sort c.args.placed.now c.in_default.is c.in_ok-k.ensures.none c.requires.order
    (let w = c.in_ok-sort.ensures.within in omega arith) c.in_ok-sort.ensures.front
