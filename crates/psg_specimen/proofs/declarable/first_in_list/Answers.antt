use Rattle.std.proofs.Common.{ℕ, arith}
use Rattle.psg_terms.proofs.Lists.{get_or_fixed}
use Rattle.psg_specimen.specs.Given.{IsDeclarableIn}
use Rattle.psg_covering.proofs.Firsts.{more}
use Rattle.psg_specimen.proofs.DeclarableLaws.{finished, list_first, list_none}
use Rattle.psg_specimen.proofs.declarable.first_in_list.Goals as goal

pub returns-then-not-list : goal.returns-then-not-list
returns-then-not-list c = finished c.args.definition.now c.args.number c.args.list.now c.if-not-list.true

pub loop-space-preserved : goal.loop-space-preserved
loop-space-preserved c =
    more c.args.spaces.now (λ s. (d : ℕ) → IsDeclarableIn c.args.definition.now c.args.number s d) c.loop-space.space-index _ c.loop-space-test.true (get_or_fixed c.args.spaces.now c.loop-space.space-index _ c.loop-space-test.true) c.in_default.ensures c.loop-space.invariant

pub returns-in-Some : goal.returns-in-Some
returns-in-Some c =
    list_first c.args.definition.now c.args.number c.args.list.now c.args.spaces.now c.requires.spaces c.loop-space.space-index _ c.in-Some.con c.if-not-list.false c.loop-space-test.true (get_or_fixed c.args.spaces.now c.loop-space.space-index _ c.loop-space-test.true) c.in-Some.ensures c.loop-space.invariant

pub returns : goal.returns
returns c = list_none c.args.definition.now c.args.number c.args.list.now c.args.spaces.now c.requires.spaces (λ m lt. c.loop-space.invariant m (let f = c.loop-space-test.false in omega (arith, lt, f)))
