use Rattle.std.proofs.Common.{ℕ, subst, arith}
use Rattle.psg_grammar.specs.declared.types.DeclareRow.{DeclareRow}
use Rattle.psg_specimen.specs.Wanted.{IsWantedPlace}
use Rattle.psg_specimen.specs.Walks.{Finds}
use Rattle.psg_covering.proofs.Firsts.{more}
use Rattle.psg_specimen.proofs.Pairs.{pair_first, pair_none}
use Rattle.psg_specimen.proofs.places.first_in_declares.Goals as goal

pub loop-number-preserved : goal.loop-number-preserved
loop-number-preserved c =
    let x = c.index-rows-number.result in
    let found = subst (Finds (IsWantedPlace c.args.definition.now c.args.wanted x.specimen x.term)) c.in_default.is c.in_ok-place.ensures in
    more c.args.rows.now (λ (y : DeclareRow). (h : ℕ) → IsWantedPlace c.args.definition.now c.args.wanted y.specimen y.term h) c.loop-number.number x c.loop-number-test.true c.index-rows-number.is found c.loop-number.invariant

pub returns-in-Some : goal.returns-in-Some
returns-in-Some c =
    let x = c.index-rows-number.result in
    let found = subst (Finds (IsWantedPlace c.args.definition.now c.args.wanted x.specimen x.term)) c.in-Some.is c.in_ok-place.ensures in
    pair_first c.args.rows.now (λ (x : DeclareRow) h. IsWantedPlace c.args.definition.now c.args.wanted x.specimen x.term h) c.loop-number.number x c.in-Some.place c.loop-number-test.true c.index-rows-number.is found c.loop-number.invariant

pub returns : goal.returns
returns c = pair_none c.args.rows.now (λ (x : DeclareRow) h. IsWantedPlace c.args.definition.now c.args.wanted x.specimen x.term h) (λ m lt. c.loop-number.invariant m (omega (arith, lt)))
