use Rattle.std.proofs.Common.{ℕ, ◌≡◌, Some, slice_get, subst, arith}
use Rattle.psg_grammar.specs.declared.types.Case.{Case}
use Rattle.psg_grammar.specs.declared.types.HoleRow.{HoleRow}
use Rattle.psg_grammar.specs.declared.types.Definition.{Definition}
use Rattle.psg_specimen.specs.Wanted.{IsWantedPlace}
use Rattle.psg_specimen.specs.Walks.{FindsTwo}
use Rattle.psg_specimen.specs.declared.places.Wanted.{Wanted}
use Rattle.psg_covering.proofs.Firsts.{more}
use Rattle.psg_specimen.proofs.Triples.{triple_first, triple_none}
use Rattle.psg_specimen.proofs.places.first_in_rows.Goals as goal

abbrev Q : Definition → Wanted → HoleRow → ℕ → ℕ → Type 0
Q def w row d k = (one : Case) → slice_get row.cases d ≡ Some one → IsWantedPlace def w one.specimen one.term k

pub loop-number-preserved : goal.loop-number-preserved
loop-number-preserved c =
    let x = c.index-rows-number.result in
    let def = c.args.definition.now in
    let w = c.args.wanted in
    let found = subst (FindsTwo (λ d k. (one : Case) → slice_get c.as_slice.result.now d ≡ Some one → IsWantedPlace def w one.specimen one.term k)) c.in_default.is c.in_ok-pair.ensures in
    let own = subst (λ cases. (d k : ℕ) (one : Case) → slice_get cases d ≡ Some one → IsWantedPlace def w one.specimen one.term k) c.as_slice.ensures found in
    more c.args.rows.now (λ (y : HoleRow). (d k : ℕ) → Q def w y d k) c.loop-number.number x c.loop-number-test.true c.index-rows-number.is own c.loop-number.invariant

pub returns-in-Some : goal.returns-in-Some
returns-in-Some c =
    let x = c.index-rows-number.result in
    let def = c.args.definition.now in
    let w = c.args.wanted in
    let found = subst (FindsTwo (λ d k. (one : Case) → slice_get c.as_slice.result.now d ≡ Some one → IsWantedPlace def w one.specimen one.term k)) c.in-Some.is c.in_ok-pair.ensures in
    let own = subst (λ cases. FindsTwo (λ d k. (one : Case) → slice_get cases d ≡ Some one → IsWantedPlace def w one.specimen one.term k) (Some c.in-Some.pair)) c.as_slice.ensures found in
    triple_first c.args.rows.now (Q def w) c.loop-number.number x c.in-Some.pair.0 c.in-Some.pair.1 c.loop-number-test.true c.index-rows-number.is own c.loop-number.invariant

pub returns : goal.returns
returns c = triple_none c.args.rows.now (Q c.args.definition.now c.args.wanted) (λ m lt. c.loop-number.invariant m (omega (arith, lt)))
