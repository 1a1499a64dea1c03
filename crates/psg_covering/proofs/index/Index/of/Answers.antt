use Rattle.std.proofs.Common.{length, slice_get, sym, ap, ◌∙◌, subst, arith}
use Rattle.psg_terms.proofs.Lists.{slice_get_item}
use Rattle.psg_relation.specs.Heads.{places_at}
use Rattle.psg_covering.specs.Index.{AreIndexed}
use Rattle.psg_covering.proofs.IndexLaws.{indexed_more, indexed_none}
use Rattle.psg_covering.proofs.index.Index.of.Goals as goal

pub loop-number-init : goal.loop-number-init
loop-number-init c =
    indexed_none c.args.definition.now (places_at c.new-index.result.passing) (places_at c.new-index.result.ending) c.new-index.ensures.passing c.new-index.ensures.ending

pub loop-number-preserved : goal.loop-number-preserved
loop-number-preserved c =
    indexed_more c.args.definition.now c.loop-number.number c.index-rows-number.result (places_at c.loop-number.index.passing) (places_at c.loop-number.index.ending)
    (places_at c.note.new.index.passing) (places_at c.note.new.index.ending)
    (ap (λ l. slice_get l c.loop-number.number) (sym c.as_slice-rows.ensures) ∙ slice_get_item c.as_slice-rows.result.now c.loop-number.number c.index-rows-number.result c.loop-number-test.true c.index-rows-number.is)
    c.in_ok-note.ensures c.loop-number.invariant

pub returns : goal.returns
returns c =
    subst (λ n. AreIndexed c.args.definition.now n (places_at c.loop-number.index.passing) (places_at c.loop-number.index.ending))
    (let same = ap length c.as_slice-rows.ensures in omega (arith, c.loop-number-test.false, same)) c.loop-number.invariant
