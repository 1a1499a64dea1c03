use Rattle.std.proofs.Common.{Some, length, slice_index_or, ap, sym, ◌∙◌, refl, arith}
use Rattle.std.proofs.lemmas.Option.{slice_get_read, slice_get-get_or}
use Rattle.psg_terms.specs.Terms.{Term}
use Rattle.psg_unify.proofs.CoverSteps.{pushed_facing, pushed_none, pushed_whole}
use Rattle.psg_unify.proofs.covering.push_row.Goals as goal

pub loop-k-init : goal.loop-k-init
loop-k-init c = pushed_none c.args.left.now.items c.args.terms.now c.args.cells.now

pub loop-k-preserved : goal.loop-k-preserved
loop-k-preserved c =
    pushed_facing c.args.left.now.items c.loop-k.left.items c.push.new.self.items c.args.terms.now c.args.cells.now c.loop-k.k c.in_ok-term.term (slice_index_or c.args.cells.now c.loop-k.k (record { 0 = 0 }))
    (slice_get_read c.args.terms.now (length c.args.terms.now) c.loop-k.k c.index-terms-k.result refl c.loop-k-test.true c.index-terms-k.is ∙ ap (λ (t : Term). Some t) (sym c.in_ok-term.ensures))
    (slice_get-get_or c.args.cells.now c.loop-k.k (record { 0 = 0 }) (omega (arith, c.loop-k-test.true, c.requires)))
    c.in_ok-push.ensures.items c.loop-k.invariant

pub returns : goal.returns
returns c = pushed_whole c.args.left.now.items c.loop-k.left.items c.args.terms.now c.args.cells.now c.loop-k.k (omega arith) (omega (arith, c.requires)) c.loop-k.invariant
