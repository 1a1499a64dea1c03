use Rattle.std.proofs.Common.{Some, ap, sym, ◌∙◌, arith}
use Rattle.std.proofs.lemmas.Option.{slice_get_read}
use Rattle.psg_terms.specs.Terms.{Term}
use Rattle.psg_pool.specs.Cells.{arguments_of}
use Rattle.psg_unify.proofs.CoverSteps.{pushed_facing, pushed_none, pushed_whole}
use Rattle.psg_unify.proofs.covering.push_arguments.Goals as goal

pub loop-k-init : goal.loop-k-init
loop-k-init c = pushed_none c.args.left.now.items c.args.terms.now (arguments_of c.args.pool.now.cells c.args.id)

pub loop-k-preserved : goal.loop-k-preserved
loop-k-preserved c =
    pushed_facing c.args.left.now.items c.loop-k.left.items c.push.new.self.items c.args.terms.now (arguments_of c.args.pool.now.cells c.args.id) c.loop-k.k c.in_ok-term.term c.arg-cell.result
    (slice_get_read c.args.terms.now c.args.count c.loop-k.k c.index-terms-k.result (sym c.requires.terms) c.loop-k-test.true c.index-terms-k.is ∙ ap (λ (t : Term). Some t) (sym c.in_ok-term.ensures))
    c.arg-cell.ensures.value c.in_ok-push.ensures.items c.loop-k.invariant

pub returns : goal.returns
returns c =
    pushed_whole c.args.left.now.items c.loop-k.left.items c.args.terms.now (arguments_of c.args.pool.now.cells c.args.id) c.loop-k.k (omega (arith, c.requires.terms)) (omega (arith, c.requires.cells))
    c.loop-k.invariant
