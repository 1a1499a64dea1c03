use Rattle.std.proofs.Common.{arith}
use Rattle.psg_pool.specs.Cells.{arguments_of}
use Rattle.psg_unify.specs.Filling.{IsFilled}
use Rattle.psg_unify.proofs.SortsRead.{all_at}
use Rattle.psg_unify.proofs.ReadSteps.{written_none, written_more, written_whole}
use Rattle.psg_unify.proofs.reading.written_arguments.Goals as goal

pub loop-k-init : goal.loop-k-init
loop-k-init c = written_none c.args.written.now (arguments_of c.args.pool.now.cells c.args.id) c.in_ok-terms.terms.items c.in_ok-terms.ensures.items

pub written_of-requires : goal.written_of-requires
written_of-requires c = all_at (IsFilled c.args.written.now) (arguments_of c.args.pool.now.cells c.args.id) c.loop-k.k c.arg-argument.result c.requires.there c.arg-argument.ensures.value

pub loop-k-preserved : goal.loop-k-preserved
loop-k-preserved c =
    written_more c.args.written.now (arguments_of c.args.pool.now.cells c.args.id) c.loop-k.terms.items c.push.new.self.items c.loop-k.k c.arg-argument.result c.in_ok-term.term
    c.arg-argument.ensures.value c.in_ok-term.ensures c.in_ok-push.ensures.items c.loop-k.invariant

pub returns : goal.returns
returns c = written_whole c.args.written.now (arguments_of c.args.pool.now.cells c.args.id) c.loop-k.terms.items c.loop-k.k (omega (arith, c.requires.count)) c.loop-k.invariant
