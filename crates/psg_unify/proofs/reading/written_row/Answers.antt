use Rattle.std.proofs.Common.{slice_index_or, arith}
use Rattle.std.proofs.lemmas.Option.{slice_get-get_or}
use Rattle.psg_unify.specs.Filling.{IsFilled}
use Rattle.psg_unify.proofs.SortsRead.{all_at}
use Rattle.psg_unify.proofs.ReadSteps.{written_none, written_more, written_whole}
use Rattle.psg_unify.proofs.reading.written_row.Goals as goal

pub loop-k-init : goal.loop-k-init
loop-k-init c = written_none c.args.written.now c.args.cells.now c.in_ok-terms.terms.items c.in_ok-terms.ensures.items

pub written_of-requires : goal.written_of-requires
written_of-requires c =
    all_at (IsFilled c.args.written.now) c.args.cells.now c.loop-k.k (slice_index_or c.args.cells.now c.loop-k.k (record { 0 = 0 })) c.requires
    (slice_get-get_or c.args.cells.now c.loop-k.k (record { 0 = 0 }) c.loop-k-test.true)

pub loop-k-preserved : goal.loop-k-preserved
loop-k-preserved c =
    written_more c.args.written.now c.args.cells.now c.loop-k.terms.items c.push.new.self.items c.loop-k.k (slice_index_or c.args.cells.now c.loop-k.k (record { 0 = 0 })) c.in_ok-term.term
    (slice_get-get_or c.args.cells.now c.loop-k.k (record { 0 = 0 }) c.loop-k-test.true)
    c.in_ok-term.ensures c.in_ok-push.ensures.items c.loop-k.invariant

pub returns : goal.returns
returns c = written_whole c.args.written.now c.args.cells.now c.loop-k.terms.items c.loop-k.k (omega arith) c.loop-k.invariant
