use Rattle.std.proofs.Common.{◌<◌, [], ◌∷◌, subst, sym, arith}
use Rattle.psg_class.proofs.Closing.{same_size, joined, links_one, followed_more}
use Rattle.psg_class.proofs.grid.follow.Goals as goal

pub copy-more-requires-clause-grid : goal.copy-more-requires-clause-grid
copy-more-requires-clause-grid c = c.loop-column.invariant.size.grid

pub copy-more-requires-clause-to : goal.copy-more-requires-clause-to
copy-more-requires-clause-to c = subst (λ h. c.args.link.to < h) (sym c.loop-column.invariant.size.height) c.requires.to

pub copy-more-requires-clause-from : goal.copy-more-requires-clause-from
copy-more-requires-clause-from c = subst (λ h. c.args.link.from < h) (sym c.loop-column.invariant.size.height) c.requires.from

pub copy-more-requires-clause-column : goal.copy-more-requires-clause-column
copy-more-requires-clause-column c = let e = c.loop-column.invariant.size.width in omega arith

pub loop-column-preserved : goal.loop-column-preserved
loop-column-preserved c = record {
  size = same_size c.args.grid.now c.loop-column.grid c.copy-more.new.grid c.loop-column.invariant.size c.copy-more.ensures.size;
  step = λ links among. joined links c.args.grid.now c.loop-column.grid c.copy-more.new.grid c.loop-column.more c.copy-more.result (c.loop-column.invariant.step links among) (c.copy-more.ensures.step links among);
  done = followed_more c.args.link c.args.grid.now c.loop-column.grid c.loop-column.column c.loop-column.more c.copy-more.result (c.loop-column.invariant.step (c.args.link ∷ []) (links_one c.args.link)) c.loop-column.invariant.done c.copy-more.ensures.followed;
}
