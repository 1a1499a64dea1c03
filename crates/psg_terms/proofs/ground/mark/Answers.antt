use Rattle.std.proofs.Common.{subst}
use Rattle.psg_terms.specs.Kept.{symbol_of, numbers_of}
use Rattle.psg_terms.specs.Marks.{AreMarked}
use Rattle.psg_terms.proofs.Marking.{right-set, unmarked-set}
use Rattle.psg_terms.proofs.ground.mark.Goals as goal

pub returns-clause-right : goal.returns-clause-right
returns-clause-right c = λ sig k at right.
    right-set sig k (symbol_of c.args.d.now) c.args.marks.now at
    (subst (λ xs. AreMarked c.args.marks.now (numbers_of xs)) c.as_slice.ensures (c.all_marked.ensures.0 c.if-not-all_marked.false)) right

pub returns-clause-fewer : goal.returns-clause-fewer
returns-clause-fewer c = unmarked-set c.args.marks.now c.args.d.now.sort.0 _ c.requires.sort c.if-marks-sort.false
