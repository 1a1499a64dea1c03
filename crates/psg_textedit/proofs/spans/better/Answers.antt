use Rattle.std.proofs.lemmas.Option.{slice_get_within}
use Rattle.psg_terms.proofs.Lists.{slice_get_item}
use Rattle.psg_textedit.specs.Typing.{typing_of}
use Rattle.psg_textedit.proofs.Best.{best_kept}
use Rattle.psg_textedit.proofs.spans.better.Goals as goal

pub bounds-spans-best : goal.bounds-spans-best
bounds-spans-best c =
    slice_get_within c.args.spans.now c.args.best c.requires.best.span c.requires.best.found

pub returns-then-not-encloses : goal.returns-then-not-encloses
returns-then-not-encloses c =
    best_kept c.args.spans.now (typing_of c.args.typed.now) c.args.next c.args.best c.index-spans-next.result c.requires.best
    (slice_get_item c.args.spans.now c.args.next c.index-spans-next.result c.requires.within c.index-spans-next.is)
    (λ around. absurd (c.encloses.ensures.no c.if-not-encloses.true around))
