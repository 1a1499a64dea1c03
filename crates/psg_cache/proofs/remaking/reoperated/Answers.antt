use Rattle.std.proofs.Common.{arith}
use Rattle.psg_cache.proofs.RemakeLaws.{unchanged_noted}
use Rattle.psg_cache.proofs.remaking.reoperated.Goals as goal

pub returns-clause-ok : goal.returns-clause-ok
returns-clause-ok g c =
    let (o, top) = c.requires.operator in
    unchanged_noted c.args.language.definition.now c.args.made.now o c.args.same c.args.front c.args.behind
    c.args.old.now c.args.below.items c.in_ok-note.note top c.requires.formed c.requires.below c.requires.kept
    (omega arith) c.in_ok-note.ensures
