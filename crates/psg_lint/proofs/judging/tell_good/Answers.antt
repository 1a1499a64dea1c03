use Rattle.std.proofs.Common.{◌++◌, List, append_assoc, ap, ◌∙◌}
use Rattle.psg_recover.specs.declared.finding.Finding.{Finding}
use Rattle.psg_uses.specs.Free.{free_uses}
use Rattle.psg_lint.specs.Warnings.{warnings}
use Rattle.psg_lint.proofs.ReadLaws.{said_is}
use Rattle.psg_lint.proofs.judging.tell_good.Goals as goal

pub returns : goal.returns
returns g c = λ r is.
    let j = c.args.judged in
    let old = c.args.found.now.items in
    let own = warnings j.definition.now r (free_uses j.definition.now j.tree.now) in
    let free = said_is (λ d q. old ++ warnings d q (free_uses d j.tree.now)) j c.requires.judged r is c.tell_free.new.found.items
    c.in_ok-tell_free.ensures in
    let (notes, e, h) = c.in_ok-tell_open.ensures r is in
    (notes, e ∙ ap (λ (xs : List Finding). xs ++ notes) free ∙ append_assoc old own notes, h)
