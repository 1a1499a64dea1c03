use Rattle.psg_relation.specs.Choices.{picked, all_picked}
use Rattle.psg_relation.proofs.Columns.{all_sorted, projected}
use Rattle.psg_relation.proofs.Existing.{relation_exists}
use Rattle.psg_relation.proofs.laws.some_projection.Goals as goal

pub returns : goal.returns
returns c = λ rows keep sorts h.
    let sig = c.args.sig.now in
    let (rel, r) = relation_exists sig c.sound.ensures (all_picked rows keep) (picked sorts keep) (all_sorted sig rows keep sorts h) in
    (rel, projected sig rows keep (picked sorts keep) rel r)
