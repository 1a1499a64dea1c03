use Rattle.psg_tree.proofs.Walks.{replaced_here, replaced_more}
use Rattle.psg_tree.proofs.places.+replace_below.Goals as goal

pub returns-in_ok-share-in-empty-clause-ok : goal.returns-in_ok-share-in-empty-clause-ok
returns-in_ok-share-in-empty-clause-ok t c = replaced_here _ _ _ _ c.in-empty.len_below c.in_ok-share-in-empty.ensures

pub returns-in_ok-made-in-Some-clause-ok : goal.returns-in_ok-made-in-Some-clause-ok
returns-in_ok-made-in-Some-clause-ok t c =
    replaced_more c.args.tree.now c.in-Some.inner.now c.args.new.now c.in_ok-changed-in-Some.changed c.in_ok-made-in-Some.made c.args.steps.now
    c.in-len1-up.len_at_least c.in-Some.ensures c.in_ok-changed-in-Some.ensures.ok c.in_ok-made-in-Some.ensures
