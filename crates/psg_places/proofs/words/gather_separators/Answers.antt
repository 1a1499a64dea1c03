use Rattle.psg_places.proofs.Gathered.{separator_gathered, separators_gathered}
use Rattle.psg_places.proofs.words.gather_separators.Goals as goal

pub loop-list-preserved : goal.loop-list-preserved
loop-list-preserved c =
    separator_gathered c.args.lists.now c.loop-list.list-index c.list-item.result c.args.found.now.items c.loop-list.found.items
    c.gather_word.new.found.items c.loop-list-test.true c.list-item.is c.loop-list.invariant c.in_ok-gather_word.ensures

pub returns : goal.returns
returns c =
    separators_gathered c.args.lists.now c.loop-list.list-index c.args.found.now.items c.loop-list.found.items c.loop-list-test.false
    c.loop-list.invariant
