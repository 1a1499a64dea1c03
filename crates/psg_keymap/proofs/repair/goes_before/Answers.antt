use Rattle.psg_places.proofs.WayLaws.{before_none, before_split}
use Rattle.psg_keymap.proofs.repair.goes_before.Goals as goal

pub returns-in-Some : goal.returns-in-Some
returns-in-Some c =
    before_split c.args.many c.args.path.now c.in-Some.list.now c.args.at.now c.in-Some.number.now c.is_below.result
    c.in-Some.ensures.cases.0 c.is_below.ensures

pub returns-in-None : goal.returns-in-None
returns-in-None c = before_none c.args.many c.args.path.now c.args.at.now c.in-None.ensures.cases
