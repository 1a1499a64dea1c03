use Rattle.std.proofs.Common.{Some, sym, subst}
use Rattle.psg_pointing.proofs.Walks.{none_in, some_in}
use Rattle.psg_completing.specs.Wanted.{IsLeastUnder, IsSlotOf, of_none, of_slot}
use Rattle.psg_completing.proofs.wanted.least_in.Goals as goal

pub least_level-least-requires : goal.least_level-least-requires
least_level-least-requires c = record {
  slot = (some_in (IsSlotOf c.args.operator.now c.args.number) c.slot_place.result c.in-Some.place c.in-Some.is
      c.slot_place.ensures.some).is_slot_there;
  level = c.requires;
}

pub returns-in-Some : goal.returns-in-Some
returns-in-Some c =
    subst (IsLeastUnder c.args.number (Some c.args.operator.now)) (sym c.least_level-least.ensures)
    (of_slot c.args.operator.now c.in-Some.place
    (some_in (IsSlotOf c.args.operator.now c.args.number) c.slot_place.result c.in-Some.place c.in-Some.is
    c.slot_place.ensures.some))

pub returns-in-None : goal.returns-in-None
returns-in-None c =
    of_none c.args.operator.now (none_in _ c.slot_place.result c.in-None.is c.slot_place.ensures.none)
