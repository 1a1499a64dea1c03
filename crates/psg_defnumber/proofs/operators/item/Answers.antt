use Rattle.std.proofs.Common.{subst}
use Rattle.psg_defcheck.specs.Meanings.{KnowsItem}
use Rattle.psg_defnumber.proofs.LineLaws.{slot-item, refers-item, declares-item}
use Rattle.psg_defnumber.proofs.NamedLaws.{kind-is, space-is}
use Rattle.psg_defnumber.proofs.operators.item.Goals as goal

pub kind_named-kind-requires : goal.kind_named-kind-requires
kind_named-kind-requires c = subst (KnowsItem c.args.checked.now) c.in-Slot.is c.requires.known

pub space_named-space-requires : goal.space_named-space-requires
space_named-space-requires c = subst (KnowsItem c.args.checked.now) c.in-Refers.is c.requires.known

pub space_named-space-requires-in-Declares : goal.space_named-space-requires-in-Declares
space_named-space-requires-in-Declares c = subst (KnowsItem c.args.checked.now) c.in-Declares.is c.requires.known

pub returns-in-Slot : goal.returns-in-Slot
returns-in-Slot c =
    slot-item c.args.definition.now c.args.part.now c.in-Slot.name c.kind_named-kind.result c.in-Slot.is
    (kind-is c.args.checked.now c.kind_named-kind.result c.in-Slot.name c.kind_named-kind.ensures c.args.definition.now c.requires.kinds)

pub returns-in-Refers : goal.returns-in-Refers
returns-in-Refers c =
    refers-item c.args.definition.now c.args.part.now c.in-Refers.name c.space_named-space.result c.in-Refers.is
    (space-is c.args.checked.now c.space_named-space.result c.in-Refers.name c.space_named-space.ensures c.args.definition.now c.requires.kinds)

pub returns-in-Declares : goal.returns-in-Declares
returns-in-Declares c =
    declares-item c.args.definition.now c.args.part.now c.in-Declares.name c.space_named-space-in-Declares.result c.in-Declares.is
    (space-is c.args.checked.now c.space_named-space-in-Declares.result c.in-Declares.name c.space_named-space-in-Declares.ensures c.args.definition.now c.requires.kinds)
