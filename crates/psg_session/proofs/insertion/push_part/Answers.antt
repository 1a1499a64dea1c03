use Rattle.std.proofs.Common.{sym, ◌∙◌, subst}
use Rattle.psg_terms.proofs.Lists.{got_some, got_none}
use Rattle.psg_grammar.specs.Kinds.{HasSlotKind}
use Rattle.psg_session.proofs.Filling.{slot_filled, other_filled, none_filled, leaf_filled}
use Rattle.psg_session.proofs.insertion.push_part.Goals as goal

pub blank-requires : goal.blank-requires
blank-requires c = subst (HasSlotKind c.args.definition.now) c.in-Slot.is c.requires

pub returns-in-Slot : goal.returns-in-Slot
returns-in-Slot c = λ f rest.
    slot_filled c.args.definition.now f c.args.parts.now.items _ c.args.item.now c.in-Slot.kind c.in_ok-child.child _
    c.in-Slot.is c.in_ok-child.ensures c.in_ok-push.ensures.items rest

pub returns-then-not-takes_leaf : goal.returns-then-not-takes_leaf
returns-then-not-takes_leaf c =
    λ f rest. other_filled c.args.definition.now f c.args.parts.now.items c.args.item.now _ c.in_default.not-Slot
    (sym c.takes_leaf.ensures ∙ c.if-not-takes_leaf.true) rest

pub returns-in-None : goal.returns-in-None
returns-in-None c = λ f rest.
    none_filled c.args.definition.now f c.args.parts.now.items c.args.item.now c.args.leaves.now c.args.at
    (sym c.takes_leaf.ensures ∙ c.if-not-takes_leaf.false)
    (got_none c.args.leaves.now c.args.at c.get.result c.get.ensures.lookup c.in-None.is) rest

pub returns-in_ok-push-in-Some : goal.returns-in_ok-push-in-Some
returns-in_ok-push-in-Some c = λ f rest.
    leaf_filled c.args.definition.now f c.args.parts.now.items _ c.in_ok-part-in-Some.part c.args.item.now
    c.args.leaves.now c.args.at c.in-Some.leaf.now (sym c.takes_leaf.ensures ∙ c.if-not-takes_leaf.false)
    (got_some c.args.leaves.now c.args.at c.get.result c.in-Some.leaf c.get.ensures.lookup c.in-Some.is)
    c.in_ok-part-in-Some.ensures c.in_ok-push-in-Some.ensures.items rest
