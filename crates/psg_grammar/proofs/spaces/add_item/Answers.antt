use Rattle.std.proofs.Common.{IfOk, Contains, sym, subst}
use Rattle.psg_grammar.specs.declared.types.Item.{Item}
use Rattle.psg_grammar.specs.DeclaringTables.{Adds, HasSpace, phylum_spaces}
use Rattle.psg_grammar.proofs.spaces.add_item.Goals as goal

pub returns-in-Declares : goal.returns-in-Declares
returns-in-Declares c =
    let t = c.args.found.now.items in
    subst (λ (x : Item). IfOk c.add_space.result (λ changed. Adds t c.args.phylum (HasSpace c.args.definition.now t x) c.add_space.new.found.items changed)) (sym c.in-Declares.is) c.add_space.ensures

pub returns-in-Slot : goal.returns-in-Slot
returns-in-Slot c =
    let t = c.args.found.now.items in
    let base = subst (λ o. IfOk c.add_all.result (λ changed. Adds t c.args.phylum (Contains (phylum_spaces t o)) c.add_all.new.found.items changed)) (sym c.base_phylum-from.ensures.base) c.add_all.ensures in
    subst (λ (x : Item). IfOk c.add_all.result (λ changed. Adds t c.args.phylum (HasSpace c.args.definition.now t x) c.add_all.new.found.items changed)) (sym c.in-Slot.is) base
