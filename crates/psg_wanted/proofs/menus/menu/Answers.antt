use Rattle.std.proofs.Common.{List, ℕ, sym, subst, ◌∙◌}
use Rattle.std.specs.List.{AllByRecursion}
use Rattle.psg_menu.proofs.MenuLaws.{CanStand, all_climb}
use Rattle.psg_wanted.proofs.ListedLaws.{Lists}
use Rattle.psg_wanted.proofs.menus.menu.Goals as goal

pub listed-requires-clause-operators : goal.listed-requires-clause-operators
listed-requires-clause-operators g c =
    let def = c.args.definition.now in
    subst (AllByRecursion (CanStand def c.args.frames.now)) (sym (c.as_slice-each.ensures.value ∙ c.in_ok-ops.ensures))
    (all_climb def c.args.frames.now c.args.phylum c.requires.frames)

pub returns : goal.returns
returns g c =
    subst (λ (ops : List ℕ). Lists c.args.definition.now c.args.frames.now c.args.used.now ops c.in_ok-found.found.items)
    (c.as_slice-each.ensures.value ∙ c.in_ok-ops.ensures) c.in_ok-found.ensures
