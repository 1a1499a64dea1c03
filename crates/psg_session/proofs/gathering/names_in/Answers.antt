use Rattle.std.proofs.Common.{◌++◌, ap, reverse, subst, sym, ◌∙◌, rules}
use Rattle.psg_renaming.specs.Occurring.{occurring}
use Rattle.psg_menu.specs.Menus.{in_byte_order}
use Rattle.psg_session.specs.Gathered.{IsFalling}
use Rattle.psg_session.proofs.NameOrder.{order_turned, sorted_falling}
use Rattle.psg_session.proofs.gathering.names_in.Goals as goal

pub each_once-requires : goal.each_once-requires
each_once-requires c =
    subst IsFalling (sym c.as_slice.ensures.value)
    (sorted_falling c.sort_by.new.self.items c.in_ok-sort_by.ensures.sorted (λ a r f' k. search rules))

pub returns : goal.returns
returns c =
    c.reverse.ensures.items ∙ c.in_ok-names.ensures ∙ ap (λ l. in_byte_order (reverse l)) c.as_slice.ensures.value
    ∙ order_turned _ c.sort_by.new.self.items c.in_ok-sort_by.ensures.permutation ∙ ap in_byte_order c.in_ok-gather.ensures
    ∙ ap (λ l. in_byte_order (l ++ occurring c.args.tree.now)) c.new-found.ensures.items
