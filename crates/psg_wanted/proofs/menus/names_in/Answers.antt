use Rattle.std.proofs.Common.{◌++◌, ap, ◌∙◌}
use Rattle.psg_renaming.specs.Occurring.{occurring}
use Rattle.psg_wanted.proofs.menus.names_in.Goals as goal

pub returns : goal.returns
returns c = c.in_ok-gather_tree.ensures ∙ ap (λ l. l ++ occurring c.args.tree.now) c.new-found.ensures.items
