use Rattle.std.proofs.Common.{Some, ap, sym, subst, ◌∙◌}
use Rattle.std.specs.Bool.{Decides}
use Rattle.psg_layout.specs.Layouts.{HasItem, op_of}
use Rattle.psg_layout.specs.Rules.{said}
use Rattle.psg_layout.proofs.ReadLaws.{item_decided}
use Rattle.psg_layout.proofs.reading.has_item.Goals as goal

pub returns-in-Break : goal.returns-in-Break
returns-in-Break c =
    subst (λ x. Decides c.is_item.result (HasItem c.args.definition.now (said x))) (sym c.in-Break.is)
    (item_decided c.args.definition.now c.requires.sound c.args.op c.in-Break.field-0.now c.in-Break.place c.items_of.result c.is_item.result
    (c.requires.named ∙ ap (λ x. Some (op_of (said x))) c.in-Break.is) c.items_of.ensures c.is_item.ensures)
