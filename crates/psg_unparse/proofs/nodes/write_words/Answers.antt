use Rattle.std.proofs.Common.{sym, ◌∙◌}
use Rattle.psg_unparse.proofs.Items.{left-item}
use Rattle.psg_unparse.proofs.nodes.write_words.Goals as goal

pub loop-item-preserved : goal.loop-item-preserved
loop-item-preserved c =
    left-item c.args.items.now c.loop-item.rest.now c.in-Some.item.now c.in-Some.behind.now c.args.writer.now c.loop-item.writer c.put_item.new.self
    c.loop-item.invariant c.in-Some.ensures.cases.0 (sym c.is_part.ensures ∙ c.if-is_part.false) c.in_ok-put_item.ensures
