use Rattle.psg_unparse.proofs.Printing.{top_printed}
use Rattle.psg_unparse.proofs.nodes.print_whole.Goals as goal

pub returns : goal.returns
returns c =
    top_printed c.args.definition.now c.args.tree.now (record { writer = c.new-writer.result; path = c.new-path.result; spans = c.in_ok-spans.spans }) c.write_node.new.printer
    c.new-path.ensures.items c.in_ok-spans.ensures.items c.new-writer.ensures c.in_ok-write_node.ensures
