use Rattle.std.proofs.Common.{ℕ, List, ap₂, ◌∙◌}
use Rattle.psg_unparse.specs.declared.spans.Span.{Span}
use Rattle.psg_unparse.specs.declared.spans.Printed.{Printed}
use Rattle.psg_unparse.proofs.PrintedTree.{printed_reads_back}
use Rattle.psg_unparse.proofs.NodesBack.{nodes_read_back}
use Rattle.psg_unparse.proofs.nodes.unparse.Goals as goal

pub returns : goal.returns
returns c =
    let made : List ℕ → List Span → Printed = λ t s. record { text = t; spans = s } in
    record {
      printed = ap₂ made (c.in_ok-text.ensures ∙ c.in_ok-writer.ensures.written.bytes) (c.of-2.ensures ∙ c.in_ok-writer.ensures.spans);
      back = λ class words. printed_reads_back c.args.definition.now c.requires.sound words class c.args.tree.now;
      spans = λ class words. nodes_read_back c.args.definition.now c.requires.sound words class c.args.tree.now;
    }
