use Rattle.std.proofs.Common.{refl, ap, ◌∙◌, ◌∷◌, ◌++◌}
use Rattle.std.specs.Option.{unwrap_or}
use Rattle.std.proofs.lemmas.List.{length-set}
use Rattle.psg_unparse.proofs.Printing.{span_closed}
use Rattle.psg_unparse.proofs.nodes.Printer.close.Goals as goal

pub returns : goal.returns
returns c = record {
  writer = ap (λ f. record c.args.self.now.writer { first = f }) c.or-self.ensures;
  path = refl;
  long = length-set c.args.self.now.spans.items c.args.place _;
  spans = λ front back s e l.
      span_closed c.args.self.now.spans.items front back s c.index_mut-span.result.now c.args.place c.unwrap_or-span.result c.len-end.result c.args.self.now.writer.first c.index_mut-span.ensures.value c.unwrap_or-span.ensures e l
      ∙ ap (λ n. front ++ record { path = s.path; start = unwrap_or c.args.self.now.writer.first s.start; end = n } ∷ back) (c.len-end.ensures ∙ c.args.self.now.writer.out.bytes.ok.0);
}
