use Rattle.std.proofs.Common.{ap, length, ◌∙◌}
use Rattle.psg_layout.proofs.SheetLaws.{count_extents, marks_are}
use Rattle.psg_layout.proofs.sheet.Sheet.stop.Goals as goal

pub returns : goal.returns
returns c = λ k h. record {
  bytes = c.len.ensures ∙ c.args.self.now.out.bytes.ok.0 ∙ ap length h.bytes;
  tokens = c.len-2.ensures ∙ c.args.self.now.tokens.ok.0 ∙ ap length h.tokens ∙ count_extents 0 k.page.puts;
  line = h.line;
  marks = marks_are c.args.self.now.marks k.page.before h.marks;
}
