use Rattle.std.proofs.Common.{◌++◌, ◌∷◌, [], refl, ap, ap₂, ◌∙◌}
use Rattle.psg_layout.specs.Pages.{gap_by}
use Rattle.psg_layout.specs.Sheets.{begun}
use Rattle.psg_layout.proofs.SheetLaws.{token_inked}
use Rattle.psg_layout.proofs.sheet.Sheet.put_token.Goals as goal

pub returns : goal.returns
returns c = λ k h.
    token_inked c.args.text.now c.args.self.now c.write_gap.new.self c.begin.new.self _ c.broken_gap-gap.result
    (record {
      gap_is = λ row m.
          c.broken_gap-gap.ensures
          ∙ ap (gap_by c.args.self.now.marks.last c.args.self.now.broken) (c.in_ok-plain.ensures row c.args.text.now m c.first_char-head.ensures);
      gapped_bytes = c.in_ok-write_gap.ensures.bytes;
      gapped_line = c.in_ok-write_gap.ensures.line;
      gapped_kept = c.write_gap.ensures.kept;
      begun_is = c.begin.ensures ∙ ap (λ z. begun c.broken_gap-gap.result z c.write_gap.new.self) c.first_char-head.ensures;
      bytes = c.in_ok-push_str.ensures.bytes;
      tokens =
          c.in_ok-push.ensures.items
          ∙ ap₂ (λ b e. c.begin.new.self.tokens.items ++ record { begin = b; end = e } ∷ [])
          (c.len-begin.ensures ∙ c.begin.new.self.out.bytes.ok.0) (c.len.ensures ∙ c.push_str.new.self.bytes.ok.0);
      valid = c.utf8.text;
      line = c.in_ok-put_str.ensures;
      marks = c.end.ensures c.args.text.now c.last_char.ensures;
      broken = refl;
      first = refl;
    }) k h
