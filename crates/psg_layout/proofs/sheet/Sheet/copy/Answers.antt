use Rattle.std.proofs.Common.{refl}
use Rattle.psg_layout.proofs.SheetLaws.{copy_inked}
use Rattle.psg_layout.proofs.sheet.Sheet.copy.Goals as goal

pub returns : goal.returns
returns c = λ copy o k h.
    copy_inked c.args.own c.args.self.now c.write_gap.new.self c.list_moved.new.self _ c.broken_gap-gap.result
    (record {
      gap_is = c.broken_gap-gap.ensures;
      gapped_bytes = c.in_ok-write_gap.ensures.bytes;
      gapped_line = c.in_ok-write_gap.ensures.line;
      gapped_kept = c.write_gap.ensures.kept;
      listed_tokens = c.in_ok-list_moved.ensures.tokens;
      listed_kept = c.list_moved.ensures.kept;
      bytes = c.in_ok-push_str.ensures.bytes;
      tokens = refl;
      line = c.in_ok-put_flat.ensures;
      marks = refl;
      broken = refl;
      first = refl;
    }) copy o k h
