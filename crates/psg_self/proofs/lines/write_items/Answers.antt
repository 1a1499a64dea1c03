use Rattle.std.proofs.Common.{◌∷◌, string_bytes, arith}
use Rattle.psg_deflines.specs.Forms.{item_part}
use Rattle.psg_self.specs.SelfLines.{item_of}
use Rattle.psg_self.proofs.Writes.{piece-more, piece-end}
use Rattle.psg_self.proofs.LineWrites.{spaced-piece}
use Rattle.psg_self.proofs.lines.write_items.Goals as goal

pub loop-i-preserved : goal.loop-i-preserved
loop-i-preserved c =
    piece-more (λ x. 32 ∷ item_part (item_of x)) c.args.items.now c.loop-i.i c.index-items-i.result _ (string_bytes c.loop-i.out)
    (string_bytes c.write_item.new.out) c.loop-i-test.true c.index-items-i.is c.loop-i.invariant
    (spaced-piece (string_bytes c.loop-i.out) (string_bytes c.push_str.new.self) (string_bytes c.write_item.new.out) _
    c.in_ok-push_str.ensures.bytes c.in_ok-write_item.ensures)

pub returns : goal.returns
returns c =
    piece-end (λ x. 32 ∷ item_part (item_of x)) c.args.items.now c.loop-i.i _ (string_bytes c.loop-i.out) (omega (arith, c.loop-i-test.false))
    c.loop-i.invariant
