use Rattle.std.proofs.Common.{string_bytes, map, ◌∷◌, [], arith}
use Rattle.psg_deflines.specs.Forms.{item_part}
use Rattle.psg_deflines.proofs.LineTextLaws.{each, each-end, items-snoc}
use Rattle.psg_deflines.proofs.writing.write_items.Goals as goal

pub loop-i-preserved : goal.loop-i-preserved
loop-i-preserved c =
    each (map item_part) (item_part c.index-items-i.result ∷ []) c.args.items.now c.index-items-i.result c.loop-i.i (string_bytes c.args.out.now) (string_bytes c.loop-i.out) (string_bytes c.write_item.new.out)
    c.loop-i-test.true c.index-items-i.is (items-snoc _ c.index-items-i.result) c.loop-i.invariant c.in_ok-write_item.ensures

pub returns : goal.returns
returns c = each-end (map item_part) c.args.items.now c.loop-i.i (string_bytes c.args.out.now) (string_bytes c.loop-i.out) (omega (arith, c.loop-i-test.false)) c.loop-i.invariant
