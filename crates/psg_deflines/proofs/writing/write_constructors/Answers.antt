use Rattle.std.proofs.Common.{string_bytes, ◌∷◌, arith}
use Rattle.psg_deflines.specs.Forms.{argument_parts, constructor_parts}
use Rattle.psg_deflines.proofs.LineTextLaws.{each, each-end, constructor-snoc}
use Rattle.psg_deflines.proofs.writing.write_constructors.Goals as goal

pub loop-i-preserved : goal.loop-i-preserved
loop-i-preserved c =
    each (constructor_parts) (c.index-constructors-i.result.name ∷ argument_parts c.index-constructors-i.result.args) c.args.constructors.now c.index-constructors-i.result c.loop-i.i (string_bytes c.args.out.now) (string_bytes c.loop-i.out) (string_bytes c.write_constructor.new.out)
    c.loop-i-test.true c.index-constructors-i.is (constructor-snoc _ c.index-constructors-i.result) c.loop-i.invariant c.in_ok-write_constructor.ensures

pub returns : goal.returns
returns c = each-end (constructor_parts) c.args.constructors.now c.loop-i.i (string_bytes c.args.out.now) (string_bytes c.loop-i.out) (omega (arith, c.loop-i-test.false)) c.loop-i.invariant
