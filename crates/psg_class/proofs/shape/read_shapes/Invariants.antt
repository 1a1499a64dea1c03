use Rattle.std.proofs.Common.{◌≡◌, take, map}
use Rattle.psg_class.specs.Shapes.{shape_of}
use Rattle.psg_class.proofs.shape.read_shapes.Given as goal

abbrev pub invariant-loop-operator : goal.invariant-loop-operator
invariant-loop-operator l = l.made.items ≡ map (shape_of l.vocabulary.base l.vocabulary.words.items) (take l.operator-index l.operators)
