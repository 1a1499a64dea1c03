use Rattle.psg_class.specs.Sources.{Adds, AtShape, Below, ShapeFact, ShapeLink}
use Rattle.psg_class.proofs.sources.sets.Given as goal

abbrev pub invariant-loop-shape : goal.invariant-loop-shape
invariant-loop-shape l = Adds (Below (AtShape (ShapeFact l.rows) l.shapes) l.shape-index) (Below (AtShape (ShapeLink l.rows) l.shapes) l.shape-index) l.initial.draft l.draft
