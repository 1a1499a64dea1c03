use Rattle.std.proofs.Common.{drop}
use Rattle.psg_deflines.specs.Parts.{texts}
use Rattle.psg_deflines.specs.FormReads.{AreItemParts}
use Rattle.psg_deflines.proofs.Stages.{IsReadTo}
use Rattle.psg_deflines.proofs.items.line_items.Given as goal

abbrev pub invariant-loop-part : goal.invariant-loop-part
invariant-loop-part l = IsReadTo AreItemParts (texts l.parts) l.items.items (drop l.part-index (texts l.parts))
