use Rattle.std.proofs.Common.{ap, ◌∙◌, arith}
use Rattle.psg_deflines.specs.Parts.{texts}
use Rattle.psg_deflines.proofs.TermFound.{texts-drop, texts-length}
use Rattle.psg_deflines.proofs.places.rest_behind.Goals as goal

pub split_at-requires : goal.split_at-requires
split_at-requires c = omega (arith, texts-length c.args.parts.now)

pub returns : goal.returns
returns c = ap texts c.split_at.ensures.back ∙ texts-drop c.args.parts.now c.args.taken
