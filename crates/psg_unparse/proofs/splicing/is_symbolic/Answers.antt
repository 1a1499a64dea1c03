use Rattle.std.proofs.Common.{◌∙◌}
use Rattle.psg_unparse.proofs.Adding.{glues_tells}
use Rattle.psg_unparse.proofs.SpliceSteps.{glue_symbol}
use Rattle.psg_unparse.proofs.splicing.is_symbolic.Goals as goal

pub returns : goal.returns
returns c = glues_tells _ _ _ c.glues.ensures.glue ∙ glue_symbol c.args.c
