use Rattle.std.proofs.Common.{ap₂, ◌∙◌}
use Rattle.psg_eval.specs.declared.frame.Frame.TheVariants as frames
use Rattle.psg_cache.proofs.framing.operator_frame.Goals as goal

pub returns : goal.returns
returns c = ap₂ (λ a b. frames.Op c.args.op a b c.args.number) (c.of.ensures ∙ c.in_ok-names.ensures) (c.of-2.ensures ∙ c.in_ok-children.ensures)
