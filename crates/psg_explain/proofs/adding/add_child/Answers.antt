use Rattle.std.proofs.Common.{List, length, ◌-◌, sym, subst, ap, arith}
use Rattle.psg_explain.specs.declared.stages.Stage.{Stage}
use Rattle.psg_explain.specs.Added.{HasStage, IsPairContent}
use Rattle.psg_explain.proofs.StepLaws.{some_stages}
use Rattle.psg_explain.proofs.adding.add_child.Goals as goal

pub overflow_sub-before : goal.overflow_sub-before
overflow_sub-before c =
    let some = some_stages c.args.stages.now.items c.requires.last in
    let same = ap length c.as_slice-all.ensures.value in
    omega (arith, some, same)

pub pair_content-requires-clause-before : goal.pair_content-requires-clause-before
pair_content-requires-clause-before c = subst (λ (l : List Stage). HasStage l (length l - 1)) (sym c.as_slice-all.ensures.value) c.requires.last

pub pair_content-requires-clause-child : goal.pair_content-requires-clause-child
pair_content-requires-clause-child c = subst (λ (l : List Stage). HasStage l c.args.child) (sym c.as_slice-all.ensures.value) c.requires.child

pub returns : goal.returns
returns c = (
  c.in_ok-content.content,
  subst (λ (l : List Stage). IsPairContent l (length l - 1) c.args.child c.in_ok-content.content) c.as_slice-all.ensures.value c.in_ok-content.ensures,
  c.in_ok-add.ensures,
)
