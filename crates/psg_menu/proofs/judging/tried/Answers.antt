use Rattle.std.proofs.Common.{rules, ◌≡◌, ◌∙◌, sym, subst}
use Rattle.std.specs.Prelude.{Err, sum_by}
use Rattle.psg_eval.specs.declared.summary.SummaryParts.{SummaryParts}
use Rattle.psg_menu.specs.Trials.{IsTried}
use Rattle.psg_menu.proofs.NewTrees.{new_takes}
use Rattle.psg_menu.proofs.TrialLaws.{asked_if, silent_below, tried_above, tried_fault, tried_good}
use Rattle.psg_menu.proofs.judging.tried.Goals as goal

pub eval_op-made-requires-clause-takes : goal.eval_op-made-requires-clause-takes
eval_op-made-requires-clause-takes g c =
    let (o, found, many, blanks, can) = c.requires.operator in
    new_takes c.args.definition.now c.args.op o c.args.names.now c.args.below.now found many blanks

pub returns-in_err-own-clause-tried : goal.returns-in_err-own-clause-tried
returns-in_err-own-clause-tried g c =
    let (o, found, many, blanks, can) = c.requires.operator in
    let fault = c.in_err-own.field-0.0 in
    let d : c.from_residual.result ≡ Err fault = search rules in
    subst (IsTried c.args.definition.now c.args.frames.now c.args.op c.args.names.now) (sym d)
    (tried_fault c.args.definition.now c.args.frames.now c.args.op o found c.args.names.now c.args.below.now blanks c.eval_op-made.result fault c.eval_op-made.ensures.answer c.in_err-own.ensures)

pub judged_once-requires-clause-silent : goal.judged_once-requires-clause-silent
judged_once-requires-clause-silent g c =
    let (o, found, many, blanks, can) = c.requires.operator in
    asked_if c.eval_op-made.result c.in_ok-own.own (λ (s : SummaryParts). s.seen ≡ sum_by (λ (x : SummaryParts). x.seen) c.args.below.now) c.eval_op-made.ensures.seen c.in_ok-own.ensures
    ∙ silent_below c.args.definition.now c.args.frames.now c.args.op o found c.args.names.now c.args.below.now blanks

pub returns-in_err-good-clause-tried : goal.returns-in_err-good-clause-tried
returns-in_err-good-clause-tried g c =
    let (o, found, many, blanks, can) = c.requires.operator in
    let fault = c.in_err-good.field-0.0 in
    let d : c.from_residual-in_err-good.result ≡ Err fault = search rules in
    subst (IsTried c.args.definition.now c.args.frames.now c.args.op c.args.names.now) (sym d)
    (tried_above c.args.definition.now c.args.frames.now c.args.op o found c.args.names.now c.args.below.now blanks c.eval_op-made.result c.in_ok-own.own fault c.eval_op-made.ensures.answer
    c.in_ok-own.ensures c.in_err-good.ensures.judged)

pub returns-clause-tried : goal.returns-clause-tried
returns-clause-tried g c =
    let (o, found, many, blanks, can) = c.requires.operator in
    tried_good c.args.definition.now c.args.frames.now c.args.op o found c.args.names.now c.args.below.now blanks c.eval_op-made.result c.in_ok-own.own c.in_ok-good.good c.eval_op-made.ensures.answer
    c.in_ok-own.ensures c.in_ok-good.ensures.judged
