use Rattle.std.proofs.Common.{◌++◌, length, sym, ap, ◌∙◌, subst}
use Rattle.std.specs.Prelude.{replicate}
use Rattle.psg_keeping.specs.declared.pairing.Step.TheVariants as steps
use Rattle.psg_keeping.specs.Pairing.{ArePairs}
use Rattle.psg_keeping.proofs.PairLaws.{all_alone}
use Rattle.psg_keeping.proofs.rows.unpaired.Goals as goal

pub returns-clause-pairs : goal.returns-clause-pairs
returns-clause-pairs c =
    let old = c.args.old.now in
    let new = c.args.new.now in
    subst (λ l. ArePairs old new l)
    (sym (c.in_ok-push_steps-2.ensures ∙ ap (λ l. l ++ replicate (length new) steps.New)
    (c.in_ok-push_steps.ensures ∙ ap (λ l. l ++ replicate (length old) steps.Old) c.new-steps.ensures.items)))
    (all_alone old new)

pub returns-clause-alone : goal.returns-clause-alone
returns-clause-alone c =
    c.in_ok-push_steps-2.ensures ∙ ap (λ l. l ++ replicate (length c.args.new.now) steps.New)
    (c.in_ok-push_steps.ensures ∙ ap (λ l. l ++ replicate (length c.args.old.now) steps.Old) c.new-steps.ensures.items)
