use Rattle.std.proofs.Common.{sym, subst}
use Rattle.std.proofs.lemmas.Result.{IfOk-weaker}
use Rattle.std.specs.Prelude.{IfOk}
use Rattle.psg_deflines.specs.Parts.{texts}
use Rattle.psg_deflines.specs.TreeWalks.{TreeStage}
use Rattle.psg_deflines.specs.TreeStages.{IsTreeWalk, is_deep, IsTreeAdvanced}
use Rattle.psg_deflines.specs.declared.tree_reading.TreeWalk.TheVariants as walks
use Rattle.psg_deflines.proofs.TreeFound.{advance-expects, advance-after}
use Rattle.psg_deflines.proofs.tree_reading.advance.Goals as goal

pub returns-in-Expects : goal.returns-in-Expects
returns-in-Expects c =
    subst (λ walk. IfOk c.begin.result (λ o. (s : TreeStage) → IsTreeWalk walk s → IsTreeAdvanced s (is_deep walk) (texts c.args.parts.now) o)) (sym c.in-Expects.is)
    (IfOk-weaker c.begin.result _ (λ o. (s : TreeStage) → IsTreeWalk (walks.Expects c.in-Expects.trees) s → IsTreeAdvanced s c.in-Expects.trees.deep (texts c.args.parts.now) o)
    (λ o h s. advance-expects c.in-Expects.trees s (texts c.args.parts.now) o h) c.begin.ensures)

pub returns-in-After : goal.returns-in-After
returns-in-After c =
    subst (λ walk. IfOk c.go_on.result (λ o. (s : TreeStage) → IsTreeWalk walk s → IsTreeAdvanced s (is_deep walk) (texts c.args.parts.now) o)) (sym c.in-After.is)
    (IfOk-weaker c.go_on.result _ (λ o. (s : TreeStage) → IsTreeWalk (walks.After c.in-After.trees) s → IsTreeAdvanced s c.in-After.trees.deep (texts c.args.parts.now) o)
    (λ o h s. advance-after c.in-After.trees s (texts c.args.parts.now) o h) c.go_on.ensures)
