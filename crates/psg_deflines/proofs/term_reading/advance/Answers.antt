use Rattle.std.proofs.Common.{sym, subst}
use Rattle.std.proofs.lemmas.Result.{IfOk-weaker}
use Rattle.std.specs.Prelude.{IfOk}
use Rattle.psg_deflines.specs.Parts.{texts}
use Rattle.psg_deflines.specs.TermWalks.{IsAdvanced, IsWalk, is_deep, Stage}
use Rattle.psg_deflines.specs.declared.term_reading.Walk.TheVariants as walks
use Rattle.psg_deflines.proofs.TermFound.{advance-expects, advance-has}
use Rattle.psg_deflines.proofs.term_reading.advance.Goals as goal

pub returns-in-Expects : goal.returns-in-Expects
returns-in-Expects c =
    subst (λ walk. IfOk c.begin.result (λ o. (s : Stage) → IsWalk walk s → IsAdvanced s (is_deep walk) (texts c.args.parts.now) o)) (sym c.in-Expects.is)
    (IfOk-weaker c.begin.result _ (λ o. (s : Stage) → IsWalk (walks.Expects c.in-Expects.brackets) s → IsAdvanced s c.in-Expects.brackets.deep (texts c.args.parts.now) o)
    (λ o h s. advance-expects c.in-Expects.brackets s (texts c.args.parts.now) o h) c.begin.ensures)

pub returns-in-Has : goal.returns-in-Has
returns-in-Has c =
    subst (λ walk. IfOk c.go_on.result (λ o. (s : Stage) → IsWalk walk s → IsAdvanced s (is_deep walk) (texts c.args.parts.now) o)) (sym c.in-Has.is)
    (IfOk-weaker c.go_on.result _ (λ o. (s : Stage) → IsWalk (walks.Has c.in-Has.brackets c.in-Has.term) s → IsAdvanced s c.in-Has.brackets.deep (texts c.args.parts.now) o)
    (λ o h s. advance-has c.in-Has.brackets c.in-Has.term s (texts c.args.parts.now) o h) c.go_on.ensures)
