use Rattle.std.proofs.Common.{sym, subst}
use Rattle.std.proofs.lemmas.Result.{IfOk-weaker}
use Rattle.psg_class.specs.Texts.{tokens_of}
use Rattle.psg_parse.specs.States.{IsMode, Steps}
use Rattle.psg_parse.specs.declared.state.Mode.TheVariants as modes
use Rattle.psg_parse.proofs.advance.advance.Goals as goal

pub returns-in-Start-clause-leads : goal.returns-in-Start-clause-leads
returns-in-Start-clause-leads c =
    let def = c.args.definition.now in
    let ts = tokens_of c.args.state.rest.now in
    IfOk-weaker c.start.result _ _ (λ s k aim st h.
    let m : IsMode (modes.Start c.in-Start.phylum c.in-Start.least) aim = subst (λ m. IsMode m aim) c.in-Start.is h.mode in
    subst (λ a. Steps def a st ts s) (sym m) (k st h.stack)) c.start.ensures.leads

pub returns-in-List-clause-leads : goal.returns-in-List-clause-leads
returns-in-List-clause-leads c =
    let def = c.args.definition.now in
    let ts = tokens_of c.args.state.rest.now in
    IfOk-weaker c.list.result _ _ (λ s k aim st h.
    let m : IsMode (modes.List c.in-List.kind) aim = subst (λ m. IsMode m aim) c.in-List.is h.mode in
    subst (λ a. Steps def a st ts s) (sym m) (k st h.stack)) c.list.ensures.leads

pub returns-in-Grow-clause-leads : goal.returns-in-Grow-clause-leads
returns-in-Grow-clause-leads c =
    let def = c.args.definition.now in
    let ts = tokens_of c.args.state.rest.now in
    IfOk-weaker c.grow.result _ _ (λ s k aim st h.
    let m : IsMode (modes.Grow c.in-Grow.phylum c.in-Grow.least c.in-Grow.tree c.in-Grow.level) aim = subst (λ m. IsMode m aim) c.in-Grow.is h.mode in
    let (f, n, is, e) = m in
    subst (λ a. Steps def a st ts s) (sym e) (k st f n h.stack is)) c.grow.ensures.leads

pub returns-in-Parts-clause-leads : goal.returns-in-Parts-clause-leads
returns-in-Parts-clause-leads c =
    let def = c.args.definition.now in
    let ts = tokens_of c.args.state.rest.now in
    IfOk-weaker c.parts.result _ _ (λ s k aim st h.
    let m : IsMode (modes.Parts c.in-Parts.operator c.in-Parts.built c.in-Parts.more) aim = subst (λ m. IsMode m aim) c.in-Parts.is h.mode in
    let (f, n, is, e) = m in
    subst (λ a. Steps def a st ts s) (sym e) (k st f n h.stack is)) c.parts.ensures.leads

pub returns-in-Give-clause-leads : goal.returns-in-Give-clause-leads
returns-in-Give-clause-leads c =
    let def = c.args.definition.now in
    let ts = tokens_of c.args.state.rest.now in
    IfOk-weaker c.give.result _ _ (λ s k aim st h.
    let m : IsMode (modes.Give c.in-Give.tree) aim = subst (λ m. IsMode m aim) c.in-Give.is h.mode in
    let (f, n, is, e) = m in
    subst (λ a. Steps def a st ts s) (sym e) (k st f n h.stack is)) c.give.ensures.leads
