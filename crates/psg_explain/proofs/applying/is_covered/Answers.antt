use Rattle.std.proofs.Common.{List, sym, ap, ap₂, subst}
use Rattle.psg_terms.specs.Terms.{Term}
use Rattle.psg_explain.specs.Equations.{Derives, Equation}
use Rattle.psg_explain.specs.Verdicts.{AreMade, Rewrites}
use Rattle.psg_explain.proofs.UnderLaws.{made_by, match_none, match_some, unmade, unrewritten}
use Rattle.psg_explain.proofs.applying.is_covered.Goals as goal

pub returns-in_default-changed : goal.returns-in_default-changed
returns-in_default-changed c =
    let d : Derives c.args.case.now.given c.args.rules.now c.in-Some.all.items = subst (λ l. Derives l c.args.rules.now c.in-Some.all.items) c.as_slice-given.ensures
    (match_some c.in_ok-derived.derived c.in-Some.all c.in-Some.is ((all : List Equation) → Derives c.as_slice-given.result.now c.args.rules.now all → ⊥)
    (λ v. Derives c.as_slice-given.result.now c.args.rules.now v.items) c.in_ok-derived.ensures) in
    let none : ((made : List Term) → Rewrites c.as_slice-equations.result.now c.args.bindings.now c.as_slice-columns.result.now made → ⊥) = match_none c.in_ok-changed.changed c.in_default-changed.is ((made : List Term) → Rewrites c.as_slice-equations.result.now c.args.bindings.now c.as_slice-columns.result.now made → ⊥) (λ v. Rewrites c.as_slice-equations.result.now c.args.bindings.now c.as_slice-columns.result.now v.items) c.in_ok-changed.ensures in
    unmade (unrewritten c.args.case.now.given c.args.rules.now c.args.case.now.columns c.args.row.now c.args.bindings.now c.args.values.now c.in-Some.all.items d
    (λ made h. none made (subst (λ P. P) (ap₂ (λ l m. Rewrites l c.args.bindings.now m made) (sym c.as_slice-equations.ensures.value) (sym c.as_slice-columns.ensures)) h)))

pub returns : goal.returns
returns c =
    let d : Derives c.args.case.now.given c.args.rules.now c.in-Some.all.items = subst (λ l. Derives l c.args.rules.now c.in-Some.all.items) c.as_slice-given.ensures
    (match_some c.in_ok-derived.derived c.in-Some.all c.in-Some.is ((all : List Equation) → Derives c.as_slice-given.result.now c.args.rules.now all → ⊥)
    (λ v. Derives c.as_slice-given.result.now c.args.rules.now v.items) c.in_ok-derived.ensures) in
    let r : Rewrites c.in-Some.all.items c.args.bindings.now c.args.case.now.columns c.in-Some-changed.made.items =
    subst (λ P. P) (ap₂ (λ l m. Rewrites l c.args.bindings.now m c.in-Some-changed.made.items) c.as_slice-equations.ensures.value c.as_slice-columns.ensures)
    (match_some c.in_ok-changed.changed c.in-Some-changed.made c.in-Some-changed.is ((made : List Term) → Rewrites c.as_slice-equations.result.now c.args.bindings.now c.as_slice-columns.result.now made → ⊥) (λ v. Rewrites c.as_slice-equations.result.now c.args.bindings.now c.as_slice-columns.result.now v.items) c.in_ok-changed.ensures) in
    let (on, back) = made_by c.args.case.now.given c.args.rules.now c.args.case.now.columns c.args.row.now c.args.bindings.now c.args.values.now c.in-Some.all.items d c.in-Some-changed.made.items r in
    let (says, of) = c.in_ok-met.ensures in
    let same = ap (AreMade c.args.values.now c.args.row.now) c.as_slice-terms.ensures.value in
    ((λ h. on (subst (λ P. P) same (says h))), (λ h. of (subst (λ P. P) (sym same) (back h))))
