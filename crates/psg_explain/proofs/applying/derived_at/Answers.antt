use Rattle.std.proofs.Common.{List, Some, slice_get, sym, ap, subst, ◌∙◌}
use Rattle.psg_terms.proofs.Lists.{got_none, got_some}
use Rattle.psg_explain.specs.Equations.{Derives, Equation}
use Rattle.psg_explain.proofs.UnderLaws.{match_some, no_number}
use Rattle.psg_explain.proofs.applying.derived_at.Goals as goal

pub returns-in_default-get : goal.returns-in_default-get
returns-in_default-get c =
    let d : Derives c.args.case.now.given c.args.rules.now c.in-Some.all.items = subst (λ l. Derives l c.args.rules.now c.in-Some.all.items) c.as_slice-given.ensures
    (match_some c.in_ok-derived.derived c.in-Some.all c.in-Some.is ((all : List Equation) → Derives c.as_slice-given.result.now c.args.rules.now all → ⊥)
    (λ v. Derives c.as_slice-given.result.now c.args.rules.now v.items) c.in_ok-derived.ensures) in
    no_number c.args.case.now.given c.args.rules.now c.args.number c.in-Some.all.items d
    (ap (λ l. slice_get l c.args.number) (sym c.as_slice-equations.ensures.value) ∙ got_none c.as_slice-equations.result.now c.args.number c.get.result c.get.ensures.lookup c.in_default-get.is)

pub returns : goal.returns
returns c =
    let d : Derives c.args.case.now.given c.args.rules.now c.in-Some.all.items = subst (λ l. Derives l c.args.rules.now c.in-Some.all.items) c.as_slice-given.ensures
    (match_some c.in_ok-derived.derived c.in-Some.all c.in-Some.is ((all : List Equation) → Derives c.as_slice-given.result.now c.args.rules.now all → ⊥)
    (λ v. Derives c.as_slice-given.result.now c.args.rules.now v.items) c.in_ok-derived.ensures) in (
      c.in-Some.all.items,
      d,
      ap (λ l. slice_get l c.args.number) (sym c.as_slice-equations.ensures.value)
          ∙ got_some c.as_slice-equations.result.now c.args.number c.get.result c.in-Some-get.equation c.get.ensures.lookup c.in-Some-get.is ∙ ap Some (sym c.in_ok-copy.ensures),
    )
