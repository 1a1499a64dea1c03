use Rattle.std.proofs.Common.{◌≡◌, List, length, None, Some, refl, sym, ap, ◌∙◌, subst, slice_get, arith}
use Rattle.psg_terms.proofs.Lists.{slice_get_item}
use Rattle.psg_explain.specs.declared.refutation.Subject.{Subject}
use Rattle.psg_explain.specs.Equations.{Equation}
use Rattle.psg_explain.specs.Reached.{IsFirst}
use Rattle.psg_explain.specs.Reasons.{IsReason}
use Rattle.psg_explain.proofs.LastLaws.{reason_made}
use Rattle.psg_explain.proofs.last.reason_of.Goals as goal

pub first_failing-requires : goal.first_failing-requires
first_failing-requires c = λ h. c.requires.unsolved (subst (λ (l : List Equation). IsReason l None) c.as_slice-given.ensures h)

pub bounds-given-number : goal.bounds-given-number
bounds-given-number c = c.in_ok-first.ensures.within

pub bounds-subjects-number : goal.bounds-subjects-number
bounds-subjects-number c =
    let within = c.in_ok-first.ensures.within in
    let told = c.requires.told in
    let a : length c.as_slice-given.result.now ≡ length c.args.case.now.given = ap length c.as_slice-given.ensures in
    let b : length c.as_slice-subjects.result.now ≡ length c.args.case.now.subjects = ap length c.as_slice-subjects.ensures in
    omega (arith, within, told, a, b)

pub returns : goal.returns
returns c =
    let within = c.in_ok-first.ensures.within in
    let told = c.requires.told in
    let a : length c.as_slice-given.result.now ≡ length c.args.case.now.given = ap length c.as_slice-given.ensures in
    let b : length c.as_slice-subjects.result.now ≡ length c.args.case.now.subjects = ap length c.as_slice-subjects.ensures in
    let equation = slice_get_item c.as_slice-given.result.now c.in_ok-first.first.number c.index-given-number.result within c.index-given-number.is in
    let subject = slice_get_item c.as_slice-subjects.result.now c.in_ok-first.first.number c.index-subjects-number.result (omega (arith, within, told, a, b)) c.index-subjects-number.is in
    reason_made c.args.case.now c.in_ok-first.first c.in_ok-first.first.number c.in_ok-sides.sides c.in_ok-subject.subject (subst (λ (l : List Equation). IsFirst l c.in_ok-first.first) c.as_slice-given.ensures c.in_ok-first.ensures) refl
    (ap (λ (l : List Equation). slice_get l c.in_ok-first.first.number) (sym c.as_slice-given.ensures) ∙ equation ∙ ap Some (sym c.in_ok-sides.ensures))
    (ap (λ (l : List Subject). slice_get l c.in_ok-first.first.number) (sym c.as_slice-subjects.ensures) ∙ subject ∙ ap Some (sym c.in_ok-subject.ensures))
