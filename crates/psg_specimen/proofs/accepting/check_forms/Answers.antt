use Rattle.std.proofs.Common.{inr, ◌^◌, subst, arith}
use Rattle.std.specs.Prelude.{IfSome}
use Rattle.psg_grammar.specs.Kinds.{HasKind}
use Rattle.psg_grammar.proofs.SoundParts.{operator_sound}
use Rattle.psg_specimen.specs.Conditions.{HasRow, IsBare, IsQuietSlot}
use Rattle.psg_specimen.specs.Walks.{FindsKind, FindsTwo}
use Rattle.psg_specimen.proofs.InRange.{inside, loud_operator, loud_slot}
use Rattle.psg_specimen.proofs.accepting.check_forms.Goals as goal

pub returns-in-Some-clause-refusal : goal.returns-in-Some-clause-refusal
returns-in-Some-clause-refusal c = inr ((c.requires.class, c.in-Some.ensures), inside c.args.definition.now.operators IsBare c.in-Some.operator c.in-Some.ensures.0)

pub overflow_cast-result-in-Some-2 : goal.overflow_cast-result-in-Some-2
overflow_cast-result-in-Some-2 c =
    let first = subst (FindsTwo (IsQuietSlot c.args.definition.now)) c.in-Some-2.is c.in_ok-operator.ensures in
    let h = loud_operator c.args.definition.now c.in-Some-2.operator c.in-Some-2.slot first.0 in
    let k = c.requires.sound.few_operators in omega (arith, h, k)

pub overflow_cast-result-in-Some-2-2 : goal.overflow_cast-result-in-Some-2-2
overflow_cast-result-in-Some-2-2 c =
    let first = subst (FindsTwo (IsQuietSlot c.args.definition.now)) c.in-Some-2.is c.in_ok-operator.ensures in
    let h = loud_slot c.args.definition.now c.in-Some-2.operator c.in-Some-2.slot (2 ^ 32) (λ n op at. (operator_sound c.args.definition.now c.requires.sound n op at).few_items) first.0 in
    omega (arith, h)

pub returns-in-Some-2-clause-refusal : goal.returns-in-Some-2-clause-refusal
returns-in-Some-2-clause-refusal c =
    let first = subst (FindsTwo (IsQuietSlot c.args.definition.now)) c.in-Some-2.is c.in_ok-operator.ensures in
    inr ((c.requires.class, c.in_default.ensures, first), loud_operator c.args.definition.now c.in-Some-2.operator c.in-Some-2.slot first.0)

pub returns-in-Some-3-clause-refusal : goal.returns-in-Some-3-clause-refusal
returns-in-Some-3-clause-refusal c =
    let def = c.args.definition.now in
    let quiet = subst (FindsTwo (IsQuietSlot def)) c.in_default-2.is c.in_ok-operator.ensures in
    let first = subst (FindsKind (HasRow def)) c.in-Some-3.is c.in_ok-kind.ensures.first in
    inr ((c.requires.class, (c.in_default.ensures, quiet), first), subst (λ o. IfSome o (HasKind def)) c.in-Some-3.is c.in_ok-kind.ensures.kind)
