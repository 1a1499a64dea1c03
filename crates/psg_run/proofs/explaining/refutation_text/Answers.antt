use Rattle.std.proofs.Common.{sym, ◌∙◌, ap, subst}
use Rattle.psg_explain.specs.declared.refutation.Refutation.TheVariants as refutations
use Rattle.psg_explain.specs.LastReasons.{AreLastReasons}
use Rattle.psg_grammar.specs.Sound.{IsSound}
use Rattle.psg_specimen.specs.Refusal.{IsAccepted}
use Rattle.psg_run.proofs.Saying.{Completes, culprit_said, culprit_there, own_claims, some_claims, twice_said}
use Rattle.psg_run.proofs.explaining.refutation_text.Goals as goal

pub promises-requires-clause-sound : goal.promises-requires-clause-sound
promises-requires-clause-sound c = subst IsSound (sym c.definition-definition.ensures.same) c.definition-definition.ensures.sound

pub promises-requires-clause-accepted : goal.promises-requires-clause-accepted
promises-requires-clause-accepted c = subst IsAccepted (sym c.definition-definition.ensures.same) c.definition-definition.ensures.accepted

pub returns-in-Twice : goal.returns-in-Twice
returns-in-Twice c =
    twice_said c.args.language.now c.args.tree.now c.args.refutation.now c.in-Twice.path c.in-Twice.space c.as_str.result.now
    (c.in-Twice.is ∙ ap (λ name. refutations.Twice c.in-Twice.path c.in-Twice.space name) (sym c.as_str.ensures))
    c.definition-definition.result.now c.definition-definition.ensures.same c.twice_text.result c.twice_text.ensures

pub culprit_text-requires-clause-there : goal.culprit_text-requires-clause-there
culprit_text-requires-clause-there c =
    culprit_there c.args.language.now c.args.tree.now c.args.refutation.now c.in-Empty.path c.in-Empty.claims c.in-Empty.is c.requires.right

pub culprit_text-requires-clause-some : goal.culprit_text-requires-clause-some
culprit_text-requires-clause-some c = λ none.
    some_claims c.args.language.now c.args.tree.now c.claims_in_order.ensures c.requires.formed c.args.refutation.now c.in-Empty.path c.in-Empty.claims c.in-Empty.is
    c.requires.right (sym c.as_slice-claims.ensures ∙ none)

pub culprit_text-requires-clause-own : goal.culprit_text-requires-clause-own
culprit_text-requires-clause-own c = λ front last split.
    let (path, node, culprit, about) = c.requires.about in
    own_claims c.args.language.now c.args.tree.now c.claims_in_order.ensures c.ends_at_culprit.ensures c.definition-definition.ensures.sound
    (subst Completes c.definition-definition.ensures.same c.promises.ensures.completions) c.requires.formed c.args.refutation.now c.in-Empty.path c.in-Empty.claims c.in-Empty.is
    c.requires.right path node culprit about front last (sym c.as_slice-claims.ensures ∙ split)

pub returns : goal.returns
returns c =
    culprit_said c.args.language.now c.args.tree.now c.args.refutation.now c.in-Empty.path c.as_slice-claims.result.now c.as_slice.result.now
    (c.in-Empty.is ∙ ap (λ claims. refutations.Empty c.in-Empty.path claims) (sym c.as_slice-claims.ensures))
    (subst (λ told. AreLastReasons c.args.language.now c.args.tree.now c.args.refutation.now told) (sym c.as_slice.ensures.value) c.in_ok-told.ensures)
    c.definition-definition.result.now c.definition-definition.ensures.same c.culprit_text.result c.culprit_text.ensures
