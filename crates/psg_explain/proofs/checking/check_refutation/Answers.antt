use Rattle.std.proofs.Common.{◌↔◌, sym, subst}
use Rattle.psg_grammar.specs.declared.types.Definition.{Definition}
use Rattle.psg_grammar.specs.declared.types.Kind.{Kind}
use Rattle.psg_grammar.specs.Fragments.{Fragment}
use Rattle.psg_grammar.specs.Legal.{IsCompletable}
use Rattle.psg_grammar.specs.Open.{IsOpen}
use Rattle.psg_grammar.specs.WellFormed.{WellFormed}
use Rattle.psg_grammar.specs.Sound.{IsSound}
use Rattle.psg_specimen.specs.Refusal.{IsAccepted}
use Rattle.psg_explain.proofs.Theorem.{theorem}
use Rattle.psg_explain.proofs.checking.check_refutation.Goals as goal

pub promises-requires-clause-sound : goal.promises-requires-clause-sound
promises-requires-clause-sound c = subst IsSound (sym c.definition-definition.ensures.same) c.definition-definition.ensures.sound

pub promises-requires-clause-accepted : goal.promises-requires-clause-accepted
promises-requires-clause-accepted c = subst IsAccepted (sym c.definition-definition.ensures.same) c.definition-definition.ensures.accepted

pub returns-clause-wrong : goal.returns-clause-wrong
returns-clause-wrong c = λ t completable.
    let (kind, formed) = c.requires in
    let exact = subst (λ (d : Definition). (f : Fragment) (kind : Kind) → WellFormed d f kind → IsOpen d f ↔ IsCompletable d f) c.definition-definition.ensures.same c.promises.ensures.completions in
    theorem c.args.lang.now c.definition-definition.ensures.sound c.args.tree.now kind c.args.refutation.now formed (c.in_ok-right.ensures.0 t) ((exact c.args.tree.now kind formed).1 completable)
