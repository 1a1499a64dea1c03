use Rattle.std.proofs.Common.{ap, sym, subst, ◌∙◌}
use Rattle.std.specs.Prelude.{MatchOption}
use Rattle.std.specs.Option.{option_copied}
use Rattle.psg_cache.specs.Annotated.{tree_in}
use Rattle.psg_grammar.specs.WellFormed.{WellFormed}
use Rattle.psg_textedit.proofs.TypedNode.{cuts_none}
use Rattle.psg_unparse.specs.Splicing.{IsSpliceable, IsSplicing}
use Rattle.psg_unparse.specs.Spans.{printed_of}
use Rattle.psg_session.specs.Sessions.{plain}
use Rattle.psg_session.proofs.Printouts.{is_printed, planned_by}
use Rattle.psg_session.proofs.StepLaws.{opened_plain}
use Rattle.psg_session.proofs.printout.planned_text.Goals as goal

pub spliced-requires-clause-formed : goal.spliced-requires-clause-formed
spliced-requires-clause-formed c = (
  c.in-Some.held.kind,
  subst (λ f. WellFormed c.args.language.now.definition f c.in-Some.held.kind) (sym c.tree-tree.ensures)
      (c.requires.formed.opened (plain c.in-Some.held)
      (opened_plain c.args.language.now.definition c.args.editor.now c.in-Some.held c.in-Some.is)),
)

pub spliced-requires-clause-printed : goal.spliced-requires-clause-printed
spliced-requires-clause-printed c =
    is_printed c.args.language.now.definition c.args.editor.now c.in-Some.held c.in-Some.is
    (option_copied c.args.printed) c.requires.printed c.in-Some-printed.before.now
    (ap option_copied c.in-Some-printed.is)
    ∙ ap (printed_of c.args.language.now.definition) (sym c.tree-tree.ensures)

pub spliced-requires-clause-cuts : goal.spliced-requires-clause-cuts
spliced-requires-clause-cuts c =
    cuts_none c.args.language.now.definition c.requires.language.sound c.requires.language.tokens
    c.requires.language.accepted.of_class (tree_in c.in-Some.held.note) c.in-Some.held.kind
    (c.requires.formed.printable.opened (plain c.in-Some.held)
    (opened_plain c.args.language.now.definition c.args.editor.now c.in-Some.held c.in-Some.is))
    (c.requires.formed.opened (plain c.in-Some.held)
    (opened_plain c.args.language.now.definition c.args.editor.now c.in-Some.held c.in-Some.is))
    c.in-Some-printed.before.now
    (is_printed c.args.language.now.definition c.args.editor.now c.in-Some.held c.in-Some.is
    (option_copied c.args.printed) c.requires.printed c.in-Some-printed.before.now
    (ap option_copied c.in-Some-printed.is))

pub returns : goal.returns
returns c =
    planned_by c.args.language.now.definition c.args.editor.now c.args.plan.now c.in-Some.held c.in-Ok.made
    c.in-Put.at c.in-Put.new c.in_ok-text.text c.in-Some.is c.in-Ok.is c.in-Put.is
    (subst (λ f. MatchOption c.in_ok-text.text (IsSpliceable c.args.language.now.definition f c.in-Put.at c.in-Put.new → ⊥)
    (IsSplicing c.args.language.now.definition f c.in-Put.at c.in-Put.new)) c.tree-tree.ensures c.in_ok-text.ensures)
