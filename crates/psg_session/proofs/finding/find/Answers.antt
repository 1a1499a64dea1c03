use Rattle.std.proofs.Common.{inr, inl, refl, sym, ap, ◌∙◌}
use Rattle.std.specs.Option.{option_copied}
use Rattle.psg_grammar.specs.Paths.{node_at}
use Rattle.psg_session.specs.PlainState.{named_path}
use Rattle.psg_session.proofs.Options.{only_none}
use Rattle.psg_session.proofs.finding.find.Goals as goal

pub returns-in_default-clause-err : goal.returns-in_default-clause-err
returns-in_default-clause-err c = inl (refl, only_none c.args.editor.now.opened c.in_default.not-Some)

pub returns-in-Some-at-clause-ok : goal.returns-in-Some-at-clause-ok
returns-in-Some-at-clause-ok c = record {
  held = c.in-Some.is;
  path = c.path_named-path.ensures;
  node = ap (λ t. node_at t c.path_named-path.result.now) (sym c.tree.ensures) ∙ sym c.at.ensures ∙ ap option_copied c.in-Some-at.is;
}

pub returns-in-None-clause-err : goal.returns-in-None-clause-err
returns-in-None-clause-err c = inr (
  refl,
  c.in-Some.held,
  c.in-Some.is,
  ap (λ t. node_at t (named_path c.args.place.now c.args.editor.now.cursor)) (sym c.tree.ensures)
      ∙ ap (node_at c.tree.result.now) (sym c.path_named-path.ensures) ∙ sym c.at.ensures ∙ ap option_copied c.in-None.is,
)
