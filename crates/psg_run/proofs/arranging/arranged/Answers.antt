use Rattle.std.proofs.Common.{◌≡◌, ◌∙◌, ap, sym, subst}
use Rattle.psg_grammar.specs.declared.types.Definition.{Definition}
use Rattle.psg_grammar.specs.Fragments.{Fragment}
use Rattle.psg_grammar.specs.WellFormed.{WellFormed}
use Rattle.psg_layout.specs.Arranged.{arranged_in}
use Rattle.psg_session.specs.Replies.{feed}
use Rattle.psg_session.specs.Sessions.{state_of}
use Rattle.psg_run.proofs.Laying.{nothing_arranged, opened_arranged}
use Rattle.psg_run.proofs.arranging.arranged.Goals as goal

pub tree_text-requires-clause-sound : goal.tree_text-requires-clause-sound
tree_text-requires-clause-sound c = rw c.definition-definition.ensures.same c.definition-definition.ensures.sound

pub tree_text-requires-clause-formed : goal.tree_text-requires-clause-formed
tree_text-requires-clause-formed c =
    let (old, opened, noted) = c.in-Some.ensures.noted in
    let here : c.definition-definition.result.now ≡ c.args.session.now.language = c.definition-definition.ensures.same ∙ c.language.ensures.same in
    let tree : old.tree ≡ c.tree.result.now = sym (c.tree.ensures ∙ noted.tree) in (
      old.kind,
      subst (λ (d : Definition). WellFormed d c.tree.result.now old.kind) (sym here)
          (subst (λ (f : Fragment). WellFormed c.args.session.now.language f old.kind) tree
          (c.note.ensures.formed.opened old opened)),
    )

pub returns-in_ok-text-in-Some : goal.returns-in_ok-text-in-Some
returns-in_ok-text-in-Some c =
    let (old, opened, noted) = c.in-Some.ensures.noted in
    let here : c.definition-definition.result.now ≡ c.args.session.now.language = c.definition-definition.ensures.same ∙ c.language.ensures.same in
    c.in_ok-text-in-Some.ensures
    ∙ ap (λ (d : Definition). feed (arranged_in d c.args.layout.now c.args.columns c.tree.result.now).text) here
    ∙ opened_arranged c.args.session.now.language c.args.layout.now c.args.columns (state_of c.args.session.now.editor).opened old
    c.tree.result.now opened (c.tree.ensures ∙ noted.tree)

pub returns-in_ok-text-in-None : goal.returns-in_ok-text-in-None
returns-in_ok-text-in-None c =
    c.in_ok-text-in-None.ensures.ok ∙ nothing_arranged c.args.session.now.language c.args.layout.now c.args.columns c.args.session.now.editor.opened c.in-None.ensures.noted
