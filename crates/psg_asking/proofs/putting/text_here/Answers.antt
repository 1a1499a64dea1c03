use Rattle.std.proofs.Common.{ap, sym, subst, ◌∙◌}
use Rattle.psg_grammar.specs.Sound.{IsSound}
use Rattle.psg_session.specs.Sessions.{state_of}
use Rattle.psg_unparse.specs.Layout.{text_of}
use Rattle.psg_asking.proofs.PutLaws.{found_here, nothing_here, text_at_node}
use Rattle.psg_asking.proofs.putting.text_here.Goals as goal

pub unreachable-requires : goal.unreachable-requires
unreachable-requires c = nothing_here c.args.editor.now _ c.in_default.not-Some c.node_here.ensures c.requires

pub unparse-requires : goal.unparse-requires
unparse-requires c =
    record { sound = subst IsSound (sym c.definition-definition.ensures.same) c.definition-definition.ensures.sound }

pub returns : goal.returns
returns c =
    let here = found_here c.args.editor.now _ c.in-Some.node c.in-Some.is c.node_here.ensures in
    text_at_node c.args.language.now (state_of c.args.editor.now) c.in-Some.node.now here.0 here.1 here.2 _
    (c.in_ok-text.ensures ∙ ap (λ p. p.text) c.in_ok-printed.ensures.printed
    ∙ ap (λ d. text_of d c.in-Some.node.now) c.definition-definition.ensures.same)
