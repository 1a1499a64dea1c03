use Rattle.std.proofs.Common.{length, ap, ◌∙◌}
use Rattle.psg_grammar.specs.Sizes.{nodes_of}
use Rattle.psg_unparse.specs.Layout.{text_of}
use Rattle.psg_cache.specs.Annotated.{tree_in}
use Rattle.psg_session.specs.Views.{mark_of}
use Rattle.psg_session.proofs.Measured.{extent_is, few_nodes}
use Rattle.psg_session.proofs.measuring.extent_of.Goals as goal

pub text_of-requires : goal.text_of-requires
text_of-requires c = record { sound = c.requires.language.sound }

pub counted-nodes-requires : goal.counted-nodes-requires
counted-nodes-requires c = rw c.tree-tree.ensures
    (few_nodes c.args.language.now.definition (tree_in c.args.note.now) c.args.note.now c.requires.noted)

pub returns : goal.returns
returns c =
    extent_is c.args.language.now c.requires.language c.args.note.now c.requires.noted
    _ _ _ (mark_of c.in_ok-mark.mark)
    (c.counted-nodes.ensures ∙ ap nodes_of c.tree-tree.ensures)
    (c.length_of-bytes.ensures ∙ ap length (c.in_ok-text.ensures
    ∙ ap (text_of c.args.language.now.definition) c.tree-tree.ensures))
    c.weight-weight.ensures c.in_ok-mark.ensures
