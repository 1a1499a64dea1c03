use Rattle.std.proofs.Common.{◌∙◌, Some, ap, sym, subst}
use Rattle.psg_grammar.specs.Fragments.{Fragment, operator}
use Rattle.psg_tree.specs.Shapes.{with_parts}
use Rattle.psg_cache.specs.Notes.{IsFormed}
use Rattle.psg_eval.specs.Summaries.{StaysWithin}
use Rattle.psg_explain.specs.Relations.{AreOwnFrom}
use Rattle.psg_explain.proofs.CasingLaws.{no_list_node}
use Rattle.psg_explain.proofs.StagingLaws.{shape_hole, shape_list, shape_op}
use Rattle.psg_explain.proofs.claiming.tree_rows.Goals as goal

pub hole_rows-requires-clause-formed : goal.hole_rows-requires-clause-formed
hole_rows-requires-clause-formed g c =
    subst (IsFormed c.args.language.now.definition) (sym (shape_hole c.shape.result.now c.in-Hole.phylum c.args.tree.now c.in-Hole.is c.shape.ensures)) c.requires.formed

pub hole_rows-requires-clause-light : goal.hole_rows-requires-clause-light
hole_rows-requires-clause-light g c =
    subst (StaysWithin c.args.language.now.definition) (sym (shape_hole c.shape.result.now c.in-Hole.phylum c.args.tree.now c.in-Hole.is c.shape.ensures)) c.requires.light

pub returns-in_ok-rows-in-Hole-clause-rows : goal.returns-in_ok-rows-in-Hole-clause-rows
returns-in_ok-rows-in-Hole-clause-rows g c =
    subst (λ (f : Fragment). AreOwnFrom c.args.language.now.definition f 0 c.in_ok-rows-in-Hole.rows.items)
    (shape_hole c.shape.result.now c.in-Hole.phylum c.args.tree.now c.in-Hole.is c.shape.ensures) c.in_ok-rows-in-Hole.ensures.rows

pub node_rows-requires-clause-there : goal.node_rows-requires-clause-there
node_rows-requires-clause-there g c =
    c.requires.there ∙ ap Some (sym (ap (with_parts (operator c.in-Op.op)) c.as_slice.ensures ∙ shape_op c.shape.result.now c.in-Op.op c.in-Op.parts c.args.tree.now c.in-Op.is c.shape.ensures))

pub node_rows-requires-clause-formed : goal.node_rows-requires-clause-formed
node_rows-requires-clause-formed g c =
    subst (IsFormed c.args.language.now.definition)
    (sym (ap (with_parts (operator c.in-Op.op)) c.as_slice.ensures ∙ shape_op c.shape.result.now c.in-Op.op c.in-Op.parts c.args.tree.now c.in-Op.is c.shape.ensures)) c.requires.formed

pub node_rows-requires-clause-light : goal.node_rows-requires-clause-light
node_rows-requires-clause-light g c =
    subst (StaysWithin c.args.language.now.definition)
    (sym (ap (with_parts (operator c.in-Op.op)) c.as_slice.ensures ∙ shape_op c.shape.result.now c.in-Op.op c.in-Op.parts c.args.tree.now c.in-Op.is c.shape.ensures)) c.requires.light

pub returns-in_ok-rows-in-Op-clause-rows : goal.returns-in_ok-rows-in-Op-clause-rows
returns-in_ok-rows-in-Op-clause-rows g c =
    subst (λ (f : Fragment). AreOwnFrom c.args.language.now.definition f 0 c.in_ok-rows-in-Op.rows.items)
    (ap (with_parts (operator c.in-Op.op)) c.as_slice.ensures ∙ shape_op c.shape.result.now c.in-Op.op c.in-Op.parts c.args.tree.now c.in-Op.is c.shape.ensures) c.in_ok-rows-in-Op.ensures.rows

pub unreachable-requires : goal.unreachable-requires
unreachable-requires g c =
    no_list_node c.args.tree.now c.in-List.list c.in-List.elements c.in-List.unfinished
    (shape_list c.shape.result.now c.in-List.list c.in-List.elements c.in-List.unfinished c.args.tree.now c.in-List.is c.shape.ensures) c.requires.site
