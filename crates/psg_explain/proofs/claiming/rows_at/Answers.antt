use Rattle.std.proofs.Common.{None, sym, subst}
use Rattle.psg_grammar.specs.Fragments.{Fragment}
use Rattle.psg_cache.specs.Annotated.{tree_in}
use Rattle.psg_explain.specs.Relations.{AreOwnFrom}
use Rattle.psg_explain.proofs.RelatingLaws.{end_of, node_of, site_there, whole_end, whole_node}
use Rattle.psg_explain.proofs.claiming.rows_at.Goals as goal

pub tree_rows-requires-clause-there : goal.tree_rows-requires-clause-there
tree_rows-requires-clause-there g c =
    let root = tree_in c.args.note.now in
    let (s, is) = c.requires.step in
    site_there root c.in-Node.tree c.as_slice-path.result.now c.args.stage.now.path c.as_slice-path.ensures (node_of c.args.language.now.definition root c.args.stage.now c.args.rest.now c.in-Node.tree s c.in-Node.is is).there

pub tree_rows-requires-clause-site : goal.tree_rows-requires-clause-site
tree_rows-requires-clause-site g c =
    let (s, is) = c.requires.step in (node_of c.args.language.now.definition (tree_in c.args.note.now) c.args.stage.now c.args.rest.now c.in-Node.tree s c.in-Node.is is).site

pub tree_rows-requires-clause-formed : goal.tree_rows-requires-clause-formed
tree_rows-requires-clause-formed g c =
    let (s, is) = c.requires.step in (node_of c.args.language.now.definition (tree_in c.args.note.now) c.args.stage.now c.args.rest.now c.in-Node.tree s c.in-Node.is is).formed

pub tree_rows-requires-clause-light : goal.tree_rows-requires-clause-light
tree_rows-requires-clause-light g c =
    let (s, is) = c.requires.step in (node_of c.args.language.now.definition (tree_in c.args.note.now) c.args.stage.now c.args.rest.now c.in-Node.tree s c.in-Node.is is).light

pub returns-in_ok-rows-in-Node-clause-rows : goal.returns-in_ok-rows-in-Node-clause-rows
returns-in_ok-rows-in-Node-clause-rows g c = λ s is.
    let h = node_of c.args.language.now.definition (tree_in c.args.note.now) c.args.stage.now c.args.rest.now c.in-Node.tree s c.in-Node.is is in
    subst (λ (f : Fragment). AreOwnFrom c.args.language.now.definition f 0 c.in_ok-rows-in-Node.rows.items) (sym h.same) c.in_ok-rows-in-Node.ensures.rows

pub returns-in_ok-rows-in-Node-clause-whole : goal.returns-in_ok-rows-in-Node-clause-whole
returns-in_ok-rows-in-Node-clause-whole g c = λ s is.
    let h = node_of c.args.language.now.definition (tree_in c.args.note.now) c.args.stage.now c.args.rest.now c.in-Node.tree s c.in-Node.is is in
    whole_node c.args.language.now.definition s.part c.in-Node.tree None h.same h.site

pub end_rows-requires-clause-end : goal.end_rows-requires-clause-end
end_rows-requires-clause-end g c =
    let (s, is) = c.requires.step in (end_of c.args.language.now.definition (tree_in c.args.note.now) c.args.stage.now c.args.rest.now c.in-End.list c.in-End.unfinished s c.in-End.is is).end

pub end_rows-requires-clause-light : goal.end_rows-requires-clause-light
end_rows-requires-clause-light g c =
    let (s, is) = c.requires.step in (end_of c.args.language.now.definition (tree_in c.args.note.now) c.args.stage.now c.args.rest.now c.in-End.list c.in-End.unfinished s c.in-End.is is).light

pub returns-in_ok-end-in-End-clause-rows : goal.returns-in_ok-end-in-End-clause-rows
returns-in_ok-end-in-End-clause-rows g c = λ s is.
    let h = end_of c.args.language.now.definition (tree_in c.args.note.now) c.args.stage.now c.args.rest.now c.in-End.list c.in-End.unfinished s c.in-End.is is in
    subst (λ (f : Fragment). AreOwnFrom c.args.language.now.definition f 0 c.in_ok-end-in-End.end.rows.items) (sym h.same) c.in_ok-end-in-End.ensures.rows

pub returns-in_ok-end-in-End-clause-whole : goal.returns-in_ok-end-in-End-clause-whole
returns-in_ok-end-in-End-clause-whole g c = λ s is.
    let h = end_of c.args.language.now.definition (tree_in c.args.note.now) c.args.stage.now c.args.rest.now c.in-End.list c.in-End.unfinished s c.in-End.is is in
    whole_end c.args.language.now.definition s.part c.in-End.list c.in-End.unfinished c.in_ok-end-in-End.end.whole h.same c.in_ok-end-in-End.ensures.whole

pub rows_of_cell-requires-clause-step : goal.rows_of_cell-requires-clause-step
rows_of_cell-requires-clause-step g c = let (s, is) = c.requires.step in (s, is, c.in-Cell.is)

pub returns-in_ok-cell-in-Cell-clause-rows : goal.returns-in_ok-cell-in-Cell-clause-rows
returns-in_ok-cell-in-Cell-clause-rows g c = c.in_ok-cell-in-Cell.ensures.rows

pub returns-in_ok-cell-in-Cell-clause-whole : goal.returns-in_ok-cell-in-Cell-clause-whole
returns-in_ok-cell-in-Cell-clause-whole g c = c.in_ok-cell-in-Cell.ensures.whole
