use Rattle.std.proofs.Common.{sym, subst}
use Rattle.psg_grammar.specs.Fragments.{Fragment}
use Rattle.psg_cache.specs.Annotated.{tree_in}
use Rattle.psg_explain.specs.Relations.{AreOwnFrom}
use Rattle.psg_explain.proofs.RelatingLaws.{cell_of, cell_takes, element_there, no_cell, no_rest, rest_of, whole_cell}
use Rattle.psg_explain.proofs.claiming.rows_of_cell.Goals as goal

pub unreachable-requires : goal.unreachable-requires
unreachable-requires g c =
    let def = c.args.language.now.definition in
    let root = tree_in c.args.note.now in
    let (s, is, site) = c.requires.step in
    no_cell def root c.args.stage.now c.args.rest.now c.args.list s (cell_of def root c.args.stage.now c.args.rest.now c.args.list s site is) c.in_default.is

pub unreachable-requires-in_default-rest : goal.unreachable-requires-in_default-rest
unreachable-requires-in_default-rest g c =
    let def = c.args.language.now.definition in
    let root = tree_in c.args.note.now in
    let (s, is, site) = c.requires.step in
    no_rest def root c.args.stage.now c.args.rest.now c.args.list s (cell_of def root c.args.stage.now c.args.rest.now c.args.list s site is) c.in_default-rest.is

pub summary_at-requires : goal.summary_at-requires
summary_at-requires g c =
    let def = c.args.language.now.definition in
    let root = tree_in c.args.note.now in
    let (s, is, site) = c.requires.step in
    let h = cell_of def root c.args.stage.now c.args.rest.now c.args.list s site is in
    (def, c.requires.note, h.element, element_there def root c.args.stage.now c.args.rest.now c.args.list s h c.in-Some.number c.in-Some.is c.as_slice-path.result.now c.as_slice-path.ensures)

pub cell_rows-requires-clause-takes : goal.cell_rows-requires-clause-takes
cell_rows-requires-clause-takes g c =
    let def = c.args.language.now.definition in
    let root = tree_in c.args.note.now in
    let (s, is, site) = c.requires.step in
    let h = cell_of def root c.args.stage.now c.args.rest.now c.args.list s site is in
    let (of, usual) = c.in_ok-element.ensures def h.element c.requires.note (element_there def root c.args.stage.now c.args.rest.now c.args.list s h c.in-Some.number c.in-Some.is c.as_slice-path.result.now c.as_slice-path.ensures) in
    cell_takes def root c.args.stage.now c.args.rest.now c.args.list s h c.in_ok-element.element c.in-Some-rest.known of usual c.in-Some-rest.is

pub cell_rows-requires-clause-light : goal.cell_rows-requires-clause-light
cell_rows-requires-clause-light g c =
    let def = c.args.language.now.definition in
    let root = tree_in c.args.note.now in
    let (s, is, site) = c.requires.step in
    let h = cell_of def root c.args.stage.now c.args.rest.now c.args.list s site is in
    let (of, usual) = c.in_ok-element.ensures def h.element c.requires.note (element_there def root c.args.stage.now c.args.rest.now c.args.list s h c.in-Some.number c.in-Some.is c.as_slice-path.result.now c.as_slice-path.ensures) in
    (h.element, h.behind, of, rest_of def root c.args.stage.now c.args.rest.now c.args.list s h c.in-Some-rest.known c.in-Some-rest.is, h.light)

pub returns-clause-rows : goal.returns-clause-rows
returns-clause-rows g c = λ s is.
    let def = c.args.language.now.definition in
    let root = tree_in c.args.note.now in
    let h = cell_of def root c.args.stage.now c.args.rest.now c.args.list s c.requires.step.2 is in
    let (of, usual) = c.in_ok-element.ensures def h.element c.requires.note (element_there def root c.args.stage.now c.args.rest.now c.args.list s h c.in-Some.number c.in-Some.is c.as_slice-path.result.now c.as_slice-path.ensures) in
    subst (λ (f : Fragment). AreOwnFrom def f 0 c.in_ok-made.made.rows.items) (sym h.same)
    (c.in_ok-made.ensures.rows h.element h.behind of (rest_of def root c.args.stage.now c.args.rest.now c.args.list s h c.in-Some-rest.known c.in-Some-rest.is))

pub returns-clause-whole : goal.returns-clause-whole
returns-clause-whole g c = λ s is.
    let def = c.args.language.now.definition in
    let root = tree_in c.args.note.now in
    let h = cell_of def root c.args.stage.now c.args.rest.now c.args.list s c.requires.step.2 is in
    let (of, usual) = c.in_ok-element.ensures def h.element c.requires.note (element_there def root c.args.stage.now c.args.rest.now c.args.list s h c.in-Some.number c.in-Some.is c.as_slice-path.result.now c.as_slice-path.ensures) in
    whole_cell def s.part c.args.list h.element h.behind c.in_ok-made.made.whole h.same
    (c.in_ok-made.ensures.whole h.element h.behind of (rest_of def root c.args.stage.now c.args.rest.now c.args.list s h c.in-Some-rest.known c.in-Some-rest.is))
