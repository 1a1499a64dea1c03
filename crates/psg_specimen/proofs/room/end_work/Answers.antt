use Rattle.std.proofs.Common.{◌≡◌, List, get_or, ◌∙◌, sym, subst, ap, arith}
use Rattle.psg_terms.proofs.Lists.{slice_get_once}
use Rattle.psg_grammar.specs.declared.types.ListKind.{ListKind}
use Rattle.psg_eval.proofs.NodeSteps.{place_there}
use Rattle.psg_specimen.specs.Work.{terms_work}
use Rattle.psg_specimen.proofs.room.end_work.Goals as goal

pub returns : goal.returns
returns c = λ l at.
    let lists = c.args.definition.now.lists in
    let read = c.index-lists-list.result in
    let there = place_there lists c.args.list l read at (subst (λ (ls : List ListKind). read ≡ get_or ls c.args.list read) c.as_slice-lists.ensures c.index-lists-list.is) in
    let same = slice_get_once lists c.args.list read l there at in
    let rows = ap terms_work (c.as_slice-rows.ensures ∙ ap (λ (x : ListKind). x.nil_rows) (sym c.index-lists-list.is ∙ same)) in
    omega (arith, rows, c.weight_of.ensures, c.saturating_add.ensures)
