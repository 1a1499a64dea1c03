use Rattle.std.proofs.Common.{rules, Err, ◌≡◌, sym, subst, ap}
use Rattle.std.specs.Prelude.{Option, IfSome, option_copied}
use Rattle.std.proofs.lemmas.Option.{slice_get_within}
use Rattle.psg_grammar.specs.Fragments.{cell}
use Rattle.psg_eval.specs.declared.partial.Partial.{Partial}
use Rattle.psg_eval.specs.Starts.{IsCellBegun}
use Rattle.psg_eval.specs.Stages.{IsCellStart, MatchMade}
use Rattle.psg_eval.proofs.CellRows.{cell_begun, start_wide}
use Rattle.psg_eval.proofs.Numbers.{numbered_fault}
use Rattle.psg_eval.proofs.cell.cell_parts.Goals as goal

pub cell_start-requires-clause-there : goal.cell_start-requires-clause-there
cell_start-requires-clause-there c = slice_get_within c.args.definition.now.lists c.args.list c.requires.takes.list c.requires.takes.found

pub with_both-requires-clause-first : goal.with_both-requires-clause-first
with_both-requires-clause-first c =
    subst (λ (o : Option Partial). IfSome o (IsCellBegun c.args.definition.now c.args.list)) (ap option_copied c.in-Some.is) c.requires.start

pub with_both-requires-2-clause-first : goal.with_both-requires-2-clause-first
with_both-requires-2-clause-first c =
    cell_begun c.args.definition.now c.args.list c.cell_start.result c.in_ok-first.first c.in_ok-first.ensures c.cell_start.ensures.step c.cell_start.ensures.partial c.cell_start.ensures.seen

pub returns-in_err-first-clause-made : goal.returns-in_err-first-clause-made
returns-in_err-first-clause-made c = λ e r one two.
    let def = c.args.definition.now in
    let l = c.args.list in
    let fault = c.in_err-first.field-0.0 in
    let d : c.from_residual.result ≡ Err fault = search rules in
    subst (MatchMade def (cell l e r) 2) (sym d)
    (numbered_fault def (cell l e r) 2 (IsCellStart def l) c.cell_start.result 0 fault c.in_err-first.ensures c.cell_start.ensures.step
    (start_wide def c.requires.sound l e r c.args.element.now c.args.rest.now one two))
