-- The root's relation tells whether a tree is open.
use Rattle.std.proofs.Common.{sym, subst}
use Rattle.psg_grammar.specs.declared.types.Definition.{Definition}
use Rattle.psg_grammar.specs.Fragments.{Fragment}
use Rattle.psg_eval.specs.Summaries.{IsSummaryOf}
use Rattle.psg_cache.specs.Notes.{IsFormed, IsNoteOf, TellsOpen}
use Rattle.psg_cache.proofs.OpenTrees.{open_rows, rows_open}
use Rattle.psg_cache.proofs.RealTrees.{real}
use Rattle.psg_cache.specs.Annotated.{Annotated, whole_in}
use Rattle.psg_cache.proofs.NoteLaws.{noted_known}

pub noted_open : (def : Definition) (f : Fragment) (n : Annotated) → IsNoteOf def f n → TellsOpen def f n
noted_open def f n note =
    let known = noted_known def n note.noted (subst (IsFormed def) (sym note.tree) note.formed) in
    let summary : IsSummaryOf def f (whole_in n) = subst (λ x. IsSummaryOf def x (whole_in n)) note.tree known.0 in
    (λ o. open_rows def f (whole_in n).rel summary.rows o, λ h. rows_open def f (real def f note.formed) (whole_in n).rel summary.rows h)
