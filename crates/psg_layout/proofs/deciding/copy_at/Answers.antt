use Rattle.std.proofs.Common.{◌≡◌, ◌&&◌, true, ap₂, subst, sym, ◌∙◌}
use Rattle.psg_grammar.specs.Fragments.{top_operator}
use Rattle.psg_layout.specs.Arranged.{is_group}
use Rattle.psg_layout.specs.Pages.{gap_by}
use Rattle.psg_layout.specs.Sheets.{gap_bytes, PutsChars}
use Rattle.psg_layout.specs.Walking.{FindsOwn, fits_in, flat_in, flats_by, IsOwnAt, line_ahead}
use Rattle.psg_layout.proofs.DecideLaws.{ahead}
use Rattle.psg_layout.proofs.OwnLaws.{copied_found}
use Rattle.psg_layout.proofs.deciding.copy_at.Goals as goal

pub returns-then-is_flat : goal.returns-then-is_flat
returns-then-is_flat c = λ k r w h e.
    let p = c.args.plan.now in
    let s = c.args.sheet.now in
    let f = flat_in (flats_by p) c.args.place in
    let a : IsOwnAt p c.args.place c.in-Some-2.own k = subst (FindsOwn p c.args.place) c.in-Some-2.is c.in_ok-own.ensures k r in
    let line = ahead s w.ink f c.in_ok-line.line
    (subst (λ l. PutsChars (gap_by s.marks.last s.broken (gap_bytes l)) s.line c.in_ok-line.line) a.lead_is c.in_ok-line.ensures) h in
    let fit : (is_group k.layout (top_operator c.args.tree.now) && fits_in p.cols (line_ahead w.ink f) f.width) ≡ true =
    ap₂ (λ o z. is_group k.layout o && fits_in p.cols (line_ahead w.ink f) z.width) (sym c.op_of.ensures ∙ c.in-Some.is) (sym c.flat_at.ensures)
    ∙ sym (c.is_flat.ensures k.layout r.rules _ line) ∙ c.if-is_flat.true in
    copied_found p c.args.place c.args.flat c.in-Some-2.own k w (top_operator c.args.tree.now) c.if-flat.false e a fit
