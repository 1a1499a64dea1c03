use Rattle.std.proofs.Common.{◌<◌, refl, subst, sym}
use Rattle.psg_class.proofs.BeginLaws.{lead_inside, lead_adds, no_lead}
use Rattle.psg_class.proofs.Drafts.{adds_none, draft_here}
use Rattle.psg_class.proofs.sources.note_lead.Goals as goal

pub put-requires-clause-cell : goal.put-requires-clause-cell
put-requires-clause-cell c =
    let (x, y) = lead_inside c.args.rows.now c.args.draft.now.grid.width c.args.shape.now c.in-Some.cell.row c.in-Some.cell.column c.requires.rows c.requires.shape ((c.in-Some.ensures c.in-Some.cell.row c.in-Some.cell.column).1 (refl, refl)) in
    (subst (λ h. c.in-Some.cell.row < h) (sym c.requires.draft.table.height_is) x, y)

pub returns-in-Some : goal.returns-in-Some
returns-in-Some c = lead_adds c.args.rows.now c.args.shape.now c.in-Some.cell c.args.draft.now c.put.new.self c.in-Some.ensures c.put.ensures

pub returns-in_default : goal.returns-in_default
returns-in_default c = no_lead c.args.rows.now c.args.shape.now c.args.draft.now c.args.draft.now c.in_default.ensures (adds_none c.args.draft.now (draft_here c.args.draft.now c.requires.draft))
