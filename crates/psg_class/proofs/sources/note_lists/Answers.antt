use Rattle.std.proofs.Common.{Some, sym, ap, ◌∙◌, arith}
use Rattle.std.proofs.lemmas.Option.{slice_get-get_or}
use Rattle.psg_class.specs.Sources.{ListFactAt, ListLinkAt}
use Rattle.psg_class.proofs.Drafts.{adds_more}
use Rattle.psg_class.proofs.WholeDraft.{list_at}
use Rattle.psg_class.proofs.sources.note_lists.Goals as goal

pub loop-number-preserved : goal.loop-number-preserved
loop-number-preserved c =
    let rows = c.args.rows.now in
    let n = c.loop-number.number in
    adds_more (ListFactAt rows c.args.lists.now c.args.separators.now) (ListLinkAt rows c.args.lists.now) n c.args.draft.now c.loop-number.draft c.note_list.new.draft c.loop-number.invariant
    (list_at rows c.args.lists.now c.args.separators.now n c.index-lists-number.result _ c.loop-number.draft c.note_list.new.draft
    (slice_get-get_or c.args.lists.now n c.index-lists-number.result c.loop-number-test.true ∙ ap Some (sym c.index-lists-number.is))
    (slice_get-get_or c.args.separators.now n _ (let e = c.requires.separators in let h = c.loop-number-test.true in omega arith)) c.in_ok-note_list.ensures)
