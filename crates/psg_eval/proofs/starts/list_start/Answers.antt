use Rattle.psg_grammar.specs.Fragments.{ending}
use Rattle.std.proofs.Common.{true, false}
use Rattle.psg_eval.proofs.StartLaws.{kept_cell, kept_start}
use Rattle.psg_eval.proofs.starts.list_start.Goals as goal

pub returns : goal.returns
returns c =
    let def = c.args.definition.now in
    let l = c.args.list in
    record {
      unfinished = kept_start def (ending l true) c.open_end-open.result c.in_ok-unfinished.unfinished c.in_ok-unfinished.ensures c.open_end-open.ensures.answer c.open_end-open.ensures.summary;
      finished = kept_start def (ending l false) c.closed_end-closed.result c.in_ok-finished.finished c.in_ok-finished.ensures c.closed_end-closed.ensures.answer c.closed_end-closed.ensures.summary;
      cell = kept_cell def l c.cell_start-start.result c.in_ok-cell.cell c.in_ok-cell.ensures c.cell_start-start.ensures.step c.cell_start-start.ensures.partial c.cell_start-start.ensures.seen;
    }
