use Rattle.psg_layout.proofs.SheetLaws.{mark_inked}
use Rattle.psg_layout.proofs.sheet.Sheet.put_mark.Goals as goal

pub returns : goal.returns
returns c = mark_inked c.args.item.now c.args.self.now c.put.new.self c.in_ok-put.ensures
