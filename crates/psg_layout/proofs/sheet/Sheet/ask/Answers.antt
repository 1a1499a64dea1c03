use Rattle.psg_layout.proofs.SheetLaws.{ask_inked}
use Rattle.psg_layout.proofs.sheet.Sheet.ask.Goals as goal

pub returns : goal.returns
returns c = ask_inked c.args.mode c.args.self.now c.or-self.result c.or-self.ensures
