use Rattle.psg_look.proofs.opened.Goals as goal

pub tui_of-requires : goal.tui_of-requires
tui_of-requires g c = (c.in-Ok.ensures.1, c.in-Ok.ensures.2)
