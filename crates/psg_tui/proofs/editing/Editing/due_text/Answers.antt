use Rattle.std.proofs.Common.{sym, ◌∙◌}
use Rattle.psg_tui.proofs.DueLaws.{due_or, no_parts_so, text_keys, text_op}
use Rattle.psg_tui.proofs.editing.Editing.due_text.Goals as goal

pub returns-in_ok-text-in-Some-clause-due : goal.returns-in_ok-text-in-Some-clause-due
returns-in_ok-text-in-Some-clause-due g c =
    λ tree key at is.
    due_or c.args.self.now c.find_repair.new.self c.in_ok-find_repair.ensures.left c.requires.settled c.requires.putting c.requires.wrong c.args.due.now tree key at is c.in-Some.op c.in-Some.args (sym c.in-Some.is ∙ c.in_ok-op.ensures)
    c.in_ok-text-in-Some.text (text_op c.find_repair.new.self tree _ _ c.in-Some.args c.in_ok-text-in-Some.text c.as_str.ensures
    (c.in_ok-text-in-Some.ensures.text tree (c.in_ok-find_repair.ensures.left.at tree at)))

pub returns-in_ok-text-in-Some-clause-keys : goal.returns-in_ok-text-in-Some-clause-keys
returns-in_ok-text-in-Some-clause-keys g c =
    text_keys _ _ c.requires.editing.0 _ _ _ _ c.in_ok-text-in-Some.text
    (c.in_ok-text-in-Some.ensures.text c.requires.editing.0
    (c.in_ok-find_repair.ensures.left.at c.requires.editing.0 c.requires.editing.1))

pub returns-in-None-clause-due : goal.returns-in-None-clause-due
returns-in-None-clause-due g c =
    λ tree key at is. no_parts_so c.args.self.now c.find_repair.new.self c.in_ok-find_repair.ensures.left c.requires.settled c.requires.putting c.requires.wrong c.args.due.now tree key at is _ c.in_ok-op.ensures c.in-None.is
