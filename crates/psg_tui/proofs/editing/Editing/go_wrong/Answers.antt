use Rattle.std.proofs.Common.{sym, ◌∙◌}
use Rattle.psg_modes.specs.Wrong.{is_forward}
use Rattle.psg_tui.proofs.TurnLaws.{gone_by, gone_right, still_wrong, went_none, went_some}
use Rattle.psg_tui.proofs.editing.Editing.go_wrong.Goals as goal

pub returns-then-not-wrong-clause-gone : goal.returns-then-not-wrong-clause-gone
returns-then-not-wrong-clause-gone g c =
    λ tree at.
    gone_right c.args.self.now tree at c.requires.settled (is_forward c.args.key) c.say.new.face
    (sym c.is_wrong-wrong.ensures ∙ c.if-not-wrong.true) c.say.ensures

pub next_wrong-requires-clause-wrong : goal.next_wrong-requires-clause-wrong
next_wrong-requires-clause-wrong g c =
    still_wrong c.args.self.now c.find_repair.new.self c.in_ok-find_repair.ensures.left c.requires.editing.0 c.requires.editing.1 c.requires.settled
    (sym c.is_wrong-wrong.ensures ∙ c.if-not-wrong.false)

pub returns-in-Some-clause-gone : goal.returns-in-Some-clause-gone
returns-in-Some-clause-gone g c =
    λ tree at.
    gone_by c.args.self.now c.find_repair.new.self c.in_ok-find_repair.ensures.left tree at c.requires.settled (sym c.is_wrong-wrong.ensures ∙ c.if-not-wrong.false) (is_forward c.args.key)
    c.is_forward-forward.result c.is_forward-forward.ensures c.in_ok-path.field-0
    (c.in_ok-path.ensures tree (c.in_ok-find_repair.ensures.left.at tree at)) _
    (went_some c.args.self.now c.find_repair.new.self c.in_ok-find_repair.ensures.left c.choose_path.new.face c.say-in-Some.new.face c.in-Some.path c.in-Some.why c.in_ok-path.field-0
    c.in-Some.is c.choose_path.ensures c.say-in-Some.ensures)

pub returns-in-None-clause-gone : goal.returns-in-None-clause-gone
returns-in-None-clause-gone g c =
    λ tree at.
    gone_by c.args.self.now c.find_repair.new.self c.in_ok-find_repair.ensures.left tree at c.requires.settled (sym c.is_wrong-wrong.ensures ∙ c.if-not-wrong.false) (is_forward c.args.key)
    c.is_forward-forward.result c.is_forward-forward.ensures c.in_ok-path.field-0
    (c.in_ok-path.ensures tree (c.in_ok-find_repair.ensures.left.at tree at)) _
    (went_none c.args.self.now c.find_repair.new.self c.in_ok-find_repair.ensures.left c.in_ok-path.field-0 c.in-None.is)
