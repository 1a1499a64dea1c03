use Rattle.std.proofs.Common.{sym, true≢false, ◌∙◌}
use Rattle.psg_program.specs.Expected.{end_left_out, end_told}
use Rattle.psg_program.proofs.Told.{nothing_added, one_added}
use Rattle.psg_program.proofs.expected.tell_end.Goals as goal

pub returns-then-not-may_end : goal.returns-then-not-may_end
returns-then-not-may_end c =
    nothing_added c.args.words.now.items (end_left_out (λ h. true≢false (sym h ∙ c.if-not-may_end.true)))

pub returns : goal.returns
returns c =
    one_added c.args.words.now.items c.push.new.self.items c.in_ok-end.end _ c.in_ok-push.ensures.items
    c.in_ok-end.ensures.ok (end_told c.if-not-may_end.false)
