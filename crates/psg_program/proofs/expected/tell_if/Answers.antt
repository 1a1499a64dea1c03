use Rattle.std.proofs.Common.{sym, true≢false, ◌∙◌}
use Rattle.psg_program.specs.Expected.{none_told, one_left_out, one_told}
use Rattle.psg_program.proofs.Told.{nothing_added, one_added}
use Rattle.psg_program.proofs.expected.tell_if.Goals as goal

pub returns-then-not-goes : goal.returns-then-not-goes
returns-then-not-goes c =
    nothing_added c.args.words.now.items
    (one_left_out (λ h. true≢false (sym (c.is_among-goes.ensures.1 h) ∙ c.if-not-goes.true)) none_told)

pub returns : goal.returns
returns c =
    one_added c.args.words.now.items c.push.new.self.items c.in_ok-word.word _ c.in_ok-push.ensures.items
    c.in_ok-word.ensures (one_told (c.is_among-goes.ensures.0 c.if-not-goes.false) none_told)
