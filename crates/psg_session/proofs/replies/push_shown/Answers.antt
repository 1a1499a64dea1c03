use Rattle.std.specs.Prelude.{string_bytes}
use Rattle.psg_session.specs.Marked.{mark_text}
use Rattle.psg_session.specs.Views.{mark_of}
use Rattle.psg_session.proofs.PrintLaws.{shown_written}
use Rattle.psg_session.proofs.replies.push_shown.Goals as goal

pub returns : goal.returns
returns c =
    shown_written (string_bytes c.args.text.now) c.args.shown.now (mark_text (mark_of c.args.mark.now))
    (string_bytes c.push_line.new.text) (string_bytes c.push_mark.new.text) (string_bytes c.push_str.new.self)
    c.in_ok-push_line.ensures c.in_ok-push_mark.ensures c.in_ok-push_str.ensures.bytes
