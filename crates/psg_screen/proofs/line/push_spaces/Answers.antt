use Rattle.std.proofs.Common.{string_bytes, lit<}
use Rattle.std.proofs.lemmas.Str.{encode_ascii}
use Rattle.psg_screen.proofs.WindowLaws.{spaces-step}
use Rattle.psg_screen.proofs.line.push_spaces.Goals as goal

pub loop-preserved : goal.loop-preserved
loop-preserved c =
    spaces-step (string_bytes c.args.shown.now) (string_bytes c.loop.shown) (string_bytes c.push.new.self) c.loop.counter
    c.loop.invariant (rw (← encode_ascii 32 (lit< tt)) c.in_ok-push.ensures.bytes)
