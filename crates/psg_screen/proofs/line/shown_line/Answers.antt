use Rattle.std.proofs.Common.{[], ◌∙◌, sym, ap, map-id, encode_utf8_all, arith}
use Rattle.std.proofs.lemmas.Iterator.{YieldsList-from_chars}
use Rattle.std.proofs.lemmas.Iterator.Consumers.{YieldsList-end}
use Rattle.psg_screen.specs.Window.{shown_behind, shown_line}
use Rattle.psg_screen.proofs.WindowLaws.{IsWalked-step}
use Rattle.psg_screen.proofs.line.shown_line.Goals as goal

pub loop-c-preserved : goal.loop-c-preserved
loop-c-preserved c = record {
  walked = IsWalked-step _ _ _ _ _ _ c.loop-c.invariant.walked _ _ _ c.in_ok-written.ensures.text (grind arith) c.in_ok-written.ensures.written;
  in_range = omega arith;
}

pub returns : goal.returns
unfolding shown_line
returns c =
    let end = YieldsList-end (YieldsList-from_chars c.args.line.now c.utf8.line cc) c.loop-c.yielded _ c.loop-c.yielded_by _ _ c.in-None.is c.next.ensures.steps in
    c.in_ok-of.ensures ∙ c.loop-c.invariant.walked.text
    ∙ ap (λ line. encode_utf8_all (shown_behind c.args.view [] line)) (sym (map-id c.loop-c.yielded) ∙ end.0)
