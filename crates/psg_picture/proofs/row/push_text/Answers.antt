use Rattle.std.proofs.Common.{◌++◌, ◌∙◌, sym, ap, map-id}
use Rattle.std.proofs.lemmas.Iterator.{YieldsList-from_chars}
use Rattle.std.proofs.lemmas.Iterator.Consumers.{YieldsList-end}
use Rattle.psg_picture.specs.Rows.{in_style}
use Rattle.psg_picture.proofs.RowLaws.{push-step}
use Rattle.psg_picture.proofs.row.push_text.Goals as goal

pub loop-c-preserved : goal.loop-c-preserved
loop-c-preserved c =
    push-step c.args.row.now.items c.loop-c.row.items c.push.new.self.items c.args.style c.loop-c.yielded c.in-Some.c
    c.loop-c.invariant c.in_ok-push.ensures.items

pub returns : goal.returns
returns c =
    let end = YieldsList-end (YieldsList-from_chars c.args.text.now c.utf8.text cc) c.loop-c.yielded _ c.loop-c.yielded_by _ _ c.in-None.is c.next.ensures.steps in
    c.loop-c.invariant ∙ ap (λ cs. c.args.row.now.items ++ in_style c.args.style cs) (sym (map-id c.loop-c.yielded) ∙ end.0)
