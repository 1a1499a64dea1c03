use Rattle.std.proofs.Common.{◌∙◌, sym, ap, map-id, arith}
use Rattle.std.proofs.lemmas.Iterator.{YieldsList-from_chars}
use Rattle.std.proofs.lemmas.Iterator.Consumers.{YieldsList-end}
use Rattle.psg_picture.specs.Rows.{column_within}
use Rattle.psg_picture.proofs.RowLaws.{within-push}
use Rattle.psg_picture.proofs.windowed.columns_of_text.Goals as goal

pub loop-c-preserved : goal.loop-c-preserved
loop-c-preserved c = record {
  same = within-push c.loop-c.column _ c.in-Some.c c.loop-c.yielded c.loop-c.invariant.same (omega arith);
  within = omega arith;
}

pub returns : goal.returns
returns c =
    let end = YieldsList-end (YieldsList-from_chars c.args.text.now c.utf8.text cc) c.loop-c.yielded _ c.loop-c.yielded_by _ _ c.in-None.is c.next.ensures.steps in
    c.loop-c.invariant.same ∙ ap column_within (sym (map-id c.loop-c.yielded) ∙ end.0)
