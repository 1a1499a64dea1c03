use Rattle.std.proofs.Common.{◌∷◌, [], ◌∙◌, map, ap, lit<}
use Rattle.std.proofs.lemmas.Iterator.Consumers.{YieldsList-at, YieldsList-end}
use Rattle.std.proofs.lemmas.Iterator.Splits.{YieldsList-from_str_split}
use Rattle.std.proofs.lemmas.List.{map-append}
use Rattle.psg_completing.specs.Samples.{with_lines}
use Rattle.psg_completing.proofs.Sampling.{line_taken}
use Rattle.psg_completing.proofs.samples.one_line.Goals as goal

pub loop-part-preserved : goal.loop-part-preserved
loop-part-preserved c =
    line_taken (map (λ w. w.now) c.loop-part.yielded) c.in-Some.part.now _ _ _
    (map-append (λ w. w.now) c.loop-part.yielded (c.in-Some.part ∷ [])) c.loop-part.invariant
    c.in_ok-push_line.ensures

pub returns : goal.returns
returns c =
    let parts = YieldsList-at {s = c.into_iter-part-iterator.result} (cc) (YieldsList-from_str_split {s = c.split-part-items.result} 10 c.args.text.now (lit< tt) c.split-part-items.ensures.text c.split-part-items.ensures.has_more c.split-part-items.ensures.pattern) in
    let end = YieldsList-end parts c.loop-part.yielded _ c.loop-part.yielded_by _ _ c.in-None.is c.next.ensures.steps in
    c.loop-part.invariant ∙ ap (with_lines []) end.0
