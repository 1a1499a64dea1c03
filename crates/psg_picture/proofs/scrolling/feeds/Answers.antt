use Rattle.std.proofs.Common.{◌+◌, ◌-◌, ◌^◌, ◌∙◌, min, sym, ap, arith}
use Rattle.std.specs.List.{count_by}
use Rattle.psg_picture.specs.Scrolling.{is_feed}
use Rattle.psg_picture.proofs.ScrollLaws.{feed-end, feed-next}
use Rattle.psg_picture.proofs.scrolling.feeds.Goals as goal

pub bytes-preserved : goal.bytes-preserved
bytes-preserved c = record {
  same =
      feed-next c.bytes.line c.with_feed-line.result c.in-Some.first.now c.in-Some.others.now c.args.bytes.now c.with_feed-line.ensures
      (ap (λ bs. min (c.bytes.line + count_by is_feed bs) (2 ^ 32 - 1)) (sym c.in-Some.ensures.cases.0) ∙ c.bytes.invariant.same);
  within = omega (arith, c.with_feed-line.ensures);
}

pub returns : goal.returns
returns c = feed-end c.bytes.line c.bytes.rest.now c.args.bytes.now c.in_default.ensures.cases c.bytes.invariant.within c.bytes.invariant.same
