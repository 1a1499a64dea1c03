use Rattle.std.specs.Prelude.{map, string_bytes}
use Rattle.psg_completing.proofs.Offers.{all_begun, some_begun}
use Rattle.psg_completing.proofs.offering.begun_or_all.Goals as goal

pub returns-then-none : goal.returns-then-none
returns-then-none c =
    all_begun c.args.prefix.now (map string_bytes c.args.names.now) c.in_ok-some.some.items c.as_slice-row.result.now
    c.in_ok-all.all.items c.is_empty-none.result c.in_ok-some.ensures c.as_slice-row.ensures.value
    c.is_empty-none.ensures c.if-none.true c.in_ok-all.ensures

pub returns : goal.returns
returns c =
    some_begun c.args.prefix.now (map string_bytes c.args.names.now) c.in_ok-some.some.items c.as_slice-row.result.now
    c.is_empty-none.result c.in_ok-some.ensures c.as_slice-row.ensures.value c.is_empty-none.ensures c.if-none.false
