use Rattle.std.proofs.Common.{◌∷◌, [], ◌∙◌}
use Rattle.psg_completing.proofs.Offers.{others_of, those_of}
use Rattle.psg_completing.proofs.offering.or_sample.Goals as goal

pub returns-then-none : goal.returns-then-none
returns-then-none c =
    c.in_ok-single.ensures
    ∙ others_of c.args.names.items c.as_slice-row.result.now (c.args.sample.now ∷ []) c.is_empty-none.result
    c.as_slice-row.ensures.value c.is_empty-none.ensures c.if-none.true

pub returns : goal.returns
returns c =
    those_of c.args.names.items c.as_slice-row.result.now (c.args.sample.now ∷ []) c.is_empty-none.result
    c.as_slice-row.ensures.value c.is_empty-none.ensures c.if-none.false
