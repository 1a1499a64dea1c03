use Rattle.std.specs.Prelude.{eqb, string_bytes}
use Rattle.std.specs.List.{starts_with}
use Rattle.psg_keymap.proofs.OfferLaws.{all_shown, one_more}
use Rattle.psg_completing.proofs.offering.begun.Goals as goal

pub loop-name-preserved : goal.loop-name-preserved
loop-name-preserved c =
    one_more (λ name. starts_with eqb name c.args.prefix.now) string_bytes c.args.names.now c.loop-name.name-index
    c.name-item.result c.as_str-text.result.now _ _ _ c.loop-name-test.true c.name-item.is
    c.as_str-text.ensures.value c.in_ok-push_begun.ensures c.loop-name.invariant

pub returns : goal.returns
returns c =
    all_shown (λ name. starts_with eqb name c.args.prefix.now) string_bytes c.args.names.now c.loop-name.name-index _ _
    c.loop-name-test.false c.loop-name.invariant
