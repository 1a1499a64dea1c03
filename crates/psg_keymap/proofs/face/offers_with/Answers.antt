use Rattle.std.specs.Prelude.{eqb, string_bytes}
use Rattle.std.specs.List.{starts_with}
use Rattle.psg_keymap.proofs.OfferLaws.{all_shown, one_more}
use Rattle.psg_keymap.proofs.face.offers_with.Goals as goal

pub loop-offer-preserved : goal.loop-offer-preserved
loop-offer-preserved c =
    one_more (λ o. starts_with eqb o c.args.front.now) string_bytes c.args.offers.now c.loop-offer.offer-index
    c.offer-item.result c.as_str-text.result.now _ _ _ c.loop-offer-test.true c.offer-item.is
    c.as_str-text.ensures.value c.in_ok-push_offer.ensures c.loop-offer.invariant

pub returns : goal.returns
returns c =
    all_shown (λ o. starts_with eqb o c.args.front.now) string_bytes c.args.offers.now c.loop-offer.offer-index _ _
    c.loop-offer-test.false c.loop-offer.invariant
