use Rattle.std.specs.Prelude.{string_bytes}
use Rattle.psg_terms.specs.Names.{is_among}
use Rattle.psg_keymap.proofs.OfferLaws.{all_shown, one_more}
use Rattle.psg_asking.proofs.named.kept_among.Goals as goal

pub loop-word-preserved : goal.loop-word-preserved
loop-word-preserved c =
    one_more (λ w. is_among c.args.names.now w) string_bytes c.args.words.now c.loop-word.word-index
    c.word-item.result c.as_str-text.result.now _ _ _ c.loop-word-test.true c.word-item.is
    c.as_str-text.ensures.value c.in_ok-keep_if.ensures c.loop-word.invariant

pub returns : goal.returns
returns c =
    all_shown (λ w. is_among c.args.names.now w) string_bytes c.args.words.now c.loop-word.word-index _ _
    c.loop-word-test.false c.loop-word.invariant
