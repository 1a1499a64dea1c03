use Rattle.std.proofs.Common.{◌≡◌, length, rules, sym, ◌∙◌, arith, refl}
use Rattle.psg_program.proofs.Sorting.{put_all, put_next}
use Rattle.psg_program.proofs.words.put_words.Goals as goal

pub loop-word-init : goal.loop-word-init
loop-word-init c = refl

pub loop-word-preserved : goal.loop-word-preserved
loop-word-preserved c =
    put_next c.args.words.now c.loop-word.placed.items _ c.loop-word.word-index c.word-item.result c.loop-word-test.true
    c.word-item.is c.in_ok-put_word.ensures ∙ c.loop-word.invariant

pub returns : goal.returns
returns c =
    let end : c.loop-word.word-index ≡ length c.args.words.now = search rules in
    sym (put_all c.args.words.now c.loop-word.placed.items c.loop-word.word-index (omega (arith, end)))
    ∙ c.loop-word.invariant
