use Rattle.std.proofs.Common.{◌≡◌, suc, true, false, arith}
use Rattle.psg_completing.specs.Around.{is_mark_at, is_mark_before}
use Rattle.psg_completing.proofs.Arounds.{marked_word}
use Rattle.psg_pointing.proofs.Walks.{none_in, some_in}
use Rattle.psg_completing.proofs.around.word_around.Goals as goal

pub run_end-to-requires : goal.run_end-to-requires
run_end-to-requires c = c.requires

pub unmarked_word-requires-clause-within : goal.unmarked_word-requires-clause-within
unmarked_word-requires-clause-within c = c.requires

pub unmarked_word-requires-clause-order : goal.unmarked_word-requires-clause-order
unmarked_word-requires-clause-order c = c.run_start-start.ensures.order

pub unmarked_word-requires-clause-words : goal.unmarked_word-requires-clause-words
unmarked_word-requires-clause-words c = c.run_start-start.ensures.words

pub unmarked_word-requires-clause-before : goal.unmarked_word-requires-clause-before
unmarked_word-requires-clause-before c = c.run_start-start.ensures.before

pub unmarked_word-requires-clause-mark : goal.unmarked_word-requires-clause-mark
unmarked_word-requires-clause-mark c =
    none_in (is_mark_before c.args.text.now c.run_start-start.result ≡ false) c.mark_before.result c.in-None.is
    c.mark_before.ensures.none

pub returns-in-Some-clause-around : goal.returns-in-Some-clause-around
returns-in-Some-clause-around c =
    let mark = some_in (λ last. (c.run_start-start.result ≡ suc last) × (is_mark_at c.args.text.now last ≡ true))
    c.mark_before.result c.in-Some.from c.in-Some.is c.mark_before.ensures.some in
    marked_word c.args.text.now c.args.byte c.run_start-start.result c.run_end-to.result c.run_start-start.ensures.order
    c.run_start-start.ensures.words c.run_start-start.ensures.before c.run_end-to.ensures.order
    c.run_end-to.ensures.words c.run_end-to.ensures.behind c.in-Some.from mark.0 mark.1

pub returns-in-Some-clause-order : goal.returns-in-Some-clause-order
returns-in-Some-clause-order c =
    let mark = some_in (λ last. (c.run_start-start.result ≡ suc last) × (is_mark_at c.args.text.now last ≡ true))
    c.mark_before.result c.in-Some.from c.in-Some.is c.mark_before.ensures.some in
    let e = mark.0 in
    let le = c.run_start-start.ensures.order in
    let more = c.run_end-to.ensures.order in
    omega (arith, e, le, more)

pub returns-in-Some-clause-within : goal.returns-in-Some-clause-within
returns-in-Some-clause-within c = c.run_end-to.ensures.within

pub returns-in-None-clause-around : goal.returns-in-None-clause-around
returns-in-None-clause-around c = c.unmarked_word.ensures.around

pub returns-in-None-clause-order : goal.returns-in-None-clause-order
returns-in-None-clause-order c = c.unmarked_word.ensures.order

pub returns-in-None-clause-within : goal.returns-in-None-clause-within
returns-in-None-clause-within c = c.unmarked_word.ensures.within
