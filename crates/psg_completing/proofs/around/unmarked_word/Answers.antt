use Rattle.std.proofs.Common.{◌≡◌, ◌≤◌, suc, true, false, length, arith}
use Rattle.psg_completing.specs.Around.{is_mark_at}
use Rattle.psg_completing.proofs.Arounds.{plain_word, word_here}
use Rattle.psg_pointing.proofs.Walks.{none_in, some_in}
use Rattle.psg_completing.proofs.around.unmarked_word.Goals as goal

pub mark_here-requires : goal.mark_here-requires
mark_here-requires c = c.requires.within

pub run_end-to-requires : goal.run_end-to-requires
run_end-to-requires c =
    (some_in (λ inner. (c.args.start ≡ c.args.byte) × (is_mark_at c.args.text.now c.args.byte ≡ true)
    × (inner ≡ suc c.args.byte) × (inner ≤ length c.args.text.now)) c.mark_here.result c.in-Some.inner c.in-Some.is
    c.mark_here.ensures.some).3

pub run_end-end-requires : goal.run_end-end-requires
run_end-end-requires c = c.requires.within

pub returns-in-Some-clause-around : goal.returns-in-Some-clause-around
returns-in-Some-clause-around c =
    let here = some_in (λ inner. (c.args.start ≡ c.args.byte) × (is_mark_at c.args.text.now c.args.byte ≡ true)
    × (inner ≡ suc c.args.byte) × (inner ≤ length c.args.text.now)) c.mark_here.result c.in-Some.inner c.in-Some.is
    c.mark_here.ensures.some in
    word_here c.args.text.now c.args.byte c.args.start c.in-Some.inner c.run_end-to.result here.0 here.1 here.2
    c.requires.before c.requires.mark c.run_end-to.ensures.order c.run_end-to.ensures.words c.run_end-to.ensures.behind

pub returns-in-Some-clause-order : goal.returns-in-Some-clause-order
returns-in-Some-clause-order c =
    let here = some_in (λ inner. (c.args.start ≡ c.args.byte) × (is_mark_at c.args.text.now c.args.byte ≡ true)
    × (inner ≡ suc c.args.byte) × (inner ≤ length c.args.text.now)) c.mark_here.result c.in-Some.inner c.in-Some.is
    c.mark_here.ensures.some in
    let e = here.2 in
    let more = c.run_end-to.ensures.order in
    omega (arith, e, more)

pub returns-in-Some-clause-within : goal.returns-in-Some-clause-within
returns-in-Some-clause-within c = c.run_end-to.ensures.within

pub returns-in-None-clause-around : goal.returns-in-None-clause-around
returns-in-None-clause-around c =
    plain_word c.args.text.now c.args.byte c.args.start c.run_end-end.result c.requires.order c.requires.words
    c.requires.before c.run_end-end.ensures.order c.run_end-end.ensures.words c.run_end-end.ensures.behind
    c.requires.mark
    (none_in (c.args.start ≡ c.args.byte → is_mark_at c.args.text.now c.args.byte ≡ false) c.mark_here.result
    c.in-None.is c.mark_here.ensures.none)

pub returns-in-None-clause-order : goal.returns-in-None-clause-order
returns-in-None-clause-order c =
    let le = c.requires.order in
    let more = c.run_end-end.ensures.order in
    omega (arith, le, more)

pub returns-in-None-clause-within : goal.returns-in-None-clause-within
returns-in-None-clause-within c = c.run_end-end.ensures.within
