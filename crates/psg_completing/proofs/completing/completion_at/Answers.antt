use Rattle.std.proofs.Common.{ap, length, arith}
use Rattle.psg_completing.proofs.Completions.{completion_is}
use Rattle.psg_completing.proofs.completing.completion_at.Goals as goal

pub word_around-word-requires : goal.word_around-word-requires
word_around-word-requires g c = c.inside-place.ensures.within

pub whole_byte-from-requires : goal.whole_byte-from-requires
whole_byte-from-requires g c =
    let l = ap length c.unmarked-own.ensures in
    let a = c.word_around-word.ensures.order in
    let b = c.word_around-word.ensures.within in
    omega (arith, l, a, b)

pub whole_byte-to-requires : goal.whole_byte-to-requires
whole_byte-to-requires g c =
    let l = ap length c.unmarked-own.ensures in
    let b = c.word_around-word.ensures.within in
    omega (arith, l, b)

pub completed-requires : goal.completed-requires
completed-requires g c = record {
  order = c.word_around-word.ensures.order;
  within = c.word_around-word.ensures.within;
}

pub returns : goal.returns
returns g c =
    completion_is c.args.language.now c.args.kind c.args.text.now c.args.byte c.unmarked-own.result.now
    c.inside-place.result c.own_byte-first.result c.word_around-word.result c.whole_byte-from.result
    c.whole_byte-to.result c.in_ok-made.made c.unmarked-own.ensures c.own_byte-first.ensures c.inside-place.ensures.is
    c.word_around-word.ensures.around c.whole_byte-from.ensures c.whole_byte-to.ensures c.in_ok-made.ensures
