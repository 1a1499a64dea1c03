use Rattle.std.proofs.Common.{◌+◌, ◌<◌, ◌^◌, arith, rules}
use Rattle.psg_deflines.proofs.CountLaws.{feeds-few}
use Rattle.psg_deflines.proofs.reading.not_text.Goals as goal

pub overflow_cast-line : goal.overflow_cast-line
overflow_cast-line c =
    let small : c.line_feeds.result + 1 < 2 ^ 32 = omega (arith, feeds-few c.split_at.result.0.now, c.line_feeds.ensures, c.split_at.ensures.front_len, c.requires.long, c.requires.few) in
    search (rules, small)

pub overflow_add-line : goal.overflow_add-line
overflow_add-line c =
    let small : c.line_feeds.result + 1 < 2 ^ 32 = omega (arith, feeds-few c.split_at.result.0.now, c.line_feeds.ensures, c.split_at.ensures.front_len, c.requires.long, c.requires.few) in
    search (rules, small)
