use Rattle.std.proofs.Common.{◌+◌, ◌-◌, ◌<◌, ◌∷◌, drop, length, take, sym, ap, ◌∙◌, arith}
use Rattle.std.proofs.lemmas.List.{length-take-le, take_rest}
use Rattle.psg_program.specs.Formatted.{pieces}
use Rattle.psg_program.proofs.Feeds.{cut_some, cut_none, feed_inside}
use Rattle.psg_program.proofs.comparing.first_piece.Goals as goal

pub returns-in-Some-clause-pieces : goal.returns-in-Some-clause-pieces
returns-in-Some-clause-pieces c =
    cut_some c.args.bytes.now c.in-Some.end (sym c.first_feed.ensures ∙ c.in-Some.is)
    ∙ ap (λ rest. take c.in-Some.end c.args.bytes.now ∷ pieces rest) (sym (take_rest c.args.bytes.now (c.in-Some.end + 1)))

pub returns-in-Some-clause-shorter : goal.returns-in-Some-clause-shorter
returns-in-Some-clause-shorter c =
    let inside : c.in-Some.end < length c.args.bytes.now =
    feed_inside c.args.bytes.now c.in-Some.end (sym c.first_feed.ensures ∙ c.in-Some.is) in
    omega (arith, inside, length-take-le (length c.args.bytes.now - (c.in-Some.end + 1)) (drop (c.in-Some.end + 1) c.args.bytes.now))

pub returns-in-None-clause-pieces : goal.returns-in-None-clause-pieces
returns-in-None-clause-pieces c = cut_none c.args.bytes.now (sym c.first_feed.ensures ∙ c.in-None.is)
