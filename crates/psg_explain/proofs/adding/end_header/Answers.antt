use Rattle.psg_explain.proofs.StagingLaws.{closed_end, open_end}
use Rattle.psg_explain.proofs.adding.end_header.Goals as goal

pub returns-then-unfinished : goal.returns-then-unfinished
returns-then-unfinished c =
    let made = open_end c.args.known.definition.now c.args.list c.args.unfinished c.spaces_of-spaces.result.now c.in_ok-header.header c.if-unfinished.true c.spaces_of-spaces.ensures c.in_ok-header.ensures in
    record { header = made.0; ordered = made.1 }

pub returns : goal.returns
returns c =
    let made = closed_end c.args.known.definition.now c.args.list c.args.unfinished c.in_ok-empty.empty c.if-unfinished.false c.in_ok-empty.ensures in
    record { header = made.0; ordered = made.1 }
