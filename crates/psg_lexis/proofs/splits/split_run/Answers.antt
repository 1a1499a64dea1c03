use Rattle.std.proofs.Common.{chars, sym, ◌∙◌}
use Rattle.psg_lexis.specs.Classes.{EndsBy}
use Rattle.psg_lexis.specs.Splits.{takes}
use Rattle.psg_lexis.proofs.Runs.{past_first, more_run, run_boundary, run_split, stops_at, stops_at_end}
use Rattle.psg_lexis.proofs.splits.split_run.Goals as goal
use Rattle.psg_lexis.proofs.splits.split_run.Goals.{in-Some+then-not-takes, in_default}

pub loop-first-smaller : goal.loop-first-smaller
loop-first-smaller c = past_first _ _ _ c.in-Some.ensures.first

pub loop-first-preserved : goal.loop-first-preserved
loop-first-preserved c =
    (c.in-Some.ensures.first.utf8, more_run _ _ _ _ _ c.loop-first.invariant.1 c.in-Some.ensures.first (sym c.takes.ensures ∙ c.if-not-takes.false))

pub split_at-requires : goal.split_at-requires
split_at-requires c = run_boundary _ _ _ c.loop-first.invariant.1 c.loop-first.invariant.0

pub returns : goal.returns
returns c =
    let ends : EndsBy (takes c.args.run) (chars c.loop-first.rest.now) =
    elim c.match-split_first.branch [
      | in-Some+then-not-takes w ↦ stops_at _ _ _ _ w.in-Some.ensures.first (sym w.takes.ensures
          ∙ w.if-not-takes.true)
      | in_default w ↦ stops_at_end _ _ w.in_default.ensures.none
    ]
    in record { run = run_split _ _ _ _ _ c.utf8.text c.loop-first.invariant.0 c.loop-first.invariant.1 ends c.split_at.ensures.front c.split_at.ensures.back }
