use Rattle.std.proofs.Common.{◌≡◌, ap, ◌∙◌}
use Rattle.std.specs.Prelude.{position}
use Rattle.psg_keys.specs.Sizes.{run, run_at, ends_sequence}
use Rattle.psg_keys.proofs.SizeLaws.{within_some, inside_some}
use Rattle.psg_keys.proofs.sizes.inside_size.Goals as goal

is_run : (c : goal.After-run_at) → c.run_at.result ≡ run ends_sequence 30 c.args.body.now
is_run c =
    c.run_at.ensures
    ∙ ap (run_at 30 c.args.body.now) (c.sequence_end-place.ensures ∙ ap (position ends_sequence) c.front_of-front.ensures)

pub returns-clause-size : goal.returns-clause-size
returns-clause-size c = is_run c

pub returns-clause-within : goal.returns-clause-within
returns-clause-within c = within_some ends_sequence 30 c.args.body.now c.run_at.result (is_run c)

pub returns-clause-inside : goal.returns-clause-inside
returns-clause-inside c = inside_some ends_sequence 30 c.args.body.now c.run_at.result (is_run c)
