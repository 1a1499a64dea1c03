use Rattle.std.proofs.Common.{◌≡◌, ap, ◌∙◌}
use Rattle.std.specs.Prelude.{position}
use Rattle.psg_keys.specs.Sizes.{run, run_at, ends_character}
use Rattle.psg_keys.proofs.SizeLaws.{within_some}
use Rattle.psg_keys.proofs.sizes.followers.Goals as goal

is_run : (c : goal.After-run_at) → c.run_at.result ≡ run ends_character c.args.most c.args.bytes.now
is_run c =
    c.run_at.ensures
    ∙ ap (run_at c.args.most c.args.bytes.now) (c.character_end-place.ensures ∙ ap (position ends_character) c.front_of-front.ensures)

pub returns-clause-size : goal.returns-clause-size
returns-clause-size c = is_run c

pub returns-clause-within : goal.returns-clause-within
returns-clause-within c = within_some ends_character c.args.most c.args.bytes.now c.run_at.result (is_run c)
