use Rattle.std.proofs.Common.{◌∷◌, take, sym, ap, ◌∙◌, ◌+◌}
use Rattle.std.specs.List.{slice_split}
use Rattle.std.proofs.lemmas.List.{take_rest}
use Rattle.psg_run.specs.Scripts.{kept_lines, is_feed}
use Rattle.psg_run.proofs.Feeds.{cut_some, cut_none}
use Rattle.psg_run.proofs.lines.cut_line.Goals as goal

pub returns-in-Some-clause-lines : goal.returns-in-Some-clause-lines
returns-in-Some-clause-lines c =
    ap kept_lines (cut_some c.args.bytes.now c.in-Some.end (sym c.first_feed.ensures ∙ c.in-Some.is))
    ∙ ap (λ rest. kept_lines (take c.in-Some.end c.args.bytes.now ∷ slice_split is_feed rest)) (sym (take_rest c.args.bytes.now (c.in-Some.end + 1)))

pub returns-in-None-clause-lines : goal.returns-in-None-clause-lines
returns-in-None-clause-lines c = ap kept_lines (cut_none c.args.bytes.now (sym c.first_feed.ensures ∙ c.in-None.is))
