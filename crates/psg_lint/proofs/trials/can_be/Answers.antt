use Rattle.std.proofs.Common.{◌+◌, ◌≤◌, sym, subst, ◌∙◌}
use Rattle.psg_cache.specs.Annotated.{tree_in as noted_tree}
use Rattle.psg_cache.specs.Diff.{diff_of}
use Rattle.psg_places.specs.Blame.{kept_in}
use Rattle.psg_places.specs.Opened.{opened}
use Rattle.psg_lint.specs.Judged.{def_of, fresh_of, tree_in}
use Rattle.psg_lint.proofs.HintLaws.{good_turned}
use Rattle.psg_lint.proofs.WrongLaws.{is_sound, made_beside, note_own, opened_beside}
use Rattle.psg_lint.proofs.trials.can_be.Goals as goal

pub is_good-requires-clause-sound : goal.is_good-requires-clause-sound
is_good-requires-clause-sound g c = is_sound c.args.wrong.judged c.requires.wrong.judged

pub is_good-requires-clause-tables : goal.is_good-requires-clause-tables
is_good-requires-clause-tables g c = c.requires.wrong.judged.tables

pub is_good-requires-clause-old : goal.is_good-requires-clause-old
is_good-requires-clause-old g c = note_own c.args.wrong c.requires.wrong

pub is_good-requires-clause-kinds : goal.is_good-requires-clause-kinds
is_good-requires-clause-kinds g c =
    made_beside c.args.wrong c.requires.wrong _ c.in_ok-part.part c.in_ok-part.ensures
    (opened_beside c.args.wrong c.requires.wrong c.args.kept.now c.args.tree.now c.requires.kinds)

pub returns-clause-good : goal.returns-clause-good
returns-clause-good g c =
    good_turned (def_of c.args.wrong) c.in_ok-part.part _ c.in_ok-good.good c.in_ok-part.ensures c.in_ok-good.ensures.good

pub returns-clause-ticks : goal.returns-clause-ticks
returns-clause-ticks g c =
    subst (λ old. c.is_good.new.steps ≤ c.args.steps.now
    + diff_of old (opened (def_of c.args.wrong) (kept_in c.args.kept.now) (fresh_of c.args.wrong) c.args.tree.now))
    c.requires.wrong.note.tree
    (subst (λ new. c.is_good.new.steps ≤ c.args.steps.now + diff_of (noted_tree c.args.wrong.note.now) new)
    c.in_ok-part.ensures c.is_good.ensures.ticks)

pub returns-in_err-good-clause-ticks : goal.returns-in_err-good-clause-ticks
returns-in_err-good-clause-ticks g c =
    subst (λ old. c.is_good.new.steps ≤ c.args.steps.now
    + diff_of old (opened (def_of c.args.wrong) (kept_in c.args.kept.now) (fresh_of c.args.wrong) c.args.tree.now))
    c.requires.wrong.note.tree
    (subst (λ new. c.is_good.new.steps ≤ c.args.steps.now + diff_of (noted_tree c.args.wrong.note.now) new)
    c.in_ok-part.ensures c.is_good.ensures.ticks)
