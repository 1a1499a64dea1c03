use Rattle.std.proofs.Common.{◌≤◌, ◌<◌, [], append-nil, sym, rules}
use Rattle.psg_places.specs.Blame.{blamed_in, most_blamed}
use Rattle.psg_lint.specs.Judged.{def_of, fresh_of, tree_in}
use Rattle.psg_lint.proofs.TellLaws.{most_is, suspects_few, suspects_many}
use Rattle.psg_lint.proofs.WrongLaws.{answers_of}
use Rattle.psg_lint.proofs.blaming.tell_more.Goals as goal

pub returns-then-blamed-ge-MOST_BLAMED : goal.returns-then-blamed-ge-MOST_BLAMED
returns-then-blamed-ge-MOST_BLAMED g c = λ r is. (
  [],
  sym (append-nil c.args.found.now.items),
  suspects_many (def_of c.args.wrong) c.args.wrong.judged.text.now (tree_in c.args.wrong) r (fresh_of c.args.wrong) c.args.wrong.kept.now
      (most_is c.args.wrong.kept.now (answers_of c.args.wrong c.requires.wrong).fewer)
      (let many : most_blamed ≤ blamed_in c.args.wrong.kept.now = search rules in many),
)

pub returns : goal.returns
returns g c = λ r is.
    let (told, e, h) = c.in_ok-tell_suspects.ensures r is in (
      told,
      e,
      suspects_few (def_of c.args.wrong) c.args.wrong.judged.text.now (tree_in c.args.wrong) r (fresh_of c.args.wrong) c.args.wrong.kept.now told
          c.args.wrong.places.now c.requires.wrong.places (let lt : blamed_in c.args.wrong.kept.now < most_blamed = search rules in lt) h,
    )
