use Rattle.std.proofs.Common.{Some, ap, get_or, ◌∙◌}
use Rattle.psg_lint.specs.Judged.{def_of, fresh_of, tree_in}
use Rattle.psg_lint.proofs.SuspectLaws.{is_name, no_name_suspect}
use Rattle.psg_lint.proofs.WrongLaws.{got_in}
use Rattle.psg_lint.proofs.suspects.suspected.Goals as goal

pub suspected_name-requires-clause-place : goal.suspected_name-requires-clause-place
suspected_name-requires-clause-place g c =
    got_in c.args.wrong.places.now c.args.number c.requires.number c.index-wrong-number.result ∙ ap Some c.in-Name.is

pub returns-in-Node : goal.returns-in-Node
returns-in-Node g c = λ r is.
    let w = c.args.wrong in
    no_name_suspect (def_of w) (tree_in w) r (fresh_of w) w.kept.now c.args.number w.places.now
    (get_or w.places.now c.args.number c.index-wrong-number.result) c.requires.wrong.places
    (got_in w.places.now c.args.number c.requires.number c.index-wrong-number.result) (ap is_name c.in-Node.is)

pub returns-in-Element : goal.returns-in-Element
returns-in-Element g c = λ r is.
    let w = c.args.wrong in
    no_name_suspect (def_of w) (tree_in w) r (fresh_of w) w.kept.now c.args.number w.places.now
    (get_or w.places.now c.args.number c.index-wrong-number.result) c.requires.wrong.places
    (got_in w.places.now c.args.number c.requires.number c.index-wrong-number.result) (ap is_name c.in-Element.is)

pub returns-in-End : goal.returns-in-End
returns-in-End g c = λ r is.
    let w = c.args.wrong in
    no_name_suspect (def_of w) (tree_in w) r (fresh_of w) w.kept.now c.args.number w.places.now
    (get_or w.places.now c.args.number c.index-wrong-number.result) c.requires.wrong.places
    (got_in w.places.now c.args.number c.requires.number c.index-wrong-number.result) (ap is_name c.in-End.is)
