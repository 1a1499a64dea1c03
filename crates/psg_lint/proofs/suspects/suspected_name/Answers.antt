use Rattle.std.proofs.Common.{◌≡◌, true, false, rules}
use Rattle.psg_lint.specs.Judged.{def_of, fresh_of, tree_in}
use Rattle.psg_lint.proofs.SuspectLaws.{bad_suspect, good_suspect, none_suspect, used_suspect}
use Rattle.psg_lint.proofs.suspects.suspected_name.Goals as goal

pub returns-in_default : goal.returns-in_default
returns-in_default g c = λ r is.
    let w = c.args.wrong in
    none_suspect (def_of w) (tree_in w) r (fresh_of w) w.kept.now c.args.number w.places.now c.args.path.now c.args.name c.in_ok-found.found
    c.requires.wrong.places c.requires.place c.in_ok-found.ensures c.in_default.is

pub returns-then-not-own : goal.returns-then-not-own
returns-then-not-own g c = λ r is.
    let w = c.args.wrong in
    used_suspect (def_of w) (tree_in w) r (fresh_of w) w.kept.now c.args.number w.places.now c.args.path.now c.args.name c.in_ok-found.found
    c.in-Some.own c.requires.wrong.places c.requires.place c.in_ok-found.ensures c.in-Some.is
    (let none : c.in-Some.own.declares ≡ false = search rules in none)

pub returns-then-not-good : goal.returns-then-not-good
returns-then-not-good g c = λ r is.
    let w = c.args.wrong in
    bad_suspect (def_of w) (tree_in w) r (fresh_of w) w.kept.now c.args.number w.places.now c.args.path.now c.args.name c.in_ok-found.found
    c.in-Some.own c.in_ok-good.good c.requires.wrong.places c.requires.place c.in_ok-found.ensures c.in-Some.is c.in_ok-good.ensures
    (let none : c.in_ok-good.good ≡ false = search rules in none)

pub returns : goal.returns
returns g c = λ r is.
    let w = c.args.wrong in
    good_suspect (def_of w) (tree_in w) r (fresh_of w) w.kept.now c.args.number w.places.now c.args.path.now c.args.name c.in_ok-found.found
    c.in-Some.own c.in_ok-good.good c.in_ok-finding.finding c.requires.wrong.places c.requires.place c.in_ok-found.ensures c.in-Some.is
    (let so : c.in-Some.own.declares ≡ true = search rules in so) c.requires.several c.in_ok-good.ensures
    (let so : c.in_ok-good.good ≡ true = search rules in so) (c.in_ok-finding.ensures r is)
