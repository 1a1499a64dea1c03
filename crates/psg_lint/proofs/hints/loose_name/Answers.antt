use Rattle.std.proofs.Common.{◌≡◌, true, false, rules}
use Rattle.psg_lint.specs.Judged.{def_of, tree_in}
use Rattle.psg_lint.proofs.HintLaws.{loose_found, no_name, outside_use}
use Rattle.psg_lint.proofs.hints.loose_name.Goals as goal

pub returns-then-not-is_in : goal.returns-then-not-is_in
returns-then-not-is_in c =
    outside_use (def_of c.args.wrong) (tree_in c.args.wrong) c.args.region.now c.args.path.now c.args.name c.is_in.result c.is_in.ensures
    (let no : c.is_in.result ≡ false = search rules in no)

pub returns-in_ok-loose-in-Some : goal.returns-in_ok-loose-in-Some
returns-in_ok-loose-in-Some c =
    loose_found (def_of c.args.wrong) (tree_in c.args.wrong) c.args.region.now c.args.path.now c.args.name c.in_ok-found.found c.in-Some.own
    c.in_ok-loose-in-Some.loose c.is_in.result c.in_ok-found.ensures c.in-Some.is c.is_in.ensures
    (let yes : c.is_in.result ≡ true = search rules in yes) c.in_ok-loose-in-Some.ensures

pub returns-in-None : goal.returns-in-None
returns-in-None c =
    no_name (def_of c.args.wrong) (tree_in c.args.wrong) c.args.region.now c.args.path.now c.args.name c.in_ok-found.found c.in_ok-found.ensures
    c.in-None.is
