use Rattle.std.proofs.Common.{◌≡◌, take, true, false, ap, ◌∙◌, rules}
use Rattle.psg_uses.specs.Regions.{region_of}
use Rattle.psg_lint.specs.Judged.{def_of, fresh_of, tree_in}
use Rattle.psg_lint.proofs.HintLaws.{not_declaring, other_told}
use Rattle.psg_lint.proofs.hints.other_name.Goals as goal

pub returns-then-not-is_declaring_list : goal.returns-then-not-is_declaring_list
returns-then-not-is_declaring_list g c =
    let w = c.args.wrong in
    not_declaring (def_of w) (fresh_of w) (tree_in w) (take c.args.end w.kept.now) c.args.path.now c.is_declaring_list.result
    c.is_declaring_list.ensures (let none : c.is_declaring_list.result ≡ false = search rules in none)

pub returns : goal.returns
returns g c =
    let w = c.args.wrong in
    other_told (def_of w) (fresh_of w) (tree_in w) (take c.args.end w.kept.now) c.args.path.now _ c.is_declaring_list.result c.in_ok-found.found
    c.is_declaring_list.ensures (let so : c.is_declaring_list.result ≡ true = search rules in so)
    (c.in_ok-length.ensures.region ∙ ap (region_of (def_of w) (tree_in w)) c.steps-steps_in.ensures) c.in_ok-found.ensures
