use Rattle.std.proofs.Common.{◌≡◌, ◌||◌, nat_le, refl, ap, ◌∙◌, arith}
use Rattle.std.specs.Prelude.{cond, None, not, is_some}
use Rattle.psg_deflines.specs.WrittenTerms.{most_nested}
use Rattle.psg_deflines.proofs.PlaceLaws.{turned}
use Rattle.psg_deflines.proofs.TreeStageLaws.{placed-after, noted_deep}
use Rattle.psg_deflines.proofs.tree_reading.placed.Goals as goal

pub returns : goal.returns
returns c = λ fs t h same.
    let bare : c.is_none.result ≡ not (is_some c.args.tree) = turned _ c.is_none.result c.is_none.ensures in
    let noted : (c.args.trees.deep || (c.is_none.result || nat_le most_nested c.len.result)) ≡ noted_deep c.args.trees.deep c.args.tree c.len.result = ap (λ b. c.args.trees.deep || (b || nat_le most_nested c.len.result)) bare in
    placed-after c.args.trees (record { frames = c.pop.new.self; deep = c.args.trees.deep }) _ c.args.tree c.unless_deep-tree.result c.len.result c.in-Some.frame c.in_ok-filled.field-0 fs t h
    c.in-Some.ensures.items refl (omega (arith, c.len.ensures, c.args.trees.frames.ok.0)) (c.unless_deep-tree.ensures ∙ ap (λ b. cond b None c.args.tree) noted) c.in_ok-filled.ensures c.in_ok-push.ensures.items noted same
