use Rattle.std.proofs.Common.{◌≡◌, ◌+◌, ◌++◌, ◌∷◌, [], drop, length, rules, ap, ◌∙◌, arith}
use Rattle.std.proofs.lemmas.Iterator.Adapters.{YieldsList-from_vec}
use Rattle.std.proofs.lemmas.Iterator.Consumers.{YieldsList-turn}
use Rattle.std.proofs.lemmas.List.{length_push}
use Rattle.psg_uses.specs.Regions as regions
use Rattle.psg_uses.proofs.RegionLaws.{other_next}
use Rattle.psg_uses.proofs.regions.first_other.Goals as goal

pub loop-one-preserved : goal.loop-one-preserved
loop-one-preserved c =
    let items = c.args.declared.items in
    let w = c.args.name.now in
    let road = YieldsList-from_vec {s = c.into_iter-one-iterator.result} items (search rules) (search rules) in
    let turn = YieldsList-turn road c.loop-one.yielded c.loop-one.one-iterator c.loop-one.yielded_by c.next.result c.next.new.self c.in-Some.one c.in-Some.is c.next.ensures.steps in
    let long : length (c.loop-one.yielded ++ c.in-Some.one ∷ []) ≡ length c.loop-one.yielded + 1 =
    length_push c.loop-one.yielded c.in-Some.one ∙ omega arith in
    ap (λ n. regions.first_other w (drop n items)) long
    ∙ other_next w items (length c.loop-one.yielded) c.in-Some.one c.is_other.result turn.0 turn.1 c.is_other.ensures c.if-is_other.false c.loop-one.invariant
