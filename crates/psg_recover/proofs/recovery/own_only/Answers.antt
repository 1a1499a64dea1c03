use Rattle.std.proofs.Common.{◌≡◌, ◌∙◌, map-id, rules, ap, sym}
use Rattle.std.proofs.lemmas.Iterator.Consumers.{YieldsList-end}
use Rattle.std.proofs.lemmas.Iterator.Adapters.{YieldsList-from_vec}
use Rattle.psg_recover.specs.Candidates.{own_wanted}
use Rattle.psg_recover.proofs.ToldLaws.{own_push}
use Rattle.psg_recover.proofs.recovery.own_only.Goals as goal

pub loop-one-preserved : goal.loop-one-preserved
loop-one-preserved c =
    own_push c.args.known.definition.now c.loop-one.yielded c.in-Some.one c.loop-one.wanted.items c.push_own.new.wanted.items
    c.loop-one.invariant c.in_ok-push_own.ensures

pub returns : goal.returns
returns c =
    let end = YieldsList-end (YieldsList-from_vec {s = c.into_iter-one-iterator.result} c.args.all.items (search rules) (search rules))
    c.loop-one.yielded c.loop-one.one-iterator c.loop-one.yielded_by c.next.result c.next.new.self c.in-None.is c.next.ensures.steps in
    let all : c.loop-one.yielded ≡ c.args.all.items = sym (map-id c.loop-one.yielded) ∙ end.0 in
    c.loop-one.invariant ∙ ap (own_wanted c.args.known.definition.now) all
