use Rattle.std.proofs.Common.{◌≡◌, ◌∙◌, map-id, refl, rules, sym, subst}
use Rattle.std.proofs.lemmas.Bool.{false≢true}
use Rattle.std.proofs.lemmas.Iterator.Consumers.{YieldsList-end}
use Rattle.std.proofs.lemmas.Iterator.Adapters.{YieldsList-from_vec}
use Rattle.psg_relation.specs.Sifted.{IsSplit}
use Rattle.psg_relation.proofs.Splitting.{lights_next, heavies_next}
use Rattle.psg_relation.proofs.sifting.by_size.Goals as goal

pub loop-row-preserved-in-Continue-branch-2 : goal.loop-row-preserved-in-Continue-branch-2
loop-row-preserved-in-Continue-branch-2 c =
    heavies_next c.loop-row.yielded c.loop-row.light.items c.loop-row.heavy.items c.in-Some.row _ _ c.loop-row.invariant
    (c.is_heavy.ensures.0 c.if-is_heavy.true) c.in_ok-push.ensures.items refl

pub loop-row-preserved : goal.loop-row-preserved
loop-row-preserved c =
    lights_next c.loop-row.yielded c.loop-row.light.items c.loop-row.heavy.items c.in-Some.row _ _ c.loop-row.invariant
    (λ h. false≢true (sym c.if-is_heavy.false ∙ c.is_heavy.ensures.1 h)) c.in_ok-push-2.ensures.items refl

pub returns : goal.returns
returns c =
    let end = YieldsList-end (YieldsList-from_vec {s = c.into_iter-row-iterator.result} c.args.rows.items (search rules) (search rules))
    c.loop-row.yielded c.loop-row.row-iterator c.loop-row.yielded_by c.next.result c.next.new.self c.in-None.is c.next.ensures.steps in
    let all : c.loop-row.yielded ≡ c.args.rows.items = sym (map-id c.loop-row.yielded) ∙ end.0 in
    subst (λ xs. IsSplit xs c.loop-row.light.items c.loop-row.heavy.items) all c.loop-row.invariant
