use Rattle.std.proofs.Common.{ℕ, List}
use Rattle.std.proofs.lemmas.Result.{IfOk-weaker}
use Rattle.psg_terms.specs.Terms.{Term}
use Rattle.psg_terms.specs.Relations.{IsRelation}
use Rattle.psg_terms.specs.Weight.{PassesLimit}
use Rattle.psg_relation.specs.Choices.{AllHaveSorts, HasWide, IsOfRow}
use Rattle.psg_relation.specs.Sealed.{AreCanonicalOf}
use Rattle.psg_relation.proofs.Making.{of_made, to_made, err_map}
use Rattle.psg_relation.proofs.relation.Rel.of.Goals as goal

pub returns-clause-relation : goal.returns-clause-relation
returns-clause-relation c =
    let sig = c.args.sig.now in
    let rows = c.args.rows.now in
    let made = c.in_ok-made.made.items in
    let a : AreCanonicalOf sig rows made = c.in_ok-made.ensures in
    IfOk-weaker c.relation_of.result (λ rel. (sorts : List ℕ) → AllHaveSorts sig made sorts → IsRelation sig sorts (IsOfRow sig made) rel)
    (λ rel. (sorts : List ℕ) → AllHaveSorts sig rows sorts → IsRelation sig sorts (IsOfRow sig rows) rel)
    (λ rel h sorts sorted. of_made sig rows made a sorts rel (h sorts (a.sorted sorts sorted))) c.relation_of.ensures.relation

pub returns-clause-wide : goal.returns-clause-wide
returns-clause-wide c =
    let sig = c.args.sig.now in
    let rows = c.args.rows.now in
    let made = c.in_ok-made.made.items in
    let a : AreCanonicalOf sig rows made = c.in_ok-made.ensures in
    err_map c.relation_of.result ((sorts : List ℕ) → AllHaveSorts sig made sorts → (others : List (List Term)) → IsRelation sig sorts (IsOfRow sig made) others → PassesLimit others)
    ((sorts : List ℕ) → AllHaveSorts sig rows sorts → (others : List (List Term)) → IsRelation sig sorts (IsOfRow sig rows) others → PassesLimit others)
    (λ wide sorts sorted others rel. wide sorts (a.sorted sorts sorted) others (to_made sig rows made a sorts others rel)) c.relation_of.ensures.wide

pub returns-clause-some : goal.returns-clause-some
returns-clause-some c =
    let sig = c.args.sig.now in
    let rows = c.args.rows.now in
    let made = c.in_ok-made.made.items in
    let a : AreCanonicalOf sig rows made = c.in_ok-made.ensures in
    err_map c.relation_of.result ((sorts : List ℕ) → AllHaveSorts sig made sorts → HasWide sig sorts (IsOfRow sig made))
    ((sorts : List ℕ) → AllHaveSorts sig rows sorts → HasWide sig sorts (IsOfRow sig rows))
    (λ some sorts sorted. let (others, rel, passes) = some sorts (a.sorted sorts sorted) in (others, of_made sig rows made a sorts others rel, passes)) c.relation_of.ensures.some
