use Rattle.std.proofs.Common.{ℕ, List}
use Rattle.psg_terms.specs.Terms.{Term}
use Rattle.psg_terms.specs.Relations.{IsRelation}
use Rattle.psg_terms.specs.Text.{IsInTextOrder}
use Rattle.psg_terms.specs.Weight.{PassesLimit}
use Rattle.psg_relation.specs.Choices.{AllHaveSorts, IsOfRow}
use Rattle.psg_relation.specs.Sifted.{IsLightly, LosesHeavy}
use Rattle.psg_relation.proofs.Passing.{one_passes, wide_exists}
use Rattle.psg_relation.proofs.Relating.{lightly_relation, lightly_wide, lost_wide}
use Rattle.psg_relation.proofs.Making.{err_map, ok_is}
use Rattle.psg_relation.proofs.rejoining.relation_of_joins.Goals as goal

pub returns-in-Some-clause-relation : goal.returns-in-Some-clause-relation
returns-in-Some-clause-relation c =
    let sig = c.args.sig.now in
    let rows = c.args.rows.items in
    let l : IsLightly rows c.in-Some.kept.items = rw c.in-Some.is at c.in_ok-kept.ensures.rows in
    let order : IsInTextOrder sig c.in-Some.kept.items = rw c.in-Some.is at c.in_ok-kept.ensures.order in
    ok_is c.sealed.result c.in-Some.kept.items (λ rel. (sorts : List ℕ) → AllHaveSorts sig rows sorts → IsRelation sig sorts (IsOfRow sig rows) rel)
    (lightly_relation sig c.sound.ensures rows c.requires.ready c.in-Some.kept.items l order) c.sealed.ensures.rows

pub returns-in-Some-clause-wide : goal.returns-in-Some-clause-wide
returns-in-Some-clause-wide c =
    let sig = c.args.sig.now in
    let rows = c.args.rows.items in
    let l : IsLightly rows c.in-Some.kept.items = rw c.in-Some.is at c.in_ok-kept.ensures.rows in
    err_map c.sealed.result (PassesLimit c.in-Some.kept.items) ((sorts : List ℕ) → AllHaveSorts sig rows sorts → (others : List (List Term)) → IsRelation sig sorts (IsOfRow sig rows) others → PassesLimit others)
    (lightly_wide sig c.sound.ensures rows c.requires.ready c.in-Some.kept.items l) c.sealed.ensures.wide

pub returns-in-None-clause-wide : goal.returns-in-None-clause-wide
returns-in-None-clause-wide c =
    let h : LosesHeavy c.args.rows.items = rw c.in-None.is at c.in_ok-kept.ensures.rows in
    lost_wide c.args.sig.now c.sound.ensures c.args.rows.items c.requires.ready h

pub returns-in-Some-clause-some : goal.returns-in-Some-clause-some
returns-in-Some-clause-some c =
    let sig = c.args.sig.now in
    let rows = c.args.rows.items in
    let l : IsLightly rows c.in-Some.kept.items = rw c.in-Some.is at c.in_ok-kept.ensures.rows in
    wide_exists c.sealed.result sig c.sound.ensures rows
    (err_map c.sealed.result (PassesLimit c.in-Some.kept.items) ((sorts : List ℕ) → AllHaveSorts sig rows sorts → (others : List (List Term)) → IsRelation sig sorts (IsOfRow sig rows) others → PassesLimit others)
    (lightly_wide sig c.sound.ensures rows c.requires.ready c.in-Some.kept.items l) c.sealed.ensures.wide)

pub returns-in-None-clause-some : goal.returns-in-None-clause-some
returns-in-None-clause-some c =
    let h : LosesHeavy c.args.rows.items = rw c.in-None.is at c.in_ok-kept.ensures.rows in
    one_passes c.args.sig.now c.sound.ensures c.args.rows.items (lost_wide c.args.sig.now c.sound.ensures c.args.rows.items c.requires.ready h)
