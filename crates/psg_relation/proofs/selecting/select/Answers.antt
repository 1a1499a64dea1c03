use Rattle.std.proofs.Common.{◌≡◌, ◌++◌, ℕ, List, ap, sym, ◌∙◌, subst}
use Rattle.std.proofs.lemmas.Result.{IfOk-weaker}
use Rattle.psg_terms.specs.Relations.{IsRelation}
use Rattle.psg_relation.specs.Choices.{AllHaveSorts, HasWide, IsOfRow, IsSelected, picked, all_picked}
use Rattle.psg_relation.specs.Joining.{AreJoined, MayMeet}
use Rattle.psg_relation.specs.Selecting.{diagonal, twins, width_of}
use Rattle.psg_relation.proofs.Columns.{all_sorted, projected}
use Rattle.psg_relation.proofs.Making.{err_map}
use Rattle.psg_relation.proofs.Selected.{no_pairs, self_joinable, self_equal, selected_relation, selected_sorts, selected_ready, unpaired, within_twice}
use Rattle.psg_unify.specs.Pairs.{AreOfEqualSort}
use Rattle.psg_relation.proofs.HeldJoins.{twins_may}
use Rattle.psg_relation.proofs.selecting.select.Goals as goal

pub of-requires : goal.of-requires
of-requires c =
    let sig = c.args.sig.now in
    let rows = c.args.rows.now in
    let keep = c.args.keep.now in
    let e : c.as_slice.result.now ≡ all_picked rows keep = c.as_slice.ensures.value ∙ c.in_ok-columns.ensures in
    (picked c.requires.sorts.0 keep, subst (λ m. AllHaveSorts sig m (picked c.requires.sorts.0 keep)) (sym e) (all_sorted sig rows keep c.requires.sorts.0 c.requires.sorts.1))

pub returns-then-is_empty-clause-relation : goal.returns-then-is_empty-clause-relation
returns-then-is_empty-clause-relation c =
    let sig = c.args.sig.now in
    let rows = c.args.rows.now in
    let keep = c.args.keep.now in
    let made = c.as_slice.result.now in
    let e : made ≡ all_picked rows keep = c.as_slice.ensures.value ∙ c.in_ok-columns.ensures in
    IfOk-weaker c.of.result (λ rel. (sorts : List ℕ) → AllHaveSorts sig made sorts → IsRelation sig sorts (IsOfRow sig made) rel)
    (λ rel. (sorts : List ℕ) → AllHaveSorts sig rows sorts → IsRelation sig (picked sorts keep) (IsSelected sig rows c.args.pairs.now keep) rel)
    (λ rel h sorts sorted. unpaired sig rows keep c.args.pairs.now (no_pairs c.args.pairs.now (sym c.is_empty.ensures ∙ c.if-is_empty.true)) (picked sorts keep) rel (projected sig rows keep (picked sorts keep) rel
    (subst (λ m. IsRelation sig (picked sorts keep) (IsOfRow sig m) rel) e
    (h (picked sorts keep) (subst (λ m. AllHaveSorts sig m (picked sorts keep)) (sym e) (all_sorted sig rows keep sorts sorted))))))
    c.of.ensures.relation

pub returns-then-is_empty-clause-some : goal.returns-then-is_empty-clause-some
returns-then-is_empty-clause-some c =
    let sig = c.args.sig.now in
    let rows = c.args.rows.now in
    let keep = c.args.keep.now in
    let made = c.as_slice.result.now in
    let e : made ≡ all_picked rows keep = c.as_slice.ensures.value ∙ c.in_ok-columns.ensures in
    err_map c.of.result ((sorts : List ℕ) → AllHaveSorts sig made sorts → HasWide sig sorts (IsOfRow sig made))
    ((sorts : List ℕ) → AllHaveSorts sig rows sorts → HasWide sig (picked sorts keep) (IsSelected sig rows c.args.pairs.now keep))
    (λ some sorts sorted.
    let (others, q, passes) = some (picked sorts keep) (subst (λ m. AllHaveSorts sig m (picked sorts keep)) (sym e) (all_sorted sig rows keep sorts sorted)) in (
      others,
      unpaired sig rows keep c.args.pairs.now (no_pairs c.args.pairs.now (sym c.is_empty.ensures ∙ c.if-is_empty.true)) (picked sorts keep) others
          (projected sig rows keep (picked sorts keep) others (subst (λ m. IsRelation sig (picked sorts keep) (IsOfRow sig m) others) e q)),
      passes,
    ))
    c.of.ensures.some

pub self_joins-requires : goal.self_joins-requires
self_joins-requires c = λ row i.
    let sig = c.args.sig.now in
    let rows = c.args.rows.now in
    let keep = c.args.keep.now in
    let own : c.as_slice-agree.result.now ≡ diagonal 0 (width_of rows) ++ c.args.pairs.now = c.as_slice-agree.ensures.value ∙ c.in_ok-all.ensures ∙ ap (λ n. diagonal 0 n ++ c.args.pairs.now) c.width.ensures in
    subst (λ ps. MayMeet sig row row ps keep) (sym own) (record {
      joinable = self_joinable sig rows c.requires.sorts.0 c.args.pairs.now c.requires.sorts.1 c.requires.sorts.2 row i;
      within = within_twice row keep (c.requires.keep row i);
    })

pub relation_of_joins-requires-clause-sorts : goal.relation_of_joins-requires-clause-sorts
relation_of_joins-requires-clause-sorts c =
    let sig = c.args.sig.now in
    let rows = c.args.rows.now in
    let keep = c.args.keep.now in
    let joined = c.in_ok-made.made.items in
    let own : c.as_slice-agree.result.now ≡ diagonal 0 (width_of rows) ++ c.args.pairs.now = c.as_slice-agree.ensures.value ∙ c.in_ok-all.ensures ∙ ap (λ n. diagonal 0 n ++ c.args.pairs.now) c.width.ensures in
    let a : AreJoined sig (diagonal 0 (width_of rows) ++ c.args.pairs.now) keep (twins rows) joined = subst (λ ps. AreJoined sig ps keep (twins rows) joined) own c.in_ok-made.ensures in
    let r = c.requires.sorts in
    (picked r.0 keep, selected_sorts sig rows c.args.pairs.now keep r.0 r.1 c.requires.keep joined a r.0 r.1)

pub relation_of_joins-requires-clause-joined : goal.relation_of_joins-requires-clause-joined
relation_of_joins-requires-clause-joined c = c.in_ok-made.ensures

pub relation_of_joins-requires-clause-may : goal.relation_of_joins-requires-clause-may
relation_of_joins-requires-clause-may c =
    let sig = c.args.sig.now in
    let rows = c.args.rows.now in
    let keep = c.args.keep.now in
    let r = c.requires.sorts in
    let own : c.as_slice-agree.result.now ≡ diagonal 0 (width_of rows) ++ c.args.pairs.now = c.as_slice-agree.ensures.value ∙ c.in_ok-all.ensures ∙ ap (λ n. diagonal 0 n ++ c.args.pairs.now) c.width.ensures in
    twins_may sig c.as_slice-agree.result.now keep rows r.0 r.1 (λ row i. within_twice row keep (c.requires.keep row i))
    (λ row i. subst (AreOfEqualSort r.0 r.0) (sym own) (self_equal sig rows r.0 c.args.pairs.now r.1 r.2 row i))

pub relation_of_joins-requires-clause-ready : goal.relation_of_joins-requires-clause-ready
relation_of_joins-requires-clause-ready c =
    let sig = c.args.sig.now in
    let rows = c.args.rows.now in
    let keep = c.args.keep.now in
    let joined = c.in_ok-made.made.items in
    let own : c.as_slice-agree.result.now ≡ diagonal 0 (width_of rows) ++ c.args.pairs.now = c.as_slice-agree.ensures.value ∙ c.in_ok-all.ensures ∙ ap (λ n. diagonal 0 n ++ c.args.pairs.now) c.width.ensures in
    let a : AreJoined sig (diagonal 0 (width_of rows) ++ c.args.pairs.now) keep (twins rows) joined = subst (λ ps. AreJoined sig ps keep (twins rows) joined) own c.in_ok-made.ensures in
    let r = c.requires.sorts in
    selected_ready sig rows c.args.pairs.now keep r.0 r.1 c.requires.keep joined a

pub returns-clause-relation : goal.returns-clause-relation
returns-clause-relation c =
    let sig = c.args.sig.now in
    let rows = c.args.rows.now in
    let pairs = c.args.pairs.now in
    let keep = c.args.keep.now in
    let joined = c.in_ok-made.made.items in
    let own : c.as_slice-agree.result.now ≡ diagonal 0 (width_of rows) ++ c.args.pairs.now = c.as_slice-agree.ensures.value ∙ c.in_ok-all.ensures ∙ ap (λ n. diagonal 0 n ++ c.args.pairs.now) c.width.ensures in
    let a : AreJoined sig (diagonal 0 (width_of rows) ++ c.args.pairs.now) keep (twins rows) joined = subst (λ ps. AreJoined sig ps keep (twins rows) joined) own c.in_ok-made.ensures in
    IfOk-weaker c.relation_of_joins.result (λ rel. (sorts : List ℕ) → AllHaveSorts sig joined sorts → IsRelation sig sorts (IsOfRow sig joined) rel)
    (λ rel. (sorts : List ℕ) → AllHaveSorts sig rows sorts → IsRelation sig (picked sorts keep) (IsSelected sig rows pairs keep) rel)
    (λ rel h sorts sorted. selected_relation sig rows pairs keep sorts sorted c.requires.keep joined a (picked sorts keep) rel
    (h (picked sorts keep) (selected_sorts sig rows pairs keep sorts sorted c.requires.keep joined a sorts sorted)))
    c.relation_of_joins.ensures.relation

pub returns-clause-some : goal.returns-clause-some
returns-clause-some c =
    let sig = c.args.sig.now in
    let rows = c.args.rows.now in
    let pairs = c.args.pairs.now in
    let keep = c.args.keep.now in
    let joined = c.in_ok-made.made.items in
    let own : c.as_slice-agree.result.now ≡ diagonal 0 (width_of rows) ++ c.args.pairs.now = c.as_slice-agree.ensures.value ∙ c.in_ok-all.ensures ∙ ap (λ n. diagonal 0 n ++ c.args.pairs.now) c.width.ensures in
    let a : AreJoined sig (diagonal 0 (width_of rows) ++ c.args.pairs.now) keep (twins rows) joined = subst (λ ps. AreJoined sig ps keep (twins rows) joined) own c.in_ok-made.ensures in
    err_map c.relation_of_joins.result ((sorts : List ℕ) → AllHaveSorts sig joined sorts → HasWide sig sorts (IsOfRow sig joined))
    ((sorts : List ℕ) → AllHaveSorts sig rows sorts → HasWide sig (picked sorts keep) (IsSelected sig rows pairs keep))
    (λ some sorts sorted.
    let (others, q, passes) = some (picked sorts keep) (selected_sorts sig rows pairs keep sorts sorted c.requires.keep joined a sorts sorted) in
    (others, selected_relation sig rows pairs keep sorts sorted c.requires.keep joined a (picked sorts keep) others q, passes))
    c.relation_of_joins.ensures.some
