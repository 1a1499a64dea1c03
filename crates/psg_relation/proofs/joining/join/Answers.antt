use Rattle.std.proofs.Common.{ℕ, ◌++◌, List, sym, subst}
use Rattle.std.proofs.lemmas.Result.{IfOk-weaker}
use Rattle.psg_terms.specs.Terms.{Term}
use Rattle.psg_terms.specs.Relations.{IsRelation, IsGlued}
use Rattle.psg_terms.specs.Weight.{PassesLimit}
use Rattle.psg_relation.specs.Choices.{AllHaveSorts, HasWide, IsOfRow, Agrees, picked}
use Rattle.psg_relation.specs.Joining.{AreJoined, MayJoin, all_pairs}
use Rattle.psg_relation.proofs.Making.{err_map}
use Rattle.psg_relation.proofs.Meeting.{joined_sorts, joined_ready, joined_relation, unjoined_relation}
use Rattle.psg_relation.proofs.HeldJoins.{pairs_may}
use Rattle.psg_relation.proofs.joining.join.Goals as goal

pub all_joins-requires : goal.all_joins-requires
all_joins-requires c =
    let sig = c.args.sig.now in
    let pairs = c.args.pairs.now in
    let keep = c.args.keep.now in
    subst (λ rs. MayJoin sig c.rows-lefts.result.now rs pairs keep) (sym c.rows-rights.ensures.rows) (subst (λ ls. MayJoin sig ls c.args.right.now pairs keep) (sym c.rows-lefts.ensures.rows) c.requires)

pub relation_of_joins-requires-clause-sorts : goal.relation_of_joins-requires-clause-sorts
relation_of_joins-requires-clause-sorts c =
    let sig = c.args.sig.now in
    let pairs = c.args.pairs.now in
    let keep = c.args.keep.now in
    let left = c.args.left.now in
    let right = c.args.right.now in
    let rows = c.in_ok-made.made.items in
    let a : AreJoined sig pairs keep (all_pairs left right) rows =
    subst (λ rs. AreJoined sig pairs keep (all_pairs left rs) rows) c.rows-rights.ensures.rows (subst (λ ls. AreJoined sig pairs keep (all_pairs ls c.rows-rights.result.now) rows) c.rows-lefts.ensures.rows c.in_ok-made.ensures) in
    let j = c.requires in
    (picked (j.left_sorts ++ j.right_sorts) keep, joined_sorts sig pairs keep left right rows a j.left_sorts j.right_sorts j.lefts j.rights)

pub relation_of_joins-requires-clause-ready : goal.relation_of_joins-requires-clause-ready
relation_of_joins-requires-clause-ready c =
    let sig = c.args.sig.now in
    let pairs = c.args.pairs.now in
    let keep = c.args.keep.now in
    let left = c.args.left.now in
    let right = c.args.right.now in
    let rows = c.in_ok-made.made.items in
    let a : AreJoined sig pairs keep (all_pairs left right) rows =
    subst (λ rs. AreJoined sig pairs keep (all_pairs left rs) rows) c.rows-rights.ensures.rows (subst (λ ls. AreJoined sig pairs keep (all_pairs ls c.rows-rights.result.now) rows) c.rows-lefts.ensures.rows c.in_ok-made.ensures) in
    joined_ready sig pairs keep left right rows a

pub relation_of_joins-requires-clause-joined : goal.relation_of_joins-requires-clause-joined
relation_of_joins-requires-clause-joined c = c.in_ok-made.ensures

pub relation_of_joins-requires-clause-may : goal.relation_of_joins-requires-clause-may
relation_of_joins-requires-clause-may c =
    let sig = c.args.sig.now in
    let pairs = c.args.pairs.now in
    let keep = c.args.keep.now in
    pairs_may sig pairs keep c.rows-lefts.result.now c.rows-rights.result.now
    (subst (λ rs. MayJoin sig c.rows-lefts.result.now rs pairs keep) (sym c.rows-rights.ensures.rows) (subst (λ ls. MayJoin sig ls c.args.right.now pairs keep) (sym c.rows-lefts.ensures.rows) c.requires))

pub returns-clause-relation : goal.returns-clause-relation
returns-clause-relation c =
    let sig = c.args.sig.now in
    let pairs = c.args.pairs.now in
    let keep = c.args.keep.now in
    let left = c.args.left.now in
    let right = c.args.right.now in
    let rows = c.in_ok-made.made.items in
    let a : AreJoined sig pairs keep (all_pairs left right) rows =
    subst (λ rs. AreJoined sig pairs keep (all_pairs left rs) rows) c.rows-rights.ensures.rows (subst (λ ls. AreJoined sig pairs keep (all_pairs ls c.rows-rights.result.now) rows) c.rows-lefts.ensures.rows c.in_ok-made.ensures) in
    IfOk-weaker c.relation_of_joins.result (λ rel. (sorts : List ℕ) → AllHaveSorts sig rows sorts → IsRelation sig sorts (IsOfRow sig rows) rel)
    (λ rel. (ls rs : List ℕ) → AllHaveSorts sig left ls → AllHaveSorts sig right rs → IsRelation sig (picked (ls ++ rs) keep) (IsGlued sig (Agrees pairs keep) left right) rel)
    (λ rel h ls rs hl hr. joined_relation sig pairs keep left right rows a (picked (ls ++ rs) keep) rel (h (picked (ls ++ rs) keep) (joined_sorts sig pairs keep left right rows a ls rs hl hr)))
    c.relation_of_joins.ensures.relation

pub returns-clause-wide : goal.returns-clause-wide
returns-clause-wide c =
    let sig = c.args.sig.now in
    let pairs = c.args.pairs.now in
    let keep = c.args.keep.now in
    let left = c.args.left.now in
    let right = c.args.right.now in
    let rows = c.in_ok-made.made.items in
    let a : AreJoined sig pairs keep (all_pairs left right) rows =
    subst (λ rs. AreJoined sig pairs keep (all_pairs left rs) rows) c.rows-rights.ensures.rows (subst (λ ls. AreJoined sig pairs keep (all_pairs ls c.rows-rights.result.now) rows) c.rows-lefts.ensures.rows c.in_ok-made.ensures) in
    err_map c.relation_of_joins.result ((sorts : List ℕ) → AllHaveSorts sig rows sorts → (others : List (List Term)) → IsRelation sig sorts (IsOfRow sig rows) others → PassesLimit others)
    ((ls rs : List ℕ) → AllHaveSorts sig left ls → AllHaveSorts sig right rs → (others : List (List Term)) → IsRelation sig (picked (ls ++ rs) keep) (IsGlued sig (Agrees pairs keep) left right) others → PassesLimit others)
    (λ wide ls rs hl hr others q. wide (picked (ls ++ rs) keep) (joined_sorts sig pairs keep left right rows a ls rs hl hr) others (unjoined_relation sig pairs keep left right rows a (picked (ls ++ rs) keep) others q))
    c.relation_of_joins.ensures.wide

pub returns-clause-some : goal.returns-clause-some
returns-clause-some c =
    let sig = c.args.sig.now in
    let pairs = c.args.pairs.now in
    let keep = c.args.keep.now in
    let left = c.args.left.now in
    let right = c.args.right.now in
    let rows = c.in_ok-made.made.items in
    let a : AreJoined sig pairs keep (all_pairs left right) rows =
    subst (λ rs. AreJoined sig pairs keep (all_pairs left rs) rows) c.rows-rights.ensures.rows (subst (λ ls. AreJoined sig pairs keep (all_pairs ls c.rows-rights.result.now) rows) c.rows-lefts.ensures.rows c.in_ok-made.ensures) in
    err_map c.relation_of_joins.result ((sorts : List ℕ) → AllHaveSorts sig rows sorts → HasWide sig sorts (IsOfRow sig rows))
    ((ls rs : List ℕ) → AllHaveSorts sig left ls → AllHaveSorts sig right rs → HasWide sig (picked (ls ++ rs) keep) (IsGlued sig (Agrees pairs keep) left right))
    (λ some ls rs hl hr.
    let (others, q, passes) = some (picked (ls ++ rs) keep) (joined_sorts sig pairs keep left right rows a ls rs hl hr) in
    (others, joined_relation sig pairs keep left right rows a (picked (ls ++ rs) keep) others q, passes))
    c.relation_of_joins.ensures.some
