use Rattle.std.proofs.Common.{◌≡◌, ◌+◌, ◌∷◌, ◌++◌, ℕ, List, sym, subst, refl}
use Rattle.std.proofs.lemmas.Result.{IfOk-weaker}
use Rattle.psg_terms.specs.Relations.{IsGlued, IsRelation}
use Rattle.psg_grammar.specs.declared.types.Kind.{Kind}
use Rattle.psg_relation.specs.Choices.{AllHaveSorts, Agrees, HasWide, picked}
use Rattle.psg_relation.proofs.Making.{err_map}
use Rattle.psg_scope.specs.Headers.{keys}
use Rattle.psg_eval.specs.Glues.{NextGlue}
use Rattle.psg_eval.specs.Partials.{IsPartial}
use Rattle.psg_eval.specs.Walks.{IsLayout}
use Rattle.psg_eval.proofs.PartialSorts.{as_next, left_sorted, left_sorts, may_join, next_partial, right_sorted, right_sorts}
use Rattle.psg_unify.specs.Pairs.{Pair as Columns}
use Rattle.psg_eval.proofs.partial.joined_rows.Goals as goal
use Rattle.psg_eval.proofs.partial.joined_rows.Goals.{After-as_slice-2}

the_layout : (c : After-as_slice-2) → IsLayout c.args.before.now.seen c.args.before.now.wanted c.args.child.now.seen (keys c.args.before.now.header.names) (keys c.args.child.now.header.names)
    (keys c.args.joined.now.header.names) c.as_slice.result.now c.as_slice-2.result.now
the_layout c =
    let before = c.args.before.now in
    let child = c.args.child.now in
    let made = c.in_ok-layout.layout in
    let Shaped : List Columns → List ℕ → Type 0 = λ ps ks. IsLayout before.seen before.wanted child.seen (keys before.header.names) (keys child.header.names) (keys c.args.joined.now.header.names) ps ks in
    subst (λ ps. Shaped ps c.as_slice-2.result.now) (sym c.as_slice.ensures.value) (subst (Shaped made.pairs.items) (sym c.as_slice-2.ensures.value) c.in_ok-layout.ensures)

pub join-requires : goal.join-requires
join-requires c =
    let def = c.args.definition.now in
    let before = c.args.before.now in
    let child = c.args.child.now in
    let (kind, kinds, part) = c.requires.partial in
    (may_join def kind kinds before child c.args.joined.now.header c.as_slice.result.now c.as_slice-2.result.now part c.requires.child (the_layout c))

pub returns-clause-sorted : goal.returns-clause-sorted
returns-clause-sorted c =
    let def = c.args.definition.now in
    let before = c.args.before.now in
    let child = c.args.child.now in
    let h = c.args.joined.now.header in
    let pairs = c.as_slice.result.now in
    let keep = c.as_slice-2.result.now in
    let l = the_layout (goal.at.returns-clause-sorted c).After-as_slice-2 in
    IfOk-weaker c.join.result (λ rel. (ls rs : List ℕ) → AllHaveSorts def.signature before.rel ls → AllHaveSorts def.signature child.rel rs
    → IsRelation def.signature (picked (ls ++ rs) keep) (IsGlued def.signature (Agrees pairs keep) before.rel child.rel) rel)
    (λ rel. (kind : Kind) (kinds : List Kind) → IsPartial def kind (child.kind ∷ kinds) before → (more : ℕ) → more + 1 ≡ before.wanted
    → IsPartial def kind kinds (record { header = h; seen = before.seen + child.seen; wanted = more; rel = rel }))
    (λ rel made kind kinds part more e.
    let ls = left_sorts def kind kinds before child h pairs keep part c.requires.child l in
    let rs = right_sorts def kind kinds before child h pairs keep part c.requires.child l in
    let known = made ls rs (left_sorted def kind kinds before child h pairs keep part c.requires.child l)
    (right_sorted def kind kinds before child h pairs keep part c.requires.child l) in
    next_partial def kind kinds before child h pairs keep part c.requires.child l c.requires.ordered more e rel (λ row i. (known.shapes row i).sorted)
    (record { header = h; seen = before.seen + child.seen; wanted = more; rel = rel }) refl refl refl refl)
    c.join.ensures.relation

pub returns-clause-rows : goal.returns-clause-rows
returns-clause-rows c =
    let def = c.args.definition.now in
    let before = c.args.before.now in
    let child = c.args.child.now in
    let h = c.args.joined.now.header in
    let pairs = c.as_slice.result.now in
    let keep = c.as_slice-2.result.now in
    let l = the_layout (goal.at.returns-clause-rows c).After-as_slice-2 in
    let (kind, kinds, part) = c.requires.partial in
    let ls = left_sorts def kind kinds before child h pairs keep part c.requires.child l in
    let rs = right_sorts def kind kinds before child h pairs keep part c.requires.child l in
    IfOk-weaker c.join.result (λ rel. (ls rs : List ℕ) → AllHaveSorts def.signature before.rel ls → AllHaveSorts def.signature child.rel rs
    → IsRelation def.signature (picked (ls ++ rs) keep) (IsGlued def.signature (Agrees pairs keep) before.rel child.rel) rel)
    (λ rel. (ss : List ℕ) × IsRelation def.signature ss (IsGlued def.signature (NextGlue before.seen (keys before.header.names) (keys child.header.names) (keys h.names)) before.rel child.rel) rel)
    (λ rel made.
    let known = made ls rs (left_sorted def kind kinds before child h pairs keep part c.requires.child l)
    (right_sorted def kind kinds before child h pairs keep part c.requires.child l) in
    (picked (ls ++ rs) keep, as_next def kind kinds before child h pairs keep part c.requires.child l c.requires.ordered (picked (ls ++ rs) keep) rel known))
    c.join.ensures.relation

pub returns-clause-wide : goal.returns-clause-wide
returns-clause-wide c =
    let def = c.args.definition.now in
    let before = c.args.before.now in
    let child = c.args.child.now in
    let h = c.args.joined.now.header in
    let pairs = c.as_slice.result.now in
    let keep = c.as_slice-2.result.now in
    let l = the_layout (goal.at.returns-clause-wide c).After-as_slice-2 in
    let (kind, kinds, part) = c.requires.partial in
    let ls = left_sorts def kind kinds before child h pairs keep part c.requires.child l in
    let rs = right_sorts def kind kinds before child h pairs keep part c.requires.child l in
    err_map c.join.result ((ls rs : List ℕ) → AllHaveSorts def.signature before.rel ls → AllHaveSorts def.signature child.rel rs
    → HasWide def.signature (picked (ls ++ rs) keep) (IsGlued def.signature (Agrees pairs keep) before.rel child.rel))
    ((ss : List ℕ) × HasWide def.signature ss (IsGlued def.signature (NextGlue before.seen (keys before.header.names) (keys child.header.names) (keys h.names)) before.rel child.rel))
    (λ made.
    let (rows, known, passes) = made ls rs (left_sorted def kind kinds before child h pairs keep part c.requires.child l)
    (right_sorted def kind kinds before child h pairs keep part c.requires.child l) in
    (picked (ls ++ rs) keep, (rows, as_next def kind kinds before child h pairs keep part c.requires.child l c.requires.ordered (picked (ls ++ rs) keep) rows known, passes)))
    c.join.ensures.some
