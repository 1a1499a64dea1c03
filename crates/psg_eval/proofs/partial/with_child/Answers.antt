use Rattle.std.proofs.Common.{◌≡◌, ◌+◌, ◌-◌, [], rules, Err, ℕ, List, sym, subst, ◌∙◌, refl, true≢false, arith}
use Rattle.psg_terms.specs.Terms.{Term}
use Rattle.psg_terms.specs.Weight.{PassesLimit}
use Rattle.psg_relation.specs.Choices.{HasWide}
use Rattle.psg_relation.proofs.Making.{maybe_wide}
use Rattle.psg_terms.specs.Relations.{IsGlued, IsRelation}
use Rattle.psg_relation.specs.declared.relation.Rel.{Rel}
use Rattle.psg_scope.specs.Headers.{keys}
use Rattle.psg_scope.specs.declared.header.Header.{Header}
use Rattle.psg_eval.specs.Glues.{NextGlue}
use Rattle.psg_eval.specs.Partials.{IsAdded, IsPartial, MatchStep}
use Rattle.psg_eval.proofs.PartialSorts.{empty_partial, none_light, step_fault}
use Rattle.psg_eval.proofs.PlaceLists.{all_places}
use Rattle.psg_eval.proofs.partial.with_child.Goals as goal
use Rattle.psg_eval.proofs.partial.with_child.Goals.{then-joined, else-joined+in_ok-rel}

pub joined_rows-requires-clause-all : goal.joined_rows-requires-clause-all
joined_rows-requires-clause-all c =
    let joined = c.in_ok-joined.joined in
    let made = c.in_ok-joined.ensures in
    all_places c.args.before.now.header c.args.child.now.header joined.header joined.left joined.right made.ordered made.union made.left made.right
    c.requires.partial.2.header c.requires.child.header

pub returns-in_err-rel-clause-step : goal.returns-in_err-rel-clause-step
returns-in_err-rel-clause-step c =
    let def = c.args.definition.now in
    let before = c.args.before.now in
    let child = c.args.child.now in
    let h = c.in_ok-joined.joined.header in
    let fault = c.in_err-rel.field-0.0 in
    let e : c.from_residual-in_err-rel.result ≡ Err fault = search rules in
    let Next : List (List Term) → Type 0 = λ rows. (ss : List ℕ) × IsRelation def.signature ss (IsGlued def.signature (NextGlue before.seen (keys before.header.names) (keys child.header.names) (keys h.names)) before.rel child.rel) rows in
    subst (MatchStep (IsAdded def before child)) (sym e)
    (step_fault (IsAdded def before child) fault
    (maybe_wide ((ss : List ℕ) × HasWide def.signature ss (IsGlued def.signature (NextGlue before.seen (keys before.header.names) (keys child.header.names) (keys h.names)) before.rel child.rel))
    ((header : Header) × (rows : List (List Term)) × IsAdded def before child header rows × PassesLimit rows) fault
    (λ (ss, (rows, rel, passes)).
    let made : Next rows = (ss, rel) in (
      h,
      rows,
      record {
        region = c.in_ok-joined.ensures.region;
        none = λ twice. absurd (true≢false (sym twice ∙ c.if-joined.false));
        made = λ once. made;
      },
      passes,
    ))
    c.in_err-rel.ensures.wide))

pub returns-clause-step : goal.returns-clause-step
returns-clause-step c = elim c.if-joined.branch [
  | then-joined w ↦
      let e : c.if-joined.rel ≡ [] = w.rel-is ∙ w.empty-rel.ensures in (
        record {
          region = c.in_ok-joined.ensures.region;
          none = λ twice. e;
          made = λ once. absurd (true≢false (sym w.if-joined.true ∙ once));
        },
        λ passes. none_light (subst PassesLimit e passes),
      )
  | else-joined+in_ok-rel w ↦ (
    record {
      region = c.in_ok-joined.ensures.region;
      none = λ twice. absurd (true≢false (sym twice ∙ w.if-joined.false));
      made = λ once.
          let (ss, rel) = w.in_ok-rel.ensures.rows in (
            ss,
            subst (IsRelation c.args.definition.now.signature ss (IsGlued c.args.definition.now.signature (NextGlue c.args.before.now.seen (keys c.args.before.now.header.names) (keys c.args.child.now.header.names)
                (keys c.in_ok-joined.joined.header.names)) c.args.before.now.rel c.args.child.now.rel)) (sym w.rel-is) rel,
          );
    },
    λ passes. w.in_ok-rel.ensures.within (subst PassesLimit w.rel-is passes),
  )
]

pub returns-clause-partial : goal.returns-clause-partial
returns-clause-partial c = λ kind kinds part.
    let wanted = c.args.before.now.wanted in
    let e : wanted - 1 + 1 ≡ wanted = omega (arith, part.many) in
    elim c.if-joined.branch [
      | then-joined w ↦
          empty_partial c.args.definition.now kind kinds c.args.before.now c.args.child.now c.in_ok-joined.joined.header part c.requires.child c.in_ok-joined.ensures.ordered
          c.in_ok-joined.ensures.union (wanted - 1) e
          (record { header = c.in_ok-joined.joined.header; seen = c.in_ok-seen.seen; wanted = wanted - 1; rel = c.if-joined.rel }) refl c.in_ok-seen.ensures.sum refl (w.rel-is ∙ w.empty-rel.ensures)
      | else-joined+in_ok-rel w ↦
          let known = w.in_ok-rel.ensures.sorted kind kinds part (wanted - 1) e in
          subst (λ n. IsPartial c.args.definition.now kind kinds (record { header = c.in_ok-joined.joined.header; seen = n; wanted = wanted - 1; rel = c.if-joined.rel })) (sym c.in_ok-seen.ensures.sum)
          (subst (λ (r : Rel). IsPartial c.args.definition.now kind kinds (record { header = c.in_ok-joined.joined.header; seen = c.args.before.now.seen + c.args.child.now.seen; wanted = wanted - 1; rel = r }))
          (sym w.rel-is) known)
    ]
