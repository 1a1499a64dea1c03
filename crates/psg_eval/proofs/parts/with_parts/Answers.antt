use Rattle.std.proofs.Common.{rules, Err, ◌≡◌, ◌+◌, ◌∷◌, length, drop, take, slice_get, Some, List, refl, sym, subst, ap, ◌∙◌, arith}
use Rattle.std.proofs.lemmas.List.{take_all}
use Rattle.psg_terms.proofs.Lists.{slice_get_item, take_item}
use Rattle.psg_grammar.specs.declared.types.Kind.{Kind}
use Rattle.psg_eval.specs.declared.partial.Partial.{Partial}
use Rattle.psg_eval.specs.Partials.{IsPartial}
use Rattle.psg_eval.specs.Patterns.{SuitsKind, seen_of}
use Rattle.psg_eval.specs.Stages.{IsMade, MatchMade}
use Rattle.psg_eval.specs.Work.{AreJoined, part_work}
use Rattle.psg_eval.proofs.Numbers.{numbered_if}
use Rattle.psg_eval.proofs.PatternSteps.{next_fault, next_made, now_suits, numbered_part, put_all, put_none, put_seen, put_seen_all}
use Rattle.psg_eval.proofs.WorkLaws.{joined_end, numbered_on}
use Rattle.psg_eval.proofs.parts.with_parts.Goals as goal
use Rattle.psg_eval.proofs.parts.with_parts.Goals.{After-index-children-i}

at : (c : After-index-children-i) → slice_get c.args.children.now c.loop-i.i ≡ Some c.index-children-i.result
at c = slice_get_item c.args.children.now c.loop-i.i c.index-children-i.result c.loop-i-test.true c.index-children-i.is

pub loop-i-init : goal.loop-i-init
loop-i-init c = (put_none c.args.definition.now c.args.children.now c.args.first, omega arith, (0, (refl, refl), omega arith))

pub with_part-requires : goal.with_part-requires
with_part-requires c =
    let (kind, ks, suits, part) = c.requires.partial in
    let (k, s, p) = now_suits c.args.definition.now c.args.children.now c.args.first c.loop-i.partial c.loop-i.i c.index-children-i.result (at (goal.at.with_part-requires c).After-index-children-i) c.loop-i.invariant.0 kind ks suits part in
    (kind, k, drop (c.loop-i.i + 1) ks, s, p)

pub returns-in_err-next-clause-made : goal.returns-in_err-next-clause-made
returns-in_err-next-clause-made c = λ f parts all is.
    let def = c.args.definition.now in
    let children = c.args.children.now in
    let i = c.loop-i.i in
    let child = c.index-children-i.result in
    let (kind, ks, suits, part) = c.requires.partial in
    let fault = c.in_err-next.field-0.0 in
    let d : c.from_residual.result ≡ Err fault = search rules in
    subst (MatchMade def f (length children)) (sym d)
    (next_fault def children c.args.first c.loop-i.partial i child (at (goal.at.returns-in_err-next-clause-made c).After-index-children-i) c.loop-i.invariant.0 c.requires.sound kind ks suits part f parts all is
    (length children) c.with_part.result fault c.in_err-next.ensures c.with_part.ensures.step)

pub loop-i-preserved : goal.loop-i-preserved
loop-i-preserved c =
    let def = c.args.definition.now in
    let children = c.args.children.now in
    let i = c.loop-i.i in
    let child = c.index-children-i.result in
    let now = c.loop-i.partial in
    let next = c.in_ok-next.next in
    let put = c.loop-i.invariant.0 in
    let there = at (goal.at.loop-i-preserved c).After-index-children-i in (
      record {
        made = λ f parts all is.
            let (kind, ks, suits, part) = c.requires.partial in
            next_made def children c.args.first now i child there put c.requires.sound kind ks suits part f parts all is next
            (numbered_part def now child c.with_part.result (i + 1) next c.in_ok-next.ensures c.with_part.ensures.step);
        partial = λ kind ks suits part.
            let (k, s, p) = now_suits def children c.args.first now i child there put kind ks suits part in
            numbered_if (λ (q : Partial). (a k : Kind) (others : List Kind) → SuitsKind def child k → IsPartial def a (k ∷ others) now → IsPartial def a others q)
            c.with_part.result (i + 1) next c.in_ok-next.ensures c.with_part.ensures.partial kind k (drop (i + 1) ks) s p;
        seen = put_seen children i child next.seen c.args.first.seen c.loop-i-test.true c.index-children-i.is
            (numbered_if (λ (p : Partial). p.seen ≡ now.seen + seen_of child) c.with_part.result (i + 1) next c.in_ok-next.ensures c.with_part.ensures.seen ∙ ap (λ n. n + seen_of child) put.seen);
      },
      omega (arith, c.loop-i.invariant.1, c.with_part.ensures.room),
      let (work, joined, spent) = c.loop-i.invariant.2 in
          let more = numbered_on (c.loop-i.room.left ≡ c.with_part.new.room.left + part_work now.rel child) c.with_part.result (i + 1) next c.in_ok-next.ensures c.with_part.ensures.work in (
            work + part_work now.rel child,
            subst (λ xs. AreJoined def c.args.first xs next (work + part_work now.rel child)) (sym (take_item children i child c.loop-i-test.true c.index-children-i.is))
                (joined_end def c.args.first now next (take i children) work child joined (numbered_part def now child c.with_part.result (i + 1) next c.in_ok-next.ensures c.with_part.ensures.step)
                (numbered_if (λ (p : Partial). p.seen ≡ now.seen + seen_of child) c.with_part.result (i + 1) next c.in_ok-next.ensures c.with_part.ensures.seen)),
            omega (arith, spent, more),
          ),
    )

pub returns-clause-made : goal.returns-clause-made
returns-clause-made c = λ f parts all is.
    let e : c.loop-i.i ≡ length c.args.children.now = omega arith in
    subst (λ n. IsMade c.args.definition.now f n c.loop-i.partial) e (c.loop-i.invariant.0.made f parts all is)

pub returns-clause-work : goal.returns-clause-work
returns-clause-work c =
    let (work, joined, spent) = c.loop-i.invariant.2 in
    (work, subst (λ xs. AreJoined c.args.definition.now c.args.first xs c.loop-i.partial work) (take_all c.loop-i.i c.args.children.now (omega arith)) joined, spent)

pub returns-clause-partial : goal.returns-clause-partial
returns-clause-partial c = λ kind ks suits part.
    put_all c.args.definition.now c.args.children.now c.args.first c.loop-i.partial c.loop-i.i (omega arith) c.loop-i.invariant.0 kind ks suits part

pub returns-clause-seen : goal.returns-clause-seen
returns-clause-seen c = put_seen_all c.args.children.now c.loop-i.i c.loop-i.partial.seen c.args.first.seen (omega arith) c.loop-i.invariant.0.seen
