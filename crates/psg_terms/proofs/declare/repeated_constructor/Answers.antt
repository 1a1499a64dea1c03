use Rattle.std.proofs.Common.{ap, sym, ◌∙◌, arith}
use Rattle.psg_terms.specs.Names.{has_twice}
use Rattle.psg_terms.specs.Declarations.{names_in}
use Rattle.psg_terms.specs.Numbered.{places}
use Rattle.std.proofs.lemmas.List.{take_all}
use Rattle.psg_terms.proofs.DeclareLaws.{names_in-at, names_in-length}
use Rattle.psg_terms.proofs.DeclareSteps.{repeat-found, distinct-step, seen-step}
use Rattle.psg_terms.proofs.DeclareFaults.{places-at, limit-distinct, whole-distinct}
use Rattle.psg_terms.proofs.declare.repeated_constructor.Goals as goal

pub returns-then-p-limit-clause-none : goal.returns-then-p-limit-clause-none
returns-then-p-limit-clause-none c = λ written e.
    limit-distinct written (places c.args.placed.now) c.loop-i.i (c.index-placed-i.result.sort.0, c.index-placed-i.result.decl.now) c.args.limit e
    (places-at c.args.placed.now c.loop-i.i c.index-placed-i.result c.loop-i-test.true c.index-placed-i.is) c.if-p-limit.true c.loop-i.invariant.0

pub returns-then-contains_key-clause-some : goal.returns-then-contains_key-clause-some
returns-then-contains_key-clause-some c =
    let names = names_in (places c.args.placed.now) in (
      (c.index-placed-i.result.sort.0, c.index-placed-i.result.decl.now),
      places-at c.args.placed.now c.loop-i.i c.index-placed-i.result c.loop-i-test.true c.index-placed-i.is,
      c.if-p-limit.false,
      (
        c.index-placed-i.result.decl.now.name,
        repeat-found names c.loop-i.i c.index-placed-i.result.decl.now.name c.as_str-name.result.now c.loop-i.seen c.contains_key.result
            (names_in-at c.args.placed.now c.loop-i.i c.index-placed-i.result c.loop-i-test.true c.index-placed-i.is)
            c.loop-i.invariant.0 c.loop-i.invariant.1 c.as_str-name.ensures c.contains_key.ensures c.if-contains_key.true,
      ),
    )

pub loop-i-preserved : goal.loop-i-preserved
loop-i-preserved c =
    let names = names_in (places c.args.placed.now) in
    let at = names_in-at c.args.placed.now c.loop-i.i c.index-placed-i.result c.loop-i-test.true c.index-placed-i.is in (
      distinct-step names c.loop-i.i c.index-placed-i.result.decl.now.name c.as_str-name.result.now c.loop-i.seen c.contains_key.result at
          c.loop-i.invariant.0 c.loop-i.invariant.1 c.as_str-name.ensures c.contains_key.ensures c.if-contains_key.false,
      seen-step names c.loop-i.i c.index-placed-i.result.decl.now.name c.as_str-name.result.now c.loop-i.seen c.insert.new.self 0 at
          c.loop-i.invariant.1 c.as_str-name.ensures c.in_ok-insert.ensures.updates,
    )

pub returns-clause-none : goal.returns-clause-none
returns-clause-none c = λ written e.
    let names = names_in (places c.args.placed.now) in
    let l = names_in-length c.args.placed.now in
    whole-distinct written (places c.args.placed.now) c.args.limit e (ap has_twice (sym (take_all c.loop-i.i names (omega arith))) ∙ c.loop-i.invariant.0)
