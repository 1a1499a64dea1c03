use Rattle.std.proofs.Common.{◌+◌, ◌≤◌, ap, arith, rules, sym, length, length-drop, drop, subst}
use Rattle.std.proofs.lemmas.List.{drop-drop, drop_all}
use Rattle.std.proofs.lemmas.Option.{MatchOption-at_some, MatchOption-at_none}
use Rattle.psg_deflines.specs.Parts.{texts}
use Rattle.psg_deflines.specs.FormReads.{HasNoCon, IsConRead, AreCons}
use Rattle.psg_deflines.specs.declared.constructors.ConRead.{ConRead}
use Rattle.psg_deflines.proofs.Stages.{IsReadTo}
use Rattle.psg_deflines.proofs.TermFound.{texts-length, texts-from}
use Rattle.psg_deflines.proofs.ConstructorLaws.{cons-more, cons-not, cons-all}
use Rattle.psg_deflines.proofs.constructors.constructors.Goals as goal

pub returns-in_default : goal.returns-in_default
returns-in_default c =
    let ps = texts c.args.parts.now in
    cons-not ps c.constructors.constructors.items (drop c.constructors.taken ps) c.constructors.invariant.1 (omega (arith, length-drop c.constructors.taken ps, texts-length c.args.parts.now))
    (subst HasNoCon (texts-from c.args.parts.now c.constructors.taken) (MatchOption-at_none (HasNoCon _) (λ (r : ConRead). IsConRead _ r.constructor r.taken) c.in_default.is c.in_ok-read.ensures))

pub overflow_add-taken : goal.overflow_add-taken
overflow_add-taken c =
    let read = MatchOption-at_some (HasNoCon _) (λ (r : ConRead). IsConRead _ r.constructor r.taken) c.in-Some.read c.in-Some.is c.in_ok-read.ensures in
    let small : c.constructors.taken + c.in-Some.read.taken ≤ length c.args.parts.now =
    omega (arith, read.fits, ap length (texts-from c.args.parts.now c.constructors.taken), length-drop c.constructors.taken (texts c.args.parts.now), texts-length c.args.parts.now) in
    search (rules, small)

pub constructors-preserved : goal.constructors-preserved
constructors-preserved c =
    let ps = texts c.args.parts.now in
    let read = subst (λ xs. IsConRead xs c.in-Some.read.constructor c.in-Some.read.taken) (texts-from c.args.parts.now c.constructors.taken)
    (MatchOption-at_some (HasNoCon _) (λ (r : ConRead). IsConRead _ r.constructor r.taken) c.in-Some.read c.in-Some.is c.in_ok-read.ensures) in (
      omega (arith, read.fits, length-drop c.constructors.taken ps, texts-length c.args.parts.now),
      subst (λ xs. IsReadTo AreCons ps xs (drop (c.constructors.taken + c.in-Some.read.taken) ps)) (sym c.in_ok-push.ensures.items)
          (subst (IsReadTo AreCons ps _) (drop-drop c.in-Some.read.taken c.constructors.taken ps)
          (cons-more ps c.constructors.constructors.items (drop c.constructors.taken ps) c.in-Some.read.constructor c.in-Some.read.taken c.constructors.invariant.1 read)),
    )

pub constructors-smaller : goal.constructors-smaller
constructors-smaller c =
    let ps = texts c.args.parts.now in
    let read = subst (λ xs. IsConRead xs c.in-Some.read.constructor c.in-Some.read.taken) (texts-from c.args.parts.now c.constructors.taken)
    (MatchOption-at_some (HasNoCon _) (λ (r : ConRead). IsConRead _ r.constructor r.taken) c.in-Some.read c.in-Some.is c.in_ok-read.ensures) in
    omega (arith, read.fits, read.long, length-drop c.constructors.taken ps, texts-length c.args.parts.now)

pub returns : goal.returns
returns c =
    cons-all (texts c.args.parts.now) c.constructors.constructors.items (drop c.constructors.taken (texts c.args.parts.now)) c.constructors.invariant.1 (drop_all c.constructors.taken (texts c.args.parts.now) (omega (arith, texts-length c.args.parts.now)))
