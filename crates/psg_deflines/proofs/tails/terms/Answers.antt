use Rattle.std.proofs.Common.{◌+◌, ◌≤◌, ap, inl, inr, arith, rules, ◌∙◌, length, length-drop, drop, subst}
use Rattle.std.proofs.lemmas.Option.{MatchOption-at_some, MatchOption-at_none}
use Rattle.std.specs.Prelude.{Some}
use Rattle.psg_deflines.specs.Parts.{texts}
use Rattle.psg_deflines.specs.TermWalks.{HasNoTerm, IsTermFound}
use Rattle.psg_deflines.proofs.TermFound.{texts-length, texts-from}
use Rattle.psg_deflines.proofs.TailLaws.{terms-start, terms-more, terms-not, terms-end}
use Rattle.psg_deflines.proofs.tails.terms.Goals.{then-terms-test+else-taken-parts, else-terms-test}
use Rattle.psg_deflines.proofs.tails.terms.Goals as goal

pub terms-init : goal.terms-init
terms-init c = (omega arith, omega arith, terms-start c.args.most (texts c.args.parts.now) _ (ap Some (c.of.ensures ∙ c.new.ensures.items)))

pub returns-in_default : goal.returns-in_default
returns-in_default c =
    let ps = texts c.args.parts.now in
    terms-not c.args.most ps c.terms.terms c.terms.count c.terms.taken c.terms.invariant.2 (omega arith) (omega (arith, texts-length c.args.parts.now))
    (subst HasNoTerm (texts-from c.args.parts.now c.terms.taken) (MatchOption-at_none (HasNoTerm _) (IsTermFound _) c.in_default.is c.in_ok-read.ensures))

pub overflow_add-taken : goal.overflow_add-taken
overflow_add-taken c =
    let found : IsTermFound (drop c.terms.taken (texts c.args.parts.now)) c.in-Some.read =
    subst (λ xs. IsTermFound xs c.in-Some.read) (texts-from c.args.parts.now c.terms.taken) (MatchOption-at_some (HasNoTerm _) (IsTermFound _) c.in-Some.read c.in-Some.is c.in_ok-read.ensures) in
    let small : c.terms.taken + c.in-Some.read.taken ≤ length c.args.parts.now = omega (arith, found.fits, length-drop c.terms.taken (texts c.args.parts.now), texts-length c.args.parts.now) in
    search (rules, small)

pub terms-preserved : goal.terms-preserved
terms-preserved c =
    let ps = texts c.args.parts.now in
    let found : IsTermFound (drop c.terms.taken ps) c.in-Some.read =
    subst (λ xs. IsTermFound xs c.in-Some.read) (texts-from c.args.parts.now c.terms.taken) (MatchOption-at_some (HasNoTerm _) (IsTermFound _) c.in-Some.read c.in-Some.is c.in_ok-read.ensures) in (
      omega (arith, found.fits, length-drop c.terms.taken ps, texts-length c.args.parts.now),
      omega arith,
      terms-more c.args.most ps c.terms.terms c.in_ok-terms.terms c.terms.count c.terms.taken c.in-Some.read c.terms.invariant.2 (omega arith) (omega (arith, texts-length c.args.parts.now)) found c.in_ok-terms.ensures,
    )

pub returns : goal.returns
returns c =
    terms-end c.args.most (texts c.args.parts.now) _ c.terms.invariant.2 c.terms.invariant.1 (elim c.terms-test.branch [
      | then-terms-test+else-taken-parts w ↦ inr (omega (arith, w.if-taken-parts.false, texts-length c.args.parts.now))
      | else-terms-test w ↦ inl (omega (arith, w.terms-test.false))
    ])
