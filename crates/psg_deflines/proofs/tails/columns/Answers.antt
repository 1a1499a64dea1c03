use Rattle.std.proofs.Common.{◌+◌, ◌≤◌, ap, refl, arith, rules, length, length-drop, drop, subst}
use Rattle.std.proofs.lemmas.Option.{MatchOption-at_some, MatchOption-at_none}
use Rattle.psg_deflines.specs.Parts.{texts}
use Rattle.psg_deflines.specs.TailReads.{HaveNoTerms, AreTermsFound}
use Rattle.psg_deflines.proofs.TermFound.{texts-length, texts-from}
use Rattle.psg_deflines.proofs.TailLaws.{columns-none, columns-zero, columns-found}
use Rattle.psg_deflines.proofs.tails.columns.Goals as goal

pub returns-in_default : goal.returns-in_default
returns-in_default c =
    columns-none c.args.most (texts c.args.parts.now) (drop 1 (texts c.args.parts.now)) c.if-not-is_colon.ensures
    (subst (HaveNoTerms c.args.most) (texts-from c.args.parts.now 1) (MatchOption-at_none (HaveNoTerms c.args.most _) (AreTermsFound c.args.most _) c.in_default.is c.in_ok-read.ensures))

pub returns-then-count-eq0 : goal.returns-then-count-eq0
returns-then-count-eq0 c =
    columns-zero c.args.most (texts c.args.parts.now) (drop 1 (texts c.args.parts.now)) c.if-not-is_colon.ensures c.in-Some.read
    (subst (λ xs. AreTermsFound c.args.most xs c.in-Some.read) (texts-from c.args.parts.now 1) (MatchOption-at_some (HaveNoTerms c.args.most _) (AreTermsFound c.args.most _) c.in-Some.read c.in-Some.is c.in_ok-read.ensures)) c.if-count-eq0.true

pub overflow_add-result : goal.overflow_add-result
overflow_add-result c =
    let found : AreTermsFound c.args.most (drop 1 (texts c.args.parts.now)) c.in-Some.read =
    subst (λ xs. AreTermsFound c.args.most xs c.in-Some.read) (texts-from c.args.parts.now 1) (MatchOption-at_some (HaveNoTerms c.args.most _) (AreTermsFound c.args.most _) c.in-Some.read c.in-Some.is c.in_ok-read.ensures) in
    let small : c.in-Some.read.taken + 1 ≤ length c.args.parts.now = omega (arith, found.fits, ap length c.if-not-is_colon.ensures, length-drop 1 (texts c.args.parts.now), texts-length c.args.parts.now) in
    search (rules, small)

pub returns : goal.returns
returns c =
    columns-found c.args.most (texts c.args.parts.now) (drop 1 (texts c.args.parts.now)) c.if-not-is_colon.ensures c.in-Some.read _
    (subst (λ xs. AreTermsFound c.args.most xs c.in-Some.read) (texts-from c.args.parts.now 1) (MatchOption-at_some (HaveNoTerms c.args.most _) (AreTermsFound c.args.most _) c.in-Some.read c.in-Some.is c.in_ok-read.ensures))
    c.if-count-eq0.false refl refl refl
