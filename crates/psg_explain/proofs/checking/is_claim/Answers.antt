use Rattle.std.proofs.Common.{List, map, sym, subst}
use Rattle.psg_terms.specs.Terms.{Term}
use Rattle.psg_explain.specs.Plans.{AreCanonical, rows_claimed}
use Rattle.psg_explain.specs.Refutations.{AreClaimed}
use Rattle.psg_explain.proofs.CheckLaws.{claim_parts, not_here}
use Rattle.psg_explain.proofs.UnderLaws.{told, unmade}
use Rattle.psg_explain.proofs.checking.is_claim.Goals as goal

pub returns-then-not-here : goal.returns-then-not-here
returns-then-not-here c = λ s is.
    unmade (not_here c.args.definition.now c.args.stage.now (map rows_claimed c.args.before.now) c.args.claim.now s is (λ h. told c.if-not-here.true (c.is_at-here.ensures.1 h)))

pub returns-then-not-claimable : goal.returns-then-not-claimable
returns-then-not-claimable c = λ s is. unmade (λ claim. told c.if-not-claimable.true ((c.in_ok-claimable.ensures.claimed s is).1
    (subst (λ (l : List (List Term)). AreClaimed c.args.definition.now s.part s.number l) (sym c.as_slice.ensures) claim.rows)))

pub are_right-requires : goal.are_right-requires
are_right-requires c = record { rows = subst AreCanonical c.as_slice.ensures (c.in_ok-claimable.ensures.canonical c.if-not-claimable.false); before = c.requires }

pub returns : goal.returns
returns c = λ s is.
    claim_parts c.args.definition.now c.args.stage.now (map rows_claimed c.args.before.now) c.args.claim.now s is (c.is_at-here.ensures.0 c.if-not-here.false)
    (subst (λ (l : List (List Term)). AreClaimed c.args.definition.now s.part s.number l) c.as_slice.ensures ((c.in_ok-claimable.ensures.claimed s is).0 c.if-not-claimable.false))
    c.in_ok-right.right (c.in_ok-right.ensures s is)
