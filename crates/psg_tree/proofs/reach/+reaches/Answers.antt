use Rattle.std.proofs.Common.{◌<◌, ◌^◌, ◌∷◌, sym, subst, arith, refl, true≢false}
use Rattle.psg_tree.specs.declared.reach.Step.TheVariants as next
use Rattle.psg_tree.specs.Reaching.{chain_phyla, IsOperatorsStep}
use Rattle.psg_tree.proofs.Missing.{missing, missing_falls}
use Rattle.psg_tree.proofs.Reaches.{found_one, found_none, found_more, found_still}
use Rattle.psg_tree.proofs.reach.+reaches.Goals as goal

pub reaches-requires : goal.reaches-requires
reaches-requires t c =
    let small : c.in-To.phylum < 2 ^ 32 = omega arith in
    let falls : missing (2 ^ 32) (c.in-To.phylum ∷ chain_phyla c.args.found.now) < missing (2 ^ 32) (chain_phyla c.args.found.now) = missing_falls (2 ^ 32) c.in-To.phylum (chain_phyla c.args.found.now) small c.in-To.ensures.0 in
    (omega arith, tt)

pub returns-in-Declares : goal.returns-in-Declares
returns-in-Declares t c =
    let step = subst (λ os. IsOperatorsStep c.args.definition.now (chain_phyla c.args.found.now) os next.Declares) c.as_slice.ensures c.in-Declares.ensures in
    (λ h. found_one c.args.definition.now (chain_phyla c.args.found.now) step, λ h. refl)

pub returns-in-Closed : goal.returns-in-Closed
returns-in-Closed t c =
    let step = subst (λ os. IsOperatorsStep c.args.definition.now (chain_phyla c.args.found.now) os next.Closed) c.as_slice.ensures c.in-Closed.ensures in
    (λ h. absurd (true≢false (sym h)), λ h. absurd (found_none c.args.definition.now (chain_phyla c.args.found.now) step h))

pub returns-in-To : goal.returns-in-To
returns-in-To t c =
    let step = subst (λ os. IsOperatorsStep c.args.definition.now (chain_phyla c.args.found.now) os (next.To c.in-To.phylum)) c.as_slice.ensures c.in-To.ensures in (
      λ h. found_more c.args.definition.now (chain_phyla c.args.found.now) c.in-To.phylum step (c.reaches.ensures.0 h),
      λ h. c.reaches.ensures.1 (found_still c.args.definition.now (chain_phyla c.args.found.now) c.in-To.phylum h),
    )
