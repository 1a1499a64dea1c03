use Rattle.std.proofs.Common.{refl, arith}
use Rattle.std.specs.Ordering.{is_lt, nat_cmp}
use Rattle.std.proofs.lemmas.Bool.Decides.{Decides-at, nat_tests}
use Rattle.std.proofs.lemmas.Cmp.{same_from_slice_cmp_tested}
use Rattle.psg_unparse.proofs.Earlier.{earlier, earlier_tells}
use Rattle.psg_unparse.proofs.spans.is_earlier.Goals as goal

pub returns : goal.returns
returns c =
    Decides-at c.lt.result (earlier c.args.steps.now c.args.path.now)
    (same_from_slice_cmp_tested nat_cmp is_lt earlier refl (λ _ _. refl) (λ _ _. refl)
    (λ x y xs ys o h. grind (arith, nat_tests)) c.args.steps.now c.args.path.now c.lt.result c.lt.ensures)
    (earlier_tells c.args.steps.now c.args.path.now)
