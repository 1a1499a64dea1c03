use Rattle.std.proofs.Common.{IfSome, refl, subst}
use Rattle.psg_scope.specs.Sharing.{IsInside}
use Rattle.psg_scope.proofs.SharedLaws.{right_whole}
use Rattle.psg_scope.proofs.sharing.right_alone.Goals as goal

pub returns : goal.returns
returns c =
    right_whole c.args.left.now c.args.right.now c.as_slice-long.result.now c.as_slice-short.result.now _ c.requires.left
    c.requires.right c.as_slice-long.ensures c.as_slice-short.ensures
    (subst (λ o. IfSome o (λ v. IsInside c.as_slice-long.result.now c.as_slice-short.result.now v.items)) c.in-Some.is
    c.in_ok-inside.ensures) c.in_ok-own.ensures c.in_ok-names.ensures refl
