use Rattle.std.proofs.Common.{length, subst, sym}
use Rattle.psg_protocol.specs.declared.headers.Head.{Head}
use Rattle.psg_protocol.specs.Headers.{IsWithin}
use Rattle.psg_protocol.proofs.WithinLaws.{within}
use Rattle.psg_protocol.proofs.headers.head_of.Goals as goal

pub returns-clause-small : goal.returns-clause-small
returns-clause-small c =
    let P : Head → Type 0 = λ h. IsWithin (length c.args.bytes.now) h in
    subst P (sym c.head_after.ensures) (within c.args.bytes.now)
