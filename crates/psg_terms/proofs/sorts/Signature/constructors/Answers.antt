use Rattle.std.proofs.Common.{ap, length, arith}
use Rattle.psg_terms.specs.Signature.{Signature as Plain}
use Rattle.psg_terms.proofs.Soundness.{symbols_of-length}
use Rattle.psg_terms.proofs.sorts.Signature.constructors.Goals as goal

pub returns : goal.returns
returns c =
    let l = ap length c.as_slice.ensures in
    let e = ap length (ap (λ (s : Plain). s.symbols) c.self.view_is) in
    let n = symbols_of-length c.self.inside.declared in
    omega arith
