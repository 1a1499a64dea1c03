use Rattle.std.proofs.Common.{ap, ◌∙◌, length, get_or, arith}
use Rattle.psg_terms.specs.Signature.{Signature as Plain, constructors_from}
use Rattle.psg_terms.specs.Kept.{symbols_of}
use Rattle.psg_terms.specs.Marks.{con_numbers}
use Rattle.psg_terms.proofs.Soundness.{made-first}
use Rattle.psg_terms.proofs.sorts.Signature.constructors_of.Goals as goal

pub bounds-as_slice-sort : goal.bounds-as_slice-sort
bounds-as_slice-sort c =
    let l = ap length c.as_slice.ensures in
    let k = c.self.invariant.lists in
    let e = ap length (ap (λ (s : Plain). s.sorts) c.self.view_is) in
    omega arith

pub returns : goal.returns
returns c =
    let k = c.self.invariant.lists in
    let e = ap length (ap (λ (s : Plain). s.sorts) c.self.view_is) in
    ap con_numbers c.as_slice-2.ensures
    ∙ made-first c.self.inside.made c.args.sort.0 c.index-as_slice-sort.result c.index-as_slice-sort.result (symbols_of c.self.inside.declared) c.self.invariant.made_right (omega arith)
    (c.index-as_slice-sort.is ∙ ap (λ xs. get_or xs c.args.sort.0 c.index-as_slice-sort.result) c.as_slice.ensures)
    ∙ ap (constructors_from 0 c.args.sort.0) (ap (λ (s : Plain). s.symbols) c.self.view_is)
