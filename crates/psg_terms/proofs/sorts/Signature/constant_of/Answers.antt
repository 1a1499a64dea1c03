use Rattle.std.proofs.Common.{ap, sym, ◌∙◌, length, get_or, arith}
use Rattle.psg_terms.specs.Signature.{Signature as Plain, constructors_from, sole}
use Rattle.psg_terms.specs.Kept.{symbols_of}
use Rattle.psg_terms.specs.Marks.{con_numbers}
use Rattle.psg_terms.proofs.Soundness.{made-first, none-past}
use Rattle.psg_terms.proofs.sorts.Signature.constant_of.Goals as goal

pub returns-in-Some : goal.returns-in-Some
returns-in-Some c =
    let l = ap length c.as_slice.ensures in
    let lt = c.in-Some.ensures.lookup.3.0 in
    c.sole_of.ensures ∙ ap sole (ap con_numbers c.as_slice-in-Some.ensures
    ∙ made-first c.self.inside.made c.args.sort.0 c.in-Some.ids.now c.in-Some.ids.now (symbols_of c.self.inside.declared) c.self.invariant.made_right (omega arith)
    (c.in-Some.ensures.lookup.1 ∙ ap (λ xs. get_or xs c.args.sort.0 c.in-Some.ids.now) c.as_slice.ensures)
    ∙ ap (constructors_from 0 c.args.sort.0) (ap (λ (s : Plain). s.symbols) c.self.view_is))

pub returns-in-None : goal.returns-in-None
returns-in-None c =
    let l = ap length c.as_slice.ensures in
    let le = c.in-None.ensures.lookup.3 in
    let k = c.self.invariant.lists in
    ap sole (sym (none-past 0 c.args.sort.0 (record { sorts = c.self.inside.sorts; symbols = symbols_of c.self.inside.declared }) (symbols_of c.self.inside.declared) c.self.invariant.sound.closed (omega arith)) ∙ ap (constructors_from 0 c.args.sort.0) (ap (λ (s : Plain). s.symbols) c.self.view_is))
