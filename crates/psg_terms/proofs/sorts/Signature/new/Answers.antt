use Rattle.std.proofs.Common.{ap, sym, ◌∙◌, subst, length, arith}
use Rattle.psg_terms.specs.Names.{has_twice}
use Rattle.psg_terms.specs.Declarations.{IsSpelled, AreDistinct, constructor_names}
use Rattle.psg_terms.proofs.DeclareFaults.{symbol_names}
use Rattle.psg_terms.proofs.Soundness.{symbols_of-length}
use Rattle.psg_terms.proofs.Spelled.{is_closed, few_sorts, few_constructors, not_refused}
use Rattle.psg_terms.proofs.sorts.Signature.new.Goals as goal

pub accept-requires : goal.accept-requires
accept-requires c =
    let h = c.in_ok-spelling.ensures.ok in
    let d = c.in_ok-spelling.ensures.distinct in
    let v = c.args.sorts.ok in
    let l = c.as_slice.ensures.len in
    let n = few_sorts _ _ h in
    let r = c.requires.few_sorts in
    let few = c.requires.few_constructors in
    let k = few_constructors _ _ h in
    let e = ap (λ ws. length (constructor_names ws)) c.as_slice.ensures.value in
    let j = symbols_of-length c.in_ok-spelling.spelling.declared.items in
    record {
      few_sorts = omega arith;
      few_constructors = omega arith;
      sort_names = ap has_twice h.sorts ∙ d.sorts;
      constructor_names = ap has_twice (symbol_names _ _ h) ∙ d.constructors;
      closed = is_closed _ _ h;
    }

pub returns-clause-ok : goal.returns-clause-ok
returns-clause-ok c =
    subst (λ ws. IsSpelled ws c.in_ok-signature.signature) c.as_slice.ensures.value (subst (IsSpelled c.as_slice.result.now) (sym c.in_ok-signature.ensures.ok) c.in_ok-spelling.ensures.ok)

pub returns-clause-none : goal.returns-clause-none
returns-clause-none c =
    not_refused c.args.sorts.items c.in_ok-signature.signature (subst AreDistinct c.as_slice.ensures.value c.in_ok-spelling.ensures.distinct)
    (subst (λ ws. IsSpelled ws c.in_ok-signature.signature) c.as_slice.ensures.value (subst (IsSpelled c.as_slice.result.now) (sym c.in_ok-signature.ensures.ok) c.in_ok-spelling.ensures.ok)) c.sound.ensures
