use Rattle.std.proofs.Common.{◌≡◌, ap, sym, subst, length, slice_get, Some, false, true, arith}
use Rattle.psg_terms.specs.Signature.{Signature as Plain, constructors_from}
use Rattle.psg_terms.specs.Declarations.{IsWideAmong}
use Rattle.psg_terms.specs.Kept.{symbols_of}
use Rattle.psg_terms.specs.Marks.{AllKeep, AreMade}
use Rattle.psg_terms.proofs.Soundness.{closed-below, first_empty, is_sound}
use Rattle.psg_terms.proofs.Spelled.{below_as, kept_as}
use Rattle.psg_terms.proofs.sorts.accept.Goals as goal

pub inhabited-requires : goal.inhabited-requires
inhabited-requires c =
    let v = c.args.spelling.names.ok in
    let l = c.len.ensures in
    below_as (length c.args.spelling.names.items) _ c.args.spelling.declared.items _ (omega arith) c.as_slice.ensures.value (closed-below (record { sorts = c.args.spelling.names.items; symbols = symbols_of c.args.spelling.declared.items }) _ c.requires.closed)

pub made_by-requires-clause-below : goal.made_by-requires-clause-below
made_by-requires-clause-below c =
    let v = c.args.spelling.names.ok in
    let l = c.len-2.ensures in
    below_as (length c.args.spelling.names.items) _ c.args.spelling.declared.items _ (omega arith) c.as_slice-3.ensures.value (closed-below (record { sorts = c.args.spelling.names.items; symbols = symbols_of c.args.spelling.declared.items }) _ c.requires.closed)

pub returns-in-Some-clause-err : goal.returns-in-Some-clause-err
returns-in-Some-clause-err c =
    let sig : Plain = record { sorts = c.args.spelling.names.items; symbols = symbols_of c.args.spelling.declared.items } in
    let v = c.args.spelling.names.ok in
    let l = c.len.ensures in
    let m = c.in_ok-marks.ensures.len in
    let marks = c.in_ok-marks.marks.items in
    let found = c.in-Some.ensures in
    first_empty sig marks c.in-Some.s (c.in_ok-marks.ensures.right sig (ap symbols_of (sym c.as_slice.ensures.value)))
    (subst (λ xs. AllKeep marks (symbols_of xs)) c.as_slice.ensures.value c.in_ok-marks.ensures.keep) (omega arith)
    (subst (λ xs. slice_get xs c.in-Some.s ≡ Some false) c.as_slice-2.ensures.value found.0)
    (λ r lt. subst (λ xs. slice_get xs r ≡ Some true) c.as_slice-2.ensures.value (found.1 r lt))

pub invariant_of-result : goal.invariant_of-result
invariant_of-result c =
    let sig : Plain = record { sorts = c.args.spelling.names.items; symbols = symbols_of c.args.spelling.declared.items } in
    let v = c.args.spelling.names.ok in
    let l = c.len.ensures in
    let l2 = c.len-2.ensures in
    let m = c.in_ok-marks.ensures.len in
    let marks = c.in_ok-marks.marks.items in
    let k = ap length c.as_slice-2.ensures.value in
    let made = c.in_ok-made.made.items in
    let n = c.in_ok-made.ensures.len in
    let j = ap length c.as_slice-4.ensures.value in
    let right = c.in_ok-marks.ensures.right sig (ap symbols_of (sym c.as_slice.ensures.value)) in
    kept_as c.args.spelling.names.items _ c.args.spelling.declared.items _ made _ c.of.ensures c.of-2.ensures c.of-3.ensures (record {
      few_sorts = c.requires.few_sorts;
      few_constructors = c.requires.few_constructors;
      lists = omega arith;
      made_right = subst (λ xs. AreMade 0 made (symbols_of xs)) c.as_slice-3.ensures.value c.in_ok-made.ensures.made;
      sound = is_sound sig c.requires.sort_names c.requires.constructor_names c.requires.closed
          (λ s lt. right s (subst (λ xs. slice_get xs s ≡ Some true) c.as_slice-2.ensures.value (c.in_default.ensures s (omega arith))))
          (λ s lt w. c.in_default-first_wide.ensures s (omega arith) (subst (λ xs. IsWideAmong (constructors_from 0 s (symbols_of xs)) (symbols_of xs)) (sym c.as_slice-5.ensures.value) w));
    })
