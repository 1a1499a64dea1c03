use Rattle.std.proofs.Common.{◌≡◌, ◌∙◌, ◌+◌, ◌<◌, ◌%◌, ℕ, List, [], Some, ap, arith, get_or, length, refl, slice_get, subst, sym}
use Rattle.std.proofs.lemmas.Nat.{mod_below}
use Rattle.std.proofs.lemmas.Option.{get_or_from_slice_get, slice_get_read}
use Rattle.psg_scope.specs.declared.header.NameCol.{NameCol}
use Rattle.psg_floor.specs.Suffixes.{one_use}
use Rattle.psg_floor.proofs.SuffixLaws.{length_push, made_more}
use Rattle.psg_floor.proofs.element.elements.Goals as goal

pub loop-place-preserved : goal.loop-place-preserved
loop-place-preserved c =
    let n = c.loop-place.place in
    let names = c.args.names.now in
    let name = c.index-names-place.result in
    let read = slice_get_read names (length names) (n % length names) name refl (mod_below n (length names) c.requires) c.index-names-place.is in
    let named : name ≡ get_or names (n % length names) [] = sym (get_or_from_slice_get names (n % length names) name [] read) in
    let old = c.loop-place.elements.items in
    let new = c.in_ok-using.field-0 in
    let more = c.in_ok-push.ensures.items in
    let longer = ap length more ∙ length_push old new in
    record {
      count = omega (arith, longer, c.loop-place.invariant.count);
      each = subst (λ (items : List (List NameCol)). (k : ℕ) → k < n + 1 → slice_get items k ≡ Some (one_use (get_or names (k % length names) []))) (sym more)
          (made_more (λ k. one_use (get_or names (k % length names) [])) old new n c.loop-place.invariant.count c.loop-place.invariant.each
          (c.in_ok-using.ensures ∙ ap one_use named));
    }
