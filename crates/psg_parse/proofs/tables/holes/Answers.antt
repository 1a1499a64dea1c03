use Rattle.std.proofs.Common.{◌≡◌, ◌==◌, length, get_or, ap, ◌∙◌, arith}
use Rattle.psg_parse.proofs.HoleTables.{holes_more}
use Rattle.psg_parse.proofs.tables.holes.Goals as goal

pub loop-spaces-preserved : goal.loop-spaces-preserved
loop-spaces-preserved c = record {
  count = omega (arith, c.in_ok-push.ensures.len, c.loop-spaces.invariant.count);
  exact = holes_more c.args.definition.now c.in_ok-declared.declared.items c.in_ok-declared.ensures.exact c.in_ok-declared.ensures.search
      c.loop-spaces.holes.items c.push.new.self.items c.is_empty.result c.spaces-item.result c.loop-spaces.spaces-index c.in_ok-push.ensures.items
      (omega (arith, c.loop-spaces.holes.ok.0, c.loop-spaces.invariant.count))
      (let e : length c.deref-spaces-items.result.now ≡ length c.in_ok-declared.declared.items = ap length c.deref-spaces-items.ensures.value in omega (arith, e, c.loop-spaces-test.true))
      (c.spaces-item.is ∙ ap (λ xs. get_or xs c.loop-spaces.spaces-index c.spaces-item.result) c.deref-spaces-items.ensures.value)
      (c.is_empty.ensures ∙ ap (λ xs. length xs == 0) c.as_slice.ensures.value)
      c.loop-spaces.invariant.exact;
}
