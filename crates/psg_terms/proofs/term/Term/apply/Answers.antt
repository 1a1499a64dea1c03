use Rattle.std.proofs.Common.{◌≡◌, ◌-◌, ◌^◌, min, sym, subst, ◌∙◌}
use Rattle.psg_terms.specs.Terms.{symbol, applied}
use Rattle.psg_terms.specs.Weight.{symbols_of, depth_of, above_of}
use Rattle.psg_terms.specs.Weighing.{IsWeighed}
use Rattle.psg_terms.proofs.Weights.{symbols-con, depth-con, above-con}
use Rattle.psg_terms.proofs.term.Term.apply.Goals as goal

pub invariant_of-result : goal.invariant_of-result
invariant_of-result c = subst IsWeighed (sym c.in_ok-new.ensures.ok) (record {
  symbols_right = symbols-con 0 c.args.con.0 _ c.symbols_with-symbols.result c.of.result
      (subst (λ xs. c.symbols_with-symbols.result ≡ min (symbols_of (applied (symbol 0) xs)) (2 ^ 64 - 1)) (c.as_slice.ensures.value ∙ sym c.of.ensures) c.symbols_with-symbols.ensures);
  depth_right = depth-con 0 c.args.con.0 _ c.depth_with-depth.result c.of.result
      (subst (λ xs. c.depth_with-depth.result ≡ min (depth_of (applied (symbol 0) xs)) (2 ^ 64 - 1)) (c.as_slice-2.ensures.value ∙ sym c.of.ensures) c.depth_with-depth.ensures);
  above_right = above-con 0 c.args.con.0 c.above_with-above.result c.of.result
      (subst (λ xs. c.above_with-above.result ≡ above_of (applied (symbol 0) xs)) (c.as_slice-3.ensures.value ∙ sym c.of.ensures) c.above_with-above.ensures);
})
