use Rattle.std.proofs.Common.{Some, slice_get, ◌≡◌, inl, inr, refl, sym, ap, ◌∙◌}
use Rattle.std.proofs.lemmas.Bool.{true≢false}
use Rattle.std.proofs.lemmas.Option.{slice_get_within}
use Rattle.psg_terms.proofs.known.mark.Goals as goal

pub put-requires : goal.put-requires
put-requires c = slice_get_within c.args.table.now.items c.args.number 0 (ap (λ t. slice_get t c.args.number) (sym c.as_slice.ensures.value) ∙ c.is_free-free.ensures.0 c.if-free.true)
