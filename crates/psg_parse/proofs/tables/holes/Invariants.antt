use Rattle.std.proofs.Common.{◌≡◌, ◌↔◌, ℕ, Bool, true, Some, slice_get, vec_len}
use Rattle.psg_parse.proofs.tables.holes.Given as goal
use Rattle.psg_grammar.specs.declared.types.Kind.TheVariants as kinds
use Rattle.psg_grammar.specs.Declaring.{HasHoles}

abbrev pub invariant-loop-spaces : goal.invariant-loop-spaces
invariant-loop-spaces l = record {
  count : vec_len l.holes ≡ l.spaces-index;
  exact : (p : ℕ) (b : Bool) → slice_get l.holes.items p ≡ Some b → (b ≡ true) ↔ HasHoles l.definition (kinds.Phylum p);
}
