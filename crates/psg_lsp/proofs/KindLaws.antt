-- A kind with a name is there.
use Rattle.std.proofs.Common.{◌≡◌, Some, None, Option, refl}
use Rattle.std.specs.Option.{option_map}
use Rattle.std.specs.Prelude.{slice_get}
use Rattle.std.proofs.lemmas.Option.{none-some, slice_get_within}
use Rattle.psg_terms.specs.Names.{Name}
use Rattle.psg_grammar.specs.declared.types.Kind.{Kind}
use Rattle.psg_grammar.specs.declared.types.Kind.TheVariants as kinds
use Rattle.psg_grammar.specs.declared.types.Definition.{Definition}
use Rattle.psg_grammar.specs.Kinds.{HasKind, kind_name_of}

some_of_map : {X Y : Type 0} (f : X → Y) (o : Option X) (y : Y) → option_map f o ≡ Some y → (x : X) × (o ≡ Some x)
some_of_map f None y e = absurd (none-some y e)
some_of_map f (Some x) y e = (x, refl)

-- a kind with a name is there
pub has_kind : (def : Definition) (kind : Kind) (name : Name) → kind_name_of def kind ≡ Some name → HasKind def kind
has_kind def (kinds.Phylum p) name e = let (x, at) = some_of_map _ (slice_get def.phyla p) name e in slice_get_within def.phyla p x at
has_kind def (kinds.List l) name e = let (x, at) = some_of_map _ (slice_get def.lists l) name e in slice_get_within def.lists l x at
