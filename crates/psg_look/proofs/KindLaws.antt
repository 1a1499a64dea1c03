-- The kinds that a language has.
use Rattle.std.proofs.Common.{◌≡◌, ℕ, ◌<◌, List, length, Option, Some, None, refl, sym, subst}
use Rattle.std.proofs.lemmas.Option.{none-some, slice_get_within}
use Rattle.std.specs.Prelude.{option_map, slice_get}
use Rattle.psg_terms.specs.Names.{Name}
use Rattle.psg_grammar.specs.declared.types.Definition.{Definition}
use Rattle.psg_grammar.specs.declared.types.Kind.{Kind}
use Rattle.psg_grammar.specs.declared.types.Kind.TheVariants as kinds
use Rattle.psg_grammar.specs.declared.types.ListKind.{ListKind}
use Rattle.psg_grammar.specs.declared.types.Phylum.{Phylum}
use Rattle.psg_grammar.specs.Kinds.{HasKind, kind_name_of}

within : {X : Type 0} (f : X → Name) (xs : List X) (k : ℕ) (o : Option X) (n : Name) → slice_get xs k ≡ o
    → option_map f o ≡ Some n → k < length xs
within f xs k None n e is = absurd (none-some _ is)
within f xs k (Some x) n e is = slice_get_within xs k x e

-- a kind that has a name is there
named_kind : (def : Definition) (kind : Kind) (n : Name) → kind_name_of def kind ≡ Some n → HasKind def kind
named_kind def (kinds.Phylum p) n is = within (λ (k : Phylum). k.name) def.phyla p (slice_get def.phyla p) n refl is
named_kind def (kinds.List l) n is = within (λ (k : ListKind). k.name) def.lists l (slice_get def.lists l) n refl is

pub kind_there : (def d : Definition) (kind : Kind) (n : Name) → d ≡ def → kind_name_of d kind ≡ Some n → HasKind def kind
kind_there def d kind n same is = subst (λ x. HasKind x kind) same (named_kind d kind n is)
