use Rattle.std.proofs.Common.{◌≡◌, ℕ, Option, Some, None, ap, refl}
use Rattle.psg_grammar.specs.declared.types.Kind.{Kind}
use Rattle.psg_grammar.specs.declared.types.Kind.TheVariants as kinds
use Rattle.psg_grammar.specs.declared.types.Phylum.{Phylum}
use Rattle.psg_grammar.specs.declared.types.ListKind.{ListKind}
use Rattle.psg_grammar.specs.Kinds.{kind_name_of}
use Rattle.psg_grammar.proofs.NamePlaces.{found_by, missing_by, only_kind}
use Rattle.psg_grammar.proofs.kinds.kind_named.Goals as goal

phylum_named : (c : goal.In-Some) → kind_name_of c.args.definition.now (kinds.Phylum c.in-Some.place) ≡ Some c.args.name.now
phylum_named c = found_by (λ (p : Phylum). p.name) c.args.name.now c.as_slice.result.now c.args.definition.now.phyla c.phylum_place.result c.in-Some.place c.as_slice.ensures c.phylum_place.ensures c.in-Some.is

list_named : (c : goal.In-Some-list_place) → kind_name_of c.args.definition.now (kinds.List c.in-Some-list_place.place) ≡ Some c.args.name.now
list_named c = found_by (λ (l : ListKind). l.name) c.args.name.now c.as_slice-2.result.now c.args.definition.now.lists c.list_place.result c.in-Some-list_place.place c.as_slice-2.ensures c.list_place.ensures c.in-Some-list_place.is

pub returns-in-Some-clause-found : goal.returns-in-Some-clause-found
returns-in-Some-clause-found c = phylum_named c

pub returns-in-Some-clause-only : goal.returns-in-Some-clause-only
returns-in-Some-clause-only c = λ kind e. ap Some (only_kind c.args.definition.now c.requires.kind_names (kinds.Phylum c.in-Some.place) kind c.args.name.now (phylum_named c) e)

pub returns-in-Some-list_place-clause-found : goal.returns-in-Some-list_place-clause-found
returns-in-Some-list_place-clause-found c = list_named c

pub returns-in-Some-list_place-clause-only : goal.returns-in-Some-list_place-clause-only
returns-in-Some-list_place-clause-only c = λ kind e. ap Some (only_kind c.args.definition.now c.requires.kind_names (kinds.List c.in-Some-list_place.place) kind c.args.name.now (list_named c) e)

none_of : (r : Option ℕ) → ((x : ℕ) → r ≡ Some x → ⊥) → r ≡ None
none_of None h = refl
none_of (Some x) h = absurd (h x refl)

nothing_named : (c : goal.In-None) (kind : Kind) → kind_name_of c.args.definition.now kind ≡ Some c.args.name.now → ⊥
nothing_named c (kinds.Phylum p) e = missing_by (λ (p : Phylum). p.name) c.args.name.now c.as_slice.result.now c.args.definition.now.phyla c.phylum_place.result c.as_slice.ensures c.phylum_place.ensures (none_of c.phylum_place.result c.in_default.not-Some) p e
nothing_named c (kinds.List l) e = missing_by (λ (l : ListKind). l.name) c.args.name.now c.as_slice-2.result.now c.args.definition.now.lists c.list_place.result c.as_slice-2.ensures c.list_place.ensures c.in-None.is l e

pub returns-in-None-clause-only : goal.returns-in-None-clause-only
returns-in-None-clause-only c = λ kind e. absurd (nothing_named c kind e)
