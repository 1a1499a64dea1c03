-- What a file declares of a definition, and what the names of its positions stand for there.
use Rattle.std.proofs.Common.{◌≡◌, Bool, true, cond, IsTrue, is_some, ℕ, ◌<◌, Some, None, List, [], ◌∷◌, length, map, get_or, slice_get, refl, ap, sym, ◌∙◌, subst}
use Rattle.std.specs.Option.{option_and_then}
use Rattle.std.proofs.lemmas.Option.{slice_get-get_or}
use Rattle.psg_terms.proofs.Lists.{each_at}
use Rattle.psg_terms.specs.Names.{Name, is_among}
use Rattle.psg_terms.specs.Signature.{Symbol}
use Rattle.psg_terms.specs.declared.declare.ConDecl.{ConDecl}
use Rattle.psg_terms.specs.declared.declare.SortDecl.{SortDecl}
use Rattle.psg_grammar.specs.declared.types.Kind.{Kind}
use Rattle.psg_grammar.specs.declared.types.Kind.TheVariants as kinds
use Rattle.psg_grammar.specs.declared.types.Phylum.{Phylum}
use Rattle.psg_grammar.specs.declared.types.ListKind.{ListKind}
use Rattle.psg_grammar.specs.declared.types.Operator.{Operator}
use Rattle.psg_grammar.specs.declared.types.Definition.{Definition}
use Rattle.psg_grammar.specs.Sound.{IsSound, IsPhylum, IsListKind, HasKindSort, HasSpaceSort}
use Rattle.psg_deflines.specs.declared.lines.Line.{Line}
use Rattle.psg_defcheck.specs.Scopes.{sort_names, sort_declared, Constructor, constructor_declared, KindDecl, a_phylum, a_list, kind_declared, OpDecl, operator_declared, entity_sort, space_sort, is_kind, is_list, is_phylum, Place, sort_place, kind_place, phylum_place, value_place, element_place, entity_place, sort_told, element_told}
use Rattle.psg_defread.specs.WrittenLines.{sort_name, kind_name, space_name, item_written, constructors_written}
use Rattle.psg_defread.proofs.NumberNames.{name-found}

module _ (def : Definition) where
  abbrev pub constructor_written : Symbol → ConDecl
  constructor_written s = record { name = s.name; args = map (sort_name def) s.arguments }

  abbrev pub of_sort : ℕ → List Symbol → List ConDecl
  of_sort n xs = constructors_written def n xs

  -- those of the sort with one symbol more in front, where this is of the sort
  abbrev pub with_front : Bool → Symbol → ℕ → List Symbol → List ConDecl
  with_front b x n xs = cond b (constructor_written x ∷ of_sort n xs) (of_sort n xs)

  abbrev pub sort_written : ℕ → Name → SortDecl
  sort_written n name = record { name = name; constructors = constructors_written def n def.signature.symbols }

  -- what a constructor's declaration tells, and a list's
  abbrev pub symbol_told : Symbol → Constructor
  symbol_told s = (sort_name def s.sort, constructor_written s)

  abbrev pub list_told : ListKind → KindDecl
  list_told l = a_list (sort_name def l.sort.0) (kind_name def (kinds.Phylum l.element))

  abbrev pub operator_written : Operator → OpDecl
  operator_written op =
      record { phylum = kind_name def (kinds.Phylum op.phylum); made = map (item_written def) op.items }

  abbrev pub place_of : ℕ → Place
  place_of s = Some (sort_name def s)

  -- the file declares each part of the definition, and nothing else of its name first
  pub record Declares (file : List Line) : Type 0 where
    pub sort_there : (s : ℕ) (n : Name) → slice_get def.signature.sorts s ≡ Some n
        → is_among (sort_names file) n ≡ true
    pub sort_is : (s : ℕ) (n : Name) → slice_get def.signature.sorts s ≡ Some n
        → sort_declared file n ≡ Some (sort_written s n)
    pub symbol_is : (c : ℕ) (s : Symbol) → slice_get def.signature.symbols c ≡ Some s
        → constructor_declared file s.name ≡ Some (symbol_told s)
    pub phylum_is : (p : ℕ) (k : Phylum) → slice_get def.phyla p ≡ Some k
        → kind_declared file k.name ≡ Some (a_phylum (sort_name def k.sort.0))
    pub list_is : (l : ℕ) (k : ListKind) → slice_get def.lists l ≡ Some k
        → kind_declared file k.name ≡ Some (list_told k)
    pub operator_is : (o : ℕ) (op : Operator) → slice_get def.operators o ≡ Some op
        → operator_declared file op.name ≡ Some (operator_written op)
    pub space_is : (n s : ℕ) → HasSpaceSort def n s → space_sort file (space_name def n) ≡ Some (sort_name def s)
    -- where there is a space, there is a first one
    pub entity_there : (n s : ℕ) → HasSpaceSort def n s → IsTrue (is_some (entity_sort file))

  -- ---- sorts of the signature

  pub sort-at : (s : ℕ) → s < length def.signature.sorts → slice_get def.signature.sorts s ≡ Some (sort_name def s)
  sort-at s inside =
      let at = slice_get-get_or def.signature.sorts s [] inside in
      at ∙ ap Some (sym (name-found (λ n. n) def.signature.sorts s (get_or def.signature.sorts s []) at))

  module _ (sound : IsSound def) where
    pub kind-within : (kind : Kind) (s : ℕ) → HasKindSort def kind s → s < length def.signature.sorts
    kind-within (kinds.Phylum p) s (k, at, e) =
        subst (λ n. n < length def.signature.sorts) e (each_at (IsPhylum def) def.phyla sound.phyla p k at).sort
    kind-within (kinds.List l) s (k, at, e) =
        subst (λ n. n < length def.signature.sorts) e (each_at (IsListKind def) def.lists sound.lists l k at).sort

    -- ---- places

    module _ (file : List Line) (declares : Declares file) where
      pub sort-known : (s : ℕ) → s < length def.signature.sorts → IsTrue (is_among (sort_names file) (sort_name def s))
      sort-known s inside = declares.sort_there s (sort_name def s) (sort-at s inside)

      pub sort-placed : (s : ℕ) → s < length def.signature.sorts → sort_place file (sort_name def s) ≡ place_of s
      sort-placed s inside = ap (λ b. cond b (place_of s) None) (sort-known s inside)

      -- a kind's name is declared with its sort
      record IsTold (kind : Kind) (s : ℕ) : Type 0 where
        told : KindDecl
        is : kind_declared file (kind_name def kind) ≡ Some told
        of_sort : sort_told told ≡ sort_name def s

      kind-told : (kind : Kind) (s : ℕ) → HasKindSort def kind s → IsTold kind s
      kind-told (kinds.Phylum p) s (k, at, e) = record {
        told = a_phylum (sort_name def k.sort.0);
        is = ap (kind_declared file) (name-found (λ (x : Phylum). x.name) def.phyla p k at) ∙ declares.phylum_is p k at;
        of_sort = ap (sort_name def) e;
      }
      kind-told (kinds.List l) s (k, at, e) = record {
        told = list_told k;
        is = ap (kind_declared file) (name-found (λ (x : ListKind). x.name) def.lists l k at) ∙ declares.list_is l k at;
        of_sort = ap (sort_name def) e;
      }

      pub kind-known : (kind : Kind) (s : ℕ) → HasKindSort def kind s → IsTrue (is_kind file (kind_name def kind))
      kind-known kind s h = ap is_some (kind-told kind s h).is

      pub kind-placed : (kind : Kind) (s : ℕ) → HasKindSort def kind s
          → kind_place file (kind_name def kind) ≡ Some (kind_name def kind)
      kind-placed kind s h = ap (λ b. cond b (Some (kind_name def kind)) None) (kind-known kind s h)

      pub value-placed : (kind : Kind) (s : ℕ) → HasKindSort def kind s
          → value_place file (kind_name def kind) ≡ place_of s
      value-placed kind s h =
          let t = kind-told kind s h in
          ap (option_and_then (λ d. sort_place file (sort_told d))) t.is
          ∙ ap (sort_place file) t.of_sort
          ∙ sort-placed s (kind-within kind s h)

      pub phylum-known : (p s : ℕ) → HasKindSort def (kinds.Phylum p) s
          → IsTrue (is_phylum file (kind_name def (kinds.Phylum p)))
      phylum-known p s (k, at, e) =
          let named = name-found (λ (x : Phylum). x.name) def.phyla p k at in
          let is = declares.phylum_is p k at in
          subst (λ n. IsTrue (is_phylum file n)) (sym named) (rw is refl)

      -- ---- lists

      pub list-known : (l : ListKind) → kind_declared file l.name ≡ Some (list_told l) → IsTrue (is_list file l.name)
      list-known l is = rw is refl

      pub list-placed : (l : ListKind) → kind_declared file l.name ≡ Some (list_told l)
          → l.sort.0 < length def.signature.sorts → value_place file l.name ≡ place_of l.sort.0
      list-placed l is inside =
          ap (option_and_then (λ d. sort_place file (sort_told d))) is ∙ sort-placed l.sort.0 inside

      pub element-placed : (l : ListKind) → kind_declared file l.name ≡ Some (list_told l) → (s : ℕ)
          → HasKindSort def (kinds.Phylum l.element) s
          → element_place file l.name ≡ Some (kind_name def (kinds.Phylum l.element))
      element-placed l is s h =
          let name = kind_name def (kinds.Phylum l.element) in
          ap (λ o. option_and_then (phylum_place file) (option_and_then element_told o)) is
          ∙ ap (λ b. cond b (Some name) None) (phylum-known l.element s h)

      pub entity-placed : (n s : ℕ) → s < length def.signature.sorts → HasSpaceSort def n s
          → entity_place file (space_name def n) ≡ place_of s
      entity-placed n s inside h =
          ap (option_and_then (sort_place file)) (declares.space_is n s h) ∙ sort-placed s inside
