-- The declare row for a key and an entity, and the sorts of values of lists.
use Rattle.std.proofs.Common.{◌≡◌, inl, inr, ℕ, zero, suc, ◌+◌, ◌==◌, Bool, true, false, ◌&&◌, not, List, [], ◌∷◌, length, slice_get, Some, None, Option, refl, sym, ◌∙◌, subst, true≢false}
use Rattle.std.specs.List.{AllByRecursion}
use Rattle.std.proofs.lemmas.Bool.Decides.{eqb_tells}
use Rattle.std.proofs.lemmas.Bool.{or_cases}
use Rattle.psg_terms.specs.Terms.{Term}
use Rattle.psg_terms.specs.Signature.{HasSort}
use Rattle.psg_terms.specs.Instances.{IsGround}
use Rattle.psg_terms.proofs.InstanceLaws.{Takes-substitute, ground-substitute}
use Rattle.psg_grammar.specs.declared.types.Kind.{Kind}
use Rattle.psg_grammar.specs.declared.types.Kind.TheVariants as kinds
use Rattle.psg_grammar.specs.declared.types.Item.{Item}
use Rattle.psg_grammar.specs.declared.types.Item.TheVariants as items
use Rattle.psg_grammar.specs.declared.types.Operator.{Operator}
use Rattle.psg_grammar.specs.declared.types.ListKind.{ListKind}
use Rattle.psg_grammar.specs.declared.types.Space.{Space}
use Rattle.psg_grammar.specs.declared.types.DeclareRow.{DeclareRow}
use Rattle.psg_grammar.specs.declared.types.Definition.{Definition}
use Rattle.psg_grammar.specs.Declaring.{is_declaring, declares_within, any_item, any_operator, element_declares}
use Rattle.psg_grammar.specs.Legal.{IsOfTerm}
use Rattle.psg_grammar.specs.Open.{IsOfHoleRow}
use Rattle.psg_grammar.specs.Sound.{IsSound, IsItem, HasSpaceSort, HasKindSort}
use Rattle.psg_grammar.proofs.SoundParts.{operator_sound}
use Rattle.psg_completions.specs.Conditions.{HasTrueRows}
use Rattle.psg_completions.proofs.Over.{some_over}
use Rattle.psg_completions.proofs.RowValues.{one_sort, hole_sound}

module _ (def : Definition) (sound : IsSound def) where
  -- the space in which something declares is there
  abbrev Has : ℕ → Type 0
  Has space = (e : Space) × (slice_get def.spaces space ≡ Some e)

  item_space : (space : ℕ) (test : Kind → Bool) → ((k : Kind) → test k ≡ true → Has space) → (xs : List Item)
      → AllByRecursion (IsItem def) xs → any_item space test xs ≡ true → Has space
  item_space space test h [] a e = absurd (true≢false (sym e))
  item_space space test h (items.Declares r ∷ xs) a e = elim (or_cases (r == space) (any_item space test xs) e) [
    | inl t ↦ subst Has (is_space t) (there a.0)
    | inr t ↦ item_space space test h xs a.1 t
  ] where
    there : (s : ℕ) × HasSpaceSort def r s → Has r
    there (s, (made, at, same)) = (made, at)

    is_space : (r == space) ≡ true → r ≡ space
    is_space t = elim (eqb_tells r space) [ inl x ↦ x.1 | inr x ↦ absurd (true≢false (sym t ∙ x.0)) ]
  item_space space test h (items.Slot k ∷ xs) a e =
      elim (or_cases (test k) (any_item space test xs) e) [ inl t ↦ h k t | inr t ↦ item_space space test h xs a.1 t ]
  item_space space test h (items.Word w ∷ xs) a e = item_space space test h xs a.1 e
  item_space space test h (items.Refers r ∷ xs) a e = item_space space test h xs a.1 e
  item_space space test h (items.Number ∷ xs) a e = item_space space test h xs a.1 e
  item_space space test h (items.Text ∷ xs) a e = item_space space test h xs a.1 e
  item_space space test h (items.Space ∷ xs) a e = item_space space test h xs a.1 e
  item_space space test h (items.Tight ∷ xs) a e = item_space space test h xs a.1 e
  item_space space test h (items.Line ∷ xs) a e = item_space space test h xs a.1 e
  item_space space test h (items.In ∷ xs) a e = item_space space test h xs a.1 e
  item_space space test h (items.Out ∷ xs) a e = item_space space test h xs a.1 e

  operator_space : (space : ℕ) (test : Kind → Bool) → ((k : Kind) → test k ≡ true → Has space)
      → (p : ℕ) (ops : List Operator)
      → ((o : ℕ) (op : Operator) → slice_get ops o ≡ Some op → AllByRecursion (IsItem def) op.items)
      → any_operator space test p ops ≡ true → Has space
  operator_space space test h p [] a e = absurd (true≢false (sym e))
  operator_space space test h p (o ∷ ops) a e =
      elim (or_cases ((o.phylum == p) && (not o.scope) && any_item space test o.items) (any_operator space test p ops)
      e) [
        | inl t ↦ item_space space test h o.items (a 0 o refl)
            (last (o.phylum == p) (not o.scope) (any_item space test o.items) t)
        | inr t ↦ operator_space space test h p ops (λ k op at. a (suc k) op at) t
      ] where
        last : (x y z : Bool) → (x && y && z) ≡ true → z ≡ true
        last true true z e = e
        last true false z e = absurd (true≢false (sym e))
        last false y z e = absurd (true≢false (sym e))

  list_space : (space : ℕ) (test : Kind → Bool) → ((k : Kind) → test k ≡ true → Has space) → (l : Option ListKind)
      → element_declares test l ≡ true → Has space
  list_space space test h None e = absurd (true≢false (sym e))
  list_space space test h (Some l) e = h (kinds.Phylum l.element) e

  space_there : (space n : ℕ) (kind : Kind) → declares_within def space n kind ≡ true → Has space
  space_there space zero kind e = absurd (true≢false (sym e))
  space_there space (suc n) (kinds.Phylum p) e =
      operator_space space (declares_within def space n) (space_there space n) p def.operators
      (λ o op at. (operator_sound def sound o op at).each_item) e
  space_there space (suc n) (kinds.List l) e =
      list_space space (declares_within def space n) (space_there space n) (slice_get def.lists l) e

  -- the values of a list's hole rows are ground terms of its sort
  pub value_sorted : (l r : ℕ) (kind : ListKind) (v : Term) → slice_get def.lists l ≡ Some kind
      → IsOfHoleRow def (kinds.List l) r v → IsGround v × HasSort def.signature v kind.sort.0
  value_sorted l r kind v list h =
      let (f, ground, e) = h.value in
      let row = hole_sound def sound r h.row h.chosen in
      let same : row.sort ≡ kind.sort.0 =
      one_sort def (kinds.List l) row.sort kind.sort.0
      (subst (λ k. HasKindSort def k row.sort) h.same row.kind_sort) (kind, list, refl) in
      let sorted = subst (HasSort def.signature h.row.term) same row.term.0 in (
        subst IsGround (sym e) (ground-substitute def.signature f ground h.row.term [] kind.sort.0 sorted),
        subst (λ x. HasSort def.signature x kind.sort.0) (sym e)
            (Takes-substitute def.signature f ground.sorted h.row.term [] kind.sort.0 sorted),
      )

  -- an unfinished list that declares in a space can declare a key of it with each entity
  pub declare_row : HasTrueRows def → (l : ℕ) (kind : ListKind) → slice_get def.lists l ≡ Some kind
      → kind.unfinished ≡ true → (space : ℕ) → is_declaring def space (kinds.List l) ≡ true → (e : Term) → IsGround e
      → ((s : Space) → slice_get def.spaces space ≡ Some s → HasSort def.signature e s.sort.0)
      → (k : ℕ) × (d : DeclareRow) × (slice_get def.declare_rows k ≡ Some d) × (d.list ≡ l) × (d.space ≡ space)
      × IsOfTerm def.signature d.term e
  declare_row true_rows l kind list un space dec e ground sorted =
      let (s, at) = space_there space (length def.phyla + length def.lists) (kinds.List l) dec in
      let (t, (k, d, chosen, of_list, of_space, is), inst) =
      some_over def.signature sound.signature e s.sort.0 ground (sorted s at)
      (λ t. (k : ℕ) × (d : DeclareRow) × (slice_get def.declare_rows k ≡ Some d) × (d.list ≡ l) × (d.space ≡ space)
      × (t ≡ d.term))
      (λ c among. let h = true_rows.declarable l space c kind list un dec s at among in
      (h.row.term, (h.number, h.row, h.chosen, h.of_list, h.of_space, refl), h.over)) in
      (k, d, chosen, of_list, of_space, subst (λ x. IsOfTerm def.signature x e) is inst)
