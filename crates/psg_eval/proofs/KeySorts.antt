-- The sort of a key is that of its space, so headers tell the sorts of the columns of their keys.
use Rattle.std.proofs.Common.{◌≡◌, inl, inr, ℕ, ◌||◌, true, false, List, [], ◌∷◌, ◌++◌, map, Option, Some, None, refl, ap, ap₂, sym, ◌∙◌, subst, true≢false, bytes_eq}
use Rattle.std.proofs.lemmas.Bool.{or_cases, or_right, or_left}
use Rattle.std.specs.Cmp.{first_so}
use Rattle.std.specs.List.{slice_get, AllByRecursion}
use Rattle.psg_terms.specs.Names.{Name, is_among}
use Rattle.psg_terms.proofs.DeclareLaws.{is_among-append}
use Rattle.psg_grammar.specs.declared.types.Item.{Item}
use Rattle.psg_grammar.specs.declared.types.Item.TheVariants as items
use Rattle.psg_grammar.specs.declared.types.Space.{Space}
use Rattle.psg_grammar.specs.declared.types.Definition.{Definition}
use Rattle.psg_grammar.specs.Keys.{Key, space_of, in_order}
use Rattle.psg_grammar.specs.Sound.{IsItem, HasSpaceSort}
use Rattle.psg_scope.specs.declared.header.NameCol.{NameCol}
use Rattle.psg_scope.specs.declared.header.Header.{Header}
use Rattle.psg_scope.specs.Headers.{key_of, keys, declared_keys, has_space, IsHeader, PassesOutward}
use Rattle.psg_scope.proofs.HeaderLaws.{header-among, keys-whole, outward-among, whole-append}
use Rattle.psg_scope.proofs.KeyLists.{key_is, key_refl, in_order-among}
use Rattle.psg_eval.specs.OwnRows.{positions}
use Rattle.psg_eval.specs.Summaries.{AreKeySorts}

module _ (def : Definition) where
  abbrev sort_in : Option Space → ℕ
  sort_in None = 0
  sort_in (Some e) = e.sort.0

  abbrev pub key_sort : Key → ℕ
  key_sort k = sort_in (slice_get def.spaces (space_of k))

  -- the key's space is there
  abbrev HasSpace : Key → Type 0
  HasSpace k = (s : ℕ) × HasSpaceSort def (space_of k) s

  pub key_sorts_are : (cols : List NameCol) (sorts : List ℕ) → AreKeySorts def cols sorts → sorts ≡ map key_sort (keys cols)
  key_sorts_are [] sorts e = e
  key_sorts_are (c ∷ cols) sorts (s, rest, e, (space, at, sort), are) =
      e ∙ ap₂ (λ x xs. x ∷ xs) (sym sort ∙ sym (ap sort_in at)) (key_sorts_are cols rest are)

  have_spaces : (cols : List NameCol) (sorts : List ℕ) → AreKeySorts def cols sorts → AllByRecursion HasSpace (keys cols)
  have_spaces [] sorts e = tt
  have_spaces (c ∷ cols) sorts (s, rest, e, of, are) = ((s, of), have_spaces cols rest are)

  from_spaces : (cols : List NameCol) → AllByRecursion HasSpace (keys cols) → AreKeySorts def cols (map key_sort (keys cols))
  from_spaces [] h = refl
  from_spaces (c ∷ cols) ((s, (space, at, sort)), h) =
      (key_sort (key_of c), map key_sort (keys cols), refl, (space, at, sym (ap sort_in at)), from_spaces cols h)

  among_all : (P : Key → Type 0) (ks : List Key) → AllByRecursion P ks → (n : Key) → is_among ks n ≡ true → P n
  among_all P [] all n i = absurd (true≢false (sym i))
  among_all P (k ∷ ks) (p, all) n i = elim (or_cases (bytes_eq k n) (is_among ks n) i) [
    | inl same ↦ subst P (key_is k n same) p
    | inr later ↦ among_all P ks all n later
  ]

  all_among : (P : Key → Type 0) (ks : List Key) → ((n : Key) → is_among ks n ≡ true → P n) → AllByRecursion P ks
  all_among P [] h = tt
  all_among P (k ∷ ks) h = (h k (or_left (bytes_eq k k) (is_among ks k) (key_refl k)), all_among P ks (λ n i. h n (or_right (bytes_eq k n) (is_among ks n) i)))

  -- the keys of joined headers have the sorts of their spaces
  pub joined_key_sorts : (left right joint : Header) (ls rs : List ℕ) → keys joint.names ≡ in_order (keys left.names ++ keys right.names)
      → AreKeySorts def left.names ls → AreKeySorts def right.names rs → AreKeySorts def joint.names (map key_sort (keys joint.names))
  joined_key_sorts left right joint ls rs are hl hr =
      from_spaces joint.names (all_among HasSpace (keys joint.names) (λ k i.
      let K = keys left.names in
      let L = keys right.names in
      let both : (is_among K k || is_among L k) ≡ true =
      sym (is_among-append K L k) ∙ sym (in_order-among (K ++ L) k (whole-append K L (keys-whole left.names) (keys-whole right.names))) ∙ sym (ap (λ ks. is_among ks k) are) ∙ i in
      elim (or_cases (is_among K k) (is_among L k) both) [
        | inl x ↦ among_all HasSpace K (have_spaces left.names ls hl) k x
        | inr x ↦ among_all HasSpace L (have_spaces right.names rs hr) k x
      ]))

  -- and so have those that pass outward
  pub closed_key_sorts : (inside outside : Header) (ls : List ℕ) → PassesOutward inside outside → AreKeySorts def inside.names ls → AreKeySorts def outside.names (map key_sort (keys outside.names))
  closed_key_sorts inside outside ls close h =
      from_spaces outside.names (all_among HasSpace (keys outside.names) (λ k i.
      let u = has_space inside.unfinished in
      let passes = sym (outward-among k (keys inside.names) (declared_keys inside.names) u) ∙ sym (ap (λ ks. is_among ks k) close.keys_are) ∙ i in
      among_all HasSpace (keys inside.names) (have_spaces inside.names ls h) k (first_so (is_among (keys inside.names) k) _ passes)))

  position_spaces : (xs : List Item) (names : List Name) → AllByRecursion (IsItem def) xs → AllByRecursion HasSpace (keys (positions xs names))
  position_spaces [] names h = tt
  position_spaces (items.Refers s ∷ xs) [] h = tt
  position_spaces (items.Refers s ∷ xs) (n ∷ names) (h, hs) = (h, position_spaces xs names hs)
  position_spaces (items.Declares s ∷ xs) [] h = tt
  position_spaces (items.Declares s ∷ xs) (n ∷ names) (h, hs) = (h, position_spaces xs names hs)
  position_spaces (_ ∷ xs) names h = position_spaces xs names h.1

  -- and the own keys of an operator
  pub own_key_sorts : (xs : List Item) (names : List Name) (h : Header) → AllByRecursion (IsItem def) xs
      → IsHeader (keys (positions xs names)) (declared_keys (positions xs names)) (λ _. false) h → AreKeySorts def h.names (map key_sort (keys h.names))
  own_key_sorts xs names h each is =
      from_spaces h.names (all_among HasSpace (keys h.names) (λ k i.
      among_all HasSpace (keys (positions xs names)) (position_spaces xs names each) k (sym (header-among is k) ∙ i)))
