-- The spaces in which a list declares are those of its elements.
use Rattle.std.proofs.Common.{◌≡◌, inl, inr, ℕ, zero, suc, ◌+◌, ◌<◌, ◌==◌, true, List, [], ◌∷◌, length, get_or, slice_get, Some, refl, sym, ◌∙◌, ap, subst, true≢false, arith}
use Rattle.std.proofs.lemmas.Bool.{or_cases, or_left, or_right}
use Rattle.std.specs.Prelude.{IfSome, Vec}
use Rattle.std.specs.declared.alloc.Global.{Global}
use Rattle.std.specs.List.{AllByRecursion}
use Rattle.std.specs.List.Sorted.{IsStrictlyIncreasing}
use Rattle.psg_terms.specs.Relations.{IsIn, first, later}
use Rattle.psg_relation.proofs.Members.{in-contains, contains-in}
use Rattle.psg_grammar.specs.declared.types.Kind.TheVariants as kinds
use Rattle.psg_grammar.specs.declared.types.ListKind.{ListKind}
use Rattle.psg_grammar.specs.declared.types.Definition.{Definition}
use Rattle.psg_grammar.specs.Sound.{IsSound}
use Rattle.psg_grammar.proofs.SoundParts.{elements_in}
use Rattle.std.proofs.lemmas.Option.{get_or_from_slice_get, slice_get_read, same_Some}
use Rattle.std.specs.Cmp.{both_ways}
use Rattle.psg_grammar.specs.Declaring.{Declares, by_list, is_declaring}
use Rattle.psg_grammar.specs.DeclaringTables.{AreSpacesOf}
use Rattle.psg_grammar.proofs.DeclaringLaws.{eqb_true, eqb_same, found_declares, declares_found}
use Rattle.psg_scope.specs.Headers.{has_space, AreAscending}
use Rattle.psg_eval.specs.Summaries.{AreSpacesOfList}
use Rattle.psg_eval.specs.SpaceTables.{AreDeclaringSpaces}

tail : (x : ℕ) (xs : List ℕ) → IsStrictlyIncreasing (x ∷ xs) → IsStrictlyIncreasing xs
tail x xs h k l =
    let e : suc k + 1 ≡ suc (k + 1) = omega arith in
    subst (λ j. get_or xs k 0 < get_or (x ∷ xs) j 0) e (h (suc k) (omega (arith, l)))

weaken : (x y : ℕ) (ys : List ℕ) → x < y → AllByRecursion (λ t. y < t) ys → AllByRecursion (λ t. x < t) ys
weaken x y [] l h = tt
weaken x y (z ∷ zs) l h = (omega (arith, l, h.0), weaken x y zs l h.1)

ascending : (xs : List ℕ) → IsStrictlyIncreasing xs → AreAscending xs
ascending [] h = tt
ascending (x ∷ []) h = (tt, tt)
ascending (x ∷ y ∷ ys) h =
    let r = ascending (y ∷ ys) (tail x (y ∷ ys) h) in
    let l : x < y = h 0 (omega arith) in
    ((l, weaken x y ys l r.0), r)

has_in : (xs : List ℕ) (s : ℕ) → has_space xs s ≡ true → IsIn s xs
has_in [] s e = absurd (true≢false (sym e))
has_in (x ∷ xs) s e = elim (or_cases (x == s) (has_space xs s) e) [
  | inl h ↦ subst (λ z. IsIn z (x ∷ xs)) (eqb_true x s h) first
  | inr h ↦ later (has_in xs s h)
]

in_has : (xs : List ℕ) (s : ℕ) → IsIn s xs → has_space xs s ≡ true
in_has [] s h = elim h [ ]
in_has (x ∷ xs) s first = or_left (s == s) (has_space xs s) (eqb_same s s refl)
in_has (x ∷ xs) s (later h) = or_right (x == s) (has_space xs s) (in_has xs s h)

module _ (def : Definition) where
  of_elements : (s l : ℕ) (list : ListKind) → slice_get def.lists l ≡ Some list → Declares def s (kinds.List l)
      → Declares def s (kinds.Phylum list.element)
  of_elements s l list found (by_list k at d) =
      let same : k ≡ list = same_Some k list (sym at ∙ found) in
      subst (λ (z : ListKind). Declares def s (kinds.Phylum z.element)) same d

  pub spaces_of_list : IsSound def → (table : List (Vec ℕ Global)) → AreDeclaringSpaces def table
      → (l : ℕ) (list : ListKind) → slice_get def.lists l ≡ Some list
      → (spaces : Vec ℕ Global) → slice_get table list.element ≡ Some spaces → AreSpacesOfList def l spaces.items
  spaces_of_list sound table are l list found spaces at =
      let own = are.exact list.element spaces at in
      record {
        ascending = ascending spaces.items own.increasing;
        exact = λ s. both_ways (has_space spaces.items s) (is_declaring def s (kinds.List l))
            (λ h. declares_found def sound s (kinds.List l)
            (by_list list found ((own.exact s).0 (in-contains s spaces.items (has_in spaces.items s h)))))
            (λ h. in_has spaces.items s (contains-in s spaces.items
            ((own.exact s).1 (of_elements s l list found (found_declares def s (kinds.List l) h)))));
      }

-- the table of what phyla declare
pub table_are : (def : Definition) (table : List (Vec ℕ Global)) → length table ≡ length def.phyla → ((p : ℕ) → IfSome (slice_get table p) (λ spaces. AreSpacesOf def p spaces.items)) → AreDeclaringSpaces def table
table_are def table many each = record { one_each = many; exact = λ p spaces at. subst (λ o. IfSome o (λ (v : Vec ℕ Global). AreSpacesOf def p v.items)) at (each p) }

-- the list that is read from the definition
pub list_read : (lists slice : List ListKind) (l : ℕ) (own kind : ListKind) → slice ≡ lists
    → slice_get lists l ≡ Some own → kind ≡ get_or slice l kind → kind ≡ own
list_read lists slice l own kind same found at =
    at ∙ ap (λ xs. get_or xs l kind) same ∙ get_or_from_slice_get lists l own kind found

module _ (def : Definition) (sound : IsSound def) (table : List (Vec ℕ Global)) (are : AreDeclaringSpaces def table)
  where
    pub element_below : (l : ℕ) (own kind : ListKind) → slice_get def.lists l ≡ Some own → kind ≡ own
        → kind.element < length table
    element_below l own kind found same =
        let small = elements_in def sound l own found in
        omega (arith, small, are.one_each, ap (λ (k : ListKind). k.element) same)

    -- the spaces that are read from the table
    pub spaces_read : (l : ℕ) (own kind : ListKind) → slice_get def.lists l ≡ Some own → kind ≡ own
        → (spaces : Vec ℕ Global) → spaces ≡ get_or table kind.element spaces → (items : List ℕ) → items ≡ spaces.items
        → AreSpacesOfList def l items
    spaces_read l own kind found same spaces at items is =
        let there : slice_get table own.element ≡ Some spaces =
        subst (λ (k : ListKind). slice_get table k.element ≡ Some spaces) same
        (slice_get_read table (length table) kind.element spaces refl (element_below l own kind found same) at) in
        subst (AreSpacesOfList def l) (sym is) (spaces_of_list def sound table are l own found spaces there)

    -- the list at the number, and the end of a new one
    pub list_there : (l : ℕ) → l < length def.lists → (own : ListKind) × (slice_get def.lists l ≡ Some own)
    list_there l h = at def.lists l h where
      at : (xs : List ListKind) (n : ℕ) → n < length xs → (own : ListKind) × (slice_get xs n ≡ Some own)
      at [] n h = absurd (omega (arith, h))
      at (x ∷ xs) zero h = (x, refl)
      at (x ∷ xs) (suc n) h = at xs n (omega (arith, h))
