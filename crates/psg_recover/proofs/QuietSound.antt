-- The grammar in which nothing declares is sound, and all that it has can be ended.
use Rattle.std.proofs.Common.{◌≡◌, ◌⊎◌, inl, inr, ℕ, ◌<◌, ◌≤◌, ◌^◌, Bool, false, List, [], ◌∷◌, ◌++◌, map, length, Some, slice_get, refl, ap, ap₂, sym, ◌∙◌, subst, codes, lit<, arith}
use Rattle.std.specs.List.{AllByRecursion}
use Rattle.std.proofs.lemmas.List.{length-map}
use Rattle.psg_terms.specs.Names.{Name, has_twice}
use Rattle.psg_terms.proofs.Lists.{slice_get-map_some}
use Rattle.psg_lexis.specs.Tokens.{IsFixedWord}
use Rattle.psg_grammar.specs.declared.types.Kind.{Kind}
use Rattle.psg_grammar.specs.declared.types.Kind.TheVariants as kinds
use Rattle.psg_grammar.specs.declared.types.Item.{Item}
use Rattle.psg_grammar.specs.declared.types.Item.TheVariants as items
use Rattle.psg_grammar.specs.declared.types.ListKind.{ListKind}
use Rattle.psg_grammar.specs.declared.types.Operator.{Operator}
use Rattle.psg_grammar.specs.declared.types.Phylum.{Phylum}
use Rattle.psg_grammar.specs.declared.types.Space.{Space}
use Rattle.psg_grammar.specs.declared.types.Definition.{Definition}
use Rattle.psg_grammar.specs.Lookups.{part_items}
use Rattle.psg_grammar.specs.Sound.{AreColumns, AreSpaceNames, HasKindSort, HasSpaceSort, IsItem, IsListKind, IsOperator, IsOwnName, IsPhylum, IsShort, IsSound, kind_names}
use Rattle.psg_grammar.specs.WellFormed.{fixed_words, operator_words, separators, words_in}
use Rattle.psg_grammar.proofs.CaseLittle.{unit_sound}
use Rattle.psg_class.specs.Class.{IsClass}
use Rattle.psg_class.specs.Follow.{First}
use Rattle.psg_class.specs.Terminals.{Terminal}
use Rattle.psg_parse.specs.Stops.{Begins}
use Rattle.psg_stop.specs.Accepted.{CanEnd, HasQuietSlots, HasTrees}
use Rattle.psg_stop.proofs.Endable.{trees_by}
use Rattle.psg_recover.specs.Grammars.{plain_list, plain_phylum, plain_space, quiet, quiet_item, quiet_operator}
use Rattle.psg_recover.proofs.QuietClass.{first_of_tree, quiet_class}
use Rattle.psg_recover.proofs.QuietHoles.{quiet_holes}

-- ---- names

named_alike : {X : Type 0} (f : X → X) (name : X → Name) → ((x : X) → name (f x) ≡ name x) → (xs : List X) → map name (map f xs) ≡ map name xs
named_alike f name same [] = refl
named_alike f name same (x ∷ xs) = ap₂ (λ a l. a ∷ l) (same x) (named_alike f name same xs)

short_map : {X Y : Type 0} (f : X → Y) (xs : List X) → IsShort xs → IsShort (map f xs)
short_map f xs h = let e = length-map xs f in omega (arith, e, h)

each_map : {X Y : Type 0} (P : X → Type 0) (R : Y → Type 0) (f : X → Y) → ((x : X) → P x → R (f x)) → (xs : List X) → AllByRecursion P xs → AllByRecursion R (map f xs)
each_map P R f keeps [] h = tt
each_map P R f keeps (x ∷ xs) (p, h) = (keeps x p, each_map P R f keeps xs h)

words_same : (is : List Item) → words_in (map quiet_item is) ≡ words_in is
words_same [] = refl
words_same (items.Word w ∷ is) = ap (λ (l : List Name). w ∷ l) (words_same is)
words_same (items.Slot k ∷ is) = words_same is
words_same (items.Refers s ∷ is) = words_same is
words_same (items.Declares s ∷ is) = words_same is
words_same (items.Number ∷ is) = words_same is
words_same (items.Text ∷ is) = words_same is
words_same (items.Space ∷ is) = words_same is
words_same (items.Tight ∷ is) = words_same is
words_same (items.Line ∷ is) = words_same is
words_same (items.In ∷ is) = words_same is
words_same (items.Out ∷ is) = words_same is

operator_words_same : (os : List Operator) → operator_words (map quiet_operator os) ≡ operator_words os
operator_words_same [] = refl
operator_words_same (o ∷ os) = ap₂ (λ (a b : List Name). a ++ b) (words_same o.items) (operator_words_same os)

separators_same : (ls : List ListKind) → separators (map plain_list ls) ≡ separators ls
separators_same [] = refl
separators_same (l ∷ ls) = ap (λ (r : List Name). l.separator ∷ r) (separators_same ls)

pub quiet_words : (def : Definition) → fixed_words (quiet def) ≡ fixed_words def
quiet_words def = ap₂ (λ (a b : List Name). a ++ b) (operator_words_same def.operators) (separators_same def.lists)

module _ (def : Definition) where
  abbrev Q : Definition
  Q = quiet def

  -- ---- sorts

  kind_sort : (k : Kind) (s : ℕ) → HasKindSort def k s → HasKindSort Q k 0
  kind_sort (kinds.Phylum p) s (k, found, e) = (plain_phylum k, slice_get-map_some plain_phylum def.phyla p k found, refl)
  kind_sort (kinds.List l) s (k, found, e) = (plain_list k, slice_get-map_some plain_list def.lists l k found, refl)

  space_sort : (n s : ℕ) → HasSpaceSort def n s → HasSpaceSort Q n 0
  space_sort n s (k, found, e) = (plain_space k, slice_get-map_some plain_space def.spaces n k found, refl)

  item_sound : (i : Item) → IsItem def i → IsItem Q (quiet_item i)
  item_sound (items.Slot k) (s, h) = (0, kind_sort k s h)
  item_sound (items.Refers n) (s, h) = (0, space_sort n s h)
  item_sound (items.Declares n) (s, h) = (0, space_sort n s h)
  item_sound (items.Word w) h = tt
  item_sound items.Number h = tt
  item_sound items.Text h = tt
  item_sound items.Space h = tt
  item_sound items.Tight h = tt
  item_sound items.Line h = tt
  item_sound items.In h = tt
  item_sound items.Out h = tt

  columns_sound : (is : List Item) → AllByRecursion (IsItem def) is → (sorts : List ℕ) × AreColumns Q (part_items (map quiet_item is)) sorts
  columns_sound [] h = ([], refl)
  columns_sound (items.Slot k ∷ is) ((s, one), h) = let (sorts, are) = columns_sound is h in (0 ∷ sorts, (0, sorts, refl, kind_sort k s one, are))
  columns_sound (items.Refers n ∷ is) ((s, one), h) = let (sorts, are) = columns_sound is h in (0 ∷ sorts, (0, sorts, refl, space_sort n s one, are))
  columns_sound (items.Declares n ∷ is) ((s, one), h) = let (sorts, are) = columns_sound is h in (0 ∷ sorts, (0, sorts, refl, space_sort n s one, are))
  columns_sound (items.Word w ∷ is) (p, h) = columns_sound is h
  columns_sound (items.Number ∷ is) (p, h) = columns_sound is h
  columns_sound (items.Text ∷ is) (p, h) = columns_sound is h
  columns_sound (items.Space ∷ is) (p, h) = columns_sound is h
  columns_sound (items.Tight ∷ is) (p, h) = columns_sound is h
  columns_sound (items.Line ∷ is) (p, h) = columns_sound is h
  columns_sound (items.In ∷ is) (p, h) = columns_sound is h
  columns_sound (items.Out ∷ is) (p, h) = columns_sound is h

  operator_sound : (o : Operator) → IsOperator def o → IsOperator Q (quiet_operator o)
  operator_sound o h =
      let (sorts, are) = columns_sound o.items h.each_item in
      record {
        name = h.name;
        level = h.level;
        sort = 0;
        phylum_sort = kind_sort (kinds.Phylum o.phylum) h.sort h.phylum_sort;
        few_items = short_map quiet_item o.items h.few_items;
        few_rows = lit< tt;
        each_item = each_map (IsItem def) (IsItem Q) quiet_item item_sound o.items h.each_item;
        columns = sorts;
        are_columns = are;
        each_row = tt;
      }

  list_sound : (l : ListKind) → IsListKind def l → IsListKind Q (plain_list l)
  list_sound l h = record {
    name = h.name;
    sort = lit< tt;
    element = 0;
    element_sort = kind_sort (kinds.Phylum l.element) h.element h.element_sort;
    few_nils = lit< tt;
    few_cells = lit< tt;
    nils = tt;
    cells = tt;
  }

  phylum_sound : (p : Phylum) → IsPhylum def p → IsPhylum Q (plain_phylum p)
  phylum_sound p h = record { name = h.name; sort = lit< tt }

  -- ---- the whole

  spaces_named : (version : ℕ) (spaces : List Space) → AreSpaceNames version spaces → AreSpaceNames version (map plain_space spaces)
  spaces_named version spaces (inl (v, few, none)) =
      let e = length-map spaces plain_space in
      inl (v, omega (arith, e, few), each_map (λ (s : Space). s.name ≡ []) (λ (s : Space). s.name ≡ []) plain_space (λ s h. h) spaces none)
  spaces_named version spaces (inr (v, own, once)) =
      inr (
        v,
        each_map (λ (s : Space). IsOwnName s.name) (λ (s : Space). IsOwnName s.name) plain_space (λ s h. h) spaces own,
        ap has_twice (named_alike plain_space (λ (s : Space). s.name) (λ s. refl) spaces) ∙ once,
      )

  space_sorts : (spaces : List Space) → AllByRecursion (λ (s : Space). s.sort.0 < length Q.signature.sorts) (map plain_space spaces)
  space_sorts [] = tt
  space_sorts (s ∷ spaces) = (lit< tt, space_sorts spaces)

  names_same : kind_names Q ≡ kind_names def
  names_same =
      ap₂ (λ (a b : List Name). a ++ b) (named_alike plain_phylum (λ (p : Phylum). p.name) (λ p. refl) def.phyla) (named_alike plain_list (λ (l : ListKind). l.name) (λ l. refl) def.lists)

  pub quiet_sound : IsSound def → IsSound Q
  quiet_sound sound = record {
    signature = unit_sound;
    sort_names = (refl, tt);
    constructor_names = (refl, tt);
    spaces = spaces_named def.version def.spaces sound.spaces;
    space_sorts = space_sorts def.spaces;
    kind_names = ap has_twice names_same ∙ sound.kind_names;
    operator_names = ap has_twice (named_alike quiet_operator (λ (o : Operator). o.name) (λ o. refl) def.operators) ∙ sound.operator_names;
    phyla = each_map (IsPhylum def) (IsPhylum Q) plain_phylum phylum_sound def.phyla sound.phyla;
    lists = each_map (IsListKind def) (IsListKind Q) plain_list list_sound def.lists sound.lists;
    operators = each_map (IsOperator def) (IsOperator Q) quiet_operator operator_sound def.operators sound.operators;
    hole_rows = tt;
    declare_rows = tt;
    few_sorts = lit< tt;
    few_constructors = lit< tt;
    few_arguments = (lit< tt, tt);
    few_spaces = short_map plain_space def.spaces sound.few_spaces;
    few_phyla = short_map plain_phylum def.phyla sound.few_phyla;
    few_lists = short_map plain_list def.lists sound.few_lists;
    few_operators = short_map quiet_operator def.operators sound.few_operators;
    few_hole_rows = lit< tt;
    few_declare_rows = lit< tt;
  }

  -- each slot may have a placeholder, and the words are those of the definition
  pub quiet_ends : CanEnd def → CanEnd Q
  quiet_ends ends = record {
    sound = quiet_sound ends.sound;
    quiet = λ n o front p behind found split. quiet_holes def (kinds.Phylum p);
    words = subst (AllByRecursion IsFixedWord) (sym (quiet_words def)) ends.words;
  }

  -- it is of the class
  pub quiet_of_class : CanEnd def → IsClass def → IsClass Q
  quiet_of_class ends class = quiet_class def class ends.sound.kind_names (λ p phylum found.
      let tree = (trees_by def ends).phyla p phylum found in first_of_tree def class tree.tree p 0 tree.nesting ([] ++ tree.more) tree.yields)
