-- What the walks over names and words have gathered.
use Rattle.std.proofs.Common.{◌≡◌, ℕ, ◌+◌, ◌<◌, ◌≤◌, Bool, false, List, [], ◌∷◌, ◌++◌, length, drop, get_or, refl, ap, sym, ◌∙◌, append_assoc, append-nil}
use Rattle.std.proofs.lemmas.List.{drop_more, drop_all}
use Rattle.psg_terms.specs.Names.{Name}
use Rattle.psg_grammar.specs.declared.types.Item.{Item}
use Rattle.psg_grammar.specs.declared.types.Item.TheVariants as items
use Rattle.psg_grammar.specs.declared.types.ListKind.{ListKind}
use Rattle.psg_grammar.specs.declared.types.Operator.{Operator}
use Rattle.psg_grammar.specs.Fragments.{Fragment, operator}
use Rattle.psg_grammar.specs.WellFormed.{operator_words, separators, words_in}
use Rattle.psg_tree.specs.declared.tree.Part.{Part}
use Rattle.psg_tree.specs.declared.tree.Part.TheVariants.{Sub, Name as NamePart, Number, Text}
use Rattle.psg_tree.specs.declared.tree.Shape.{Shape}
use Rattle.psg_tree.specs.declared.tree.Shape.TheVariants.{Op, List as ListOf}
use Rattle.psg_tree.specs.Shapes.{with_part, with_parts, list_of, tree_of}
use Rattle.psg_renaming.specs.Occurring.{occurring}

-- the words of a list, by those of its first item and of the rest
module _ {X : Type 0} (words : List X → List Name) (one : X → List Name) (none : words [] ≡ []) (more : (x : X) (xs : List X) → words (x ∷ xs) ≡ one x ++ words xs) where
  gathered : (all : List X) (i : ℕ) (x : X) (before between after : List Name) → i < length all → x ≡ get_or all i x
      → between ++ words (drop i all) ≡ before ++ words all → after ≡ between ++ one x
      → after ++ words (drop (i + 1) all) ≡ before ++ words all
  gathered all i x before between after small is so_far now =
      let here : drop i all ≡ x ∷ drop (i + 1) all = drop_more all i x small ∙ ap (λ y. y ∷ drop (i + 1) all) (sym is) in
      ap (λ ns. ns ++ words (drop (i + 1) all)) now
      ∙ append_assoc between (one x) (words (drop (i + 1) all))
      ∙ ap (λ ns. between ++ ns) (sym (more x (drop (i + 1) all)))
      ∙ ap (λ xs. between ++ words xs) (sym here) ∙ so_far

  gathered_all : (all : List X) (i : ℕ) (before after : List Name) → length all ≤ i
      → after ++ words (drop i all) ≡ before ++ words all → after ≡ before ++ words all
  gathered_all all i before after end so_far =
      sym (append-nil after) ∙ ap (λ ns. after ++ ns) (sym none) ∙ ap (λ xs. after ++ words xs) (sym (drop_all i all end)) ∙ so_far

-- ---- words of a definition

abbrev word_of : Item → List Name
word_of x = words_in (x ∷ [])

items_more : (x : Item) (xs : List Item) → words_in (x ∷ xs) ≡ words_in (x ∷ []) ++ words_in xs
items_more (items.Word w) xs = refl
items_more (items.Slot k) xs = refl
items_more (items.Refers s) xs = refl
items_more (items.Declares s) xs = refl
items_more items.Number xs = refl
items_more items.Text xs = refl
items_more items.Space xs = refl
items_more items.Tight xs = refl
items_more items.Line xs = refl
items_more items.In xs = refl
items_more items.Out xs = refl

pub item_gathered : (all : List Item) (i : ℕ) (x : Item) (before between after : List Name) → i < length all
    → x ≡ get_or all i x → between ++ words_in (drop i all) ≡ before ++ words_in all
    → after ≡ between ++ words_in (x ∷ []) → after ++ words_in (drop (i + 1) all) ≡ before ++ words_in all
item_gathered = gathered words_in word_of refl items_more

pub items_gathered : (all : List Item) (i : ℕ) (before after : List Name) → length all ≤ i
    → after ++ words_in (drop i all) ≡ before ++ words_in all → after ≡ before ++ words_in all
items_gathered = gathered_all words_in word_of refl items_more

abbrev words_of : Operator → List Name
words_of o = words_in o.items

operators_more : (o : Operator) (os : List Operator) → operator_words (o ∷ os) ≡ words_in o.items ++ operator_words os
operators_more o os = refl

pub operator_gathered : (all : List Operator) (i : ℕ) (x : Operator) (before between after : List Name) → i < length all
    → x ≡ get_or all i x → between ++ operator_words (drop i all) ≡ before ++ operator_words all
    → after ≡ between ++ words_in x.items → after ++ operator_words (drop (i + 1) all) ≡ before ++ operator_words all
operator_gathered = gathered operator_words words_of refl operators_more

pub operators_gathered : (all : List Operator) (i : ℕ) (before after : List Name) → length all ≤ i
    → after ++ operator_words (drop i all) ≡ before ++ operator_words all → after ≡ before ++ operator_words all
operators_gathered = gathered_all operator_words words_of refl operators_more

abbrev separator_of : ListKind → List Name
separator_of l = l.separator ∷ []

lists_more : (l : ListKind) (ls : List ListKind) → separators (l ∷ ls) ≡ (l.separator ∷ []) ++ separators ls
lists_more l ls = refl

pub separator_gathered : (all : List ListKind) (i : ℕ) (x : ListKind) (before between after : List Name) → i < length all
    → x ≡ get_or all i x → between ++ separators (drop i all) ≡ before ++ separators all
    → after ≡ between ++ x.separator ∷ [] → after ++ separators (drop (i + 1) all) ≡ before ++ separators all
separator_gathered = gathered separators separator_of refl lists_more

pub separators_gathered : (all : List ListKind) (i : ℕ) (before after : List Name) → length all ≤ i
    → after ++ separators (drop i all) ≡ before ++ separators all → after ≡ before ++ separators all
separators_gathered = gathered_all separators separator_of refl lists_more

-- ---- names of a tree

abbrev pub part_names : List Part → List Name
part_names [] = []
part_names (p ∷ ps) = occurring (with_part (operator 0) p) ++ part_names ps

abbrev pub element_names : List Fragment → List Name
element_names es = occurring (list_of 0 es false)

abbrev names_of_one : Part → List Name
names_of_one p = occurring (with_part (operator 0) p)

parts_more : (p : Part) (ps : List Part) → part_names (p ∷ ps) ≡ occurring (with_part (operator 0) p) ++ part_names ps
parts_more p ps = refl

pub part_gathered : (all : List Part) (i : ℕ) (x : Part) (before between after : List Name) → i < length all
    → x ≡ get_or all i x → between ++ part_names (drop i all) ≡ before ++ part_names all
    → after ≡ between ++ occurring (with_part (operator 0) x)
    → after ++ part_names (drop (i + 1) all) ≡ before ++ part_names all
part_gathered = gathered part_names names_of_one refl parts_more

elements_more : (e : Fragment) (es : List Fragment) → element_names (e ∷ es) ≡ occurring e ++ element_names es
elements_more e es = refl

pub element_gathered : (all : List Fragment) (i : ℕ) (x : Fragment) (before between after : List Name) → i < length all
    → x ≡ get_or all i x → between ++ element_names (drop i all) ≡ before ++ element_names all
    → after ≡ between ++ occurring x → after ++ element_names (drop (i + 1) all) ≡ before ++ element_names all
element_gathered = gathered element_names occurring refl elements_more

pub elements_gathered : (all : List Fragment) (i : ℕ) (before after : List Name) → length all ≤ i
    → after ++ element_names (drop i all) ≡ before ++ element_names all → after ≡ before ++ element_names all
elements_gathered = gathered_all element_names occurring refl elements_more

names_of_part : (f : Fragment) (p : Part) → occurring (with_part f p) ≡ occurring f ++ occurring (with_part (operator 0) p)
names_of_part f (Sub t) = refl
names_of_part f (NamePart n) = refl
names_of_part f (Number n) = sym (append-nil (occurring f))
names_of_part f (Text t) = sym (append-nil (occurring f))

names_of_parts : (f : Fragment) (ps : List Part) → occurring (with_parts f ps) ≡ occurring f ++ part_names ps
names_of_parts f [] = sym (append-nil (occurring f))
names_of_parts f (p ∷ ps) =
    names_of_parts (with_part f p) ps ∙ ap (λ ns. ns ++ part_names ps) (names_of_part f p)
    ∙ append_assoc (occurring f) (occurring (with_part (operator 0) p)) (part_names ps)

operator_names_are : (o : ℕ) (ps : List Part) → occurring (with_parts (operator o) ps) ≡ part_names ps
operator_names_are o ps = names_of_parts (operator o) ps

pub parts_gathered : (all : List Part) (i : ℕ) (before after : List Name) → length all ≤ i
    → after ++ part_names (drop i all) ≡ before ++ part_names all
    → after ≡ before ++ occurring (with_parts (operator 0) all)
parts_gathered all i before after end so_far =
    gathered_all part_names names_of_one refl parts_more all i before after end so_far
    ∙ ap (λ ns. before ++ ns) (sym (operator_names_are 0 all))

list_names_are : (l : ℕ) (es : List Fragment) (u : Bool) → occurring (list_of l es u) ≡ occurring (list_of 0 es false)
list_names_are l [] u = refl
list_names_are l (e ∷ es) u = ap (λ ns. occurring e ++ ns) (list_names_are l es u)

-- of a node that is read
pub operator_names : (s : Shape) (o : ℕ) (ps : List Part) (f : Fragment) (slice : List Part) → s ≡ Op o ps → slice ≡ ps
    → tree_of s ≡ f → occurring (with_parts (operator 0) slice) ≡ occurring f
operator_names s o ps f slice is same read =
    ap (λ xs. occurring (with_parts (operator 0) xs)) same ∙ operator_names_are 0 ps ∙ sym (operator_names_are o ps)
    ∙ ap occurring (sym (ap tree_of is) ∙ read)

pub list_names : (s : Shape) (l : ℕ) (es : List Fragment) (u : Bool) (f : Fragment) (slice : List Fragment)
    → s ≡ ListOf l es u → slice ≡ es → tree_of s ≡ f → occurring (list_of 0 slice false) ≡ occurring f
list_names s l es u f slice is same read =
    ap (λ xs. occurring (list_of 0 xs false)) same ∙ sym (list_names_are l es u)
    ∙ ap occurring (sym (ap tree_of is) ∙ read)
