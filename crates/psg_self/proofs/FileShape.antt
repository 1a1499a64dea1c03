-- The lines of two files of one definition: the lines of sorts, phyla and operators are the same.
use Rattle.std.proofs.Common.{◌≡◌, false, cond, Some, List, [], ◌∷◌, map, refl, ap, ap₂, sym, ◌∙◌}
use Rattle.std.specs.Prelude.{bytes_eq}
use Rattle.std.specs.List.{AllByRecursion, list_any}
use Rattle.std.proofs.lemmas.Bool.{false≢true, or_parts}
use Rattle.psg_terms.specs.Names.{Name}
use Rattle.psg_terms.specs.declared.declare.SortDecl.{SortDecl}
use Rattle.psg_grammar.specs.declared.types.Kind.{Kind}
use Rattle.psg_grammar.specs.declared.types.Kind.TheVariants as kinds
use Rattle.psg_grammar.specs.declared.types.Item.{Item}
use Rattle.psg_grammar.specs.declared.types.Phylum.{Phylum}
use Rattle.psg_grammar.specs.declared.types.ListKind.{ListKind}
use Rattle.psg_grammar.specs.declared.types.Operator.{Operator}
use Rattle.psg_grammar.specs.declared.types.Definition.{Definition}
use Rattle.psg_deflines.specs.declared.lines.LineItem.{LineItem}
use Rattle.psg_deflines.specs.declared.lines.LineItem.TheVariants as items
use Rattle.psg_deflines.specs.declared.lines.Line.{Line}
use Rattle.psg_deflines.specs.declared.lines.Line.TheVariants as lines
use Rattle.psg_defcheck.specs.Meanings.{is_name_item, AreInhabited, none, more}
use Rattle.psg_defcheck.specs.Scopes.{sort_names, sort_declared, constructor_among, constructor_declared, kind_declared, a_phylum, operator_declared}
use Rattle.psg_defnumber.specs.Numbers.{sort_decls, IsKind, ArePhyla, IsItem, AreItems, AreOperators}
use Rattle.psg_defread.specs.WrittenLines.{sort_name, kind_name, phylum_line, item_written}
use Rattle.psg_defread.proofs.NumberNames.{name-found}

-- the lines of each sort
abbrev pub sorts_in : List Line → List Line
sorts_in [] = []
sorts_in (lines.Sort d ∷ ls) = lines.Sort d ∷ sorts_in ls
sorts_in (_ ∷ ls) = sorts_in ls

abbrev pub phyla_in : List Line → List Line
phyla_in [] = []
phyla_in (lines.Phylum n s b ∷ ls) = lines.Phylum n s b ∷ phyla_in ls
phyla_in (_ ∷ ls) = phyla_in ls

abbrev pub operators_in : List Line → List Line
operators_in [] = []
operators_in (lines.Operator n p s l is ∷ ls) = lines.Operator n p s l is ∷ operators_in ls
operators_in (_ ∷ ls) = operators_in ls

abbrev pub rows_in : List Line → List Line
rows_in [] = []
rows_in (lines.Row t ts ∷ ls) = lines.Row t ts ∷ rows_in ls
rows_in (_ ∷ ls) = rows_in ls

abbrev pub holes_in : List Line → List Line
holes_in [] = []
holes_in (lines.Hole k t w ∷ ls) = lines.Hole k t w ∷ holes_in ls
holes_in (_ ∷ ls) = holes_in ls

-- ---- what holds of all lines

abbrev pub IsUsual : Line → Type 0
IsUsual (lines.Sort d) = Unit {0}
IsUsual (lines.Phylum n s b) = Unit {0}
IsUsual (lines.Operator n p s l is) = Unit {0}
IsUsual (lines.Row t ts) = Unit {0}
IsUsual (lines.Hole n t w) = Unit {0}
IsUsual _ = ⊥

module _ (P : Line → Type 0) where
  pub of-sorts : (ls : List Line) → AllByRecursion P ls → AllByRecursion P (sorts_in ls)
  of-sorts [] h = tt
  of-sorts (lines.Sort d ∷ ls) h = (h.0, of-sorts ls h.1)
  of-sorts (_ ∷ ls) h = of-sorts ls h.1

  pub of-phyla : (ls : List Line) → AllByRecursion P ls → AllByRecursion P (phyla_in ls)
  of-phyla [] h = tt
  of-phyla (lines.Phylum n s b ∷ ls) h = (h.0, of-phyla ls h.1)
  of-phyla (_ ∷ ls) h = of-phyla ls h.1

  pub of-operators : (ls : List Line) → AllByRecursion P ls → AllByRecursion P (operators_in ls)
  of-operators [] h = tt
  of-operators (lines.Operator n p s l is ∷ ls) h = (h.0, of-operators ls h.1)
  of-operators (_ ∷ ls) h = of-operators ls h.1

  pub of-rows : (ls : List Line) → AllByRecursion P ls → AllByRecursion P (rows_in ls)
  of-rows [] h = tt
  of-rows (lines.Row t ts ∷ ls) h = (h.0, of-rows ls h.1)
  of-rows (_ ∷ ls) h = of-rows ls h.1

  pub of-holes : (ls : List Line) → AllByRecursion P ls → AllByRecursion P (holes_in ls)
  of-holes [] h = tt
  of-holes (lines.Hole k t w ∷ ls) h = (h.0, of-holes ls h.1)
  of-holes (_ ∷ ls) h = of-holes ls h.1

  pub of-all : (ls : List Line) → AllByRecursion IsUsual ls → AllByRecursion P (sorts_in ls) → AllByRecursion P (phyla_in ls)
      → AllByRecursion P (operators_in ls) → AllByRecursion P (rows_in ls) → AllByRecursion P (holes_in ls) → AllByRecursion P ls
  of-all [] u a b c d e = tt
  of-all (lines.Sort x ∷ ls) u a b c d e = (a.0, of-all ls u.1 a.1 b c d e)
  of-all (lines.Phylum n s k ∷ ls) u a b c d e = (b.0, of-all ls u.1 a b.1 c d e)
  of-all (lines.Operator n p s l is ∷ ls) u a b c d e = (c.0, of-all ls u.1 a b c.1 d e)
  of-all (lines.Row t ts ∷ ls) u a b c d e = (d.0, of-all ls u.1 a b c d.1 e)
  of-all (lines.Hole k t w ∷ ls) u a b c d e = (e.0, of-all ls u.1 a b c d e.1)
  of-all (lines.Space n t ∷ ls) u a b c d e = absurd u.0
  of-all (lines.List n t x w l k ∷ ls) u a b c d e = absurd u.0
  of-all (lines.Nil n t ∷ ls) u a b c d e = absurd u.0
  of-all (lines.Cell n t k v ∷ ls) u a b c d e = absurd u.0
  of-all (lines.Case t w ∷ ls) u a b c d e = absurd u.0
  of-all (lines.Declare x n t k w ∷ ls) u a b c d e = absurd u.0

-- ---- the lines by the definition

sorts-are : (ls : List Line) → sorts_in ls ≡ map (λ (d : SortDecl). lines.Sort d) (sort_decls ls)
sorts-are [] = refl
sorts-are (lines.Sort d ∷ ls) = ap (λ x. lines.Sort d ∷ x) (sorts-are ls)
sorts-are (_ ∷ ls) = sorts-are ls

pub sorts-same : (ls ms : List Line) → sort_decls ls ≡ sort_decls ms → sorts_in ls ≡ sorts_in ms
sorts-same ls ms e = sorts-are ls ∙ ap (map (λ (d : SortDecl). lines.Sort d)) e ∙ sym (sorts-are ms)

module _ (def : Definition) where
  pub phyla-are : (ls : List Line) (all : List Phylum) → ArePhyla def ls all → phyla_in ls ≡ map (phylum_line def) all
  phyla-are [] all h = ap (map (phylum_line def)) (sym h)
  phyla-are (lines.Phylum n s b ∷ ls) all h =
      let sort : sort_name def h.0.sort.0 ≡ s = name-found (λ m. m) def.signature.sorts h.0.sort.0 s h.3.of_sort in
      ap₂ (λ x xs. x ∷ xs)
      (ap₂ (λ x y. lines.Phylum x y b) (sym h.3.named) (sym sort) ∙ ap (lines.Phylum h.0.name (sort_name def h.0.sort.0)) (sym h.3.same_brackets))
      (phyla-are ls h.1 h.4)
      ∙ ap (map (phylum_line def)) (sym h.2)
  phyla-are (_ ∷ ls) all h = phyla-are ls all h

  pub phyla-same : (ls ms : List Line) → ArePhyla def ls def.phyla → ArePhyla def ms def.phyla → phyla_in ls ≡ phyla_in ms
  phyla-same ls ms h k = phyla-are ls def.phyla h ∙ sym (phyla-are ms def.phyla k)

  kind-named : (n : Name) (k : Kind) → IsKind def n k → n ≡ kind_name def k
  kind-named n (kinds.Phylum p) h = sym h.2 ∙ sym (name-found (λ (x : Phylum). x.name) def.phyla p h.0 h.1)
  kind-named n (kinds.List l) h = sym h.2 ∙ sym (name-found (λ (x : ListKind). x.name) def.lists l h.0 h.1)

  item-is : (m : LineItem) (i : Item) → is_name_item m ≡ false → IsItem def m i → m ≡ item_written def i
  item-is (items.Word w) i e h = ap (item_written def) (sym h)
  item-is (items.Slot n) i e h = ap items.Slot (kind-named n h.0 h.1) ∙ ap (item_written def) (sym h.2)
  item-is (items.Refers s) i e h = absurd (false≢true (sym e))
  item-is (items.Declares s) i e h = absurd (false≢true (sym e))
  item-is items.Number i e h = ap (item_written def) (sym h)
  item-is items.Text i e h = ap (item_written def) (sym h)
  item-is items.Space i e h = ap (item_written def) (sym h)
  item-is items.Tight i e h = ap (item_written def) (sym h)
  item-is items.Line i e h = ap (item_written def) (sym h)
  item-is items.In i e h = ap (item_written def) (sym h)
  item-is items.Out i e h = ap (item_written def) (sym h)

  items-are : (ms : List LineItem) (is : List Item) → list_any is_name_item ms ≡ false → AreItems def ms is → ms ≡ map (item_written def) is
  items-are [] is e h = ap (map (item_written def)) (sym h)
  items-are (m ∷ ms) is e h =
      let both = or_parts (is_name_item m) (list_any is_name_item ms) e in
      ap₂ (λ x xs. x ∷ xs) (item-is m h.0 both.0 h.3) (items-are ms h.1 both.1 h.4) ∙ ap (map (item_written def)) (sym h.2)

  -- no operator of the file has a name position
  abbrev pub HasNoNameItems : Line → Type 0
  HasNoNameItems (lines.Operator n p s l ms) = list_any is_name_item ms ≡ false
  HasNoNameItems _ = Unit {0}

  abbrev head_of : Operator → Line
  head_of op = lines.Operator op.name (kind_name def (kinds.Phylum op.phylum)) op.scope op.level (map (item_written def) op.items)

  operators-are : (ls : List Line) (all : List Operator) → AllByRecursion HasNoNameItems ls → AreOperators def ls all
      → operators_in ls ≡ map head_of all
  operators-are [] all u h = ap (map head_of) (sym h)
  operators-are (lines.Operator n p s l ms ∷ ls) all u h =
      let o = h.3 in
      let name : n ≡ h.0.name = sym o.named in
      let phylum : p ≡ kind_name def (kinds.Phylum h.0.phylum) = kind-named p (kinds.Phylum h.0.phylum) o.of_phylum in
      let made_of : ms ≡ map (item_written def) h.0.items = items-are ms h.0.items u.0 o.each_item in
      let scope : s ≡ h.0.scope = sym o.same_scope in
      let level : l ≡ h.0.level = sym o.same_level in
      let here : lines.Operator n p s l ms ≡ head_of h.0 = cc in
      ap₂ (λ x xs. x ∷ xs) here (operators-are ls h.1 u.1 h.4) ∙ ap (map head_of) (sym h.2)
  operators-are (lines.Sort d ∷ ls) all u h = operators-are ls all u.1 h
  operators-are (lines.Space n t ∷ ls) all u h = operators-are ls all u.1 h
  operators-are (lines.Phylum n t b ∷ ls) all u h = operators-are ls all u.1 h
  operators-are (lines.List n t x w l k ∷ ls) all u h = operators-are ls all u.1 h
  operators-are (lines.Row t ts ∷ ls) all u h = operators-are ls all u.1 h
  operators-are (lines.Nil n t ∷ ls) all u h = operators-are ls all u.1 h
  operators-are (lines.Cell n t k v ∷ ls) all u h = operators-are ls all u.1 h
  operators-are (lines.Hole n t w ∷ ls) all u h = operators-are ls all u.1 h
  operators-are (lines.Case t w ∷ ls) all u h = operators-are ls all u.1 h
  operators-are (lines.Declare x n t k w ∷ ls) all u h = operators-are ls all u.1 h

  pub operators-same : (ls ms : List Line) → AllByRecursion HasNoNameItems ls → AllByRecursion HasNoNameItems ms → AreOperators def ls def.operators
      → AreOperators def ms def.operators → operators_in ls ≡ operators_in ms
  operators-same ls ms u v h k = operators-are ls def.operators u h ∙ sym (operators-are ms def.operators v k)

-- ---- what is looked up in a file is in these lines

-- no list is declared
abbrev pub IsNoList : Line → Type 0
IsNoList (lines.List n s e p l u) = ⊥
IsNoList _ = Unit {0}

sort-names-in : (ls : List Line) → sort_names ls ≡ sort_names (sorts_in ls)
sort-names-in [] = refl
sort-names-in (lines.Sort d ∷ ls) = ap (λ x. d.name ∷ x) (sort-names-in ls)
sort-names-in (_ ∷ ls) = sort-names-in ls

sort-declared-in : (ls : List Line) (n : Name) → sort_declared ls n ≡ sort_declared (sorts_in ls) n
sort-declared-in [] n = refl
sort-declared-in (lines.Sort d ∷ ls) n = ap (λ x. cond (bytes_eq d.name n) (Some d) x) (sort-declared-in ls n)
sort-declared-in (_ ∷ ls) n = sort-declared-in ls n

constructor-declared-in : (ls : List Line) (n : Name) → constructor_declared ls n ≡ constructor_declared (sorts_in ls) n
constructor-declared-in [] n = refl
constructor-declared-in (lines.Sort d ∷ ls) n = ap (constructor_among d.name d.constructors n) (constructor-declared-in ls n)
constructor-declared-in (_ ∷ ls) n = constructor-declared-in ls n

pub kind-declared-in : (ls : List Line) → AllByRecursion IsNoList ls → (n : Name) → kind_declared ls n ≡ kind_declared (phyla_in ls) n
kind-declared-in [] u n = refl
kind-declared-in (lines.Phylum m s b ∷ ls) u n = ap (λ x. cond (bytes_eq m n) (Some (a_phylum s)) x) (kind-declared-in ls u.1 n)
kind-declared-in (lines.List m s e p l k ∷ ls) u n = absurd u.0
kind-declared-in (_ ∷ ls) u n = kind-declared-in ls u.1 n

operator-declared-in : (ls : List Line) (n : Name) → operator_declared ls n ≡ operator_declared (operators_in ls) n
operator-declared-in [] n = refl
operator-declared-in (lines.Operator m p s l is ∷ ls) n =
    ap (λ x. cond (bytes_eq m n) (Some (record { phylum = p; made = is })) x) (operator-declared-in ls n)
operator-declared-in (_ ∷ ls) n = operator-declared-in ls n

-- two files with the same lines of sorts, phyla and operators
pub record HasSame (ls ms : List Line) : Type 0 where
  pub sorts : sorts_in ls ≡ sorts_in ms
  pub phyla : phyla_in ls ≡ phyla_in ms
  pub operators : operators_in ls ≡ operators_in ms
  pub no_lists : AllByRecursion IsNoList ls
  pub nor_lists : AllByRecursion IsNoList ms

module _ (ls ms : List Line) (s : HasSame ls ms) where
  pub same-sort_names : sort_names ls ≡ sort_names ms
  same-sort_names = sort-names-in ls ∙ ap sort_names s.sorts ∙ sym (sort-names-in ms)

  pub same-sort_declared : (n : Name) → sort_declared ls n ≡ sort_declared ms n
  same-sort_declared n = sort-declared-in ls n ∙ ap (λ x. sort_declared x n) s.sorts ∙ sym (sort-declared-in ms n)

  pub same-constructor_declared : (n : Name) → constructor_declared ls n ≡ constructor_declared ms n
  same-constructor_declared n =
      constructor-declared-in ls n ∙ ap (λ x. constructor_declared x n) s.sorts ∙ sym (constructor-declared-in ms n)

  pub same-kind_declared : (n : Name) → kind_declared ls n ≡ kind_declared ms n
  same-kind_declared n =
      kind-declared-in ls s.no_lists n ∙ ap (λ x. kind_declared x n) s.phyla ∙ sym (kind-declared-in ms s.nor_lists n)

  pub same-operator_declared : (n : Name) → operator_declared ls n ≡ operator_declared ms n
  same-operator_declared n =
      operator-declared-in ls n ∙ ap (λ x. operator_declared x n) s.operators ∙ sym (operator-declared-in ms n)

  pub same-inhabited : (ns : List Name) → AreInhabited ms ns → AreInhabited ls ns
  same-inhabited _ none = none
  same-inhabited _ (more sort rest d c found member args others) =
      more sort rest d c (same-sort_declared sort ∙ found) member (same-inhabited c.args args) (same-inhabited rest others)
