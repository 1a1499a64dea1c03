-- A specimen as it is written passes the tests of its meaning.
use Rattle.std.proofs.Common.{◌≡◌, IsTrue, is_some, ℕ, ◌+◌, List, [], ◌∷◌, length, map, Option, Some, None, slice_get, refl, ap, sym, ◌∙◌, subst, arith}
use Rattle.psg_terms.proofs.Lists.{each_at}
use Rattle.std.specs.Prelude.{decimal}
use Rattle.std.specs.List.{AllByRecursion}
use Rattle.psg_terms.specs.Names.{Name}
use Rattle.psg_grammar.specs.declared.types.Kind.{Kind}
use Rattle.psg_grammar.specs.declared.types.Kind.TheVariants as kinds
use Rattle.psg_grammar.specs.declared.types.Item.{Item}
use Rattle.psg_grammar.specs.declared.types.Item.TheVariants as made
use Rattle.psg_grammar.specs.declared.types.ListKind.{ListKind}
use Rattle.psg_grammar.specs.declared.types.Operator.{Operator}
use Rattle.psg_grammar.specs.declared.types.SpecimenHole.{SpecimenHole}
use Rattle.psg_grammar.specs.declared.types.SpecimenPart.{SpecimenPart, Sub, Name as NamePart, Number, Text}
use Rattle.psg_grammar.specs.declared.types.Specimen.{Specimen, Op', List', Hole, Row_of-Specimen, end_of-Specimen, more_of-Specimen, Row_of-SpecimenPart, end_of-SpecimenPart, more_of-SpecimenPart}
use Rattle.psg_grammar.specs.declared.types.Definition.{Definition}
use Rattle.psg_grammar.specs.Lookups.{part_items}
use Rattle.psg_grammar.specs.Specimens.{holes_of, holes_of_part, holes_of_row, holes_of_list}
use Rattle.psg_grammar.specs.Sound.{IsSound, IsItem, IsListKind, IsOperator, HasKindSort}
use Rattle.psg_deflines.specs.WrittenTerms.{WrittenTerm}
use Rattle.psg_deflines.specs.WrittenTrees.{WrittenTree, operator, with_tree, with_name, with_number, with_text, element}
use Rattle.psg_deflines.specs.declared.lines.Line.{Line}
use Rattle.psg_defcheck.specs.Scopes.{Place, kind_place, value_place, is_list, operator_declared}
use Rattle.psg_defcheck.specs.Meanings.{SortsTerm, KnowsTree, CountsTree, IsPartCount, PartPlace, for_tree, for_name, for_number, for_text, elements_place, TakesParts, SortsTree}
use Rattle.psg_defnumber.specs.Numbers.{IsPlace, IsTree, IsPart, AreParts, IsListFrom}
use Rattle.psg_defnumber.proofs.TermSorts.{term-takes}
use Rattle.psg_defread.specs.WrittenLines.{term_written, kind_name, operator_name, tree_written, part_written, parts_written, elements_written, end_written, place_written, item_written}
use Rattle.psg_defread.proofs.NumberAll.{all-front, all-behind}
use Rattle.psg_defread.proofs.NumberNames.{name-found}
use Rattle.psg_defread.proofs.PassedDeclared.{Declares, kind-within, kind-known, kind-placed, value-placed, list-known, element-placed}
use Rattle.psg_defread.proofs.PassedTerms.{HasNames, PassesTerm, term-passes}
use Rattle.psg_defread.proofs.PassedItems.{item_places, parts-counted, parts-same, all-parts}

abbrev pub HasPlaceNames : Definition → (Name → Name) → SpecimenHole → Type 0
HasPlaceNames def sorts h = HasNames def sorts h.term

fewer : (file : List Line) (p : PartPlace) (behind : List PartPlace) (w : WrittenTree)
    → CountsTree file (length (p ∷ behind)) w → CountsTree file (length behind + 1) w
fewer file p behind w h =
    let size : length (p ∷ behind) ≡ length behind + 1 = omega arith in subst (λ n. CountsTree file n w) size h

module _ (def : Definition) (sound : IsSound def) (file : List Line) (declares : Declares def file)
    (sorts : Name → Name) where
  -- with parts at these places behind it, the tree stands at the place
  pub record PassesTree (behind : List PartPlace) (at : Place) (w : WrittenTree) : Type 0 where
    pub known : KnowsTree file w
    pub counted : CountsTree file (length behind) w
    pub sorted : SortsTree file sorts behind at w

  abbrev StandsAs : WrittenTree → Kind → Type 0
  StandsAs w kind = PassesTree [] (Some (kind_name def kind)) w

  -- ---- the steps of the walk

  list-there : (l s : ℕ) → HasKindSort def (kinds.List l) s → IsTrue (is_list file (kind_name def (kinds.List l)))
  list-there l s (k, at, e) =
      subst (λ n. IsTrue (is_list file n)) (sym (name-found (λ (x : ListKind). x.name) def.lists l k at))
      (list-known def sound file declares k (declares.list_is l k at))

  operator-passes : (o : ℕ) (op : Operator) → slice_get def.operators o ≡ Some op
      → PassesTree (item_places def file (part_items op.items)) (Some (kind_name def (kinds.Phylum op.phylum)))
      (operator (operator_name def o))
  operator-passes o op at =
      let behind = item_places def file (part_items op.items) in
      let named = name-found (λ (x : Operator). x.name) def.operators o op at in
      let is = ap (operator_declared file) named ∙ declares.operator_is o op at in
      let same = parts-same def file op.items in
      let size = parts-counted file (map (item_written def) op.items) ∙ ap length (sym same) in
      let kind = Some (kind_name def (kinds.Phylum op.phylum)) in
      record {
        known = ap is_some is;
        counted = subst (λ x. IsPartCount x (length behind)) (sym is) size;
        sorted = subst (λ x. TakesParts file sorts x behind kind) (sym is) (same, refl);
      }

  sub-passes : (k : Kind) (s : ℕ) → HasKindSort def k s → (behind : List PartPlace) (at : Place) (now w : WrittenTree)
      → PassesTree (for_tree (kind_place file (kind_name def k)) ∷ behind) at now → StandsAs w k
      → PassesTree behind at (with_tree now w)
  sub-passes k s there behind at now w h t = record {
    known = (h.known, t.known);
    counted = (fewer file (for_tree (kind_place file (kind_name def k))) behind now h.counted, t.counted);
    sorted = (
      kind_place file (kind_name def k),
      h.sorted,
      subst (λ p. SortsTree file sorts [] p w) (sym (kind-placed def sound file declares k s there)) t.sorted,
    );
  }

  name-passes : (n : Name) (behind : List PartPlace) (at : Place) (now : WrittenTree)
      → PassesTree (for_name ∷ behind) at now → PassesTree behind at (with_name now n)
  name-passes n behind at now h =
      record { known = h.known; counted = fewer file for_name behind now h.counted; sorted = h.sorted }

  number-passes : (v : ℕ) (behind : List PartPlace) (at : Place) (now : WrittenTree)
      → PassesTree (for_number ∷ behind) at now → PassesTree behind at (with_number now (decimal v))
  number-passes v behind at now h =
      record { known = h.known; counted = fewer file for_number behind now h.counted; sorted = h.sorted }

  text-passes : (t : List ℕ) (behind : List PartPlace) (at : Place) (now : WrittenTree)
      → PassesTree (for_text ∷ behind) at now → PassesTree behind at (with_text now t)
  text-passes t behind at now h =
      record { known = h.known; counted = fewer file for_text behind now h.counted; sorted = h.sorted }

  element-passes : (l s : ℕ) (list : ListKind) → HasKindSort def (kinds.List l) s → slice_get def.lists l ≡ Some list
      → (e r : WrittenTree) → StandsAs e (kinds.Phylum list.element) → StandsAs r (kinds.List l)
      → StandsAs (element e r) (kinds.List l)
  element-passes l s list there at e r first rest =
      let named = name-found (λ (x : ListKind). x.name) def.lists l list at in
      let told = each_at (IsListKind def) def.lists sound.lists l list at in
      let is = declares.list_is l list at in
      let place = ap (elements_place file) (ap Some named)
      ∙ element-placed def sound file declares list is told.element told.element_sort in
      record {
        known = (first.known, rest.known);
        counted = (first.counted, rest.counted);
        sorted = (
          list-there l s there,
          subst (λ p. SortsTree file sorts [] p e) (sym place) first.sorted,
          rest.sorted,
        );
      }

  -- ---- places

  module _ (names : List Name) where
    place-term : (n : Name) (t : WrittenTerm) (h : SpecimenHole) → HasNames def sorts h.term
        → (p : IsPlace def names n t h) → PassesTerm def sound file declares sorts [] p.sort h.term
    place-term n t h named p =
        let within = kind-within def sound h.kind p.sort p.kind_sort in
        let takes = term-takes def.signature sound.signature names t [] p.sort h.term within p.of_term in
        term-passes def sound file declares sorts h.term [] p.sort named takes.0

    place-sorted : (n : Name) (t : WrittenTerm) (h : SpecimenHole) → HasNames def sorts h.term
        → IsPlace def names n t h
        → SortsTerm file sorts [] (value_place file (kind_name def h.kind)) (term_written def h.term)
    place-sorted n t h named p =
        subst (λ at. SortsTerm file sorts [] at (term_written def h.term))
        (sym (value-placed def sound file declares h.kind p.sort p.kind_sort)) (place-term n t h named p).sorted

    place-passes : (n : Name) (t : WrittenTerm) (h : SpecimenHole) (kind : Kind) → HasNames def sorts h.term
        → h.kind ≡ kind → IsPlace def names n t h → StandsAs (place_written def h) kind
    place-passes n t h kind named of p =
        let term = place-term n t h named p in
        record {
          known = (kind-known def sound file declares h.kind p.sort p.kind_sort, term.known);
          counted = term.counted;
          sorted = (ap (kind_name def) of, place-sorted n t h named p);
        }

    rest-passes : (n : Name) (t : WrittenTerm) (h : SpecimenHole) (l s : ℕ) → HasKindSort def (kinds.List l) s
        → HasNames def sorts h.term → h.kind ≡ kinds.List l → IsPlace def names n t h
        → StandsAs (end_written def (Some h)) (kinds.List l)
    rest-passes n t h l s there named of p =
        let term = place-term n t h named p in
        record {
          known = (
            subst (λ k. IsTrue (is_list file (kind_name def k))) (sym of) (list-there l s there),
            term.known,
          );
          counted = term.counted;
          sorted = (ap (kind_name def) of, place-sorted n t h named p);
        }

    end-passes : (l s : ℕ) → HasKindSort def (kinds.List l) s → (rest : Option SpecimenHole) (w : WrittenTree)
        → AllByRecursion (HasPlaceNames def sorts) (holes_of_list end_of-Specimen rest)
        → IsListFrom def names l end_of-Specimen rest w → StandsAs (end_written def rest) (kinds.List l)
    end-passes l s there None w named e = record { known = tt; counted = tt; sorted = list-there l s there }
    end-passes l s there (Some h) w named (n, t, of, p, e) = rest-passes n t h l s there named.0 of p

    -- ---- the walk

    mutual
      pub tree-passes : (s : Specimen) (kind : Kind) (sort : ℕ) (w : WrittenTree) → HasKindSort def kind sort
          → AllByRecursion (HasPlaceNames def sorts) (holes_of s) → IsTree def names kind s w
          → PassesTree [] (Some (kind_name def kind)) (tree_written def s)
      tree-passes (Op' o shape parts) kind sort w there named (n, op, (at, name), of, h) =
          let told = each_at (IsOperator def) def.operators sound.operators o op at in
          let items = all-parts def op.items told.each_item in
          let head = operator-passes o op at in
          let at_phylum = Some (kind_name def (kinds.Phylum op.phylum)) in
          let all = parts-pass (part_items op.items) parts at_phylum (operator n) (operator (operator_name def o)) w
          items named h head in
          subst (StandsAs (tree_written def (Op' o shape parts))) (sym of) all
      tree-passes (List' l shape elements rest) kind sort w there named (is, h) =
          let list = subst (λ k. HasKindSort def k sort) is there in
          subst (StandsAs (tree_written def (List' l shape elements rest))) (sym is)
          (elements-pass l sort list elements rest w named h)
      tree-passes (Hole h) kind sort w there named (n, t, of, p, e) = place-passes n t h kind named.0 of p

      part-passes : (i : Item) (p : SpecimenPart) (wanted : List Item) (at : Place) (front now next : WrittenTree)
          → IsItem def i → AllByRecursion (HasPlaceNames def sorts) (holes_of_part p)
          → IsPart def names i p front next → PassesTree (item_places def file (i ∷ wanted)) at now
          → PassesTree (item_places def file wanted) at (part_written def now p)
      part-passes (made.Slot k) (Sub s) wanted at front now next is named (t, h, e) before =
          let tree = tree-passes s k is.0 t is.1 named h in
          sub-passes k is.0 is.1 (item_places def file wanted) at now (tree_written def s) before tree
      part-passes (made.Refers x) (NamePart n) wanted at front now next is named e before =
          name-passes n (item_places def file wanted) at now before
      part-passes (made.Declares x) (NamePart n) wanted at front now next is named e before =
          name-passes n (item_places def file wanted) at now before
      part-passes made.Number (Number v) wanted at front now next is named e before =
          number-passes v (item_places def file wanted) at now before
      part-passes made.Text (Text t) wanted at front now next is named e before =
          text-passes t (item_places def file wanted) at now before
      part-passes _ _ wanted at front now next is named h before = absurd h

      parts-pass : {m : _} (wanted : List Item) (parts : Row_of-SpecimenPart m) (at : Place)
          (front now w : WrittenTree) → AllByRecursion (IsItem def) wanted
          → AllByRecursion (HasPlaceNames def sorts) (holes_of_row parts) → AreParts def names wanted parts front w
          → PassesTree (item_places def file wanted) at now → PassesTree [] at (parts_written def now parts)
      parts-pass [] end_of-SpecimenPart at front now w items named e before = before
      parts-pass [] (more_of-SpecimenPart p rest) at front now w items named h before = absurd h
      parts-pass (i ∷ wanted) end_of-SpecimenPart at front now w items named h before = absurd h
      parts-pass (i ∷ wanted) (more_of-SpecimenPart p rest) at front now w items named (next, h, hs) before =
          let own = all-front (HasPlaceNames def sorts) (holes_of_part p) (holes_of_row rest) named in
          let others = all-behind (HasPlaceNames def sorts) (holes_of_part p) (holes_of_row rest) named in
          let first = part-passes i p wanted at front now next items.0 own h before in
          parts-pass wanted rest at next (part_written def now p) w items.1 others hs first

      elements-pass : {m : _} (l s : ℕ) → HasKindSort def (kinds.List l) s → (elements : Row_of-Specimen m)
          (rest : Option SpecimenHole) (w : WrittenTree)
          → AllByRecursion (HasPlaceNames def sorts) (holes_of_list elements rest)
          → IsListFrom def names l elements rest w
          → StandsAs (elements_written def elements (end_written def rest)) (kinds.List l)
      elements-pass l s there end_of-Specimen rest w named h = end-passes l s there rest w named h
      elements-pass l s there (more_of-Specimen x elements) rest w named (list, e, r, at, h, hs, is) =
          let told = each_at (IsListKind def) def.lists sound.lists l list at in
          let own = all-front (HasPlaceNames def sorts) (holes_of x) (holes_of_list elements rest) named in
          let others = all-behind (HasPlaceNames def sorts) (holes_of x) (holes_of_list elements rest) named in
          let first = tree-passes x (kinds.Phylum list.element) told.element e told.element_sort own h in
          let behind = elements-pass l s there elements rest r others hs in
          element-passes l s list there at (tree_written def x)
          (elements_written def elements (end_written def rest)) first behind
