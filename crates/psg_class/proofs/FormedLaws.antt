-- What yields tokens is well formed.
use Rattle.std.proofs.Common.{◌≡◌, ◌<◌, ◌^◌, ◌⊎◌, inl, inr, ℕ, suc, max, Bool, true, false, cond, ◌&&◌, List, [], ◌∷◌, ◌++◌, Some, slice_get, refl, sym, ap, ◌∙◌, subst}
use Rattle.std.specs.Prelude.{chars, encode_utf8_all, bytes_eq, IsUtf8}
use Rattle.std.specs.List.{AllByRecursion}
use Rattle.std.proofs.lemmas.Bool.{and_parts, false≢true}
use Rattle.std.proofs.lemmas.Option.{slice_get_within}
use Rattle.psg_terms.specs.Names.{Name, is_among}
use Rattle.psg_terms.specs.Words.{IsWord, IsFreeWord}
use Rattle.psg_terms.proofs.DeclareLaws.{bytes_eq-same}
use Rattle.psg_grammar.specs.declared.types.Kind.{Kind}
use Rattle.psg_grammar.specs.declared.types.Kind.TheVariants as kinds
use Rattle.psg_grammar.specs.declared.types.Item.{Item}
use Rattle.psg_grammar.specs.declared.types.Item.TheVariants as items
use Rattle.psg_grammar.specs.declared.types.Operator.{Operator}
use Rattle.psg_grammar.specs.declared.types.Phylum.{Phylum}
use Rattle.psg_grammar.specs.declared.types.ListKind.{ListKind}
use Rattle.psg_grammar.specs.declared.types.Definition.{Definition}
use Rattle.psg_grammar.specs.Fragments.{Fragment, hole, ending, cell, operator, with_child, with_name, with_number, with_text}
use Rattle.psg_grammar.specs.Lookups.{part_items}
use Rattle.psg_grammar.specs.Levels.{is_mark}
use Rattle.psg_grammar.specs.WellFormed.{Fits, IsPlain, IsName, IsUnobserved, WellFormed, fixed_words}
use Rattle.psg_class.specs.Places.{solid}
use Rattle.psg_class.specs.Terminals.{Token, word, numeral, quoted, dots, Terminal, fixed, a_name, stray, are_word, is_word, word_terminal, terminal_of}
use Rattle.psg_class.specs.Yields.{TreeYields, of_hole, of_operator, in_brackets, PartsYield, no_items, of_word, of_refers, of_declares, of_number, of_text, of_slot, of_list_slot, ListYields, no_elements, only_more, elements, SomeYield, last_element, and_more, and_elements, Yields}
use Rattle.psg_class.specs.Only.{IsValue, YieldsAreTrees}
use Rattle.psg_class.proofs.WordForms.{is_word_says}

abbrev AreValues : List Token → Type 0
AreValues ts = AllByRecursion IsValue ts

in_front : (a b : List Token) → AreValues (a ++ b) → AreValues a
in_front [] b h = tt
in_front (t ∷ a) b h = (h.0, in_front a b h.1)

at_end : (a b : List Token) → AreValues (a ++ b) → AreValues b
at_end [] b h = h
at_end (t ∷ a) b h = at_end a b h.1

-- the marks for the layout have no part
solid_parts : (is : List Item) → part_items is ≡ part_items (solid is)
solid_parts [] = refl
solid_parts (items.Word w ∷ is) = solid_parts is
solid_parts (items.Slot k ∷ is) = ap (λ x. items.Slot k ∷ x) (solid_parts is)
solid_parts (items.Refers s ∷ is) = ap (λ x. items.Refers s ∷ x) (solid_parts is)
solid_parts (items.Declares s ∷ is) = ap (λ x. items.Declares s ∷ x) (solid_parts is)
solid_parts (items.Number ∷ is) = ap (λ x. items.Number ∷ x) (solid_parts is)
solid_parts (items.Text ∷ is) = ap (λ x. items.Text ∷ x) (solid_parts is)
solid_parts (items.Space ∷ is) = solid_parts is
solid_parts (items.Tight ∷ is) = solid_parts is
solid_parts (items.Line ∷ is) = solid_parts is
solid_parts (items.In ∷ is) = solid_parts is
solid_parts (items.Out ∷ is) = solid_parts is

-- a word's terminal is that of names where it is a word and no fixed one
named : (x : Name) (w among : Bool) → word_terminal x w among ≡ a_name → (w ≡ true) × (among ≡ false)
named x true true e = absurd (let y : fixed x ≡ a_name = e in cc)
named x true false e = (refl, refl)
named x false among e = absurd (let y : stray ≡ a_name = e in cc)

module _ (def : Definition) where
  name_is : (x : Name) → terminal_of def (word x) ≡ a_name → IsName def x
  name_is x e =
      let (w, among) = named x (is_word x) (is_among (fixed_words def) x) e in
      (chars x, sym (bytes_eq-same (encode_utf8_all (chars x)) x (and_parts (are_word (chars x)) (bytes_eq (encode_utf8_all (chars x)) x) w).1), is_word_says x w, among)

  mutual
    tree_formed : {f : Fragment} {p level d : ℕ} {ts : List Token} → TreeYields def f p level d ts → AreValues ts → WellFormed def f (kinds.Phylum p)
    tree_formed (of_hole {p = p} phylum found closed) v = ((refl, refl, slice_get_within def.phyla p phylum found, closed), tt)
    tree_formed (of_operator {f = f} {p = p} n o found is least parts) v =
        parts_formed (kinds.Phylum p) parts v ((o, found, sym (solid_parts o.items), ap kinds.Phylum (sym is)), tt)
    tree_formed (in_brackets {ts = ts} phylum open_token close_token found bracketed opens closes y) v = tree_formed y (in_front ts (close_token ∷ []) v.1)

    parts_formed : {o : Operator} {first : Bool} {f g : Fragment} {d e : ℕ} {more : List Item} {ts : List Token} (kind : Kind) → PartsYield def o first f d more g e ts → AreValues ts
        → Fits def f (part_items more) kind × IsPlain f → WellFormed def g kind
    parts_formed kind no_items v h = h
    parts_formed kind (of_word t is y) v h = parts_formed kind y v.1 h
    parts_formed kind (of_refers s x is y) v h = parts_formed kind y v.1 ((inl (s, h.0), name_is x is), h.1)
    parts_formed kind (of_declares s x is y) v h = parts_formed kind y v.1 ((inr (s, h.0), name_is x is), h.1)
    parts_formed kind (of_number x y) v h = parts_formed kind y v.1 ((h.0, v.0), h.1)
    parts_formed kind (of_text x y) v h = parts_formed kind y v.1 ((h.0, v.0), h.1)
    parts_formed kind (of_slot {p = p} t depth own behind y z) v h =
        let below = tree_formed y (in_front own behind v) in
        parts_formed kind z (at_end own behind v) ((kinds.Phylum p, h.0, below.0), (h.1, below.1))
    parts_formed kind (of_list_slot {l = l} t depth own behind y z) v h =
        let below = list_formed y (in_front own behind v) in
        parts_formed kind z (at_end own behind v) ((kinds.List l, h.0, below.0), (h.1, below.1))

    list_formed : {f : Fragment} {l d : ℕ} {ts : List Token} → ListYields def f l d ts → AreValues ts → WellFormed def f (kinds.List l)
    list_formed (no_elements kind found) v = ((refl, refl, (kind, found, λ e. absurd (false≢true e))), tt)
    list_formed (only_more kind found unfinished) v = ((refl, refl, (kind, found, λ e. unfinished)), tt)
    list_formed (elements y) v = (some_formed y v).0

    some_formed : {f : Fragment} {l d : ℕ} {ts : List Token} → SomeYield def f l d ts → AreValues ts → WellFormed def f (kinds.List l) × IsUnobserved f
    some_formed (last_element kind found y) v =
        let e = tree_formed y v in
        (((refl, refl, kind, found, e.0, (refl, refl, (kind, found, λ h. absurd (false≢true h))), tt), (e.1, tt)), tt)
    some_formed (and_more ts kind separator found unfinished is y) v =
        let e = tree_formed y (in_front ts (separator ∷ dots ∷ []) v) in
        (((refl, refl, kind, found, e.0, (refl, refl, (kind, found, λ h. unfinished)), tt), (e.1, tt)), tt)
    some_formed (and_elements kind m n own behind separator found is y z) v =
        let e = tree_formed y (in_front own (separator ∷ behind) v) in
        let after = at_end own (separator ∷ behind) v in
        let (r, plain) = some_formed z after.1 in
        (((refl, refl, kind, found, e.0, r.0, plain), (e.1, r.1)), tt)

pub yields_are_trees : (def : Definition) → YieldsAreTrees def
yields_are_trees def (kinds.Phylum p) level d f ts v y = tree_formed def y v
yields_are_trees def (kinds.List l) level d f ts v y = list_formed def y v
