-- What is read from a text can be printed so that it reads back.
use Rattle.std.proofs.Common.{ℕ, Bool, List, [], ◌∷◌, ◌++◌, chars, IsUtf8}
use Rattle.std.specs.List.{AllByRecursion}
use Rattle.psg_grammar.specs.declared.types.Kind.{Kind}
use Rattle.psg_grammar.specs.declared.types.Kind.TheVariants as kinds
use Rattle.psg_grammar.specs.declared.types.Item.{Item}
use Rattle.psg_grammar.specs.declared.types.Operator.{Operator}
use Rattle.psg_grammar.specs.declared.types.Definition.{Definition}
use Rattle.psg_grammar.specs.Fragments.{Fragment}
use Rattle.psg_grammar.specs.Printable.{IsPrintable}
use Rattle.psg_grammar.specs.WellFormed.{fixed_words}
use Rattle.psg_class.specs.Terminals.{Token, dots}
use Rattle.psg_class.specs.Texts.{ReadsAs, tokens_of}
use Rattle.psg_class.specs.Yields.{TreeYields, of_hole, of_operator, in_brackets, PartsYield, no_items, of_word, of_refers, of_declares, of_number, of_text, of_slot, of_list_slot, ListYields, no_elements, only_more, elements, SomeYield, last_element, and_more, and_elements, Yields}
use Rattle.psg_session.proofs.ShortTokens.{IsShowable, all_showable, short_tokens}
use Rattle.psg_textedit.proofs.TokenValues.{text_values}

abbrev AreShowable : List Token → Type 0
AreShowable ts = AllByRecursion IsShowable ts

in_front : (a b : List Token) → AreShowable (a ++ b) → AreShowable a
in_front [] b h = tt
in_front (t ∷ a) b h = (h.0, in_front a b h.1)

at_end : (a b : List Token) → AreShowable (a ++ b) → AreShowable b
at_end [] b h = h
at_end (t ∷ a) b h = at_end a b h.1

module _ (def : Definition) where
  mutual
    tree_printable : {f : Fragment} {p level d : ℕ} {ts : List Token} → TreeYields def f p level d ts → AreShowable ts → IsPrintable f
    tree_printable (of_hole phylum found closed) v = tt
    tree_printable (of_operator n o found is least parts) v = parts_printable parts v tt
    tree_printable (in_brackets {ts = ts} phylum open_token close_token found bracketed opens closes y) v =
        tree_printable y (in_front ts (close_token ∷ []) v.1)

    parts_printable : {o : Operator} {first : Bool} {f g : Fragment} {d e : ℕ} {more : List Item} {ts : List Token}
        → PartsYield def o first f d more g e ts → AreShowable ts → IsPrintable f → IsPrintable g
    parts_printable no_items v h = h
    parts_printable (of_word t is y) v h = parts_printable y v.1 h
    parts_printable (of_refers s x is y) v h = parts_printable y v.1 (h, v.0)
    parts_printable (of_declares s x is y) v h = parts_printable y v.1 (h, v.0)
    parts_printable (of_number x y) v h = parts_printable y v.1 h
    parts_printable (of_text x y) v h = parts_printable y v.1 (h, v.0.0, v.0.1)
    parts_printable (of_slot t depth own behind y z) v h =
        parts_printable z (at_end own behind v) (h, tree_printable y (in_front own behind v))
    parts_printable (of_list_slot t depth own behind y z) v h =
        parts_printable z (at_end own behind v) (h, list_printable y (in_front own behind v))

    list_printable : {f : Fragment} {l d : ℕ} {ts : List Token} → ListYields def f l d ts → AreShowable ts → IsPrintable f
    list_printable (no_elements kind found) v = tt
    list_printable (only_more kind found unfinished) v = tt
    list_printable (elements y) v = some_printable y v

    some_printable : {f : Fragment} {l d : ℕ} {ts : List Token} → SomeYield def f l d ts → AreShowable ts → IsPrintable f
    some_printable (last_element kind found y) v = (tree_printable y v, tt)
    some_printable (and_more ts kind separator found unfinished is y) v =
        (tree_printable y (in_front ts (separator ∷ dots ∷ []) v), tt)
    some_printable (and_elements kind m n own behind separator found is y z) v = (
      tree_printable y (in_front own (separator ∷ behind) v),
      some_printable z (at_end own (separator ∷ behind) v).1,
    )

  yields_printable : (kind : Kind) (level d : ℕ) (f : Fragment) (ts : List Token) → AreShowable ts
      → Yields def f kind level d ts → IsPrintable f
  yields_printable (kinds.Phylum p) level d f ts v y = tree_printable y v
  yields_printable (kinds.List l) level d f ts v y = list_printable y v

  -- what a UTF-8 text is read as
  pub reads_printable : (text : List ℕ) (kind : Kind) (level nesting : ℕ) (f : Fragment) → IsUtf8 text
      → ReadsAs def kind level text f nesting → IsPrintable f
  reads_printable text kind level nesting f utf8 reads =
      yields_printable kind level nesting f (tokens_of reads.tokens)
      (all_showable (tokens_of reads.tokens) (short_tokens (fixed_words def) (chars text) 0 reads.tokens reads.are)
      (text_values (fixed_words def) text 0 reads.tokens utf8 reads.are)) reads.yields
