-- The fixed words and separators of plain lines.
use Rattle.std.proofs.Common.{ℕ, List, [], ◌∷◌, ◌++◌, sym, subst}
use Rattle.std.specs.List.{AllByRecursion}
use Rattle.psg_terms.specs.Names.{Name}
use Rattle.psg_grammar.specs.declared.types.Item.{Item}
use Rattle.psg_grammar.specs.declared.types.Item.TheVariants as own
use Rattle.psg_grammar.specs.declared.types.ListKind.{ListKind}
use Rattle.psg_grammar.specs.declared.types.Operator.{Operator}
use Rattle.psg_grammar.specs.declared.types.Definition.{Definition}
use Rattle.psg_grammar.specs.WellFormed.{operator_words, separators, words_in}
use Rattle.psg_deflines.specs.Entries.{written, IsPlain}
use Rattle.psg_deflines.specs.Forms.{IsFixedItem}
use Rattle.psg_lexis.specs.Tokens.{IsFixedWord}
use Rattle.psg_deflines.specs.declared.lines.LineItem.{LineItem}
use Rattle.psg_deflines.specs.declared.lines.LineItem.TheVariants as items
use Rattle.psg_deflines.specs.declared.lines.Line.{Line}
use Rattle.psg_deflines.specs.declared.lines.Line.TheVariants as lines
use Rattle.psg_defnumber.specs.Numbers.{IsItem, AreItems, AreOperators, AreLists}
use Rattle.psg_defnumber.specs.Soundness.{WordsAreTokens}

-- the item is no fixed word, or one that is one token
abbrev IsFixed : Item → Type 0
IsFixed (own.Word w) = IsFixedWord w
IsFixed _ = Unit {0}

all-append : (xs ys : List Name) → AllByRecursion IsFixedWord xs → AllByRecursion IsFixedWord ys
    → AllByRecursion IsFixedWord (xs ++ ys)
all-append [] ys all more = more
all-append (x ∷ xs) ys (one, all) more = (one, all-append xs ys all more)

of_items : (xs : List Item) → AllByRecursion IsFixed xs → AllByRecursion IsFixedWord (words_in xs)
of_items [] all = tt
of_items (own.Word w ∷ xs) (one, all) = (one, of_items xs all)
of_items (_ ∷ xs) (one, all) = of_items xs all

of_operators : (os : List Operator) → AllByRecursion (λ (o : Operator). AllByRecursion IsFixed o.items) os
    → AllByRecursion IsFixedWord (operator_words os)
of_operators [] all = tt
of_operators (o ∷ os) (one, all) =
    all-append (words_in o.items) (operator_words os) (of_items o.items one) (of_operators os all)

of_lists : (ls : List ListKind) → AllByRecursion (λ (l : ListKind). IsFixedWord l.separator) ls
    → AllByRecursion IsFixedWord (separators ls)
of_lists [] all = tt
of_lists (l ∷ ls) (one, all) = (one, of_lists ls all)

module _ (def : Definition) where
  item-fixed : (w : LineItem) (i : Item) → IsFixedItem w → IsItem def w i → IsFixed i
  item-fixed (items.Word w) i h e = subst IsFixed (sym e) h
  item-fixed (items.Slot n) i h (k, is, e) = subst IsFixed (sym e) tt
  item-fixed (items.Refers n) i h (k, is, e) = subst IsFixed (sym e) tt
  item-fixed (items.Declares n) i h (k, is, e) = subst IsFixed (sym e) tt
  item-fixed items.Number i h e = subst IsFixed (sym e) tt
  item-fixed items.Text i h e = subst IsFixed (sym e) tt
  item-fixed items.Space i h e = subst IsFixed (sym e) tt
  item-fixed items.Tight i h e = subst IsFixed (sym e) tt
  item-fixed items.Line i h e = subst IsFixed (sym e) tt
  item-fixed items.In i h e = subst IsFixed (sym e) tt
  item-fixed items.Out i h e = subst IsFixed (sym e) tt

  items-fixed : (ws : List LineItem) (xs : List Item) → AllByRecursion IsFixedItem ws → AreItems def ws xs
      → AllByRecursion IsFixed xs
  items-fixed [] xs h e = subst (AllByRecursion IsFixed) (sym e) tt
  items-fixed (w ∷ ws) xs h (i, rest, e, is, more) =
      subst (AllByRecursion IsFixed) (sym e) (item-fixed w i h.0 is, items-fixed ws rest h.1 more)

  abbrev HasFixed : Operator → Type 0
  HasFixed o = AllByRecursion IsFixed o.items

  operators-fixed : (version : ℕ) (file : List Line) (all : List Operator) → AllByRecursion (IsPlain version) file → AreOperators def file all
      → AllByRecursion HasFixed all
  operators-fixed version [] all plain e = subst (AllByRecursion HasFixed) (sym e) tt
  operators-fixed version (lines.Operator name phylum scope level parts ∷ behind) all plain (op, rest, e, h, hs) =
      subst (AllByRecursion HasFixed) (sym e) (
        items-fixed parts op.items plain.0.words h.each_item,
        operators-fixed version behind rest plain.1 hs,
      )
  operators-fixed version (line ∷ behind) all plain h = operators-fixed version behind all plain.1 h

  abbrev IsSeparated : ListKind → Type 0
  IsSeparated l = IsFixedWord l.separator

  separators-fixed : (version : ℕ) (file behind : List Line) (all : List ListKind) → AllByRecursion (IsPlain version) behind
      → AreLists def file behind all → AllByRecursion IsSeparated all
  separators-fixed version file [] all plain e = subst (AllByRecursion IsSeparated) (sym e) tt
  separators-fixed version file (lines.List name sort elements separator ls u ∷ behind) all plain (l, rest, e, h, hs) =
      subst (AllByRecursion IsSeparated) (sym e) (
        subst IsFixedWord (sym h.same_separator) plain.0.words,
        separators-fixed version file behind rest plain.1 hs,
      )
  separators-fixed version file (line ∷ behind) all plain h = separators-fixed version file behind all plain.1 h

pub token-words : WordsAreTokens
token-words version entries def plain numbered =
    all-append (operator_words def.operators) (separators def.lists)
    (of_operators def.operators (operators-fixed def version (written entries) def.operators plain numbered.operators))
    (of_lists def.lists (separators-fixed def version (written entries) (written entries) def.lists plain numbered.lists))
