-- The tokens of a tree are of the definition's terminals.
use Rattle.std.proofs.Common.{◌≡◌, ℕ, zero, suc, Bool, List, [], ◌∷◌, ◌++◌, map, Some, None, slice_get, refl, sym, ◌∙◌, subst, append_assoc}
use Rattle.std.specs.List.{AllByRecursion}
use Rattle.psg_terms.proofs.Lists.{each_append, in_left, in_right, in_at}
use Rattle.psg_terms.specs.Names.{Name}
use Rattle.psg_terms.specs.Relations.{IsIn, first, later}
use Rattle.psg_grammar.specs.declared.types.Item.{Item}
use Rattle.psg_grammar.specs.declared.types.Item.TheVariants as items
use Rattle.psg_grammar.specs.declared.types.Operator.{Operator}
use Rattle.psg_grammar.specs.declared.types.Phylum.{Phylum}
use Rattle.psg_grammar.specs.declared.types.ListKind.{ListKind}
use Rattle.psg_grammar.specs.declared.types.Kind.{Kind}
use Rattle.psg_grammar.specs.declared.types.Kind.TheVariants as kinds
use Rattle.psg_grammar.specs.declared.types.Definition.{Definition}
use Rattle.psg_grammar.specs.Fragments.{Fragment}
use Rattle.psg_grammar.specs.WellFormed.{fixed_words, operator_words, separators, words_in}
use Rattle.psg_class.specs.Places.{solid}
use Rattle.psg_class.specs.Terminals.{Terminal, Token, word, fixed, a_name, a_number, a_text, a_hole, a_more, open_bracket, close_bracket, terminal_of}
use Rattle.psg_class.specs.Yields.{TreeYields, of_hole, of_operator, in_brackets, PartsYield, no_items, of_word, of_refers, of_declares, of_number, of_text, of_slot, of_list_slot, ListYields, no_elements, only_more, elements, SomeYield, last_element, and_more, and_elements, Yields}
use Rattle.psg_stop.specs.Wanted.{GoesWith, all_terminals, hole_terminal, other_terminals, word_terminal}

in_map : {X Y : Type 0} (f : X → Y) (x : X) (xs : List X) → IsIn x xs → IsIn (f x) (map f xs)
in_map f x [] h = elim h [ ]
in_map f x (y ∷ xs) first = first
in_map f x (y ∷ xs) (later h) = later (in_map f x xs h)

-- a solid word is one of the items'
word_there : (xs : List Item) (w : Name) → IsIn (items.Word w) (solid xs) → IsIn w (words_in xs)
word_there [] w h = elim h [ ]
word_there (items.Word v ∷ xs) w first = first
word_there (items.Word v ∷ xs) w (later h) = later (word_there xs w h)
word_there (items.Slot k ∷ xs) w (later h) = word_there xs w h
word_there (items.Refers s ∷ xs) w (later h) = word_there xs w h
word_there (items.Declares s ∷ xs) w (later h) = word_there xs w h
word_there (items.Number ∷ xs) w (later h) = word_there xs w h
word_there (items.Text ∷ xs) w (later h) = word_there xs w h
word_there (items.Space ∷ xs) w h = word_there xs w h
word_there (items.Tight ∷ xs) w h = word_there xs w h
word_there (items.Line ∷ xs) w h = word_there xs w h
word_there (items.In ∷ xs) w h = word_there xs w h
word_there (items.Out ∷ xs) w h = word_there xs w h

operator_word : (os : List Operator) (n : ℕ) (o : Operator) (w : Name) → slice_get os n ≡ Some o → IsIn w (words_in o.items) → IsIn w (operator_words os)
operator_word [] n o w e h = absurd (let x : None ≡ Some o = e in cc)
operator_word (q ∷ os) zero o w e h = let x : Some q ≡ Some o = e in let y : o ≡ q = cc in in_left w (words_in q.items) (operator_words os) (subst (λ z. IsIn w (words_in z.items)) y h)
operator_word (q ∷ os) (suc n) o w e h = in_right w (words_in q.items) (operator_words os) (operator_word os n o w e h)

separator_there : (ls : List ListKind) (l : ℕ) (kind : ListKind) → slice_get ls l ≡ Some kind → IsIn kind.separator (separators ls)
separator_there [] l kind e = absurd (let x : None ≡ Some kind = e in cc)
separator_there (k ∷ ls) zero kind e = let x : Some k ≡ Some kind = e in let y : k ≡ kind = cc in subst (λ z. IsIn z.separator (k.separator ∷ separators ls)) y first
separator_there (k ∷ ls) (suc l) kind e = later (separator_there ls l kind e)

module _ (def : Definition) where
  abbrev pub IsKnown : Terminal → Type 0
  IsKnown t = IsIn t (all_terminals def)

  abbrev pub AreKnown : List Token → Type 0
  AreKnown ts = AllByRecursion (λ t. IsKnown (terminal_of def t)) ts

  known_other : (t : Terminal) → IsIn t other_terminals → IsKnown t
  known_other t h = in_left t (other_terminals ++ map word_terminal (fixed_words def)) (map hole_terminal def.phyla) (in_left t other_terminals (map word_terminal (fixed_words def)) h)

  known_word : (w : Name) → IsIn w (fixed_words def) → IsKnown (fixed w)
  known_word w h = in_left (fixed w) (other_terminals ++ map word_terminal (fixed_words def)) (map hole_terminal def.phyla)
      (in_right (fixed w) other_terminals (map word_terminal (fixed_words def)) (in_map word_terminal w (fixed_words def) h))

  known_separator : (l : ℕ) (kind : ListKind) → slice_get def.lists l ≡ Some kind → IsKnown (fixed kind.separator)
  known_separator l kind e = known_word kind.separator (in_right kind.separator (operator_words def.operators) (separators def.lists) (separator_there def.lists l kind e))

  known_hole : (p : ℕ) (phylum : Phylum) → slice_get def.phyla p ≡ Some phylum → IsKnown (a_hole phylum.name)
  known_hole p phylum e = in_right (a_hole phylum.name) (other_terminals ++ map word_terminal (fixed_words def)) (map hole_terminal def.phyla) (in_map hole_terminal phylum def.phyla (in_at def.phyla p phylum e))

  known_item : (n : ℕ) (o : Operator) → slice_get def.operators n ≡ Some o → (w : Name) (front more : List Item) → solid o.items ≡ front ++ items.Word w ∷ more → IsKnown (fixed w)
  known_item n o found w front more e = known_word w (in_left w (operator_words def.operators) (separators def.lists) (operator_word def.operators n o w found
      (word_there o.items w (subst (IsIn (items.Word w)) (sym e) (in_right (items.Word w) front (items.Word w ∷ more) first)))))

  as_seen : (t : Token) (terminal : Terminal) → terminal_of def t ≡ terminal → IsKnown terminal → IsKnown (terminal_of def t)
  as_seen t terminal e h = subst IsKnown (sym e) h

  a_step : (o : Operator) (front : List Item) (i : Item) (more : List Item) → solid o.items ≡ front ++ i ∷ more → solid o.items ≡ (front ++ i ∷ []) ++ more
  a_step o front i more e = e ∙ sym (append_assoc front (i ∷ []) more)

  known_both : (xs ys : List Token) → AreKnown xs → AreKnown ys → AreKnown (xs ++ ys)
  known_both xs ys a b = each_append (λ t. IsKnown (terminal_of def t)) xs ys a b

  mutual
    pub known_tree : {f : Fragment} {p level d : ℕ} {ts : List Token} → TreeYields def f p level d ts → AreKnown ts
    known_tree (of_hole {p = p} phylum found holes) = (known_hole p phylum found, tt)
    known_tree (of_operator n o found is h y) = known_parts n o found [] refl y
    known_tree (in_brackets {ts = us} phylum t u found bracketed is is' y) =
        (as_seen t open_bracket is (known_other open_bracket first), known_both us (u ∷ []) (known_tree y) (as_seen u close_bracket is' (known_other close_bracket (later first)), tt))

    known_parts : (n : ℕ) (o : Operator) → slice_get def.operators n ≡ Some o → (front : List Item) {first_one : Bool} {f g : Fragment} {d e : ℕ} {more : List Item} {ts : List Token} → solid o.items ≡ front ++ more
        → PartsYield def o first_one f d more g e ts → AreKnown ts
    known_parts n o found front e no_items = tt
    known_parts n o found front e (of_word {more = more} {w = w} t is y) = (as_seen t (fixed w) is (known_item n o found w front more e), known_parts n o found (front ++ items.Word w ∷ []) (a_step o front (items.Word w) more e) y)
    known_parts n o found front e (of_refers {more = more} s x is y) = (as_seen (word x) a_name is (known_other a_name (later (later first))), known_parts n o found (front ++ items.Refers s ∷ []) (a_step o front (items.Refers s) more e) y)
    known_parts n o found front e (of_declares {more = more} s x is y) = (as_seen (word x) a_name is (known_other a_name (later (later first))), known_parts n o found (front ++ items.Declares s ∷ []) (a_step o front (items.Declares s) more e) y)
    known_parts n o found front e (of_number {more = more} x y) = (known_other a_number (later (later (later first))), known_parts n o found (front ++ items.Number ∷ []) (a_step o front items.Number more e) y)
    known_parts n o found front e (of_text {more = more} x y) = (known_other a_text (later (later (later (later first)))), known_parts n o found (front ++ items.Text ∷ []) (a_step o front items.Text more e) y)
    known_parts n o found front e (of_slot {more = more} {p = p} t depth own behind y z) = known_both own behind (known_tree y) (known_parts n o found (front ++ items.Slot (kinds.Phylum p) ∷ []) (a_step o front (items.Slot (kinds.Phylum p)) more e) z)
    known_parts n o found front e (of_list_slot {more = more} {l = l} t depth own behind y z) = known_both own behind (known_list y) (known_parts n o found (front ++ items.Slot (kinds.List l) ∷ []) (a_step o front (items.Slot (kinds.List l)) more e) z)

    pub known_list : {f : Fragment} {l d : ℕ} {ts : List Token} → ListYields def f l d ts → AreKnown ts
    known_list (no_elements kind found) = tt
    known_list (only_more kind found unfinished) = (known_other a_more (later (later (later (later (later first))))), tt)
    known_list (elements y) = known_some y

    known_some : {f : Fragment} {l d : ℕ} {ts : List Token} → SomeYield def f l d ts → AreKnown ts
    known_some (last_element kind found y) = known_tree y
    known_some (and_more {l = l} us kind t found unfinished is y) =
        known_both us _ (known_tree y) (as_seen t (fixed kind.separator) is (known_separator l kind found), (known_other a_more (later (later (later (later (later first))))), tt))
    known_some (and_elements {l = l} kind m n own behind t found is y z) = known_both own (t ∷ behind) (known_tree y) (as_seen t (fixed kind.separator) is (known_separator l kind found), known_some z)

  pub known : (f : Fragment) (kind : Kind) (level d : ℕ) (ts : List Token) → Yields def f kind level d ts → AreKnown ts
  known f (kinds.Phylum p) level d ts y = known_tree y
  known f (kinds.List l) level d ts y = known_list y

  -- a terminal that goes on is one of these
  pub known_next : (kind : Kind) (level : ℕ) (ts : List Token) (terminal : Terminal) → GoesWith def kind level ts terminal → IsKnown terminal
  known_next kind level ts terminal g =
      subst IsKnown g.is (last_known ts g.begins.more g.token (subst AreKnown (append_assoc ts (g.token ∷ []) g.begins.more) (known g.begins.tree kind level g.begins.nesting ((ts ++ g.token ∷ []) ++ g.begins.more) g.begins.yields))) where
        last_known : (xs more : List Token) (t : Token) → AreKnown (xs ++ (t ∷ more)) → IsKnown (terminal_of def t)
        last_known [] more t a = a.0
        last_known (x ∷ xs) more t a = last_known xs more t a.1
