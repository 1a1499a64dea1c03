-- Kinds of tokens that are looked for, and told in order.
use Rattle.std.proofs.Common.{◌≡◌, ◌↔◌, ℕ, ◌+◌, ◌<◌, ◌≤◌, List, [], ◌∷◌, ◌++◌, length, map, take, drop, get_or, refl, sym, ap, ◌∙◌, subst, append_assoc, append-nil, arith}
use Rattle.std.specs.Prelude.{String, string_bytes}
use Rattle.std.specs.declared.alloc.Global.{Global}
use Rattle.std.proofs.lemmas.List.{drop_all, drop_more, map-append, take_all}
use Rattle.psg_terms.specs.Names.{Name}
use Rattle.psg_terms.specs.Relations.{IsIn, first, later}
use Rattle.psg_terms.proofs.Lists.{take_item}
use Rattle.psg_grammar.specs.declared.types.Definition.{Definition}
use Rattle.psg_grammar.specs.declared.types.Phylum.{Phylum}
use Rattle.psg_class.specs.Terminals.{Terminal, a_more, a_name, a_number, a_text}
use Rattle.psg_stop.specs.declared.wanted.Wanted.{Wanted}
use Rattle.psg_stop.specs.declared.wanted.Wanted.TheVariants.{More}
use Rattle.psg_stop.specs.Wanted.{hole_terminal, wanted_terminal, wanted_terminals, word_terminal}
use Rattle.psg_stop.proofs.Rows.{wanted_push}
use Rattle.psg_program.specs.Expected.{AreTold, AreToldBoth, IsAdded, IsEndTold, end_left_out, end_told, none_told, one_left_out, one_told, terminals_in_order, words_in_order}

-- ---- looking for a kind of token

in_nothing : (t : Terminal) → IsIn t [] → ⊥
in_nothing t h = elim h [ ]

in_rest : (t x : Terminal) (xs : List Terminal) → (t ≡ x → ⊥) → IsIn t (x ∷ xs) → IsIn t xs
in_rest t x xs other first = absurd (other refl)
in_rest t x xs other (later h) = h

-- it is in the list exactly where it is among those that are left
abbrev pub IsLeft : Terminal → List Wanted → ℕ → Type 0
IsLeft t all i = IsIn t (wanted_terminals all) ↔ IsIn t (wanted_terminals (drop i all))

module _ (t : Terminal) (all : List Wanted) (i : ℕ) where
  module _ (x : Wanted) (lt : i < length all) (is : x ≡ get_or all i x) where
    left : wanted_terminals (drop i all) ≡ wanted_terminal x ∷ wanted_terminals (drop (i + 1) all)
    left = ap wanted_terminals (drop_more all i x lt ∙ ap (λ w. w ∷ drop (i + 1) all) (sym is))

    pub left_more : (t ≡ wanted_terminal x → ⊥) → IsLeft t all i → IsLeft t all (i + 1)
    left_more other h = (
      λ a. in_rest t (wanted_terminal x) (wanted_terminals (drop (i + 1) all)) other (subst (IsIn t) left (h.0 a)),
      λ b. h.1 (subst (IsIn t) (sym left) (later b)),
    )

    pub found : t ≡ wanted_terminal x → IsLeft t all i → IsIn t (wanted_terminals all)
    found same h =
        h.1 (subst (IsIn t) (sym left)
        (subst (λ y. IsIn t (y ∷ wanted_terminals (drop (i + 1) all))) same first))

  pub not_found : length all ≤ i → IsLeft t all i → IsIn t (wanted_terminals all) → ⊥
  not_found le h a = in_nothing t (subst (λ ws. IsIn t (wanted_terminals ws)) (drop_all i all le) (h.0 a))

-- ---- the order

module _ (def : Definition) (none words leaves holes all : List Wanted) (ws : List Name) (ps : List Phylum) where
  pub whole_order : none ≡ [] → wanted_terminals words ≡ wanted_terminals none ++ map word_terminal ws
      → ws ≡ words_in_order def → wanted_terminals leaves ≡ wanted_terminals words ++ (a_name ∷ a_number ∷ a_text ∷ [])
      → wanted_terminals holes ≡ wanted_terminals leaves ++ map hole_terminal ps → ps ≡ def.phyla
      → all ≡ holes ++ More ∷ [] → wanted_terminals all ≡ terminals_in_order def
  whole_order a b c d e f g =
      let w : wanted_terminals words ≡ map word_terminal (words_in_order def) =
      b ∙ ap (λ l. wanted_terminals l ++ map word_terminal ws) a ∙ ap (map word_terminal) c in
      let l : wanted_terminals leaves ≡ map word_terminal (words_in_order def) ++ (a_name ∷ a_number ∷ a_text ∷ []) =
      d ∙ ap (λ x. x ++ (a_name ∷ a_number ∷ a_text ∷ [])) w in
      let h : wanted_terminals holes ≡ map word_terminal (words_in_order def) ++ (a_name ∷ a_number ∷ a_text ∷ map hole_terminal def.phyla) =
      e ∙ ap (λ x. x ++ map hole_terminal ps) l
      ∙ append_assoc (map word_terminal (words_in_order def)) (a_name ∷ a_number ∷ a_text ∷ []) (map hole_terminal ps)
      ∙ ap (λ x. map word_terminal (words_in_order def) ++ (a_name ∷ a_number ∷ a_text ∷ map hole_terminal x)) f in
      ap wanted_terminals g ∙ wanted_push holes More ∙ ap (λ x. x ++ a_more ∷ []) h
      ∙ append_assoc (map word_terminal (words_in_order def)) (a_name ∷ a_number ∷ a_text ∷ map hole_terminal def.phyla) (a_more ∷ [])

-- ---- what is told

module _ {Goes : Terminal → Type 0} where
  pub told_behind : (ts us : List Terminal) (ws vs : List (List ℕ)) → AreTold Goes ts ws → AreTold Goes us vs
      → AreTold Goes (ts ++ us) (ws ++ vs)
  told_behind [] us [] vs none_told b = b
  told_behind [] us (w ∷ ws) vs a b = elim a [ ]
  told_behind (t ∷ ts) us (w ∷ ws) vs (one_told goes a) b = one_told goes (told_behind ts us ws vs a b)
  told_behind (t ∷ ts) us ws vs (one_left_out never a) b = one_left_out never (told_behind ts us ws vs a b)

pub told_so : {P Q : Terminal → Type 0} → ((t : Terminal) → P t ↔ Q t) → (ts : List Terminal) (ws : List (List ℕ))
    → AreTold P ts ws → AreTold Q ts ws
told_so same [] [] none_told = none_told
told_so same [] (w ∷ ws) a = elim a [ ]
told_so same (t ∷ ts) (w ∷ ws) (one_told goes a) = one_told ((same t).0 goes) (told_so same ts ws a)
told_so same (t ∷ ts) ws (one_left_out never a) = one_left_out (λ q. never ((same t).1 q)) (told_so same ts ws a)

pub end_so : {P Q : Type 0} → P ↔ Q → (ws : List (List ℕ)) → IsEndTold P ws → IsEndTold Q ws
end_so same ws (end_told p) = end_told (same.0 p)
end_so same ws (end_left_out never) = end_left_out (λ q. never (same.1 q))

-- of both
pub both_so : {P Q : Terminal → Type 0} {E F : Type 0} → ((t : Terminal) → P t ↔ Q t) → E ↔ F → (all : List Terminal)
    (words : List (List ℕ)) → AreToldBoth P E all words → AreToldBoth Q F all words
both_so same ends all words b = record {
  terminals = b.terminals;
  ends = b.ends;
  are_told = told_so same all b.terminals b.are_told;
  is_end_told = end_so ends b.ends b.is_end_told;
  whole = b.whole;
}

abbrev pub texts : List (String Global) → List (List ℕ)
texts ws = map string_bytes ws

pub nothing_added : {Holds : List (List ℕ) → Type 0} (old : List (String Global)) → Holds []
    → IsAdded Holds (texts old) (texts old)
nothing_added old holds = record { words = []; holds = holds; whole = sym (append-nil (texts old)) }

pub one_added : {Holds : List (List ℕ) → Type 0} (old new : List (String Global)) (word : String Global) (text : List ℕ)
    → new ≡ old ++ word ∷ [] → string_bytes word ≡ text → Holds (text ∷ []) → IsAdded Holds (texts old) (texts new)
one_added old new word text grown is holds = record {
  words = text ∷ [];
  holds = holds;
  whole = ap texts grown ∙ map-append string_bytes old (word ∷ []) ∙ ap (λ t. texts old ++ t ∷ []) is;
}

-- one more of the kinds was looked at
pub told_next : {Goes : Terminal → Type 0} (all : List Wanted) (i : ℕ) (x : Wanted) (old new : List (List ℕ))
    → i < length all → x ≡ get_or all i x → AreTold Goes (wanted_terminals (take i all)) old
    → IsAdded (AreTold Goes (wanted_terminal x ∷ [])) old new → AreTold Goes (wanted_terminals (take (i + 1) all)) new
told_next {Goes} all i x old new lt is told more =
    subst (λ ts. AreTold Goes ts new)
    (sym (wanted_push (take i all) x) ∙ ap wanted_terminals (sym (take_item all i x lt is)))
    (subst (AreTold Goes (wanted_terminals (take i all) ++ wanted_terminal x ∷ [])) (sym more.whole)
    (told_behind (wanted_terminals (take i all)) (wanted_terminal x ∷ []) old more.words told more.holds))

pub told_all : {Goes : Terminal → Type 0} (all : List Wanted) (i : ℕ) (ws : List (List ℕ)) → i ≡ length all
    → AreTold Goes (wanted_terminals (take i all)) ws → AreTold Goes (wanted_terminals all) ws
told_all {Goes} all i ws e told =
    subst (λ l. AreTold Goes (wanted_terminals l) ws) (take_all i all (omega (arith, e))) told
