-- The lines of two relations of one fragment are equal: a row's line is made of the texts of its terms, which have no
-- spaces, so the row's text tells them.
use Rattle.std.proofs.Common.{◌≡◌, ◌≢◌, ℕ, zero, suc, ◌+◌, ◌%◌, ◌/◌, ◌==◌, Bool, true, false, cond, ◌&&◌, nat_lt, nat_le, List, [], ◌∷◌, ◌++◌, length, map, slice_get, refl, sym, ◌∙◌, ap, ap₂, arith}
use Rattle.std.specs.Prelude.{codes, decimal}
use Rattle.std.specs.Fmt.{digits, digits_onto, digit_glyph}
use Rattle.std.specs.List.{AllByRecursion, list_all}
use Rattle.std.proofs.lemmas.Bool.{true≢false}
use Rattle.std.specs.Cmp.{first_so, second_so}
use Rattle.psg_terms.specs.Terms.{Term, variable, symbol, apply}
use Rattle.psg_terms.specs.Names.{Name}
use Rattle.psg_terms.specs.Signature.{Signature, Symbol}
use Rattle.psg_terms.specs.Text.{symbol_name, term_text, opened, row_text}
use Rattle.psg_terms.specs.Relations.{IsIn, IsRelation, first, later}
use Rattle.psg_grammar.specs.declared.types.Definition.{Definition}
use Rattle.psg_grammar.specs.Fragments.{Fragment}
use Rattle.psg_grammar.specs.Paths.{Path, observe}
use Rattle.psg_grammar.specs.Relations.{IsPossible, IsRelationOf, IsSeen, IsShownRelation}
use Rattle.psg_grammar.specs.Sound.{IsSound, IsOwnName, goes_on_name, is_lower}
use Rattle.psg_terms.proofs.OneRelation.{sorts_length, same_rows}
use Rattle.psg_session.specs.Answers.{entities_text, row_line, rows_lines}
use Rattle.psg_terms.proofs.RowOrder.{same_row_texts}

-- ---- texts without spaces

abbrev IsClear : List ℕ → Type 0
IsClear text = AllByRecursion (λ c. c ≢ 32) text

clear_append : (a b : List ℕ) → IsClear a → IsClear b → IsClear (a ++ b)
clear_append [] b h g = g
clear_append (c ∷ a) b h g = (h.0, clear_append a b h.1 g)

clear_digit : (d : ℕ) → digit_glyph false d ≢ 32
clear_digit d = go (nat_lt d 10) where
  go : (b : Bool) → cond b (48 + d) (87 + d) ≢ 32
  go true = λ e. omega (arith, e)
  go false = λ e. omega (arith, e)

clear_choice : (b : Bool) (here there : List ℕ) → IsClear here → IsClear there → IsClear (cond b here there)
clear_choice true here there h g = h
clear_choice false here there h g = g

clear_digits : (k n : ℕ) (behind : List ℕ) → IsClear behind → IsClear (digits_onto k 10 false n behind)
clear_digits zero n behind h = h
clear_digits (suc k) n behind h =
    let next : List ℕ = digit_glyph false (n % 10) ∷ behind in
    clear_choice (n / 10 == 0) next (digits_onto k 10 false (n / 10) next) (clear_digit (n % 10), h)
    (clear_digits k (n / 10) next (clear_digit (n % 10), h))

clear_decimal : (n : ℕ) → IsClear (decimal n)
unfolding digits
clear_decimal n = clear_digits 64 n [] tt

clear_rest : (cs : Name) → list_all goes_on_name cs ≡ true → IsClear cs
clear_rest [] h = tt
clear_rest (c ∷ cs) h = (
  (λ e. true≢false (sym (first_so (goes_on_name c) (list_all goes_on_name cs) h) ∙ ap goes_on_name e)),
  clear_rest cs (second_so (goes_on_name c) (list_all goes_on_name cs) h),
)

clear_name : (n : Name) → IsOwnName n → IsClear n
clear_name [] h = absurd (true≢false (sym h))
clear_name (c ∷ cs) h =
    let front = first_so (is_lower c && list_all goes_on_name cs) (nat_le (length cs) 63) h in (
      (λ e. true≢false (sym (first_so (is_lower c) (list_all goes_on_name cs) front) ∙ ap is_lower e)),
      clear_rest cs (second_so (is_lower c) (list_all goes_on_name cs) front),
    )

abbrev HaveOwnNames : List Symbol → Type 0
HaveOwnNames symbols = AllByRecursion (λ (s : Symbol). IsOwnName s.name) symbols

clear_symbol : (symbols : List Symbol) → HaveOwnNames symbols → (c : ℕ) → IsClear (symbol_name (slice_get symbols c))
clear_symbol [] own c = tt
clear_symbol (s ∷ symbols) own zero = clear_name s.name own.0
clear_symbol (s ∷ symbols) own (suc c) = clear_symbol symbols own.1 c

-- a text is told by what stands before and behind its first space
cut : (a b c d : List ℕ) → IsClear a → IsClear c → a ++ 32 ∷ b ≡ c ++ 32 ∷ d → (a ≡ c) × (b ≡ d)
cut [] b [] d h g e = (refl, (cc))
cut [] b (y ∷ c) d h g e = absurd (g.0 (cc))
cut (x ∷ a) b [] d h g e = absurd (h.0 (cc))
cut (x ∷ a) b (y ∷ c) d h g e =
    let front : x ≡ y = cc in
    let both = cut a b c d h.1 g.1 (cc) in
    (ap₂ (λ (z : ℕ) (l : List ℕ). z ∷ l) front both.0, both.1)

-- ---- lines by the texts of the terms

abbrev entities_of : List (List ℕ) → List (List ℕ) → List ℕ
entities_of [] texts = []
entities_of (k ∷ ks) [] = []
entities_of (k ∷ ks) (t ∷ ts) = 32 ∷ (k ++ (61 ∷ (t ++ entities_of ks ts)))

abbrev line_of : List (List ℕ) → List (List ℕ) → List ℕ
line_of ks [] = []
line_of ks (value ∷ entities) = value ++ entities_of ks entities

abbrev lines_of : List (List ℕ) → List (List (List ℕ)) → List (List ℕ)
lines_of ks [] = codes "none" ∷ []
lines_of ks (row ∷ rows) = line_of ks row ∷ map (line_of ks) rows

module _ (sig : Signature) where
  abbrev texts_of : List Term → List (List ℕ)
  texts_of row = map (term_text sig) row

  entities_are : (ks : List (List ℕ)) (row : List Term) → entities_text sig ks row ≡ entities_of ks (texts_of row)
  entities_are [] row = refl
  entities_are (k ∷ ks) [] = refl
  entities_are (k ∷ ks) (t ∷ row) = ap (λ l. 32 ∷ (k ++ (61 ∷ (term_text sig t ++ l)))) (entities_are ks row)

  line_is : (ks : List (List ℕ)) (row : List Term) → row_line sig ks row ≡ line_of ks (texts_of row)
  line_is ks [] = refl
  line_is ks (value ∷ row) = ap (λ l. term_text sig value ++ l) (entities_are ks row)

  more_lines : (ks : List (List ℕ)) (rows : List (List Term))
      → map (row_line sig ks) rows ≡ map (line_of ks) (map texts_of rows)
  more_lines ks [] = refl
  more_lines ks (row ∷ rows) = ap₂ (λ (x : List ℕ) (l : List (List ℕ)). x ∷ l) (line_is ks row) (more_lines ks rows)

  lines_are : (ks : List (List ℕ)) (rows : List (List Term)) → rows_lines sig ks rows ≡ lines_of ks (map texts_of rows)
  lines_are ks [] = refl
  lines_are ks (row ∷ rows) = ap₂ (λ (x : List ℕ) (l : List (List ℕ)). x ∷ l) (line_is ks row) (more_lines ks rows)

  module _ (own : HaveOwnNames sig.symbols) where
    mutual
      clear_text : (t : Term) → IsClear (term_text sig t)
      clear_text (variable s n) = ((λ e. omega (arith, e)), clear_decimal n)
      clear_text (symbol c) = clear_symbol sig.symbols own c
      clear_text (apply f a) = clear_append (opened sig f ++ term_text sig a) (41 ∷ [])
          (clear_append (opened sig f) (term_text sig a) (clear_opened f) (clear_text a)) ((λ e. omega (arith, e)), tt)

      clear_opened : (t : Term) → IsClear (opened sig t)
      clear_opened (variable s n) = ((λ e. omega (arith, e)), clear_decimal n)
      clear_opened (symbol c) = clear_append (symbol_name (slice_get sig.symbols c)) (40 ∷ [])
          (clear_symbol sig.symbols own c) ((λ e. omega (arith, e)), tt)
      clear_opened (apply f a) = clear_append (opened sig f ++ term_text sig a) (44 ∷ [])
          (clear_append (opened sig f) (term_text sig a) (clear_opened f) (clear_text a)) ((λ e. omega (arith, e)), tt)

    -- the text of a row tells the texts of its terms
    same_texts : (row other : List Term) → length row ≡ length other → row_text sig row ≡ row_text sig other
        → texts_of row ≡ texts_of other
    same_texts [] [] wide e = refl
    same_texts [] (u ∷ other) wide e = absurd (omega (arith, wide))
    same_texts (t ∷ row) [] wide e = absurd (omega (arith, wide))
    same_texts (t ∷ []) (u ∷ []) wide e = ap (λ (x : List ℕ). x ∷ []) e
    same_texts (t ∷ []) (u ∷ v ∷ other) wide e = absurd (omega (arith, wide))
    same_texts (t ∷ s ∷ row) (u ∷ []) wide e = absurd (omega (arith, wide))
    same_texts (t ∷ s ∷ row) (u ∷ v ∷ other) wide e =
        let both = cut (term_text sig t) (row_text sig (s ∷ row)) (term_text sig u) (row_text sig (v ∷ other))
        (clear_text t) (clear_text u) e in
        ap₂ (λ (x : List ℕ) (l : List (List ℕ)). x ∷ l) both.0
        (same_texts (s ∷ row) (v ∷ other) (omega (arith, wide)) both.1)

    same_rows_texts : (rows others : List (List Term))
        → ((row other : List Term) → IsIn row rows → IsIn other others → length row ≡ length other)
        → map (row_text sig) rows ≡ map (row_text sig) others → map texts_of rows ≡ map texts_of others
    same_rows_texts [] [] wide e = refl
    same_rows_texts [] (other ∷ others) wide e = absurd (cc)
    same_rows_texts (row ∷ rows) [] wide e = absurd (cc)
    same_rows_texts (row ∷ rows) (other ∷ others) wide e =
        let front : row_text sig row ≡ row_text sig other = cc in
        let back : map (row_text sig) rows ≡ map (row_text sig) others = cc in
        ap₂ (λ (x : List (List ℕ)) (l : List (List (List ℕ))). x ∷ l)
        (same_texts row other (wide row other first first) front)
        (same_rows_texts rows others (λ r o h k. wide r o (later h) (later k)) back)

module _ (def : Definition) (sound : IsSound def) where
  -- the lines of two relations of what is possible
  family_lines : {C : Type 0} (P : C → List Term → Type 0) (ls rs : List ℕ) (rows others : List (List Term)) → IsRelation def.signature ls P rows
      → IsRelation def.signature rs P others
      → (ks : List (List ℕ)) → rows_lines def.signature ks rows ≡ rows_lines def.signature ks others
  family_lines P ls rs rows others rel other ks =
      let sig : Signature = def.signature in
      let wide = λ (row one : List Term) (h : IsIn row rows) (k : IsIn one others).
      sorts_length sig row rs (other.shapes row (same_rows sig sound.signature P ls rs rows others
      rel other row h)).sorted
      ∙ sym (sorts_length sig one rs (other.shapes one k).sorted) in
      lines_are sig ks rows
      ∙ ap (lines_of ks) (same_rows_texts sig sound.constructor_names rows others wide
      (same_row_texts sig sound.signature P ls rs rows others rel other))
      ∙ sym (lines_are sig ks others)

  pub relation_lines : (f : Fragment) (rows others : List (List Term)) → IsRelationOf def f rows
      → IsRelationOf def f others
      → (ks : List (List ℕ)) → rows_lines def.signature ks rows ≡ rows_lines def.signature ks others
  relation_lines f rows others (ls, rel) (rs, other) ks = family_lines (IsPossible def f) ls rs rows others rel other ks

  -- and of two relations of a node's values
  pub shown_lines : (f : Fragment) (path : Path) (rows others : List (List Term)) → IsShownRelation def f path rows
      → IsShownRelation def f path others
      → (ks : List (List ℕ)) → rows_lines def.signature ks rows ≡ rows_lines def.signature ks others
  shown_lines f path rows others (ls, rel) (rs, other) ks = family_lines (IsSeen def (observe path f)) ls rs rows others rel other ks
