-- Terms that are instances of those of hole rows.
use Rattle.std.proofs.Common.{◌≡◌, ◌≢◌, ℕ, zero, suc, ◌<◌, ◌+◌, inl, inr, List, [], ◌∷◌, length, take, get_or, map, slice_get, refl, sym, ap, ◌∙◌, subst, arith}
use Rattle.psg_terms.proofs.Applied.{applied-substitute}
use Rattle.psg_terms.proofs.Lists.{slice_get_once}
use Rattle.psg_terms.specs.Terms.{Term, variable, symbol, applied}
use Rattle.psg_terms.specs.Instances.{Substitution, substitute, IsInstance}
use Rattle.psg_terms.specs.Relations.{IsIn}
use Rattle.psg_terms.proofs.Nodes.{no_variable, same_arguments, same_constructor}
use Rattle.psg_relation.proofs.Members.{in-next}
use Rattle.psg_grammar.specs.declared.types.Kind.{Kind}
use Rattle.psg_grammar.specs.declared.types.HoleRow.{HoleRow}
use Rattle.psg_grammar.specs.declared.types.Definition.{Definition}
use Rattle.psg_covering.specs.Choices.{HasCover, IsRowOf}
use Rattle.psg_covering.proofs.Firsts.{take_all}

pub term_of_one : (u v : Term) → u ∷ [] ≡ v ∷ [] → u ≡ v
term_of_one u v e = let h : ◌≡◌ {A = List Term} (u ∷ []) (v ∷ []) = e in cc

made : (special general : Term) (c : ℕ) (xs : List Term) → general ≡ applied (symbol c) xs → (f : Substitution) → special ≡ substitute f general → special ≡ applied (symbol c) (map (substitute f) xs)
made special general c xs e f is = is ∙ ap (substitute f) e ∙ applied-substitute f (symbol c) xs

pub other_constructor : (special general : Term) (c d : ℕ) (xs ys : List Term) → general ≡ applied (symbol c) xs → special ≡ applied (symbol d) ys → c ≢ d
    → (f : Substitution) → special ≡ substitute f general → ⊥
other_constructor special general c d xs ys e g ne f is = ne (same_constructor c d (map (substitute f) xs) ys (sym (made special general c xs e f is) ∙ g))

pub other_variable : (special general : Term) (c s n : ℕ) (xs : List Term) → general ≡ applied (symbol c) xs → special ≡ variable s n
    → (f : Substitution) → special ≡ substitute f general → ⊥
other_variable special general c s n xs e g f is = no_variable c s n (map (substitute f) xs) (sym (made special general c xs e f is) ∙ g)

pub arguments_made : (special general : Term) (c d : ℕ) (xs ys : List Term) → general ≡ applied (symbol c) xs → special ≡ applied (symbol d) ys
    → (f : Substitution) → special ≡ substitute f general → ys ≡ map (substitute f) xs
arguments_made special general c d xs ys e g f is = sym (same_arguments c d (map (substitute f) xs) ys (sym (made special general c xs e f is) ∙ g))

many_made : (f : Substitution) (xs : List Term) → length (map (substitute f) xs) ≡ length xs
many_made f [] = refl
many_made f (x ∷ xs) = let h = many_made f xs in omega (arith, h)

pub length_made : (special general : List Term) (f : Substitution) → special ≡ map (substitute f) general → (length special ≡ length general → ⊥) → ⊥
length_made special general f e h = h (ap length e ∙ many_made f general)

map_at : (f : Substitution) (xs : List Term) (i : ℕ) (d e : Term) → i < length xs → get_or (map (substitute f) xs) i d ≡ substitute f (get_or xs i e)
map_at f [] i d e lt = absurd (omega arith)
map_at f (x ∷ xs) zero d e lt = refl
map_at f (x ∷ xs) (suc i) d e lt = map_at f xs i d e (omega arith)

pub value_at : (special general : List Term) (f : Substitution) → special ≡ map (substitute f) general → (i : ℕ) (x y : Term) → i < length special
    → x ≡ get_or special i x → y ≡ get_or general i y → x ≡ substitute f y
value_at special general f e i x y lt is at =
    is ∙ ap (λ l. get_or l i x) e ∙ map_at f general i x y (subst (λ n. i < n) (ap length e ∙ many_made f general) lt) ∙ ap (substitute f) (sym at)

-- ---- the hole rows that were tried

module _ (def : Definition) (kind : Kind) (head : Term) where
  abbrev pub NoneCovers : List ℕ → Type 0
  NoneCovers numbers = (r : ℕ) → IsIn r numbers → (h : HoleRow) → IsRowOf def kind r h → IsInstance (head ∷ []) (h.term ∷ []) → ⊥

  pub none_begin : NoneCovers []
  none_begin r i = elim i [ ]

  pub none_more : (numbers : List ℕ) (i number : ℕ) (h : HoleRow) → i < length numbers → number ≡ get_or numbers i number
      → IsRowOf def kind number h → (IsInstance (head ∷ []) (h.term ∷ []) → ⊥) → NoneCovers (take i numbers) → NoneCovers (take (i + 1) numbers)
  none_more numbers i number h lt is at refuted before r j g of instance = elim (in-next r numbers i number lt is j) [
    | inl a ↦ before r a g of instance
    | inr e ↦ refuted (subst (λ (x : HoleRow). IsInstance (head ∷ []) (x.term ∷ [])) (slice_get_once def.hole_rows number g h (ap (slice_get def.hole_rows) (sym e) ∙ of.0) at.0) instance)
  ]

  pub none_at_all : (numbers items : List ℕ) (i : ℕ) → numbers ≡ items → i ≡ length numbers
      → ((r : ℕ) (h : HoleRow) → IsRowOf def kind r h → IsInstance (head ∷ []) (h.term ∷ []) → IsIn r items)
      → NoneCovers (take i numbers) → HasCover def kind head → ⊥
  none_at_all numbers items i e d among none (r, h, of, instance) =
      none r (subst (IsIn r) (sym e ∙ sym (take_all numbers i d)) (among r h of instance)) h of instance
