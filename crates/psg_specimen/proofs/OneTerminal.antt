-- The first token for which something fails is one: its terminal is one of the grammar's.
use Rattle.std.proofs.Common.{◌≡◌, ℕ, zero, suc, true, false, cond, List, [], ◌∷◌, Some, slice_get, bytes_eq, refl, ap, sym, ◌∙◌, subst, arith, true≢false, nat_cmp, is_lt, Ordering, Less, Equal, Greater}
use Rattle.std.specs.Prelude.{nat_lt}
use Rattle.std.specs.Ordering.{ordering_reverse, is_eq}
use Rattle.std.specs.Cmp.Lexicographic.{slice_cmp}
use Rattle.std.proofs.lemmas.Cmp.{nat_list_cmp_total}
use Rattle.std.proofs.lemmas.Bool.Decides.{nat_tests}
use Rattle.std.proofs.lemmas.Map.Text.{is_eq-slice_cmp}
use Rattle.std.proofs.lemmas.Slice.Eq.{bytes_eq-Decides}
use Rattle.psg_terms.specs.Names.{Name}
use Rattle.psg_grammar.specs.declared.types.Item.{Item}
use Rattle.psg_grammar.specs.declared.types.Item.TheVariants as items
use Rattle.psg_grammar.specs.declared.types.Phylum.{Phylum}
use Rattle.psg_grammar.specs.declared.types.Definition.{Definition}
use Rattle.psg_class.specs.Terminals.{Terminal, fixed, a_name, a_number, a_text, a_hole, a_more, stray, item_terminal}
use Rattle.psg_class.specs.Follow.{First, first_operator, first_hole, first_bracket, FirstOfList, first_element, first_more}
use Rattle.psg_class.specs.Class.{SameFirst, two_operators, with_bracket, SameLed, two_led, LedFollows, led_behind, ListEnd, separator_behind, first_behind}
use Rattle.psg_class.specs.Refusal.{rank, place_of, is_before, IsFirstTerminal}

-- ---- placeholders are of phyla of the definition

abbrev IsThere : List Phylum → Name → Type 0
IsThere ps n = (k : ℕ) × (p : Phylum) × (slice_get ps k ≡ Some p) × (n ≡ p.name)

same_bytes : (u v : Name) → bytes_eq u v ≡ true → u ≡ v
same_bytes u v e = (bytes_eq-Decides u v).0 e

own_bytes : (u v : Name) → u ≡ v → bytes_eq u v ≡ true
own_bytes u v e = (bytes_eq-Decides u v).1 e

same_name : (ps : List Phylum) (v w : Name) → IsThere ps v → place_of ps v ≡ place_of ps w → v ≡ w
same_name [] v w (k, p, at, e) same = absurd (cc)
same_name (p ∷ ps) v w there same =
    elim (bytes_eq p.name v) as (λ b. bytes_eq p.name v ≡ b → cond b 0 (suc (place_of ps v)) ≡ place_of (p ∷ ps) w → v ≡ w) [
      | true ↦ λ x y. elim (bytes_eq p.name w) as (λ b. bytes_eq p.name w ≡ b → 0 ≡ cond b 0 (suc (place_of ps w)) → v ≡ w) [
        | true ↦ λ z q. sym (same_bytes p.name v x) ∙ same_bytes p.name w z
        | false ↦ λ z q. absurd (omega (arith, q))
      ] refl y
      | false ↦ λ x y. elim (bytes_eq p.name w) as (λ b. bytes_eq p.name w ≡ b → suc (place_of ps v) ≡ cond b 0 (suc (place_of ps w)) → v ≡ w) [
        | true ↦ λ z q. absurd (omega (arith, q))
        | false ↦ λ z q. same_name ps v w (behind there x) (omega (arith, q))
      ] refl y
    ] refl same where
      behind : IsThere (p ∷ ps) v → bytes_eq p.name v ≡ false → IsThere ps v
      behind (zero, q, at, e) x = let same : p ≡ q = cc in absurd (true≢false (sym (own_bytes p.name v (ap (λ z. z.name) same ∙ sym e)) ∙ x))
      behind (suc k, q, at, e) x = (k, q, at, e)

module _ (def : Definition) where
  abbrev pub IsKnown : Terminal → Type 0
  IsKnown (a_hole n) = IsThere def.phyla n
  IsKnown _ = Unit {0}

  by_item : (i : Item) (t : Terminal) → item_terminal i ≡ Some t → IsKnown t
  by_item (items.Word w) t e = let d : fixed w ≡ t = cc in subst IsKnown d tt
  by_item (items.Refers s) t e = let d : a_name ≡ t = cc in subst IsKnown d tt
  by_item (items.Declares s) t e = let d : a_name ≡ t = cc in subst IsKnown d tt
  by_item items.Number t e = let d : a_number ≡ t = cc in subst IsKnown d tt
  by_item items.Text t e = let d : a_text ≡ t = cc in subst IsKnown d tt
  by_item i t e = absurd (cc)

  by_first : (p : ℕ) (t : Terminal) → First def p t → IsKnown t
  by_first p t (first_operator n leads) = by_item leads.item t leads.begins
  by_first p t (first_hole phylum at holes) = (p, phylum, at, refl)
  by_first p t (first_bracket phylum at bracketed) = tt

  by_list : (l : ℕ) (t : Terminal) → FirstOfList def l t → IsKnown t
  by_list l t (first_element kind at begins) = by_first kind.element t begins
  by_list l t (first_more kind at unfinished) = tt

  pub of_same_first : (p : ℕ) (t : Terminal) → SameFirst def p t → IsKnown t
  of_same_first p t (two_operators n m ne a b) = by_item a.item t a.begins
  of_same_first p t (with_bracket phylum at bracketed n leads) = tt

  pub of_same_led : (p : ℕ) (t : Terminal) → SameLed def p t → IsKnown t
  of_same_led p t (two_led n m ne a b) = by_item a.item t a.begins

  pub of_led_follows : (n : ℕ) (t : Terminal) → LedFollows def n t → IsKnown t
  of_led_follows n t (led_behind p led follows) = by_item led.item t led.begins

  pub of_list_end : (l : ℕ) (t : Terminal) → ListEnd def l t → IsKnown t
  of_list_end l t (separator_behind kind at follows) = tt
  of_list_end l t (first_behind begins follows) = by_list l t begins

  -- ---- of two terminals none of which is before the other

  abbrev AreTied : Terminal → Terminal → Type 0
  AreTied t u = (is_before def t u ≡ false) × (is_before def u t ≡ false)

  same_number : (n m : ℕ) → nat_lt n m ≡ false → nat_lt m n ≡ false → n ≡ m
  same_number n m a b = grind (arith, nat_tests, a, b)

  same_word : (v w : Name) → is_lt (slice_cmp nat_cmp v w) ≡ false → is_lt (slice_cmp nat_cmp w v) ≡ false → v ≡ w
  same_word v w a b = same_bytes v w (sym (is_eq-slice_cmp v w) ∙ by (slice_cmp nat_cmp v w) (slice_cmp nat_cmp w v) (nat_list_cmp_total.antisymm v w) a b) where
    by : (o r : Ordering) → o ≡ ordering_reverse r → is_lt o ≡ false → is_lt r ≡ false → is_eq o ≡ true
    by Less r e x y = absurd (true≢false x)
    by Equal r e x y = refl
    by Greater Less e x y = absurd (true≢false y)
    by Greater Equal e x y = absurd (cc)
    by Greater Greater e x y = absurd (cc)

  same_terminal : (t u : Terminal) → IsKnown t → AreTied t u → t ≡ u
  same_terminal (fixed v) (fixed w) known tied = ap fixed (same_word v w tied.0 tied.1)
  same_terminal (fixed v) u known tied = absurd (true≢false tied.0)
  same_terminal (a_hole v) (a_hole w) known tied = ap a_hole (same_name def.phyla v w known (same_number (place_of def.phyla v) (place_of def.phyla w) tied.0 tied.1))
  same_terminal (a_hole v) u known tied = absurd (let e : 4 ≡ rank u = same_number 4 (rank u) tied.0 tied.1 in omega (arith, e))
  same_terminal a_name a_name known tied = refl
  same_terminal a_name u known tied = absurd (let e : 1 ≡ rank u = same_number 1 (rank u) tied.0 tied.1 in omega (arith, e))
  same_terminal a_number a_number known tied = refl
  same_terminal a_number u known tied = absurd (let e : 2 ≡ rank u = same_number 2 (rank u) tied.0 tied.1 in omega (arith, e))
  same_terminal a_text a_text known tied = refl
  same_terminal a_text u known tied = absurd (let e : 3 ≡ rank u = same_number 3 (rank u) tied.0 tied.1 in omega (arith, e))
  same_terminal a_more a_more known tied = refl
  same_terminal a_more u known tied = absurd (let e : 5 ≡ rank u = same_number 5 (rank u) tied.0 tied.1 in omega (arith, e))
  same_terminal stray stray known tied = refl
  same_terminal stray u known tied = absurd (let e : 6 ≡ rank u = same_number 6 (rank u) tied.0 tied.1 in omega (arith, e))

  -- the first terminal is one
  pub one_terminal : (Fails : Terminal → Type 0) → ((t : Terminal) → Fails t → IsKnown t) → (t u : Terminal) → IsFirstTerminal def Fails t → IsFirstTerminal def Fails u → t ≡ u
  one_terminal Fails known t u f g = same_terminal t u (known t f.0) (g.1 t f.0, f.1 u g.0)
