-- Facts for the functions that splice a text.
use Rattle.std.proofs.Common.{◌≡◌, inl, inr, ℕ, suc, ◌<◌, ◌==◌, ◌&&◌, ◌||◌, Bool, true, false, List, [], ◌∷◌, ◌++◌, length, drop, Option, Some, None, slice_get, refl, ap, ap₂, sym, subst, ◌∙◌, arith}
use Rattle.std.specs.List.{AllByRecursion}
use Rattle.std.proofs.lemmas.Bool.{false≢true, and_parts}
use Rattle.std.proofs.lemmas.Bool.Decides.{eqb_tells}
use Rattle.std.proofs.Math.Bool.{and-true, and-false, or-false}
use Rattle.unicode_ident.proofs.IdentLemmas.{is_xid_continue-ascii}
use Rattle.psg_terms.specs.Words.{goes_on_word}
use Rattle.psg_lexis.specs.Classes.{is_symbol}
use Rattle.psg_grammar.specs.declared.types.Definition.{Definition}
use Rattle.psg_grammar.specs.Fragments.{Fragment}
use Rattle.psg_grammar.specs.Paths.{Path}
use Rattle.psg_unparse.specs.Rows.{row}
use Rattle.psg_unparse.specs.Layout.{glues, last_in}
use Rattle.psg_unparse.specs.declared.spans.Span.{Span}
use Rattle.psg_unparse.specs.declared.spans.Printed.{Printed}
use Rattle.psg_unparse.specs.Plain.{AreAlike, IsPlainText, head_in, level_of}
use Rattle.psg_unparse.specs.Splicing.{FitsInPlace, IsFitting, leads_along}

-- ---- characters

-- a character runs together with `_` if a word goes on with it, and with `+` if it is a symbol
pub glue_word : (c : ℕ) → glues c 95 ≡ goes_on_word c
glue_word c =
    let w : goes_on_word 95 ≡ true = ap (λ b. b || (95 == 95)) (is_xid_continue-ascii 95 (omega arith)) in
    ap₂ (λ x y. (goes_on_word c && x) || (is_symbol c && y)) w (let s : is_symbol 95 ≡ false = refl in s)
    ∙ ap₂ (λ x y. x || y) (and-true (goes_on_word c)) (and-false (is_symbol c)) ∙ or-false (goes_on_word c)

pub glue_symbol : (c : ℕ) → glues c 43 ≡ is_symbol c
glue_symbol c =
    let w : goes_on_word 43 ≡ false = ap (λ b. b || (43 == 95)) (is_xid_continue-ascii 43 (omega arith)) in
    ap₂ (λ x y. (goes_on_word c && x) || (is_symbol c && y)) w (let s : is_symbol 43 ≡ true = refl in s)
    ∙ ap₂ (λ x y. x || y) (and-false (goes_on_word c)) (and-true (is_symbol c))

-- ---- paths

leads_on : (steps rest : Path) → leads_along steps (steps ++ rest) ≡ true
leads_on [] rest = refl
leads_on (k ∷ steps) rest = elim (eqb_tells k k) [ inl e ↦ ap₂ (λ x y. x && y) e.0 (leads_on steps rest) | inr e ↦ absurd (e.1 refl) ]

leads_to : (steps path : Path) → leads_along steps path ≡ true → (rest : Path) × (path ≡ steps ++ rest)
leads_to [] path h = (path, refl)
leads_to (k ∷ steps) [] h = absurd (false≢true h)
leads_to (k ∷ steps) (m ∷ path) h =
    let p = and_parts (k == m) (leads_along steps path) h in
    let r = leads_to steps path p.1 in
    elim (eqb_tells k m) [
      | inl e ↦ (r.0, ap₂ (λ x y. x ∷ y) (sym e.1) r.1)
      | inr e ↦ absurd (false≢true (sym e.0 ∙ p.0))
    ]

pub leads_by : (r : Bool) (steps path : Path) → (r ≡ true → path ≡ steps ++ drop (length steps) path) → ((rest : Path) → path ≡ steps ++ rest → r ≡ true)
    → r ≡ leads_along steps path
leads_by true steps path f g = sym (ap (leads_along steps) (f refl) ∙ leads_on steps (drop (length steps) path))
leads_by false steps path f g = other (leads_along steps path) refl where
  other : (b : Bool) → leads_along steps path ≡ b → false ≡ leads_along steps path
  other true e = let r = leads_to steps path e in absurd (false≢true (g r.0 r.1))
  other false e = sym e

-- ---- spans

pub every_span : (P : Span → Type 0) (ss : List Span) → ((k : ℕ) (s : Span) → slice_get ss k ≡ Some s → P s) → AllByRecursion P ss
every_span P [] h = tt
every_span P (s ∷ ss) h = (h 0 s refl, every_span P ss (λ k t e. h (suc k) t e))

-- ---- the whole

pub fits_when : (def : Definition) (u v : Fragment) (p q : Printed) (a b c d : Option ℕ) → IsPlainText def u p a b → IsPlainText def v q c d
    → level_of def u ≡ level_of def v → AreAlike a c → AreAlike b d → AllByRecursion (λ (s : Span). 0 < s.end) q.spans → FitsInPlace def u v
fits_when def u v p q a b c d x y levels heads lasts begun = record {
  old_plain = x.plain;
  new_plain = y.plain;
  levels = levels;
  heads = subst (λ z. AreAlike z (head_in (row def v))) x.first_is (subst (AreAlike a) y.first_is heads);
  lasts = subst (λ z. AreAlike z (last_in None (row def v))) x.last_is (subst (AreAlike b) y.last_is lasts);
  begun = subst (λ (z : Printed). AllByRecursion (λ (s : Span). 0 < s.end) z.spans) y.printed_is begun;
}

-- the new tree does not fit where one of the two has no plain row, or the levels, the characters or the spans hinder it
pub unlike_levels : (def : Definition) (u v : Fragment) → (level_of def u ≡ level_of def v → ⊥) → FitsInPlace def u v → ⊥
unlike_levels def u v never fit = never fit.levels

pub unlike_heads : (def : Definition) (u v : Fragment) (p q : Printed) (a b c d : Option ℕ) → IsPlainText def u p a b → IsPlainText def v q c d
    → (AreAlike a c → ⊥) → FitsInPlace def u v → ⊥
unlike_heads def u v p q a b c d x y never fit =
    never (subst (λ z. AreAlike z c) (sym x.first_is) (subst (AreAlike (head_in (row def u))) (sym y.first_is) fit.heads))

pub unlike_lasts : (def : Definition) (u v : Fragment) (p q : Printed) (a b c d : Option ℕ) → IsPlainText def u p a b → IsPlainText def v q c d
    → (AreAlike b d → ⊥) → FitsInPlace def u v → ⊥
unlike_lasts def u v p q a b c d x y never fit =
    never (subst (λ z. AreAlike z d) (sym x.last_is) (subst (AreAlike (last_in None (row def u))) (sym y.last_is) fit.lasts))

pub not_begun : (def : Definition) (u v : Fragment) (q : Printed) (c d : Option ℕ) (ss : List Span) → IsPlainText def v q c d → ss ≡ q.spans
    → (AllByRecursion (λ (s : Span). 0 < s.end) ss → ⊥) → FitsInPlace def u v → ⊥
not_begun def u v q c d ss y same never fit =
    never (subst (AllByRecursion (λ (s : Span). 0 < s.end)) (ap (λ (z : Printed). z.spans) (sym y.printed_is) ∙ sym same) fit.begun)

pub fitting_made : (def : Definition) (u v : Fragment) (p q : Printed) (a b c d : Option ℕ) (count : ℕ) → FitsInPlace def u v → IsPlainText def u p a b
    → IsPlainText def v q c d → count ≡ length p.spans → IsFitting def u v count q
fitting_made def u v p q a b c d count fit x y n = record {
  fits = fit;
  count_is = n ∙ ap (λ (z : Printed). length z.spans) x.printed_is;
  printed_is = y.printed_is;
}
