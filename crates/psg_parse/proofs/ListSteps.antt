-- The steps of a list that begins.
use Rattle.std.proofs.Common.{◌≡◌, ◌↔◌, ℕ, Bool, true, false, List, [], ◌∷◌, Some, slice_get, refl, sym, ◌∙◌, subst}
use Rattle.psg_terms.proofs.Lists.{iff_then}
use Rattle.psg_terms.specs.Names.{Name, is_among}
use Rattle.psg_lexis.specs.Classes.{is_solo}
use Rattle.psg_grammar.specs.WellFormed.{fixed_words}
use Rattle.psg_grammar.specs.declared.types.ListKind.{ListKind}
use Rattle.psg_grammar.specs.declared.types.Definition.{Definition}
use Rattle.psg_grammar.specs.Fragments.{Fragment, ending}
use Rattle.psg_class.specs.Terminals.{Token, word, numeral, quoted, solo, symbols, placeholder, dots, Terminal, a_number, a_text, a_hole, a_more, fixed_if, is_run, is_word, word_terminal, terminal_of, next_terminal}
use Rattle.psg_class.specs.Follow.{First, FirstOfList, first_element, first_more}
use Rattle.psg_class.specs.Class.{IsClass}
use Rattle.psg_class.proofs.ClassFacts.{facts}
use Rattle.psg_class.specs.Runs.{start, list}
use Rattle.psg_class.specs.Machine.{Frame, then_list, Ends, Completes}
use Rattle.psg_class.proofs.Machine.{step_only_more, step_first, step_some}

more_word : (a b : Bool) (w : Name) → word_terminal w a b ≡ a_more → ⊥
more_word true true w e = cc
more_word true false w e = cc
more_word false b w e = cc

more_fixed : (b : Bool) (w : Name) → fixed_if b w ≡ a_more → ⊥
more_fixed true w e = cc
more_fixed false w e = cc

pub more_token : (def : Definition) (t : Token) → terminal_of def t ≡ a_more → t ≡ dots
more_token def (word w) e = absurd (more_word (is_word w) (is_among (fixed_words def) w) w e)
more_token def (numeral n) e = absurd (let y : a_number ≡ a_more = e in cc)
more_token def (quoted w) e = absurd (let y : a_text ≡ a_more = e in cc)
more_token def (solo b) e = absurd (more_fixed (is_solo b) _ e)
more_token def (symbols w) e = absurd (more_fixed (is_run w) w e)
more_token def (placeholder w) e = absurd (let y : a_hole w ≡ a_more = e in cc)
more_token def dots e = refl

module _ (def : Definition) (l : ℕ) (kind : ListKind) (found : slice_get def.lists l ≡ Some kind) where
  kind_is : (other : ListKind) → slice_get def.lists l ≡ Some other → other ≡ kind
  kind_is other e = let x : Some other ≡ Some kind = sym e ∙ found in cc

  no_first : (t : Terminal) → FirstOfList def l t → (First def kind.element t → ⊥) → (kind.unfinished ≡ true → t ≡ a_more → ⊥) → ⊥
  no_first t (first_element other e f) h g = h (subst (λ x. First def x.element t) (kind_is other e) f)
  no_first t (first_more other e u) h g = g (subst (λ x. x.unfinished ≡ true) (kind_is other e) u) refl

  -- the token begins no list of the kind
  pub none_first : (u : Token) (ts : List Token) → (First def kind.element (terminal_of def u) → ⊥) → (kind.unfinished ≡ true → u ≡ dots → ⊥) → (t : Terminal) → next_terminal def (u ∷ ts) ≡ Some t → FirstOfList def l t → ⊥
  none_first u ts h g t e f =
      let same : terminal_of def u ≡ t = (let x : Some (terminal_of def u) ≡ Some t = e in cc) in
      no_first t f (λ x. h (subst (First def kind.element) (sym same) x)) (λ a b. g a (more_token def u (same ∙ b)))

module _ (def : Definition) (k : IsClass def) (l : ℕ) (kind : ListKind) (found : slice_get def.lists l ≡ Some kind) (st : List Frame) (F : Fragment) (D : ℕ) where
  pub list_more : (u : Token) → u ≡ dots → (ts : List Token) → kind.unfinished ≡ true → Completes def (list l) st (u ∷ ts) F D ↔ Ends def st (ending l true) 0 ts F D
  list_more u e ts h = subst (λ y. Completes def (list l) st (y ∷ ts) F D ↔ Ends def st (ending l true) 0 ts F D) (sym e) (step_only_more def (facts def k) F D l kind found h st ts)

  pub list_some : (u : Token) (ts : List Token) → First def kind.element (terminal_of def u) → Completes def (list l) st (u ∷ ts) F D ↔ Completes def (start kind.element 0) (then_list l [] 0 ∷ st) (u ∷ ts) F D
  list_some u ts f = iff_then (step_first def (facts def k) F D l kind found st u ts f) (step_some def (facts def k) F D l kind found st (u ∷ ts))
