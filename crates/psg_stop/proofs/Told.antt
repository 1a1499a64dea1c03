-- What was told of the kinds of token that were asked for.
use Rattle.std.proofs.Common.{◌≡◌, inl, inr, ℕ, ◌+◌, ◌<◌, List, [], ◌∷◌, ◌++◌, length, take, get_or, Option, Some, None, refl, sym, ap, ◌∙◌, subst, arith}
use Rattle.std.specs.Prelude.{MatchOption}
use Rattle.std.proofs.lemmas.List.{take_all}
use Rattle.psg_terms.proofs.Lists.{in_cases, in_either, in_left, in_right, take_item}
use Rattle.psg_terms.specs.Relations.{IsIn}
use Rattle.psg_grammar.specs.declared.types.Kind.{Kind}
use Rattle.psg_grammar.specs.declared.types.Definition.{Definition}
use Rattle.psg_class.specs.Terminals.{Terminal, Token}
use Rattle.psg_parse.specs.Onward.{HasToken}
use Rattle.psg_stop.specs.declared.wanted.Wanted.{Wanted}
use Rattle.psg_stop.specs.Wanted.{AreWanted, GoesWith, IsAsked, all_terminals, wanted_terminal, wanted_terminals}
use Rattle.psg_stop.proofs.Known.{known_next}
use Rattle.psg_stop.proofs.Rows.{wanted_push}

nothing : (t : Terminal) → IsIn t [] → ⊥
nothing t i = elim i [ ]

only : (x y : Terminal) → IsIn x (y ∷ []) → x ≡ y
only x y h = elim (in_cases x y [] h) [ inl e ↦ e | inr i ↦ absurd (nothing x i) ]

-- ---- an answer that may be none

pub found_some : (found : Option Token) (t : Token) (Never : Type 0) (Is : Token → Type 0) → found ≡ Some t → MatchOption found Never Is → Is t
found_some found t Never Is e h = subst (λ (o : Option Token). MatchOption o Never Is) e h

pub found_none : (found : Option Token) (Never : Type 0) (Is : Token → Type 0) → ((t : Token) → found ≡ Some t → ⊥) → MatchOption found Never Is → Never
found_none None Never Is n h = h
found_none (Some t) Never Is n h = absurd (n t refl)

module _ (def : Definition) (kind : Kind) (level : ℕ) (ts : List Token) where
  abbrev Goes : Terminal → Type 0
  Goes terminal = GoesWith def kind level ts terminal

  -- of those asked for, just those that go on are told
  pub record AreTold (asked told : List Terminal) : Type 0 where
    pub right : (terminal : Terminal) → IsIn terminal told → Goes terminal
    pub all : (terminal : Terminal) → IsIn terminal asked → Goes terminal → IsIn terminal told

  pub none_told : AreTold [] []
  none_told = record { right = λ t h. absurd (nothing t h); all = λ t h g. h }

  pub told_next : (asked old new : List Terminal) (terminal : Terminal) → AreTold asked old → IsAsked def kind level ts terminal old new → AreTold (asked ++ terminal ∷ []) new
  told_next asked old new terminal t (inl (goes, grown)) = subst (AreTold (asked ++ terminal ∷ [])) (sym grown) (record {
    right = λ x h. elim (in_either x old (terminal ∷ []) h) [ inl i ↦ t.right x i | inr i ↦ subst Goes (sym (only x terminal i)) goes ];
    all = λ x h g. elim (in_either x asked (terminal ∷ []) h) [ inl i ↦ in_left x old (terminal ∷ []) (t.all x i g) | inr i ↦ in_right x old (terminal ∷ []) i ];
  })
  told_next asked old new terminal t (inr (never, same)) = subst (AreTold (asked ++ terminal ∷ [])) (sym same) (record {
    right = t.right;
    all = λ x h g. elim (in_either x asked (terminal ∷ []) h) [ inl i ↦ t.all x i g | inr i ↦ absurd (never (subst Goes (only x terminal i) g)) ];
  })

  pub told_all : (told : List Terminal) → AreTold (all_terminals def) told → AreWanted def kind level ts told
  told_all told t terminal = (t.right terminal, λ g. t.all terminal (known_next def kind level ts terminal g) g)

  pub told_step : (all : List Wanted) (i : ℕ) (x : Wanted) (old new : List Terminal) → i < length all → x ≡ get_or all i x → AreTold (wanted_terminals (take i all)) old
      → IsAsked def kind level ts (wanted_terminal x) old new → AreTold (wanted_terminals (take (i + 1) all)) new
  told_step all i x old new l at h asked =
      subst (λ ws. AreTold ws new) (sym (wanted_push (take i all) x) ∙ ap wanted_terminals (sym (take_item all i x l at)))
      (told_next (wanted_terminals (take i all)) old new (wanted_terminal x) h asked)

  pub told_end : (all : List Wanted) (i : ℕ) (told : List Terminal) → i ≡ length all → wanted_terminals all ≡ all_terminals def → AreTold (wanted_terminals (take i all)) told
      → AreWanted def kind level ts told
  told_end all i told e is h = told_all told (subst (λ ws. AreTold ws told) (ap wanted_terminals (take_all i all (omega (arith, e))) ∙ is) h)

  -- ---- one that is asked for

  pub asked_none : (terminal : Terminal) (old : List Terminal) → (HasToken def terminal → ⊥) → IsAsked def kind level ts terminal old old
  asked_none terminal old none = inr (λ g. none (record { token = g.token; is = g.is }), refl)

  pub asked_yes : (terminal seen : Terminal) (old new : List Wanted) (one : Wanted) → seen ≡ terminal → Goes seen → new ≡ old ++ one ∷ [] → wanted_terminal one ≡ terminal
      → IsAsked def kind level ts terminal (wanted_terminals old) (wanted_terminals new)
  asked_yes terminal seen old new one is goes grown same =
      inl (subst Goes is goes, ap wanted_terminals grown ∙ wanted_push old one ∙ ap (λ t. wanted_terminals old ++ t ∷ []) same)

  pub asked_no : (terminal seen : Terminal) (old : List Terminal) → seen ≡ terminal → (Goes seen → ⊥) → IsAsked def kind level ts terminal old old
  asked_no terminal seen old is never = inr (subst (λ t. Goes t → ⊥) is never, refl)
