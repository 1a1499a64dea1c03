-- Where a token of comments begins no token of the language begins, and the lexer's fault is there.
use Rattle.std.proofs.Common.{◌≡◌, ℕ, Bool, true, false, List, [], ◌∷◌, ◌++◌, sym, ap, ◌∙◌, subst, refl}
use Rattle.std.specs.Prelude.{◌==◌, ◌&&◌, ◌||◌, codes, chars, encode_utf8_all, bytes_eq}
use Rattle.std.specs.List.{list_any, list_all}
use Rattle.std.specs.Str.{all_scalars}
use Rattle.std.specs.Cmp.{first_so, second_so}
use Rattle.std.proofs.lemmas.Bool.{eqb-true, false≢true, true≢false}
use Rattle.std.proofs.lemmas.Slice.Eq.{bytes_eq-Decides}
use Rattle.std.proofs.lemmas.Str.{chars-encodes}
use lib.Utf8.{scalar}
use Rattle.psg_terms.specs.Names.{Name, is_among}
use Rattle.psg_lexis.specs.Classes.{Chars, is_symbol, EndsBy, All}
use Rattle.psg_lexis.specs.Tokens.{dots, IsToken, word, number, text, solo, symbol, hole, more}
use Rattle.psg_lexis.specs.Faults as broken
use Rattle.psg_lexis.specs.Faults.{IsFault, HasFault}
use Rattle.psg_lexis.specs.declared.token.Token.{Token}
use Rattle.psg_lexis.specs.declared.token.LexFault.{LexFault}
use Rattle.psg_lexis.specs.declared.token.LexFault.TheVariants as faults
use Rattle.psg_lexis.proofs.Disjoint.{symbol_apart, solo_apart}
use Rattle.psg_lexis.proofs.Laws.{only_fault}
use Rattle.psg_comments.specs.Fitting.{begins_with, IsFit}
use Rattle.psg_comments.proofs.Fronts.{untrue, begins_head, begins_run, longest}

-- ---- symbols are ASCII

among : (p : ℕ → Bool) (c : ℕ) (cs : List ℕ) → list_any (λ d. c == d) cs ≡ true → list_all p cs ≡ true → p c ≡ true
among p c [] h a = absurd (false≢true h)
among p c (d ∷ cs) h a = by (c == d) refl (λ k. among p c cs k (second_so (p d) (list_all p cs) a))
  where
    by : (b : Bool) → (c == d) ≡ b → (list_any (λ x. c == x) cs ≡ true → p c ≡ true) → p c ≡ true
    by true e later = ap p (eqb-true c d e) ∙ first_so (p d) (list_all p cs) a
    by false e later = later (subst (λ b. (b || list_any (λ x. c == x) cs) ≡ true) e h)

symbol_scalar : (c : ℕ) → is_symbol c ≡ true → scalar c ≡ true
symbol_scalar c h = among scalar c (codes "+-*/%<>=!&|^~:.@#$") h refl

symbols_scalars : (cs : Chars) → All is_symbol cs → all_scalars cs ≡ true
symbols_scalars [] a = refl
symbols_scalars (c ∷ cs) a = ap (λ b. b && all_scalars cs) (symbol_scalar c a.0) ∙ symbols_scalars cs a.1

-- ---- words that are in the list

right : (a b : Bool) → b ≡ true → (a || b) ≡ true
right true b h = refl
right false b h = h

module _ (test : Name → Bool) where
  pub has_among : (fixed : List Name) (w : Name) → is_among fixed w ≡ true → test w ≡ true → list_any test fixed ≡ true
  has_among [] w h t = absurd (false≢true h)
  has_among (m ∷ ms) w h t = by (bytes_eq m w) refl (λ k. has_among ms w k t)
    where
      by : (b : Bool) → bytes_eq m w ≡ b → (is_among ms w ≡ true → list_any test ms ≡ true)
          → (test m || list_any test ms) ≡ true
      by true e found =
          let same : m ≡ w = (bytes_eq-Decides m w).0 e in
          ap (λ b. b || list_any test ms) (ap test same ∙ t)
      by false e found =
          right (test m) (list_any test ms) (found (subst (λ b. (b || is_among ms w) ≡ true) e h))

module _ (fixed : List Name) (token : List ℕ) (fit : IsFit fixed token) where
  abbrev ts : Chars
  ts = chars token

  no_run_begins : (run rest : Chars) → All is_symbol run → EndsBy is_symbol rest → is_among fixed (encode_utf8_all run) ≡ true
      → begins_with (run ++ rest) ts ≡ true → ⊥
  no_run_begins run rest a e i h =
      let begun : begins_with run ts ≡ true = begins_run run rest ts fit.symbols e h in
      let back : chars (encode_utf8_all run) ≡ run = chars-encodes run (symbols_scalars run a) in
      let same : begins_with (chars (encode_utf8_all run)) ts ≡ true = ap (λ cs. begins_with cs ts) back ∙ begun in
      true≢false (sym (has_among (λ w. begins_with (chars w) ts) fixed (encode_utf8_all run) i same) ∙ fit.no_word)

  -- no symbol is first, so the token is not
  by_first : (c : ℕ) (cs : Chars) → is_symbol c ≡ false → begins_with (c ∷ cs) ts ≡ false
  by_first c cs e = untrue _ (λ h. false≢true (sym e ∙ begins_head (c ∷ cs) ts fit.begins h))

  pub no_comment_at_token : (front rest : Chars) (t : Token) → IsToken fixed front rest t
      → begins_with (front ++ rest) ts ≡ false
  no_comment_at_token _ _ _ (word [] rest w e l) = absurd w
  no_comment_at_token _ _ _ (word (c ∷ cs) rest w e l) =
      by_first c (cs ++ rest) (untrue _ (λ h. false≢true (sym (symbol_apart c h).0 ∙ w.0)))
  no_comment_at_token _ _ _ (number [] rest r e l) = absurd (false≢true r.begins)
  no_comment_at_token _ _ _ (number (c ∷ cs) rest r e l) =
      by_first c (cs ++ rest) (untrue _ (λ h. false≢true (sym (symbol_apart c h).1 ∙ r.begins)))
  no_comment_at_token _ _ _ (text cs written rest e a l) = by_first 34 (written ++ rest) refl
  no_comment_at_token _ _ _ (solo c rest s) = by_first c rest (solo_apart c s).2
  no_comment_at_token _ _ _ (symbol cs rest r i d) = untrue _ (no_run_begins cs rest r.all r.ends i)
  no_comment_at_token _ _ _ (hole cs rest w e l) = by_first 63 (cs ++ rest) refl
  no_comment_at_token _ _ _ (more rest e) =
      untrue _ (λ h. false≢true (sym fit.no_dots ∙ begins_run dots rest ts fit.symbols e h))

  -- where the token begins, a run of symbols begins that is no token
  pub fault_at_comment : (all : Chars) (at : ℕ) → begins_with all ts ≡ true → IsFault fixed all at (faults.BadRun at)
  fault_at_comment all at h =
      let l = longest all in
      let h2 : begins_with (l.run ++ l.rest) ts ≡ true = subst (λ cs. begins_with cs ts ≡ true) l.whole h in
      let begun : begins_with l.run ts ≡ true = begins_run l.run l.rest ts fit.symbols l.ends h2 in
      broken.no_symbol l.run all l.rest at l.whole
      (record { begins = begins_head l.run ts fit.begins begun; all = l.all; ends = l.ends })
      (untrue _ (λ i. no_run_begins l.run l.rest l.all l.ends i h2))
      (λ e. false≢true (sym fit.no_dots ∙ subst (λ cs. begins_with cs ts ≡ true) e begun))

  pub fault_is_there : (all : Chars) (at : ℕ) (f : LexFault) → begins_with all ts ≡ true → IsFault fixed all at f
      → f ≡ faults.BadRun at
  fault_is_there all at f h i =
      only_fault fixed all at f (faults.BadRun at) (broken.here all at f i) (broken.here all at (faults.BadRun at) (fault_at_comment all at h))
