-- Variables that are met one after the other, and the terms that have them.
use Rattle.std.proofs.Common.{◌≡◌, ℕ, ◌+◌, ◌<◌, List, [], ◌∷◌, ◌++◌, take, get_or, length, refl, ap, sym, ◌∙◌, subst, inl, inr, Some, None, slice_get, arith, append_assoc, append-nil}
use Rattle.std.proofs.lemmas.List.{take_more, map-append}
use Rattle.psg_terms.proofs.Lists.{take_item}
use Rattle.psg_terms.specs.Names.{Name}
use Rattle.psg_terms.specs.Terms.{Term}
use Rattle.psg_terms.specs.Terms as terms
use Rattle.psg_terms.specs.Signature.{Signature, Symbol, only_constructor}
use Rattle.psg_terms.specs.Canonical.{Variable, variables, variables_of, noted_all, IsNumberedFrom}
use Rattle.psg_terms.specs.Kept.{numbers_of}
use Rattle.psg_terms.specs.declared.sorts.SortId.{SortId}
use Rattle.psg_terms.proofs.RenamingLaws.{noted_all-append, variables-applied}
use Rattle.psg_terms.proofs.DeclareLaws.{numbers_of-append}
use Rattle.psg_deflines.specs.WrittenTerms.{WrittenTerm, variable, named, apply, applied}
use Rattle.psg_defnumber.specs.Numbers.{IsTerm, AreTerms, IsNaming}
use Rattle.psg_defnumber.specs.Growing.{Grows}
use Rattle.psg_defnumber.specs.Naming.{LineVariable, names_of, numbered_from, Meets, Named, IsMet, IsMadeTerm}
use Rattle.psg_defnumber.specs.Naming.{AreMadeTerms}
use Rattle.psg_defnumber.proofs.ListLaws.{grows-trans, grows-append}

pub meets-none : (a : List LineVariable) → Meets a a []
meets-none a = record { more = []; grown = sym (append-nil a); noted = refl; once = λ h. h }

pub meets-then : (a b c : List LineVariable) (vs ws : List Variable) → Meets a b vs → Meets b c ws → Meets a c (vs ++ ws)
meets-then a b c vs ws h k = record {
  more = h.more ++ k.more;
  grown = k.grown ∙ ap (λ l. l ++ k.more) h.grown ∙ append_assoc a h.more k.more;
  noted = noted_all-append (numbered_from 1 a) vs ws ∙ ap (λ l. noted_all l ws) h.noted ∙ k.noted;
  once = λ e. k.once (h.once e);
}

pub meets-names : (a b : List LineVariable) (vs : List Variable) → Meets a b vs → Grows (names_of a) (names_of b)
meets-names a b vs h = subst (λ l. Grows (names_of a) l) (sym (ap names_of h.grown ∙ map-append (λ (k : LineVariable). k.0.now) a h.more)) (grows-append (names_of a) (names_of h.more))

-- what holds of the names that are met first holds later
pub named-later : (a b : List LineVariable) (vs : List Variable) (P : List Name → Type 0) → Meets a b vs → Named a P → Named b P
named-later a b vs P h k = λ names g. k names (grows-trans (names_of a) (names_of b) names (meets-names a b vs h) g)

-- what a line's names say at its end
numbers-count : (n : ℕ) (known : List LineVariable) → IsNumberedFrom n (numbered_from n known)
numbers-count n [] = tt
numbers-count n (k ∷ rest) = (refl, numbers-count (n + 1) rest)

pub naming : (known : List LineVariable) (row : List Term) → Meets [] known (variables_of row) → IsNaming (names_of known) row
naming known row h = record { once = h.once refl; first = subst (IsNumberedFrom 1) (sym h.noted) (numbers-count 1 known) }

-- a constructor with its arguments
pub applied-is : (sig : Signature) (names : List Name) (wants : List ℕ) (ws : List WrittenTerm) (ts : List Term) (sort : ℕ) (f : WrittenTerm) (g : Term)
    → AreTerms sig names wants ws ts → IsTerm sig names wants sort f g → IsTerm sig names [] sort (applied f ws) (terms.applied g ts)
applied-is sig names [] [] ts sort f g h k = subst (λ l. IsTerm sig names [] sort f (terms.applied g l)) (sym h) k
applied-is sig names [] (w ∷ ws) ts sort f g h k = absurd h
applied-is sig names (s ∷ wants) [] ts sort f g h k = absurd h
applied-is sig names (s ∷ wants) (w ∷ ws) ts sort f g (t, rest, one, more, e) k =
    subst (λ l. IsTerm sig names [] sort (applied (apply f w) ws) (terms.applied g l)) (sym e)
    (applied-is sig names wants ws rest sort (apply f w) (terms.apply g t) more (s, g, t, k, one, refl))

abbrev pub HasCon : Signature → Name → List ℕ → ℕ → ℕ → Type 0
HasCon sig n wants sort c = (s : Symbol) × (slice_get sig.symbols c ≡ Some s) × (s.name ≡ n) × (s.arguments ≡ wants) × (s.sort ≡ sort)

pub made-applied : (sig : Signature) (a b : List LineVariable) (sort : ℕ) (w : WrittenTerm) (t : Term) (n : Name) (ws : List WrittenTerm) (ts : List Term) (c : ℕ) (wants : List ℕ)
    → applied (named n) ws ≡ w → t ≡ terms.applied (terms.symbol c) ts → HasCon sig n wants sort c → AreMadeTerms sig a b wants ws ts → IsMadeTerm sig a b sort w t
made-applied sig a b sort w t n ws ts c wants e d (s, at, same, args, of_sort) h = record {
  meets = subst (λ x. Meets a b (variables x)) (sym d) (subst (Meets a b) (sym (variables-applied (terms.symbol c) ts)) h.meets);
  is = λ names g. subst (λ x. IsTerm sig names [] sort x t) e (subst (IsTerm sig names [] sort (applied (named n) ws)) (sym d)
      (applied-is sig names wants ws ts sort (named n) (terms.symbol c) (h.are names g) (c, s, at, same, args, of_sort, refl)));
}

pub made-constant : (sig : Signature) (a : List LineVariable) (sort : ℕ) (w : WrittenTerm) (t : Term) (n : Name) (c : ℕ) (args : List Term) → variable n ≡ w → t ≡ terms.applied (terms.symbol c) args → args ≡ []
    → only_constructor sig sort ≡ Some c → IsMadeTerm sig a a sort w t
made-constant sig a sort w t n c args e d none only =
    let same : t ≡ terms.symbol c = d ∙ ap (terms.applied (terms.symbol c)) none in record {
      meets = subst (λ x. Meets a a (variables x)) (sym same) (meets-none a);
      is = λ names g. subst (λ x. IsTerm sig names [] sort x t) e (refl, inl (c, only, same));
    }

pub made-variable : (sig : Signature) (a b : List LineVariable) (sort : ℕ) (w : WrittenTerm) (t : Term) (n : Name) (k : ℕ) → variable n ≡ w → t ≡ terms.variable sort k → only_constructor sig sort ≡ None → IsMet a b n sort k
    → IsMadeTerm sig a b sort w t
made-variable sig a b sort w t n k e d wide m = record {
  meets = subst (λ x. Meets a b (variables x)) (sym d) m.meets;
  is = λ names g. subst (λ x. IsTerm sig names [] sort x t) e (refl, inr (m.place, wide, g m.place n m.named, d ∙ ap (terms.variable sort) m.number));
}

-- terms one by one
are-snoc : (sig : Signature) (names : List Name) (sorts : List ℕ) (ws : List WrittenTerm) (ts : List Term) (s : ℕ) (w : WrittenTerm) (t : Term) → AreTerms sig names sorts ws ts → IsTerm sig names [] s w t
    → AreTerms sig names (sorts ++ s ∷ []) (ws ++ w ∷ []) (ts ++ t ∷ [])
are-snoc sig names [] [] ts s w t h k = (t, [], k, refl, ap (λ l. l ++ t ∷ []) h)
are-snoc sig names [] (x ∷ ws) ts s w t h k = absurd h
are-snoc sig names (r ∷ sorts) [] ts s w t h k = absurd h
are-snoc sig names (r ∷ sorts) (x ∷ ws) ts s w t (u, rest, one, more, e) k = (u, rest ++ t ∷ [], one, are-snoc sig names sorts ws rest s w t more k, ap (λ l. l ++ t ∷ []) e)

variables_of-snoc : (ts : List Term) (t : Term) → variables_of (ts ++ t ∷ []) ≡ variables_of ts ++ variables t
variables_of-snoc [] t = append-nil (variables t)
variables_of-snoc (u ∷ ts) t = ap (λ l. variables u ++ l) (variables_of-snoc ts t) ∙ sym (append_assoc (variables u) (variables_of ts) (variables t))

pub made-none : (sig : Signature) (a : List LineVariable) (ts : List Term) → ts ≡ [] → AreMadeTerms sig a a [] [] ts
made-none sig a ts e = record { meets = subst (λ l. Meets a a (variables_of l)) (sym e) (meets-none a); are = λ names g. e }

pub made-snoc : (sig : Signature) (a b c : List LineVariable) (sorts : List ℕ) (ws : List WrittenTerm) (ts : List Term) (s : ℕ) (w : WrittenTerm) (t : Term) → AreMadeTerms sig a b sorts ws ts → IsMadeTerm sig b c s w t
    → AreMadeTerms sig a c (sorts ++ s ∷ []) (ws ++ w ∷ []) (ts ++ t ∷ [])
made-snoc sig a b c sorts ws ts s w t h k = record {
  meets = subst (Meets a c) (sym (variables_of-snoc ts t)) (meets-then a b c (variables_of ts) (variables t) h.meets k.meets);
  are = λ names g. are-snoc sig names sorts ws ts s w t (named-later b c (variables t) (λ l. AreTerms sig l sorts ws ts) k.meets h.are names g) (k.is names g);
}

pub made-next : (sig : Signature) (a b c : List LineVariable) (sorts : List SortId) (ws : List WrittenTerm) (old new : List Term) (i : ℕ) (d : SortId) (w : WrittenTerm) (t : Term)
    → length sorts ≡ length ws → i < length ws → w ≡ get_or ws i w → new ≡ old ++ t ∷ []
    → AreMadeTerms sig a b (numbers_of (take i sorts)) (take i ws) old → IsMadeTerm sig b c (get_or sorts i d).0 w t → AreMadeTerms sig a c (numbers_of (take (i + 1) sorts)) (take (i + 1) ws) new
made-next sig a b c sorts ws old new i d w t same lw ew n h k =
    let grown_sorts : numbers_of (take (i + 1) sorts) ≡ numbers_of (take i sorts) ++ (get_or sorts i d).0 ∷ [] =
    ap numbers_of (take_more sorts i d (omega arith)) ∙ numbers_of-append (take i sorts) (get_or sorts i d ∷ []) in
    subst (λ l. AreMadeTerms sig a c l (take (i + 1) ws) new) (sym grown_sorts)
    (subst (λ l. AreMadeTerms sig a c (numbers_of (take i sorts) ++ (get_or sorts i d).0 ∷ []) l new) (sym (take_item ws i w lw ew))
    (subst (AreMadeTerms sig a c (numbers_of (take i sorts) ++ (get_or sorts i d).0 ∷ []) (take i ws ++ w ∷ [])) (sym n)
    (made-snoc sig a b c (numbers_of (take i sorts)) (take i ws) old (get_or sorts i d).0 w t h k)))
