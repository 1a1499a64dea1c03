-- Laws of known variables and their numbers.
use Rattle.std.proofs.Common.{◌≡◌, ℕ, ◌+◌, ◌||◌, true, false, cond, if◌then◌else◌, List, [], ◌∷◌, ◌++◌, map, take, get_or, ◌<◌, refl, ap, ap₂, sym, ◌∙◌, length, subst, inl, inr, Some, None, arith, append_assoc, append-nil}
use Rattle.std.proofs.lemmas.Bool.{cases_Bool}
use Rattle.std.proofs.lemmas.List.{map-append}
use Rattle.psg_terms.proofs.Lists.{take_item}
use Rattle.psg_terms.specs.Terms.{Term, variable, symbol, apply, applied}
use Rattle.psg_terms.specs.Signature.{Signature, only_constructor}
use Rattle.psg_terms.specs.Instances.{substitute}
use Rattle.psg_terms.specs.Canonical.{Variable, same_variable, variables, variables_of, is_noted, noted, noted_all}
use Rattle.psg_terms.specs.Renaming.{key, keys, place, opens, open_first, written, numbering, Renumbered}
use Rattle.psg_terms.specs.declared.canonical.Key.{Key}
use Rattle.psg_terms.proofs.Variables.{same_variable-refl, true_false}
use Rattle.psg_terms.proofs.Covers.{among-left, among-right}
use Rattle.psg_terms.proofs.Applied.{applied-substitute}
use Rattle.psg_terms.proofs.Unique.{Each, each-front}

pub keys-append : (xs ys : List Key) → keys (xs ++ ys) ≡ keys xs ++ keys ys
keys-append [] ys = refl
keys-append (x ∷ xs) ys = ap (λ l. key x ∷ l) (keys-append xs ys)

pub keys-length : (xs : List Key) → length (keys xs) ≡ length xs
keys-length [] = refl
keys-length (x ∷ xs) = omega (arith, keys-length xs)

pub place-end : (x : Variable) (xs : List Variable) → is_noted x xs ≡ false → place x (xs ++ x ∷ []) ≡ length xs
place-end x [] h = ap (λ b. cond b 0 1) (same_variable-refl x)
place-end x (y ∷ ys) h =
    elim (cases_Bool (same_variable x y)) [
      | inl e ↦ absurd (true_false (sym (ap (λ b. b || is_noted x ys) e) ∙ h))
      | inr e ↦ (let later = place-end x ys (ap (λ b. b || is_noted x ys) (sym e) ∙ h) in ap (λ b. cond b 0 (place x (ys ++ x ∷ []) + 1)) e ∙ omega arith)
    ]

pub noted-new : (xs : List Variable) (x : Variable) → is_noted x xs ≡ false → noted xs x ≡ xs ++ x ∷ []
noted-new xs x h = ap (λ b. if b then xs else xs ++ x ∷ []) h

pub place-append : (x : Variable) (xs ys : List Variable) → is_noted x xs ≡ true → place x (xs ++ ys) ≡ place x xs
place-append x [] ys h = absurd (true_false (sym h))
place-append x (y ∷ xs) ys h =
    elim (cases_Bool (same_variable x y)) [
      | inl e ↦ ap (λ b. cond b 0 (place x (xs ++ ys) + 1)) e ∙ sym (ap (λ b. cond b 0 (place x xs + 1)) e)
      | inr e ↦ ap (λ b. cond b 0 (place x (xs ++ ys) + 1)) e ∙ ap (λ n. n + 1) (place-append x xs ys (ap (λ b. b || is_noted x xs) (sym e) ∙ h)) ∙ sym (ap (λ b. cond b 0 (place x xs + 1)) e)
    ]

-- the longer list has the variables of the shorter one at the same places
pub record Extends (old new : List Variable) : Type 0 where
  pub among : (x : Variable) → is_noted x old ≡ true → is_noted x new ≡ true
  pub places : (x : Variable) → is_noted x old ≡ true → place x new ≡ place x old

pub extends-append : (xs ys : List Variable) → Extends xs (xs ++ ys)
extends-append xs ys = record { among = λ x h. among-left x xs ys h; places = λ x h. place-append x xs ys h }

pub extends_refl : (xs : List Variable) → Extends xs xs
extends_refl xs = record { among = λ x h. h; places = λ x h. refl }

pub extends_trans : (xs ys zs : List Variable) → Extends xs ys → Extends ys zs → Extends xs zs
extends_trans xs ys zs a b = record { among = λ x h. b.among x (a.among x h); places = λ x h. b.places x (a.among x h) ∙ a.places x h }

pub extends-noted : (xs : List Variable) (y : Variable) → Extends xs (noted xs y)
extends-noted xs y = elim (is_noted y xs) as (λ b. Extends xs (if b then xs else xs ++ y ∷ [])) [ true ↦ extends_refl xs | false ↦ extends-append xs (y ∷ []) ]

pub extends-noted_all : (xs ys : List Variable) → Extends xs (noted_all xs ys)
extends-noted_all xs [] = extends_refl xs
extends-noted_all xs (y ∷ ys) = extends_trans xs (noted xs y) (noted_all (noted xs y) ys) (extends-noted xs y) (extends-noted_all (noted xs y) ys)

pub among-noted : (xs : List Variable) (x : Variable) → is_noted x (noted xs x) ≡ true
among-noted xs x =
    elim (cases_Bool (is_noted x xs)) [
      | inl e ↦ ap (λ b. is_noted x (if b then xs else xs ++ x ∷ [])) e ∙ e
      | inr e ↦ ap (λ b. is_noted x (if b then xs else xs ++ x ∷ [])) e ∙ among-right x xs (x ∷ []) (ap (λ b. b || false) (same_variable-refl x))
    ]

abbrev pub IsAmong : List Variable → Variable → Type 0
IsAmong xs x = is_noted x xs ≡ true

pub among-noted_all : (xs ys : List Variable) → Each (IsAmong (noted_all xs ys)) ys
among-noted_all xs [] = tt
among-noted_all xs (y ∷ ys) = ((extends-noted_all (noted xs y) ys).among y (among-noted xs y), among-noted_all (noted xs y) ys)

pub noted_all-append : (seen xs ys : List Variable) → noted_all seen (xs ++ ys) ≡ noted_all (noted_all seen xs) ys
noted_all-append seen [] ys = refl
noted_all-append seen (x ∷ xs) ys = noted_all-append (noted seen x) xs ys

pub opens-append : (sig : Signature) (xs ys : List Variable) → opens sig (xs ++ ys) ≡ opens sig xs ++ opens sig ys
opens-append sig [] ys = refl
opens-append sig (x ∷ xs) ys =
    elim (only_constructor sig x.0) as (λ o. open_first o x (opens sig (xs ++ ys)) ≡ open_first o x (opens sig xs) ++ opens sig ys) [
      | None ↦ ap (λ l. x ∷ l) (opens-append sig xs ys)
      | Some c ↦ opens-append sig xs ys
    ]

-- renumbering by a longer list changes nothing
pub numbering-extends : (sig : Signature) (base : ℕ) (old new : List Variable) → Extends old new → (t : Term) → Each (IsAmong old) (opens sig (variables t)) → substitute (numbering sig base new) t ≡ substitute (numbering sig base old) t
numbering-extends sig base old new h (variable s n) a =
    elim (only_constructor sig s) as (λ o. Each (IsAmong old) (open_first o (s, n) []) → written o (variable s (base + place (s, n) new + 1)) ≡ written o (variable s (base + place (s, n) old + 1))) [
      | None ↦ λ b. ap (λ k. variable s (base + k + 1)) (h.places (s, n) b.0)
      | Some c ↦ λ b. refl
    ] a
numbering-extends sig base old new h (symbol c) a = refl
numbering-extends sig base old new h (apply f b) a =
    let both = each-front (IsAmong old) (opens sig (variables f)) (opens sig (variables b)) (subst (Each (IsAmong old)) (opens-append sig (variables f) (variables b)) a) in
    ap₂ apply (numbering-extends sig base old new h f both.0) (numbering-extends sig base old new h b both.1)

abbrev first_of : List Term → Term
first_of [] = symbol 0
first_of (t ∷ ts) = t

pub renumbered_both : (sig : Signature) (base : ℕ) (old mid new : List Variable) (t u : Term) (row made : List Term) → Renumbered sig base old mid (t ∷ []) (u ∷ []) → Renumbered sig base mid new row made → Renumbered sig base old new (t ∷ row) (u ∷ made)
renumbered_both sig base old mid new t u row made h k =
    let first : mid ≡ noted_all old (opens sig (variables t)) = h.known ∙ ap (λ l. noted_all old (opens sig l)) (append-nil (variables t)) in
    record {
      known = k.known ∙ ap (λ m. noted_all m (opens sig (variables_of row))) first
          ∙ sym (ap (noted_all old) (opens-append sig (variables t) (variables_of row)) ∙ noted_all-append old (opens sig (variables t)) (opens sig (variables_of row)));
      made = ap₂ (λ x xs. x ∷ xs)
          (ap first_of h.made ∙ sym (numbering-extends sig base mid new (subst (Extends mid) (sym k.known) (extends-noted_all mid (opens sig (variables_of row)))) t
          (subst (λ m. Each (IsAmong m) (opens sig (variables t))) (sym first) (among-noted_all old (opens sig (variables t))))))
          k.made;
    }

-- the steps of a term
pub renumbered_none : (sig : Signature) (base : ℕ) (known : List Variable) → Renumbered sig base known known [] []
renumbered_none sig base known = record { known = refl; made = refl }

pub renumbered_open : (sig : Signature) (base : ℕ) (old new : List Variable) (s n number : ℕ) (t u : Term) → only_constructor sig s ≡ None → t ≡ variable s n → u ≡ variable s number → new ≡ noted old (s, n) → number ≡ base + place (s, n) new + 1 → Renumbered sig base old new (t ∷ []) (u ∷ [])
renumbered_open sig base old new s n number t u o e d k p = record {
  known = k ∙ ap (λ l. noted_all old l) (sym (ap (λ x. opens sig (variables x ++ [])) e ∙ ap (λ c. open_first c (s, n) []) o));
  made = ap (λ x. x ∷ []) (d ∙ ap (variable s) p ∙ sym (ap (substitute (numbering sig base new)) e ∙ ap (λ c. written c (variable s (base + place (s, n) new + 1))) o));
}

pub renumbered_constant : (sig : Signature) (base : ℕ) (old : List Variable) (s n c : ℕ) (t u : Term) → only_constructor sig s ≡ Some c → t ≡ variable s n → u ≡ symbol c → Renumbered sig base old old (t ∷ []) (u ∷ [])
renumbered_constant sig base old s n c t u o e d = record {
  known = ap (λ l. noted_all old l) (sym (ap (λ x. opens sig (variables x ++ [])) e ∙ ap (λ c. open_first c (s, n) []) o));
  made = ap (λ x. x ∷ []) (d ∙ sym (ap (substitute (numbering sig base old)) e ∙ ap (λ c. written c (variable s (base + place (s, n) old + 1))) o));
}

pub variables-applied : (t : Term) (row : List Term) → variables (applied t row) ≡ variables t ++ variables_of row
variables-applied t [] = sym (append-nil (variables t))
variables-applied t (a ∷ row) = variables-applied (apply t a) row ∙ append_assoc (variables t) (variables a) (variables_of row)

pub renumbered_con : (sig : Signature) (base : ℕ) (old new : List Variable) (c : ℕ) (args parts : List Term) (t u : Term) → t ≡ applied (symbol c) args → u ≡ applied (symbol c) parts → Renumbered sig base old new args parts → Renumbered sig base old new (t ∷ []) (u ∷ [])
renumbered_con sig base old new c args parts t u e d h = record {
  known = h.known ∙ ap (λ l. noted_all old (opens sig l)) (sym (ap (λ x. variables x ++ []) e ∙ append-nil (variables (applied (symbol c) args)) ∙ variables-applied (symbol c) args));
  made = ap (λ x. x ∷ []) (d ∙ ap (applied (symbol c)) h.made ∙ sym (applied-substitute (numbering sig base new) (symbol c) args) ∙ sym (ap (substitute (numbering sig base new)) e));
}

-- a row of some variables, renumbered by more known ones
pub numbering-extends_row : (sig : Signature) (base : ℕ) (old new : List Variable) → Extends old new → (row : List Term) → Each (IsAmong old) (opens sig (variables_of row)) → map (substitute (numbering sig base new)) row ≡ map (substitute (numbering sig base old)) row
numbering-extends_row sig base old new h [] a = refl
numbering-extends_row sig base old new h (t ∷ row) a =
    let both = each-front (IsAmong old) (opens sig (variables t)) (opens sig (variables_of row)) (subst (Each (IsAmong old)) (opens-append sig (variables t) (variables_of row)) a) in
    ap₂ (λ x xs. x ∷ xs) (numbering-extends sig base old new h t both.0) (numbering-extends_row sig base old new h row both.1)

pub variables_of-append : (xs ys : List Term) → variables_of (xs ++ ys) ≡ variables_of xs ++ variables_of ys
variables_of-append [] ys = refl
variables_of-append (x ∷ xs) ys = ap (λ l. variables x ++ l) (variables_of-append xs ys) ∙ sym (append_assoc (variables x) (variables_of xs) (variables_of ys))

pub renumbered_append : (sig : Signature) (base : ℕ) (old mid new : List Variable) (row made more done : List Term) → Renumbered sig base old mid row made → Renumbered sig base mid new more done → Renumbered sig base old new (row ++ more) (made ++ done)
renumbered_append sig base old mid new row made more done h k = record {
  known = k.known ∙ ap (λ m. noted_all m (opens sig (variables_of more))) h.known
      ∙ sym (ap (λ l. noted_all old (opens sig l)) (variables_of-append row more) ∙ ap (noted_all old) (opens-append sig (variables_of row) (variables_of more))
      ∙ noted_all-append old (opens sig (variables_of row)) (opens sig (variables_of more)));
  made = ap₂ (λ xs ys. xs ++ ys)
      (h.made ∙ sym (numbering-extends_row sig base mid new (subst (Extends mid) (sym k.known) (extends-noted_all mid (opens sig (variables_of more)))) row
      (subst (λ m. Each (IsAmong m) (opens sig (variables_of row))) (sym h.known) (among-noted_all old (opens sig (variables_of row))))))
      k.made ∙ sym (map-append (substitute (numbering sig base new)) row more);
}

pub renumbered_step : (sig : Signature) (base : ℕ) (old mid new : List Variable) (row now after : List Term) (i : ℕ) (t u : Term) → Renumbered sig base old mid (take i row) now → Renumbered sig base mid new (t ∷ []) (u ∷ []) → after ≡ now ++ u ∷ [] → i < length row → t ≡ get_or row i t → Renumbered sig base old new (take (i + 1) row) after
renumbered_step sig base old mid new row now after i t u h k e lt at =
    subst (λ xs. Renumbered sig base old new xs after) (sym (take_item row i t lt at)) (subst (Renumbered sig base old new (take i row ++ t ∷ [])) (sym e) (renumbered_append sig base old mid new (take i row) now (t ∷ []) (u ∷ []) h k))
