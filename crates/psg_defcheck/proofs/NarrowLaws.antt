-- Laws of what leaves some of the sorts that agree with a table.
use Rattle.std.proofs.Common.{◌≡◌, ◌↔◌, ℕ, Bool, true, false, cond, List, [], refl, ap, sym, ◌∙◌, subst, inl, inr, Option, Some, None, MatchOption, unwrap_or}
use Rattle.std.proofs.lemmas.Map.Text.{hash_map_updates_str}
use Rattle.std.proofs.lemmas.Bool.{cases_Bool}
use Rattle.std.specs.Option.{option_map}
use Rattle.std.specs.Str.{bytes_eq}
use Rattle.std.specs.Borrow.{Bor}
use Rattle.std.specs.Map.{lookup}
use Rattle.psg_terms.specs.Names.{Name}
use Rattle.psg_terms.proofs.DeclareLaws.{bytes_eq-same, bytes_eq-refl}
use Rattle.psg_defcheck.specs.Meanings.{MayStand}
use Rattle.psg_defcheck.specs.Tables.{Table, found, name_told}
use Rattle.psg_defcheck.specs.Sorting.{Agrees, Narrows, place_told}
use Rattle.psg_defcheck.proofs.TableLaws.{Puts}

abbrev pub Sorts : Type 0
Sorts = Table (Bor (List ℕ))

pub narrows-always : (P : (Name → Name) → Type 0) (m : Sorts) → ((s : Name → Name) → P s) → Narrows P m m true
narrows-always P m h = λ s. (λ a. (a, h s), λ p. p.0)

pub narrows-never : (P : (Name → Name) → Type 0) (a b : Sorts) → ((s : Name → Name) → P s → ⊥) → Narrows P a b false
narrows-never P a b h = λ s agrees p. h s p

pub narrows-then : (P Q : (Name → Name) → Type 0) (a b c : Sorts) (r : Bool) → Narrows P a b true → Narrows Q b c r → Narrows (λ s. P s × Q s) a c r
narrows-then P Q a b c true h k = λ s. (
  λ z. let x = (k s).0 z in let y = (h s).0 x.0 in (y.0, (y.1, x.1)),
  λ z. (k s).1 ((h s).1 (z.0, z.1.0), z.1.1),
)
narrows-then P Q a b c false h k = λ s agrees pq. k s ((h s).1 (agrees, pq.0)) pq.1

pub narrows-stop : (P Q : (Name → Name) → Type 0) (a b : Sorts) (r : Bool) → r ≡ false → Narrows P a b r → Narrows (λ s. P s × Q s) a b false
narrows-stop P Q a b r e h = let k = subst (Narrows P a b) e h in λ s agrees pq. k s agrees pq.0

pub narrows-as : (P Q : (Name → Name) → Type 0) (a b : Sorts) (r : Bool) → ((s : Name → Name) → P s ↔ Q s) → Narrows P a b r → Narrows Q a b r
narrows-as P Q a b true e h = λ s. (λ z. let x = (h s).0 z in (x.0, (e s).0 x.1), λ z. (h s).1 (z.0, (e s).1 z.1))
narrows-as P Q a b false e h = λ s agrees q. h s agrees ((e s).1 q)

-- a variable whose sort is known
pub variable_found : (m : Sorts) (n : Name) (sort wanted : Bor (List ℕ)) (place : Option (Bor (List ℕ))) (b : Bool) → place ≡ Some wanted → found m n ≡ Some sort → b ≡ bytes_eq sort.now wanted.now → Narrows (λ of. MayStand (place_told place) (of n)) m m b
variable_found m n sort wanted place b at has test =
    let has_sort : (s : Name → Name) → Agrees m s → s n ≡ sort.now = λ s a. subst (λ o. MatchOption o (Unit {0}) (λ w. s n ≡ w.now)) has (a n) in
    subst (λ p. Narrows (λ of. MayStand (place_told p) (of n)) m m b) (sym at) (decide b test has_sort)
  where
    decide : (c : Bool) → c ≡ bytes_eq sort.now wanted.now → ((s : Name → Name) → Agrees m s → s n ≡ sort.now) → Narrows (λ of. of n ≡ wanted.now) m m c
    decide true e h = λ s. (λ a. (a, h s a ∙ bytes_eq-same sort.now wanted.now (sym e)), λ p. p.0)
    decide false e h = λ s a p. absurd (true_false (sym (bytes_eq-refl wanted.now) ∙ ap (λ w. bytes_eq w wanted.now) (sym p ∙ h s a) ∙ sym e))
      where
        true_false : true ≡ false → ⊥
        true_false q = absurd (cc)

pub variable_new : (m new : Sorts) (n : Name) (wanted : Bor (List ℕ)) (place : Option (Bor (List ℕ))) → place ≡ Some wanted → found m n ≡ None → Puts m new n wanted → Narrows (λ of. MayStand (place_told place) (of n)) m new true
variable_new m new n wanted place at none u =
    subst (λ p. Narrows (λ of. MayStand (place_told p) (of n)) m new true) (sym at) (λ s. (λ a. (forth s a, here s a), λ p. back s p.0 p.1))
  where
    says : (s : Name → Name) (q : Name) → Option (Bor (List ℕ)) → Type 0
    says s q o = MatchOption o (Unit {0}) (λ w. s q ≡ w.now)

    new-at : (q : Name) → found new q ≡ cond (bytes_eq n q) (Some wanted) (found m q)
    new-at q = hash_map_updates_str n m new (Some wanted) u q

    here : (s : Name → Name) → Agrees new s → s n ≡ wanted.now
    here s a = subst (says s n) (new-at n ∙ ap (λ b. cond b (Some wanted) (found m n)) (bytes_eq-refl n)) (a n)

    forth : (s : Name → Name) → Agrees new s → Agrees m s
    forth s a q = elim (cases_Bool (bytes_eq n q)) [
      | inl t ↦ subst (says s q) (sym (ap (found m) (sym (bytes_eq-same n q t)) ∙ none)) tt
      | inr f ↦ subst (says s q) (new-at q ∙ ap (λ b. cond b (Some wanted) (found m q)) f) (a q)
    ]

    back : (s : Name → Name) → Agrees m s → s n ≡ wanted.now → Agrees new s
    back s a e q = elim (cases_Bool (bytes_eq n q)) [
      | inl t ↦ subst (says s q) (sym (new-at q ∙ ap (λ b. cond b (Some wanted) (found m q)) t)) (ap s (sym (bytes_eq-same n q t)) ∙ e)
      | inr f ↦ subst (says s q) (sym (new-at q ∙ ap (λ b. cond b (Some wanted) (found m q)) f)) (a q)
    ]

-- at the end of a line
pub none-agrees : (m : Sorts) (s : Name → Name) → ((n : Name) → found m n ≡ None) → Agrees m s
none-agrees m s h n = subst (λ o. MatchOption o (Unit {0}) (λ w. s n ≡ w.now)) (sym (h n)) tt

pub some-sorts : (P : (Name → Name) → Type 0) (empty m : Sorts) → Narrows P empty m true → (s : Name → Name) × P s
some-sorts P empty m h = (of, ((h of).0 agrees).1)
  where
    named : Option (Bor (List ℕ)) → Name
    named o = unwrap_or (option_map name_told o) []

    of : Name → Name
    of n = named (found m n)

    says : (o : Option (Bor (List ℕ))) → MatchOption o (Unit {0}) (λ w. named o ≡ w.now)
    says None = tt
    says (Some w) = refl

    agrees : Agrees m of
    agrees n = says (found m n)

pub no-sorts : (P : (Name → Name) → Type 0) (empty m : Sorts) → ((n : Name) → found empty n ≡ None) → Narrows P empty m false → (s : Name → Name) × P s → ⊥
no-sorts P empty m none h (s, p) = h s (none-agrees empty s none) p

pub empty-none : (m : Sorts) → m.entries ≡ [] → (n : Name) → found m n ≡ None
empty-none m e n = ap (λ (es : List (Bor (List ℕ) × Bor (List ℕ))). lookup (λ k. bytes_eq n k.now) es) e
