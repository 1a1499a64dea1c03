-- Terms at places of their own sorts.
use Rattle.std.proofs.Common.{◌≡◌, ◌↔◌, ℕ, ◌+◌, ◌<◌, zero, suc, Bool, true, false, IsTrue, is_some, List, [], ◌∷◌, ◌++◌, map, take, get_or, length, refl, ap, ap₂, sym, ◌∙◌, subst, Option, Some, None, append-nil, arith}
use Rattle.std.proofs.lemmas.List.{take_all, map_push, length-map}
use Rattle.std.proofs.lemmas.Bool.{false≢true}
use Rattle.psg_terms.proofs.Lists.{take_item, get_or_fixed}
use Rattle.std.specs.List.{AllByRecursion}
use Rattle.std.specs.Borrow.{Bor}
use Rattle.psg_terms.specs.Names.{Name}
use Rattle.psg_deflines.specs.WrittenTerms.{WrittenTerm, variable, named, apply, applied}
use Rattle.psg_deflines.specs.declared.lines.Line.{Line}
use Rattle.psg_defcheck.specs.Scopes.{Constructor, constructor_declared, Place, sort_place}
use Rattle.psg_defcheck.specs.Meanings.{KnowsTerm, CountsTerm, MayStand, SortsTerm, SortAll, Accepts, IsArity}
use Rattle.psg_defcheck.specs.Sorting.{place_told, places_told, Agrees, Narrows}
use Rattle.psg_defcheck.proofs.KnownLaws.{knows-applied}
use Rattle.psg_defcheck.proofs.CountedLaws.{counts-applied}
use Rattle.psg_defcheck.proofs.NarrowLaws.{Sorts, narrows-then, narrows-as}

pub all-at : {X : Type 0} (P : X → Type 0) (xs : List X) (i : ℕ) (x : X) → AllByRecursion P xs → i < length xs → x ≡ get_or xs i x → P x
all-at P [] i x h lt at = absurd (omega arith)
all-at P (y ∷ xs) zero x h lt at = subst P (sym at) h.0
all-at P (y ∷ xs) (suc i) x h lt at = all-at P xs i x h.1 (omega arith) at

-- an applied term stands at a place where its arguments stand at some places
pub sorts-applied : (file : List Line) (s : Name → Name) (behind : List Place) (at : Place) (f : WrittenTerm) (args : List WrittenTerm)
    → SortsTerm file s behind at (applied f args) ↔ ((qs : List Place) × SortAll file s qs args × SortsTerm file s (qs ++ behind) at f)
sorts-applied file s behind at f [] = (λ h. ([], tt, h), λ z. none z.0 z.1 z.2)
  where
    none : (qs : List Place) → SortAll file s qs [] → SortsTerm file s (qs ++ behind) at f → SortsTerm file s behind at f
    none [] a h = h
    none (q ∷ qs) a h = absurd a
sorts-applied file s behind at f (a ∷ args) = let r = sorts-applied file s behind at (apply f a) args in (
  λ h. let z = r.0 h in (z.2.0 ∷ z.0, (z.2.2, z.1), z.2.1),
  λ z. r.1 (first z.0 z.1 z.2),
)
  where
    first : (qs : List Place) → SortAll file s qs (a ∷ args) → SortsTerm file s (qs ++ behind) at f → (rest : List Place) × SortAll file s rest args × SortsTerm file s (rest ++ behind) at (apply f a)
    first [] all h = absurd all
    first (q ∷ qs) all h = (qs, all.1, (q, h, all.0))

-- with the constructor at hand
pub named-sorts : (file : List Line) (s : Name → Name) (at : Place) (n : Name) (args : List WrittenTerm) (c : Constructor) → constructor_declared file n ≡ Some c
    → (MayStand at c.0 × SortAll file s (map (sort_place file) c.1.args) args) ↔ SortsTerm file s [] at (applied (named n) args)
named-sorts file s at n args c e = let r = sorts-applied file s [] at (named n) args in (
  λ h. r.1 (map (sort_place file) c.1.args, h.1, subst (λ o. Accepts file s o (map (sort_place file) c.1.args ++ []) at) (sym e) (append-nil (map (sort_place file) c.1.args), h.0)),
  λ k. let z = r.0 k in
      let accepts : Accepts file s (constructor_declared file n) (z.0 ++ []) at = z.2 in
      let t : (z.0 ++ [] ≡ map (sort_place file) c.1.args) × MayStand at c.0 = subst (λ o. Accepts file s o (z.0 ++ []) at) e accepts in
      (t.1, subst (λ qs. SortAll file s qs args) (sym (append-nil z.0) ∙ t.0) z.1),
)

-- lists of places and terms
all-push : (file : List Line) (s : Name → Name) (ps : List Place) (ts : List WrittenTerm) (p : Place) (t : WrittenTerm) → length ps ≡ length ts → SortAll file s (ps ++ p ∷ []) (ts ++ t ∷ []) ↔ (SortAll file s ps ts × SortsTerm file s [] p t)
all-push file s [] [] p t l = (λ h. (tt, h.0), λ h. (h.1, tt))
all-push file s [] (u ∷ ts) p t l = absurd (omega arith)
all-push file s (q ∷ ps) [] p t l = absurd (omega arith)
all-push file s (q ∷ ps) (u ∷ ts) p t l = let r = all-push file s ps ts p t (omega arith) in (
  λ h. let z = r.0 h.1 in ((h.0, z.0), z.1),
  λ h. (h.0.0, r.1 (h.0.1, h.1)),
)

pub take-length : {X : Type 0} (i : ℕ) (xs : List X) → i < length xs → length (take i xs) ≡ i
take-length zero xs lt = refl
take-length (suc i) [] lt = absurd (omega arith)
take-length (suc i) (x ∷ xs) lt = omega (arith, take-length i xs (omega arith))

pub told-length : (ps : List (Option (Bor (List ℕ)))) → length (places_told ps) ≡ length ps
told-length [] = refl
told-length (p ∷ ps) = omega (arith, told-length ps)

pub all-next : (file : List Line) (s : Name → Name) (ps : List (Option (Bor (List ℕ)))) (ts : List WrittenTerm) (i : ℕ) (d : Option (Bor (List ℕ))) (t : WrittenTerm) → length ps ≡ length ts → i < length ts → t ≡ get_or ts i t
    → (SortAll file s (places_told (take i ps)) (take i ts) × SortsTerm file s [] (place_told (get_or ps i d)) t) ↔ SortAll file s (places_told (take (i + 1) ps)) (take (i + 1) ts)
all-next file s ps ts i d t l lt at =
    let lp : i < length ps = omega arith in
    let p = get_or ps i d in
    let eq : length (places_told (take i ps)) ≡ length (take i ts) = told-length (take i ps) ∙ take-length i ps lp ∙ sym (take-length i ts lt) in
    let r = all-push file s (places_told (take i ps)) (take i ts) (place_told p) t eq in
    let ep : places_told (take (i + 1) ps) ≡ places_told (take i ps) ++ place_told p ∷ [] = ap places_told (take_item ps i p lp (get_or_fixed ps i d lp)) ∙ map_push place_told (take i ps) p in
    let et : take (i + 1) ts ≡ take i ts ++ t ∷ [] = take_item ts i t lt at in
    let e : SortAll file s (places_told (take (i + 1) ps)) (take (i + 1) ts) ≡ SortAll file s (places_told (take i ps) ++ place_told p ∷ []) (take i ts ++ t ∷ []) = ap₂ (SortAll file s) ep et in (
      λ h. subst (λ X. X) (sym e) (r.1 h),
      λ h. r.0 (subst (λ X. X) e h),
    )

-- what is known of a term with a constructor
pub known_constructor : (file : List Line) (t : WrittenTerm) (n : Name) (args : List WrittenTerm) → applied (named n) args ≡ t → KnowsTerm file t → None ≡ constructor_declared file n → ⊥
known_constructor file t n args e k none =
    let h = (knows-applied file (named n) args).0 (subst (KnowsTerm file) (sym e) k) in
    false≢true (ap is_some none ∙ h.0)

pub known_arguments : (file : List Line) (t : WrittenTerm) (n : Name) (args : List WrittenTerm) → applied (named n) args ≡ t → KnowsTerm file t → AllByRecursion (KnowsTerm file) args
known_arguments file t n args e k = ((knows-applied file (named n) args).0 (subst (KnowsTerm file) (sym e) k)).1

pub counted_arguments : (file : List Line) (t : WrittenTerm) (n : Name) (args : List WrittenTerm) → applied (named n) args ≡ t → CountsTerm file 0 t → AllByRecursion (CountsTerm file 0) args
counted_arguments file t n args e k = ((counts-applied file 0 (length args) (named n) args (omega arith)).0 (subst (CountsTerm file 0) (sym e) k)).1

pub places_count : (file : List Line) (t : WrittenTerm) (n : Name) (args : List WrittenTerm) (c : Constructor) (ps : List (Option (Bor (List ℕ)))) → applied (named n) args ≡ t → CountsTerm file 0 t → Some c ≡ constructor_declared file n → places_told ps ≡ map (sort_place file) c.1.args
    → length ps ≡ length args
places_count file t n args c ps e k at is =
    let h = ((counts-applied file 0 (length args) (named n) args (omega arith)).0 (subst (CountsTerm file 0) (sym e) k)).0 in
    let arity : length c.1.args ≡ length args = subst (λ o. IsArity o (length args)) (sym at) h in
    sym (told-length ps) ∙ ap length is ∙ length-map c.1.args (sort_place file) ∙ arity

pub not_standing : (file : List Line) (s : Name → Name) (at : Place) (t : WrittenTerm) (n : Name) (args : List WrittenTerm) (c : Constructor) (b : Bool) → applied (named n) args ≡ t → Some c ≡ constructor_declared file n → b ≡ false → IsTrue b ↔ MayStand at c.0 → SortsTerm file s [] at t → ⊥
not_standing file s at t n args c b e is f stands h =
    let z = (named-sorts file s at n args c (sym is)).1 (subst (SortsTerm file s [] at) (sym e) h) in
    false≢true (sym f ∙ stands.1 z.0)

pub standing : (file : List Line) (at : Place) (t : WrittenTerm) (n : Name) (args : List WrittenTerm) (c : Constructor) (ps : List (Option (Bor (List ℕ)))) (a b : Sorts) (r : Bool) → applied (named n) args ≡ t → Some c ≡ constructor_declared file n → MayStand at c.0 → places_told ps ≡ map (sort_place file) c.1.args
    → Narrows (λ s. SortAll file s (places_told ps) args) a b r → Narrows (λ s. SortsTerm file s [] at t) a b r
standing file at t n args c ps a b r e is stands told h =
    narrows-as (λ s. SortAll file s (places_told ps) args) (λ s. SortsTerm file s [] at t) a b r (λ s. (
      λ all. subst (SortsTerm file s [] at) e ((named-sorts file s at n args c (sym is)).0 (stands, subst (λ qs. SortAll file s qs args) told all)),
      λ h. subst (λ qs. SortAll file s qs args) (sym told) ((named-sorts file s at n args c (sym is)).1 (subst (SortsTerm file s [] at) (sym e) h)).1,
    )) h

pub variable_standing : (file : List Line) (at : Place) (t : WrittenTerm) (n : Name) (a b : Sorts) (r : Bool) → variable n ≡ t → Narrows (λ s. MayStand at (s n)) a b r → Narrows (λ s. SortsTerm file s [] at t) a b r
variable_standing file at t n a b r e h = subst (λ u. Narrows (λ s. SortsTerm file s [] at u) a b r) e h

-- steps of a walk over several terms
pub walk_more : (file : List Line) (ps : List (Option (Bor (List ℕ)))) (ts : List WrittenTerm) (i : ℕ) (d : Option (Bor (List ℕ))) (t : WrittenTerm) (a b c : Sorts) (r : Bool) → length ps ≡ length ts → i < length ts → t ≡ get_or ts i t
    → Narrows (λ s. SortAll file s (places_told (take i ps)) (take i ts)) a b true → Narrows (λ s. SortsTerm file s [] (place_told (get_or ps i d)) t) b c r → Narrows (λ s. SortAll file s (places_told (take (i + 1) ps)) (take (i + 1) ts)) a c r
walk_more file ps ts i d t a b c r l lt at h k =
    narrows-as (λ s. SortAll file s (places_told (take i ps)) (take i ts) × SortsTerm file s [] (place_told (get_or ps i d)) t) (λ s. SortAll file s (places_told (take (i + 1) ps)) (take (i + 1) ts)) a c r
    (λ s. all-next file s ps ts i d t l lt at)
    (narrows-then (λ s. SortAll file s (places_told (take i ps)) (take i ts)) (λ s. SortsTerm file s [] (place_told (get_or ps i d)) t) a b c r h k)

all-front : (file : List Line) (s : Name → Name) (ps : List (Option (Bor (List ℕ)))) (ts : List WrittenTerm) (i : ℕ) → length ps ≡ length ts → SortAll file s (places_told ps) ts → SortAll file s (places_told (take i ps)) (take i ts)
all-front file s ps ts zero l h = tt
all-front file s [] [] (suc i) l h = tt
all-front file s [] (t ∷ ts) (suc i) l h = absurd h
all-front file s (p ∷ ps) [] (suc i) l h = absurd h
all-front file s (p ∷ ps) (t ∷ ts) (suc i) l h = (h.0, all-front file s ps ts i (omega arith) h.1)

pub walk_stops : (file : List Line) (ps : List (Option (Bor (List ℕ)))) (ts : List WrittenTerm) (i : ℕ) (d : Option (Bor (List ℕ))) (t : WrittenTerm) (a b c : Sorts) (r : Bool) → length ps ≡ length ts → i < length ts → t ≡ get_or ts i t → r ≡ false
    → Narrows (λ s. SortAll file s (places_told (take i ps)) (take i ts)) a b true → Narrows (λ s. SortsTerm file s [] (place_told (get_or ps i d)) t) b c r → (s : Name → Name) → Agrees a s → SortAll file s (places_told ps) ts → ⊥
walk_stops file ps ts i d t a b c r l lt at f h k s agrees all =
    let w = subst (Narrows (λ s. SortAll file s (places_told (take (i + 1) ps)) (take (i + 1) ts)) a c) f (walk_more file ps ts i d t a b c r l lt at h k) in
    w s agrees (all-front file s ps ts (i + 1) l all)

pub walk_ends : (file : List Line) (ps : List (Option (Bor (List ℕ)))) (ts : List WrittenTerm) (i : ℕ) (a b : Sorts) → length ps ≡ length ts → i ≡ length ts → Narrows (λ s. SortAll file s (places_told (take i ps)) (take i ts)) a b true → Narrows (λ s. SortAll file s (places_told ps) ts) a b true
walk_ends file ps ts i a b l e h =
    subst (λ qs. Narrows (λ s. SortAll file s (places_told qs) ts) a b true) (take_all i ps (omega arith))
    (subst (λ us. Narrows (λ s. SortAll file s (places_told (take i ps)) us) a b true) (take_all i ts (omega arith)) h)
