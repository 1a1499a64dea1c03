-- Lines that pass the tests of their meaning spell sorts that are not refused.
use Rattle.std.proofs.Common.{◌≡◌, ◌≢◌, ◌⊎◌, inl, inr, ℕ, ◌+◌, ◌==◌, true, false, cond, zero, suc, List, [], ◌∷◌, ◌++◌, length, refl, ap, sym, ◌∙◌, subst, Option, Some, None, slice_get, arith}
use Rattle.std.proofs.lemmas.Bool.Decides.{nat_tests}
use Rattle.std.proofs.lemmas.Bool.{false≢true, cases_Bool, cases_eq}
use Rattle.std.specs.List.{AllByRecursion, Contains}
use Rattle.std.specs.Str.{bytes_eq}
use Rattle.psg_terms.specs.Names.{Name, has_twice}
use Rattle.psg_terms.specs.Terms.{Term, symbol, applied}
use Rattle.psg_terms.specs.Signature.{Signature, Symbol, HaveSorts, constructors_from, sole}
use Rattle.psg_terms.specs.Declarations.{Numbered, with_sort, in_order, arguments_in, AreNamed, AreSpelled, IsSymbol, IsSpelled, AreDistinct, AllAmong, IsFirstEmpty, IsFirstWide}
use Rattle.psg_terms.specs.Declarations as written
use Rattle.psg_terms.specs.Refusals.{MayRefuse}
use Rattle.psg_terms.specs.declared.declare.ConDecl.{ConDecl}
use Rattle.psg_terms.specs.declared.declare.SortDecl.{SortDecl}
use Rattle.psg_terms.specs.declared.declare.SigFault.{SigFault}
use Rattle.psg_terms.specs.declared.declare.SigFault.TheVariants.{Repeated, UnknownSort, NoGround, OneWide, Memory}
use Rattle.psg_terms.proofs.Applied.{AllGround, applied-takes, applied-ground}
use Rattle.psg_terms.proofs.DeclareLaws.{bytes_eq-same}
use Rattle.psg_terms.proofs.Spelled.{one_place, repeat-twice, all_among-middle}
use Rattle.psg_deflines.specs.declared.lines.Line.{Line}
use Rattle.psg_deflines.specs.declared.lines.Line.TheVariants as lines
use Rattle.psg_defcheck.specs.Scopes.{sort_names, sort_declared}
use Rattle.psg_defcheck.specs.Meanings.{KnowsSort, AreInhabited, none, more, IsChoice}
use Rattle.psg_defcheck.specs.Faults.{ArePassed}
use Rattle.psg_defnumber.specs.Numbers.{sort_decls}
use Rattle.psg_defnumber.proofs.NamedLaws.{read-within}
use Rattle.psg_defnumber.proofs.OnceLaws.{decls-sorts, decls-constructors, sorts-once, constructors-once}

-- what the tests say of a sort
record IsRight (file : List Line) (d : SortDecl) : Type 0 where
  known : AllByRecursion (λ (c : ConDecl). AllByRecursion (KnowsSort file) c.args) d.constructors
  ground : AreInhabited file (d.name ∷ [])
  choice : IsChoice d.constructors

all-right : (file above rest : List Line) → ArePassed file above rest → AllByRecursion (IsRight file) (sort_decls rest)
all-right file above [] h = tt
all-right file above (lines.Sort d ∷ rest) h = (
  record { known = h.0.1.0; ground = h.0.1.1.1.1.1.0; choice = h.0.1.1.1.1.1.1.0 },
  all-right file (above ++ lines.Sort d ∷ []) rest h.1,
)
all-right file above (line ∷ rest) h = all-right file (above ++ line ∷ []) rest h.1

-- ---- each argument names a sort

module _ (file : List Line) where
  names-among : (ns rest : List Name) → AllByRecursion (KnowsSort file) ns → AllAmong (sort_names file) rest
      → AllAmong (sort_names file) (ns ++ rest)
  names-among [] rest h k = k
  names-among (n ∷ ns) rest h k = (h.0, names-among ns rest h.1 k)

  constructors-among : (s : ℕ) (cs : List ConDecl) (rest : List Numbered)
      → AllByRecursion (λ (c : ConDecl). AllByRecursion (KnowsSort file) c.args) cs
      → AllAmong (sort_names file) (arguments_in rest) → AllAmong (sort_names file) (arguments_in (with_sort s cs ++ rest))
  constructors-among s [] rest h k = k
  constructors-among s (c ∷ cs) rest h k =
      names-among c.args (arguments_in (with_sort s cs ++ rest)) h.0 (constructors-among s cs rest h.1 k)

  all-among : (s : ℕ) (ds : List SortDecl) → AllByRecursion (IsRight file) ds
      → AllAmong (sort_names file) (arguments_in (in_order s ds))
  all-among s [] h = tt
  all-among s (d ∷ ds) h = constructors-among s d.constructors (in_order (s + 1) ds) h.0.known (all-among (s + 1) ds h.1)

-- ---- a symbol for each constructor

abbrev IsIn : Numbered → List Numbered → Type 0
IsIn c [] = ⊥
IsIn c (d ∷ rest) = (c ≡ d) ⊎ IsIn c rest

in-later : (c : Numbered) (front rest : List Numbered) → IsIn c rest → IsIn c (front ++ rest)
in-later c [] rest h = h
in-later c (d ∷ front) rest h = inr (in-later c front rest h)

in-sort : (s : ℕ) (cs : List ConDecl) (rest : List Numbered) (c : ConDecl) → Contains cs c
    → IsIn (s, c) (with_sort s cs ++ rest)
in-sort s [] rest c (k, lt, e) = absurd (omega arith)
in-sort s (d ∷ cs) rest c (zero, lt, e) = inl (ap (λ x. (s, x)) (sym e))
in-sort s (d ∷ cs) rest c (suc k, lt, e) = inr (in-sort s cs rest c (k, omega arith, e))

declared-in : (s : ℕ) (file : List Line) (n : Name) (d : SortDecl) (c : ConDecl) → sort_declared file n ≡ Some d
    → Contains d.constructors c
    → (k : ℕ) × (slice_get (sort_names file) k ≡ Some n) × IsIn (s + k, c) (in_order s (sort_decls file))
declared-in s [] n d c e h = absurd (cc)
declared-in s (lines.Sort own ∷ file) n d c e h =
    elim (cases_Bool (bytes_eq own.name n)) [
      | inl t ↦
          let same : own ≡ d = same-some own d (sym (ap (λ b. cond b (Some own) (sort_declared file n)) t) ∙ e) in
          let place : s ≡ s + 0 = omega arith in (
            0,
            ap Some (bytes_eq-same own.name n t),
            subst (λ k. IsIn (k, c) (in_order s (own ∷ sort_decls file))) place (in-sort s own.constructors (in_order (s + 1) (sort_decls file)) c (subst (λ (x : SortDecl). Contains x.constructors c) (sym same) h)),
          )
      | inr f ↦
          let behind = declared-in (s + 1) file n d c (sym (ap (λ b. cond b (Some own) (sort_declared file n)) f) ∙ e) h in
          let place : s + 1 + behind.0 ≡ s + suc behind.0 = omega arith in (
            suc behind.0,
            behind.1,
            subst (λ k. IsIn (k, c) (in_order s (own ∷ sort_decls file))) place (in-later (s + 1 + behind.0, c) (with_sort s own.constructors) (in_order (s + 1) (sort_decls file)) behind.2),
          )
    ]
  where
    same-some : (x y : SortDecl) → ◌≡◌ {A = Option SortDecl} (Some x) (Some y) → x ≡ y
    same-some x y q = cc
declared-in s (line ∷ file) n d c e h = declared-in s file n d c e h

spelled-in : (sorts : List Name) (cs : List Numbered) (xs : List Symbol) (c : Numbered) → AreSpelled sorts cs xs → IsIn c cs
    → (i : ℕ) × (x : Symbol) × (slice_get xs i ≡ Some x) × IsSymbol sorts c x
spelled-in sorts [] xs c h i = absurd i
spelled-in sorts (d ∷ cs) [] c h i = absurd h
spelled-in sorts (d ∷ cs) (x ∷ xs) c h (inl e) = (0, x, refl, subst (λ y. IsSymbol sorts y x) (sym e) h.0)
spelled-in sorts (d ∷ cs) (x ∷ xs) c h (inr i) =
    let behind = spelled-in sorts cs xs c h.1 i in (suc behind.0, behind.1, behind.2, behind.3)

-- ---- ground terms

module _ (file : List Line) (sig : Signature) (once : has_twice sig.sorts ≡ false) (spelled : IsSpelled (sort_decls file) sig) where
  ground-terms : (ns : List Name) → AreInhabited file ns → (ss : List ℕ) → AreNamed sig.sorts ns ss
      → (row : List Term) × AllGround row × HaveSorts sig row ss
  ground-terms ns none [] h = ([], tt, tt)
  ground-terms ns none (s ∷ ss) h = absurd h
  ground-terms ns (more sort rest d c found member args others) [] h = absurd h
  ground-terms ns (more sort rest d c found member args others) (s ∷ ss) h =
      let at = declared-in 0 file sort d c found member in
      let x = spelled-in (written.sort_names (sort_decls file)) (in_order 0 (sort_decls file)) sig.symbols (0 + at.0, c) spelled.symbols at.2 in
      let named : slice_get sig.sorts at.0 ≡ Some sort = ap (λ l. slice_get l at.0) (spelled.sorts ∙ decls-sorts file) ∙ at.1 in
      let place : s ≡ at.0 = one_place sig.sorts s at.0 sort once h.0 named in
      let made : x.1.sort ≡ 0 + at.0 = x.3.sort in
      let makes : x.1.sort ≡ s = omega arith in
      let own = ground-terms c.args args x.1.arguments (subst (λ l. AreNamed l c.args x.1.arguments) (sym spelled.sorts) x.3.arguments) in
      let behind = ground-terms rest others ss h.1 in (
        applied (symbol x.0) own.0 ∷ behind.0,
        (applied-ground (symbol x.0) own.0 tt own.1, behind.1),
        (applied-takes sig (symbol x.0) own.0 x.1.arguments s (x.1, x.2, refl, makes) own.2, behind.2),
      )

inhabited-at : (file : List Line) (ds : List SortDecl) (s : ℕ) (n : Name) → AllByRecursion (IsRight file) ds
    → slice_get (written.sort_names ds) s ≡ Some n → AreInhabited file (n ∷ [])
inhabited-at file [] s n h e = absurd (cc)
inhabited-at file (d ∷ ds) zero n h e = let same : d.name ≡ n = cc in subst (λ m. AreInhabited file (m ∷ [])) same h.0.ground
inhabited-at file (d ∷ ds) (suc s) n h e = inhabited-at file ds s n h.1 e

not-empty : (file : List Line) (sig : Signature) (s : ℕ) → AllByRecursion (IsRight file) (sort_decls file) → AreDistinct (sort_decls file)
    → IsSpelled (sort_decls file) sig → IsFirstEmpty sig s → ⊥
not-empty file sig s right distinct spelled e =
    let at = read-within sig.sorts s e.inside in
    let inhabited = inhabited-at file (sort_decls file) s at.0 right (ap (λ l. slice_get l s) (sym spelled.sorts) ∙ at.1) in
    let terms = ground-terms file sig (ap has_twice spelled.sorts ∙ distinct.sorts) spelled (at.0 ∷ []) inhabited (s ∷ []) (at.1, tt) in
    first terms.0 terms.1 terms.2
  where
    first : (row : List Term) → AllGround row → HaveSorts sig row (s ∷ []) → ⊥
    first [] ground h = h
    first (t ∷ row) ground h = e.empty t ground.0 h.0

-- ---- an only constructor has no arguments

record IsConstantAt (n c : ℕ) (xs : List Symbol) : Type 0 where
  place : ℕ
  found : Symbol
  at : slice_get xs place ≡ Some found
  number : c ≡ n + place
  constant : found.arguments ≡ []

later : (n c : ℕ) (x : Symbol) (xs : List Symbol) → IsConstantAt (n + 1) c xs → IsConstantAt n c (x ∷ xs)
later n c x xs h = let e = h.number in record { place = suc h.place; found = h.found; at = h.at; number = omega arith; constant = h.constant }

none-named : (sorts ns : List Name) (ss : List ℕ) → ns ≡ [] → AreNamed sorts ns ss → ss ≡ []
none-named sorts [] [] e h = refl
none-named sorts [] (s ∷ ss) e h = absurd h
none-named sorts (n ∷ ns) ss e h = absurd (cc)

-- what the constructors of later sorts are to be
abbrev Next : List Name → ℕ → ℕ → List Numbered → Type 0
Next sorts s c behind = (n : ℕ) (xs : List Symbol) → AreSpelled sorts behind xs → sole (constructors_from n s xs) ≡ Some c
    → IsConstantAt n c xs

-- those of another sort are passed
skipped : (sorts : List Name) (s m c : ℕ) (behind : List Numbered) → m ≢ s → Next sorts s c behind → (cs : List ConDecl)
    → Next sorts s c (with_sort m cs ++ behind)
skipped sorts s m c behind other next [] n xs h e = next n xs h e
skipped sorts s m c behind other next (d ∷ cs) n [] h e = absurd h
skipped sorts s m c behind other next (d ∷ cs) n (x ∷ xs) h e =
    let made : x.sort ≡ m = h.0.sort in
    let test : (x.sort == s) ≡ false = grind (arith, nat_tests) in
    let from : sole (constructors_from (n + 1) s xs) ≡ Some c =
    sym (ap (λ b. sole (cond b (n ∷ constructors_from (n + 1) s xs) (constructors_from (n + 1) s xs))) test) ∙ e in
    later n c x xs (skipped sorts s m c behind other next cs (n + 1) xs h.1 from)

-- those of the sort are a constant alone, or none or several
chosen : (sorts : List Name) (s m c : ℕ) (behind : List Numbered) → m ≡ s → Next sorts s c behind → (cs : List ConDecl) → IsChoice cs
    → Next sorts s c (with_sort m cs ++ behind)
chosen sorts s m c behind same next [] choice n xs h e = next n xs h e
chosen sorts s m c behind same next (d ∷ cs) choice n [] h e = absurd h
chosen sorts s m c behind same next (d ∷ []) choice n (x ∷ xs) h e =
    let made : x.sort ≡ m = h.0.sort in
    let test : (x.sort == s) ≡ true = grind (arith, nat_tests) in
    let from : sole (n ∷ constructors_from (n + 1) s xs) ≡ Some c =
    sym (ap (λ b. sole (cond b (n ∷ constructors_from (n + 1) s xs) (constructors_from (n + 1) s xs))) test) ∙ e in
    record { place = 0; found = x; at = refl; number = first (constructors_from (n + 1) s xs) from; constant = none-named sorts d.args x.arguments choice h.0.arguments }
  where
    first : (rest : List ℕ) → sole (n ∷ rest) ≡ Some c → c ≡ n + 0
    first [] q = let one : n ≡ c = cc in omega arith
    first (k ∷ rest) q = absurd (cc)
chosen sorts s m c behind same next (d ∷ f ∷ cs) choice n (x ∷ []) h e = absurd h.1
chosen sorts s m c behind same next (d ∷ f ∷ cs) choice n (x ∷ y ∷ xs) h e =
    let made : x.sort ≡ m = h.0.sort in
    let also : y.sort ≡ m = h.1.0.sort in
    let test : (x.sort == s) ≡ true = grind (arith, nat_tests) in
    let again : (y.sort == s) ≡ true = grind (arith, nat_tests) in
    let rest = constructors_from (n + 1 + 1) s xs in
    let from : sole (n ∷ cond (y.sort == s) ((n + 1) ∷ rest) rest) ≡ Some c =
    sym (ap (λ b. sole (cond b (n ∷ cond (y.sort == s) ((n + 1) ∷ rest) rest) (cond (y.sort == s) ((n + 1) ∷ rest) rest))) test) ∙ e in
    let two : sole (n ∷ (n + 1) ∷ rest) ≡ Some c = sym (ap (λ b. sole (n ∷ cond b ((n + 1) ∷ rest) rest)) again) ∙ from in
    absurd (none-some two)
  where
    none-some : ◌≡◌ {A = Option ℕ} None (Some c) → ⊥
    none-some q = cc

only-constant : (file : List Line) (sorts : List Name) (s m c : ℕ) (ds : List SortDecl) → AllByRecursion (IsRight file) ds
    → Next sorts s c (in_order m ds)
only-constant file sorts s m c [] right n [] h e = absurd (cc)
only-constant file sorts s m c [] right n (x ∷ xs) h e = absurd h
only-constant file sorts s m c (d ∷ ds) right n xs h e =
    let next : Next sorts s c (in_order (m + 1) ds) = λ k ys. only-constant file sorts s (m + 1) c ds right.1 k ys in
    elim (cases_eq m s) [
      | inl same ↦ chosen sorts s m c (in_order (m + 1) ds) same next d.constructors right.0.choice n xs h e
      | inr other ↦ skipped sorts s m c (in_order (m + 1) ds) other next d.constructors n xs h e
    ]

not-wide : (file : List Line) (sig : Signature) (s : ℕ) → AllByRecursion (IsRight file) (sort_decls file)
    → IsSpelled (sort_decls file) sig → IsFirstWide sig s → ⊥
not-wide file sig s right spelled w =
    let one = only-constant file (written.sort_names (sort_decls file)) s 0 w.wide.constructor (sort_decls file) right 0 sig.symbols spelled.symbols w.wide.only in
    let number = one.number in
    let place : w.wide.constructor ≡ one.place = omega arith in
    let both : ◌≡◌ {A = Option Symbol} (Some w.wide.found) (Some one.found) = sym w.wide.at ∙ ap (slice_get sig.symbols) place ∙ one.at in
    let same : w.wide.found ≡ one.found = cc in
    let none = ap (λ (x : Symbol). length x.arguments) same ∙ ap length one.constant in
    let some = w.wide.wide in
    absurd (omega arith)

-- ---- no fault but memory

pub not-refused : (file : List Line) → ArePassed file [] file → (fault : SigFault) → MayRefuse (sort_decls file) fault → fault ≡ Memory
not-refused file passed fault h = go fault h
  where
    right : AllByRecursion (IsRight file) (sort_decls file)
    right = all-right file [] file passed

    distinct : AreDistinct (sort_decls file)
    distinct = record {
      sorts = ap has_twice (decls-sorts file) ∙ sorts-once file passed;
      constructors = ap has_twice (decls-constructors 0 file) ∙ constructors-once file passed;
    }

    go : (fault : SigFault) → MayRefuse (sort_decls file) fault → fault ≡ Memory
    go (Repeated n) (inl r) = absurd (repeat-twice (written.sort_names (sort_decls file)) r.sort n r.repeat distinct.sorts)
    go (Repeated n) (inr r) = absurd (repeat-twice (written.constructor_names (sort_decls file)) r.place n r.repeat distinct.constructors)
    go (UnknownSort n) r =
        let f = r.first in
        let all = subst (λ names. AllAmong names (written.argument_names (sort_decls file))) (sym (decls-sorts file)) (all-among file 0 (sort_decls file) right) in
        absurd (false≢true (sym f.missing ∙ all_among-middle (written.sort_names (sort_decls file)) f.front f.behind n (subst (AllAmong (written.sort_names (sort_decls file))) f.split all)))
    go (NoGround s) r = absurd (not-empty file r.sig s.0 right r.distinct r.spelled r.fault)
    go (OneWide s) r = absurd (not-wide file r.sig s.0 right r.spelled r.fault)
    go Memory r = refl
