-- Where the equations of a case have a solution, its columns are an instance of a row of the true relation: terms.
use Rattle.std.proofs.Common.{◌≡◌, inl, inr, ℕ, zero, suc, ◌-◌, Bool, cond, List, [], ◌∷◌, ◌++◌, map, take, drop, length, Option, Some, None, slice_get, refl, ap, ap₂, sym, ◌∙◌, subst}
use Rattle.std.specs.Prelude.{bytes_eq, option_map}
use Rattle.std.specs.Option.{option_or}
use Rattle.std.specs.List.{AllByRecursion}
use Rattle.std.proofs.lemmas.Bool.{cases_Bool}
use Rattle.std.proofs.lemmas.Option.{none-some}
use Rattle.psg_terms.specs.Terms.{Term, variable, symbol, apply}
use Rattle.psg_terms.specs.Signature.{HasSort, HaveSorts, Signature, Symbol, Takes}
use Rattle.psg_terms.specs.Instances.{IsGroundInstance, IsGrounding, IsInstance, IsSorted, Substitution, substitute}
use Rattle.psg_terms.specs.Canonical.{AreWrittenOut, IsWrittenOut}
use Rattle.psg_terms.specs.Relations.{IsIn, IsRelation, first, later}
use Rattle.psg_terms.specs.Renaming.{raised}
use Rattle.psg_terms.specs.Sound.{IsSound}
use Rattle.psg_terms.proofs.Exact.{instance_exact}
use Rattle.psg_terms.proofs.InstanceLaws.{Takes-substitute, after, grounding-after, map-substitute-after, substitute-after}
use Rattle.psg_terms.proofs.Lists.{each_append}
use Rattle.psg_terms.proofs.Separate.{grounding}
use Rattle.psg_terms.proofs.SoundChoices.{choices}
use Rattle.psg_grammar.specs.Keys.{Key}
use Rattle.psg_relation.specs.Choices.{pick}
use Rattle.psg_explain.specs.Equations.{Equation}
use Rattle.psg_explain.specs.Fitted.{IsCoverable}
use Rattle.psg_explain.specs.Given.{beside, entities_of, key_equations, key_terms, numbered_on, own_equations, pair_columns, pair_equations, wanted_of}
use Rattle.psg_explain.proofs.Rewriting.{SolvesAll}
use Rattle.psg_explain.proofs.SolvedLaws.{AreEven, AreEvenly, by_all, put_all_by, solver}

-- ---- sorts are determined

symbol_same : (a b : Symbol) → Some a ≡ Some b → a ≡ b
symbol_same a b e = cc

tail_of : (a b : ℕ) (xs ys : List ℕ) → a ∷ xs ≡ b ∷ ys → xs ≡ ys
tail_of a b xs ys e = cc

module _ (sig : Signature) where
  takes_once : (t : Term) (ss rr : List ℕ) (s r : ℕ) → Takes sig t ss s → Takes sig t rr r → (ss ≡ rr) × (s ≡ r)
  takes_once (variable p n) ss rr s r (a, e, d) (b, f, g) = (e ∙ sym f, sym d ∙ g)
  takes_once (symbol c) ss rr s r (x, at, e, d) (y, there, f, g) =
      let same : x ≡ y = symbol_same x y (sym at ∙ there) in
      (sym e ∙ ap (λ (z : Symbol). z.arguments) same ∙ f, sym d ∙ ap (λ (z : Symbol). z.sort) same ∙ g)
  takes_once (apply f a) ss rr s r (lead, p, q) (other, h, k) =
      let (one, two) = takes_once f (lead ∷ ss) (other ∷ rr) s r p h in
      (tail_of lead other ss rr one, two)

  pub sorts_same : (row : List Term) (ss rr : List ℕ) → HaveSorts sig row ss → HaveSorts sig row rr → ss ≡ rr
  sorts_same [] [] [] h k = refl
  sorts_same [] [] (r ∷ rr) h k = absurd k
  sorts_same [] (s ∷ ss) rr h k = absurd h
  sorts_same (t ∷ row) [] rr h k = absurd h
  sorts_same (t ∷ row) (s ∷ ss) [] h k = absurd k
  sorts_same (t ∷ row) (s ∷ ss) (r ∷ rr) (p, h) (q, k) = ap₂ (λ (x : ℕ) (l : List ℕ). x ∷ l) (takes_once t [] [] s r p q).1 (sorts_same row ss rr h k)

  pub sorts_put : (f : Substitution) → IsSorted sig f → (row : List Term) (ss : List ℕ) → HaveSorts sig row ss → HaveSorts sig (map (substitute f) row) ss
  sorts_put f sorted [] [] h = h
  sorts_put f sorted [] (s ∷ ss) h = absurd h
  sorts_put f sorted (t ∷ row) [] h = absurd h
  sorts_put f sorted (t ∷ row) (s ∷ ss) (p, h) = (Takes-substitute sig f sorted t [] s p, sorts_put f sorted row ss h)

  -- a row all of whose ground instances are possible for one choice is an instance of a row of the relation
  pub general_in : IsSound sig → (sorts ss : List ℕ) {C : Type 0} (Possible : C → List Term → Type 0) (rows : List (List Term)) → IsRelation sig sorts Possible rows → (row : List Term) → HaveSorts sig row ss → AreWrittenOut sig row
      → (c : C) → ((f : Substitution) → IsGrounding sig f → Possible c (map (substitute f) row)) → (general : List Term) × IsIn general rows × IsInstance row general
  general_in sound sorts ss Possible rows rel row hr written c all =
      let usual : Substitution = λ s n. (choices sig sound).some s in
      let ground : IsGrounding sig usual = grounding sig (choices sig sound) in
      let (general, among, covers) = rel.covers c (map (substitute usual) row) (all usual ground) in
      let shape = rel.shapes general among in
      let (g, gg, e) = covers (map (substitute usual) row) (all usual ground) in
      let one : HaveSorts sig (map (substitute usual) row) sorts = subst (λ (l : List Term). HaveSorts sig l sorts) (sym e) (sorts_put g gg.sorted general sorts shape.sorted) in
      let same : ss ≡ sorts = sorts_same (map (substitute usual) row) ss sorts (sorts_put usual ground.sorted row ss hr) one in (
        general,
        among,
        (instance_exact sig sound general row sorts shape.sorted (subst (HaveSorts sig row) same hr) written).1
            (λ columns (f, gf, d). subst (IsGroundInstance sig general) (sym d) (covers (map (substitute f) row) (all f gf))),
      )

  -- ---- terms of a sort, with one-constant sorts written out

  abbrev pub IsFine : Term → Type 0
  IsFine t = ((s : ℕ) × HasSort sig t s) × IsWrittenOut sig t

  abbrev pub AreFine : List Term → Type 0
  AreFine ts = AllByRecursion IsFine ts

  pub fine_row : (ts : List Term) (ss : List ℕ) → HaveSorts sig ts ss → AreWrittenOut sig ts → AreFine ts
  fine_row [] ss h w = tt
  fine_row (t ∷ ts) [] h w = absurd h
  fine_row (t ∷ ts) (s ∷ ss) (p, h) (q, w) = (((s, p), q), fine_row ts ss h w)

  pub fine_sorts : (ts : List Term) → AreFine ts → (ss : List ℕ) × HaveSorts sig ts ss
  fine_sorts [] h = ([], tt)
  fine_sorts (t ∷ ts) (((s, p), w), h) = let (ss, q) = fine_sorts ts h in (s ∷ ss, (p, q))

  pub fine_written : (ts : List Term) → AreFine ts → AreWrittenOut sig ts
  fine_written [] h = tt
  fine_written (t ∷ ts) ((p, w), h) = (w, fine_written ts h)

  pub fine_put : (f : Substitution) → IsSorted sig f → ((t : Term) → IsWrittenOut sig t → IsWrittenOut sig (substitute f t)) → (ts : List Term) → AreFine ts → AreFine (map (substitute f) ts)
  fine_put f sorted written [] h = tt
  fine_put f sorted written (t ∷ ts) (((s, p), w), h) = (((s, Takes-substitute sig f sorted t [] s p), written t w), fine_put f sorted written ts h)

  raised_sorted : (n : ℕ) → IsSorted sig (raised n)
  raised_sorted n s m lt = (lt, refl, refl)

  raised_written : (n : ℕ) (t : Term) → IsWrittenOut sig t → IsWrittenOut sig (substitute (raised n) t)
  raised_written n (variable s m) h = h
  raised_written n (symbol c) h = h
  raised_written n (apply f a) (p, q) = (raised_written n f p, raised_written n a q)

  pub fine_raised : (n : ℕ) (ts : List Term) → AreFine ts → AreFine (numbered_on n ts)
  fine_raised n ts h = fine_put (raised n) (raised_sorted n) (raised_written n) ts h

  fine_drop : (n : ℕ) (ts : List Term) → AreFine ts → AreFine (drop n ts)
  fine_drop zero ts h = h
  fine_drop (suc n) [] h = tt
  fine_drop (suc n) (t ∷ ts) (p, h) = fine_drop n ts h

  fine_take : (n : ℕ) (ts : List Term) → AreFine ts → AreFine (take n ts)
  fine_take zero ts h = tt
  fine_take (suc n) [] h = tt
  fine_take (suc n) (t ∷ ts) (p, h) = (p, fine_take n ts h)

  some_fine : (t u : Term) → Some t ≡ Some u → IsFine t → IsFine u
  some_fine t u e h = let d : t ≡ u = cc in subst IsFine d h

  pub beside_fine : (ns : List Key) (ts : List Term) (k : Key) (u : Term) → AreFine ts → beside ns ts k ≡ Some u → IsFine u
  beside_fine [] ts k u h e = absurd (none-some u e)
  beside_fine (n ∷ ns) [] k u h e = absurd (none-some u e)
  beside_fine (n ∷ ns) (t ∷ ts) k u (p, h) e = elim (cases_Bool (bytes_eq n k)) [
    | inl b ↦ some_fine t u (sym (ap (λ (c : Bool). cond c (Some t) (beside ns ts k)) b) ∙ e) p
    | inr b ↦ beside_fine ns ts k u h (sym (ap (λ (c : Bool). cond c (Some t) (beside ns ts k)) b) ∙ e)
  ]

  pub key_terms_fine : (term : Key → Option Term) → ((k : Key) (u : Term) → term k ≡ Some u → IsFine u) → (ks : List Key) → AreFine (key_terms term ks)
  key_terms_fine term h [] = tt
  key_terms_fine term h (k ∷ ks) = one (term k) (λ u e. h k u e) (key_terms term ks) (key_terms_fine term h ks)
    where
      one : (o : Option Term) → ((u : Term) → o ≡ Some u → IsFine u) → (ts : List Term) → AreFine ts → AreFine (pick o ts)
      one None g ts more = more
      one (Some u) g ts more = (g u refl, more)

  either_fine : (p q : Option Term) (u : Term) → ((v : Term) → p ≡ Some v → IsFine v) → ((v : Term) → q ≡ Some v → IsFine v) → option_or p q ≡ Some u → IsFine u
  either_fine None q u h k e = k u e
  either_fine (Some v) q u h k e = h u e

  pub pair_fine : (K L M : List Key) (left right : List Term) → AreFine left → AreFine right → AreFine (pair_columns K L M left right)
  pair_fine K L M [] right h k = tt
  pair_fine K L M (v ∷ []) right h k = tt
  pair_fine K L M (v ∷ w ∷ more) [] h k = tt
  pair_fine K L M (v ∷ w ∷ more) (own ∷ terms) (a, (b, h)) (c, k) =
      each_append IsFine (v ∷ wanted_of K more) (key_terms (λ (x : Key). option_or (beside K (entities_of K more) x) (beside L terms x)) M) (a, fine_take (length more - length K) more h)
      (key_terms_fine (λ (x : Key). option_or (beside K (entities_of K more) x) (beside L terms x))
      (λ x u e. either_fine (beside K (entities_of K more) x) (beside L terms x) u (λ y d. beside_fine K (entities_of K more) x y (fine_drop (length more - length K) more h) d) (λ y d. beside_fine L terms x y k d) e) M)

  -- ---- equations with one-constant sorts written out

  abbrev AreWritten : List Equation → Type 0
  AreWritten es = AllByRecursion (λ (e : Equation). IsWrittenOut sig e.0 × IsWrittenOut sig e.1) es

  pub evenly : (es : List Equation) → AreEven sig es → AreWritten es → AreEvenly sig es
  evenly [] h w = tt
  evenly (e ∷ es) (one, h) (two, w) = ((one, two.0, two.1), evenly es h w)

  picked_written : (o : Option Term) (f : Term → Equation) (es : List Equation) → ((u : Term) → o ≡ Some u → IsWrittenOut sig (f u).0 × IsWrittenOut sig (f u).1) → AreWritten es → AreWritten (pick (option_map f o) es)
  picked_written None f es one more = more
  picked_written (Some u) f es one more = (one u refl, more)

  keys_written : (L : List Key) (terms : List Term) (ks : List Key) (ts : List Term) → AreFine terms → AreFine ts → AreWritten (key_equations (beside L terms) ks ts)
  keys_written L terms [] ts h k = tt
  keys_written L terms (x ∷ ks) [] h k = tt
  keys_written L terms (x ∷ ks) (t ∷ ts) h (p, k) =
      picked_written (beside L terms x) (λ (u : Term). (t, u)) (key_equations (beside L terms) ks ts) (λ u e. (p.1, (beside_fine L terms x u h e).1)) (keys_written L terms ks ts h k)

  pub pair_written : (K L M : List Key) (left right : List Term) → AreFine left → AreFine right → AreWritten (pair_equations K L M left right)
  pair_written K L M [] right h k = tt
  pair_written K L M (v ∷ []) right h k = tt
  pair_written K L M (v ∷ w ∷ more) [] h k = tt
  pair_written K L M (v ∷ w ∷ more) (own ∷ terms) (a, (b, h)) (c, k) = ((b.1, c.1), keys_written L terms K (entities_of K more) k (fine_drop (length more - length K) more h))

  pub own_written : (ns : List Key) (us : List Term) (ks : List Key) (ts : List Term) → AreFine us → AreFine ts → AreWritten (own_equations ns us ks ts)
  own_written ns us [] ts h k = tt
  own_written ns us (x ∷ ks) [] h k = tt
  own_written ns us (x ∷ ks) (t ∷ ts) h (p, k) =
      picked_written (beside ns us x) (λ (u : Term). (u, t)) (own_equations (ns ++ x ∷ []) (us ++ t ∷ []) ks ts) (λ u e. ((beside_fine ns us x u h e).1, p.1))
      (own_written (ns ++ x ∷ []) (us ++ t ∷ []) ks ts (each_append IsFine us (t ∷ []) h (p, tt)) k)

  -- ---- a case

  solved_after : (f g : Substitution) (es : List Equation) → SolvesAll g es → SolvesAll (after f g) es
  solved_after f g [] h = tt
  solved_after f g (e ∷ es) (one, h) = (substitute-after f g e.0 ∙ ap (substitute f) one ∙ sym (substitute-after f g e.1), solved_after f g es h)

  at_place : (rows : List (List Term)) (row : List Term) → IsIn row rows → (i : ℕ) × (slice_get rows i ≡ Some row)
  at_place [] row x = elim x [ ]
  at_place (x ∷ rows) row first = (0, refl)
  at_place (x ∷ rows) row (later i) = let (k, e) = at_place rows row i in (suc k, e)

  -- Where each solution of the equations without variables makes columns that are possible for one choice, the columns
  -- under the bindings are an instance of a row.
  pub coverable : IsSound sig → (sorts : List ℕ) {C : Type 0} (Possible : C → List Term → Type 0) (rows : List (List Term)) → IsRelation sig sorts Possible rows → (given : List Equation) (columns : List Term) → AreEvenly sig given → AreFine columns
      → (c : C) → ((h : Substitution) → IsGrounding sig h → SolvesAll h given → Possible c (map (substitute h) columns)) → IsCoverable rows given columns
  coverable sound sorts Possible rows rel given columns even fine c all bs solving =
      let s = solver sig given bs None refl solving even in
      let put = fine_put (by_all bs) s.sorted s.written columns fine in
      let (ss, sorted) = fine_sorts (map (substitute (by_all bs)) columns) put in
      let (general, among, instance) = general_in sound sorts ss Possible rows rel (map (substitute (by_all bs)) columns) sorted (fine_written (map (substitute (by_all bs)) columns) put) c
      (λ f ground. subst (Possible c) (map-substitute-after f (by_all bs) columns) (all (after f (by_all bs)) (grounding-after sig f (by_all bs) ground s.sorted) (solved_after f (by_all bs) given s.solves))) in
      let (i, there) = at_place rows general among in
      (i, general, there, subst (λ (l : List Term). IsInstance l general) (sym (put_all_by bs columns)) instance)
