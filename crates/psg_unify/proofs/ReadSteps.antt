-- Steps of writing cells out with canonical numbers.
use Rattle.std.proofs.Common.{◌≡◌, ◌⊎◌, inl, inr, ℕ, zero, suc, ◌≤◌, ◌+◌, ◌==◌, Option, Some, None, List, [], ◌∷◌, ◌++◌, map, reverse, take, length, slice_get, All, refl, ap, ap₂, sym, ◌∙◌, subst, append-nil}
use Rattle.std.proofs.Math.ListN.{set}
use Rattle.std.proofs.lemmas.Bool.{eqb-true, eqb-false, cases_Bool}
use Rattle.std.proofs.lemmas.List.{reverse-reverse, take_all}
use Rattle.psg_terms.specs.Terms.{Term, variable, symbol, applied}
use Rattle.psg_terms.specs.Signature.{Signature, HaveSorts, only_constructor}
use Rattle.psg_terms.specs.Sound.{IsSound as IsSoundSignature}
use Rattle.psg_terms.specs.Instances.{substitute, HasSameInstances}
use Rattle.psg_terms.specs.Canonical.{Variable, variables, variables_of, noted, noted_all, IsCanonical}
use Rattle.psg_terms.specs.Renaming.{opens, open_first, written, place, numbering, AreKnown, Renumbered}
use Rattle.psg_terms.proofs.Applied.{applied-substitute}
use Rattle.psg_terms.proofs.Unique.{Each}
use Rattle.psg_terms.proofs.RenamingLaws.{Extends, extends_refl, extends-noted, IsAmong as IsAmongKnown, among-noted, numbering-extends}
use Rattle.psg_terms.proofs.Renumbering.{renumbered_canonical, renumbered_same}
use Rattle.psg_pool.specs.declared.cells.CellId.{CellId}
use Rattle.psg_pool.specs.declared.cells.Cell.TheVariants.{Free, Bound, Con}
use Rattle.psg_pool.specs.Cells.{IsAmong, arguments_of}
use Rattle.psg_pool.specs.Bindings.{Kept, IsSound, Holds}
use Rattle.psg_pool.proofs.Places.{slice_get-set_other}
use Rattle.psg_unify.specs.declared.walking.Item.{Item}
use Rattle.psg_unify.specs.declared.walking.Item.TheVariants.{Visit, Leave}
use Rattle.psg_unify.specs.Reading.{Reading, IsReading}
use Rattle.psg_unify.specs.Fitting.{Fits}
use Rattle.psg_unify.specs.Walking.{EndsWith}
use Rattle.psg_unify.specs.ReadOut.{AreWritten, IsWrittenAt, IsReadingOut, ReadsOn}
use Rattle.psg_unify.proofs.Laws.{read_by, has_reading}
use Rattle.psg_unify.proofs.SortsRead.{cells_have_sorts}
use Rattle.psg_unify.proofs.Rounds.{same_cell, take_next}
use Rattle.psg_unify.proofs.Steps.{visits, at_con, at_bound, at_known}

each_known : (known xs : List Variable) → AreKnown known xs → Each (IsAmongKnown known) xs
each_known known [] h = tt
each_known known (x ∷ xs) (p, h) = (p, each_known known xs h)

known_extends : (old new xs : List Variable) → Extends old new → AreKnown old xs → AreKnown new xs
known_extends old new [] e h = tt
known_extends old new (x ∷ xs) e (p, h) = (e.among x p, known_extends old new xs e h)

-- nothing is written in empty places
pub none_more : (old new : List (Option Term)) → new ≡ old ++ None ∷ [] → ((k : ℕ) (t : Term) → slice_get old k ≡ Some (Some t) → ⊥) → (k : ℕ) (t : Term) → slice_get new k ≡ Some (Some t) → ⊥
none_more old new e h k t g = behind old k h (ap (λ l. slice_get l k) (sym e) ∙ g) where
  behind : (xs : List (Option Term)) (k : ℕ) → ((k : ℕ) (t : Term) → slice_get xs k ≡ Some (Some t) → ⊥) → slice_get (xs ++ None ∷ []) k ≡ Some (Some t) → ⊥
  behind [] zero h g = cc
  behind [] (suc k) h g = cc
  behind (x ∷ xs) zero h g = h 0 t g
  behind (x ∷ xs) (suc k) h g = behind xs k (λ j u i. h (suc j) u i) g

-- at most the cell's term is new
abbrev pub IsNewAt : List (Option Term) → List (Option Term) → CellId → Term → Type 0
IsNewAt old new id t =
    (k : ℕ) (u : Term) → slice_get new k ≡ Some (Some u) → (slice_get old k ≡ Some (Some u)) ⊎ ((k ≡ id.0) × (u ≡ t))

kept_at : (old : List (Option Term)) (id : CellId) (t : Term) → IsNewAt old (set old id.0 (Some t)) id t
kept_at old id t k u g = elim (cases_Bool (k == id.0)) [
  | inl e ↦ (let same : k ≡ id.0 = eqb-true k id.0 e in inr (same, here old k (ap (λ j. slice_get (set old j (Some t)) k) same ∙ g)))
  | inr f ↦ inl (sym (slice_get-set_other old k id.0 (Some t) (eqb-false k id.0 f)) ∙ g)
] where
  here : (xs : List (Option Term)) (k : ℕ) → slice_get (set xs k (Some t)) k ≡ Some (Some u) → u ≡ t
  here [] k g = cc
  here (x ∷ xs) zero g = cc
  here (x ∷ xs) (suc k) g = here xs k g

-- what was kept is there, and the rest is as it was
pub new_at : (old new : List (Option Term)) (id : CellId) (t : Term) → new ≡ set old id.0 (Some t) → IsNewAt old new id t
new_at old new id t e = subst (λ (w : List (Option Term)). IsNewAt old w id t) (sym e) (kept_at old id t)

-- one term more
pub written_more : (w : List (Option Term)) (ids : List CellId) (old new : List Term) (k : ℕ) (id : CellId) (t : Term) → slice_get ids k ≡ Some id → slice_get w id.0 ≡ Some (Some t) → new ≡ old ++ t ∷ []
    → AreWritten w (take k ids) old → AreWritten w (take (k + 1) ids) new
written_more w ids old new k id t at e d h = subst (λ l. AreWritten w l new) (sym (take_next ids k id at)) (subst (AreWritten w (take k ids ++ id ∷ [])) (sym d) (behind (take k ids) old h)) where
  behind : (xs : List CellId) (ts : List Term) → AreWritten w xs ts → AreWritten w (xs ++ id ∷ []) (ts ++ t ∷ [])
  behind [] [] h = (e, tt)
  behind [] (u ∷ ts) h = absurd h
  behind (x ∷ xs) [] h = absurd h
  behind (x ∷ xs) (u ∷ ts) (p, h) = (p, behind xs ts h)

pub written_whole : (w : List (Option Term)) (ids : List CellId) (terms : List Term) (k : ℕ) → length ids ≤ k → AreWritten w (take k ids) terms → AreWritten w ids terms
written_whole w ids terms k l h = subst (λ x. AreWritten w x terms) (take_all k ids l) h

pub written_none : (w : List (Option Term)) (ids : List CellId) (terms : List Term) → terms ≡ [] → AreWritten w (take 0 ids) terms
written_none w ids terms e = subst (AreWritten w []) (sym e) tt

module _ (sig : Signature) (kept : Kept) where
  right_extends : (read : Reading) (k0 k1 : List Variable) → Extends k0 k1 → (id : CellId) (t : Term) → IsWrittenAt sig read k0 id t → IsWrittenAt sig read k1 id t
  right_extends read k0 k1 e id t (m, a) = (
    m ∙ sym (numbering-extends sig 0 k0 k1 e (read id) (each_known k0 (opens sig (variables (read id))) a)),
    known_extends k0 k1 (opens sig (variables (read id))) e a,
  )

  -- a cell's term was kept
  keeps : (read : Reading) (k0 k1 : List Variable) (w0 w1 : List (Option Term)) (id : CellId) (t : Term) (rest : List Item) (final : List Variable) → Extends k0 k1 → IsNewAt w0 w1 id t
      → EndsWith sig read k1 rest final → IsWrittenAt sig read k1 id t → ((x : CellId) (u : Term) → slice_get w0 x.0 ≡ Some (Some u) → IsWrittenAt sig read k0 x u) → IsReadingOut sig read k1 w1 rest final
  keeps read k0 k1 w0 w1 id t rest final e k ends own before = record {
    ends = ends;
    right = λ x u g. elim (k x.0 u g) [
      | inl old ↦ right_extends read k0 k1 e x u (before x u old)
      | inr new ↦ subst (λ y. IsWrittenAt sig read k1 y u) (sym (same_cell x id new.0)) (subst (IsWrittenAt sig read k1 id) (sym new.1) own)
    ];
  }

  -- an open cell that is a variable
  pub reads_open : (k0 k1 : List Variable) (w0 w1 : List (Option Term)) (id : CellId) (s number fresh : ℕ) (t : Term) (rest : List Item) → Holds kept id (Free s) → only_constructor sig s ≡ None → number ≡ id.0 + 1
      → k1 ≡ noted k0 (s, number) → fresh ≡ 0 + place (s, number) k1 + 1 → t ≡ variable s fresh → IsNewAt w0 w1 id t → ReadsOn sig kept k0 k1 w0 w1 (Visit id ∷ rest) rest
  reads_open k0 k1 w0 w1 id s number fresh t rest holds o n k f m h read r final i =
      let is : read id ≡ variable s number = r.open_cell id s holds.0 holds.1 ∙ ap (variable s) (sym n) in
      let one : opens sig (variables (read id)) ≡ (s, number) ∷ [] = ap (λ x. opens sig (variables x)) is ∙ ap (λ p. open_first p (s, number) []) o in
      let known : noted_all k0 (opens sig (variables (read id))) ≡ k1 = ap (noted_all k0) one ∙ sym k in
      keeps read k0 k1 w0 w1 id t rest final (subst (Extends k0) (sym k) (extends-noted k0 (s, number))) h
      (subst (λ l. EndsWith sig read l rest final) known i.ends) (
        m ∙ ap (variable s) f ∙ sym (ap (λ p. written p (variable s (0 + place (s, number) k1 + 1))) o) ∙ sym (ap (substitute (numbering sig 0 k1)) is),
        subst (AreKnown k1) (sym one) (subst (λ l. AreKnown l ((s, number) ∷ [])) (sym k) (among-noted k0 (s, number), tt)),
      )
      i.right

  -- an open cell of a sort that is one constant
  pub reads_constant : (known : List Variable) (w0 w1 : List (Option Term)) (id : CellId) (s c : ℕ) (t : Term) (rest : List Item) → Holds kept id (Free s) → only_constructor sig s ≡ Some c → t ≡ symbol c → IsNewAt w0 w1 id t
      → ReadsOn sig kept known known w0 w1 (Visit id ∷ rest) rest
  reads_constant known w0 w1 id s c t rest holds o m h read r final i =
      let is : read id ≡ variable s (id.0 + 1) = r.open_cell id s holds.0 holds.1 in
      let none : opens sig (variables (read id)) ≡ [] = ap (λ x. opens sig (variables x)) is ∙ ap (λ p. open_first p (s, id.0 + 1) []) o in
      keeps read known known w0 w1 id t rest final (extends_refl known) h
      (subst (λ l. EndsWith sig read l rest final) (ap (noted_all known) none) i.ends) (
        m ∙ sym (ap (λ p. written p (variable s (0 + place (s, id.0 + 1) known + 1))) o) ∙ sym (ap (substitute (numbering sig 0 known)) is),
        subst (AreKnown known) (sym none) tt,
      )
      i.right

  -- a cell that was written
  pub reads_known : (known : List Variable) (w : List (Option Term)) (id : CellId) (rest : List Item) → ((t : Term) × (slice_get w id.0 ≡ Some (Some t))) → ReadsOn sig kept known known w w (Visit id ∷ rest) rest
  reads_known known w id rest there read r final i = record {
    ends = at_known sig read known id rest final (i.right id there.0 there.1).1 i.ends;
    right = i.right;
  }

  pub reads_bound : (known : List Variable) (w : List (Option Term)) (id to : CellId) (rest : List Item) → Holds kept id (Bound to) → ReadsOn sig kept known known w w (Visit id ∷ rest) (Visit to ∷ Leave id ∷ rest)
  reads_bound known w id to rest holds read r final i = record {
    ends = at_bound sig read known id to rest final (r.bound_cell id to holds.1) i.ends;
    right = i.right;
  }

  pub reads_con : (known : List Variable) (w : List (Option Term)) (id : CellId) (c n : ℕ) (rest : List Item) → Holds kept id (Con c n)
      → ReadsOn sig kept known known w w (Visit id ∷ rest) (map (λ (a : CellId). Visit a) (arguments_of kept.cells id) ++ Leave id ∷ rest)
  reads_con known w id c n rest holds read r final i = record {
    ends = at_con sig read known id c (arguments_of kept.cells id) rest final (r.con_cell id c (arguments_of kept.cells id) holds.0) i.ends;
    right = i.right;
  }

  -- a bound cell is left
  pub leaves_bound : (known : List Variable) (w0 w1 : List (Option Term)) (id to : CellId) (t : Term) (rest : List Item) → Holds kept id (Bound to) → slice_get w0 to.0 ≡ Some (Some t) → IsNewAt w0 w1 id t
      → ReadsOn sig kept known known w0 w1 (Leave id ∷ rest) rest
  leaves_bound known w0 w1 id to t rest holds at h read r final i =
      keeps read known known w0 w1 id t rest final (extends_refl known) h i.ends.1
      ((i.right to t at).0 ∙ sym (ap (substitute (numbering sig 0 known)) (r.bound_cell id to holds.1)), i.ends.0) i.right

  -- the terms of several cells
  all_right : (read : Reading) (known : List Variable) (w : List (Option Term)) → ((x : CellId) (u : Term) → slice_get w x.0 ≡ Some (Some u) → IsWrittenAt sig read known x u)
      → (ids : List CellId) (terms : List Term) → AreWritten w ids terms → terms ≡ map (substitute (numbering sig 0 known)) (map read ids)
  all_right read known w h [] [] a = refl
  all_right read known w h [] (t ∷ terms) a = absurd a
  all_right read known w h (x ∷ ids) [] a = absurd a
  all_right read known w h (x ∷ ids) (t ∷ terms) (e, a) = ap₂ (λ y ys. y ∷ ys) (h x t e).0 (all_right read known w h ids terms a)

  -- a constructor cell is left
  pub leaves_con : (known : List Variable) (w0 w1 : List (Option Term)) (id : CellId) (c n : ℕ) (parts : List Term) (t : Term) (rest : List Item) → Holds kept id (Con c n) → AreWritten w0 (arguments_of kept.cells id) parts
      → t ≡ applied (symbol c) parts → IsNewAt w0 w1 id t → ReadsOn sig kept known known w0 w1 (Leave id ∷ rest) rest
  leaves_con known w0 w1 id c n parts t rest holds a m h read r final i =
      keeps read known known w0 w1 id t rest final (extends_refl known) h i.ends.1 (
        m ∙ ap (applied (symbol c)) (all_right read known w0 i.right (arguments_of kept.cells id) parts a)
            ∙ sym (applied-substitute (numbering sig 0 known) (symbol c) (map read (arguments_of kept.cells id)))
            ∙ sym (ap (substitute (numbering sig 0 known)) (r.con_cell id c (arguments_of kept.cells id) holds.0)),
        i.ends.0,
      ) i.right

  -- nothing was done yet
  pub reads_begin : (known after : List Variable) (w : List (Option Term)) (stack : List Item) → ReadsOn sig kept known known w w stack stack
  reads_begin known after w stack read r final i = i

  pub reads_both : (k0 k1 k2 : List Variable) (w0 w1 w2 : List (Option Term)) (s0 s1 s2 : List Item) → ReadsOn sig kept k0 k1 w0 w1 s0 s1 → ReadsOn sig kept k1 k2 w1 w2 s1 s2 → ReadsOn sig kept k0 k2 w0 w2 s0 s2
  reads_both k0 k1 k2 w0 w1 w2 s0 s1 s2 p q read r final i = q read r final (p read r final i)

  module _ (signature : IsSoundSignature sig) (sound : IsSound kept) (fits : Fits sig kept) (cells : List CellId) (known after : List Variable) (w0 w1 : List (Option Term)) (stack : List Item) (row : List Term)
      (k : known ≡ []) (n : (k : ℕ) (t : Term) → slice_get w0 k ≡ Some (Some t) → ⊥) (s : stack ≡ reverse (map (λ (a : CellId). Visit a) cells))
      (on : ReadsOn sig kept known after w0 w1 (reverse stack) []) (a : AreWritten w1 cells row) where
    read_whole : (read : Reading) → IsReading kept read → Renumbered sig 0 [] after (map read cells) row
    read_whole read r =
        let final : List Variable = noted_all [] (opens sig (variables_of (map read cells))) in
        let is : reverse stack ≡ map (λ (a : CellId). Visit a) cells ++ [] = ap reverse s ∙ reverse-reverse (map (λ (a : CellId). Visit a) cells) ∙ sym (append-nil (map (λ (a : CellId). Visit a) cells)) in
        let i = on read r final (record {
          ends = subst (λ l. EndsWith sig read known l final) (sym is) (subst (λ l. EndsWith sig read l (map (λ (a : CellId). Visit a) cells ++ []) final) (sym k) (visits sig read [] cells [] final refl));
          right = λ x u g. absurd (n x.0 u g);
        }) in
        record { known = i.ends; made = all_right read after w1 i.right cells row a }

    pub read_canonical : IsCanonical sig row
    read_canonical =
        let read = read_by kept fits.height fits.falls in
        renumbered_canonical sig signature after (map read cells) row (read_whole read (has_reading kept fits.height fits.falls sound))

    pub read_same : (read : Reading) → All (IsAmong kept.cells) cells → IsReading kept read → HasSameInstances sig row (map read cells)
    read_same read i r =
        let ss = cells_have_sorts sig kept sound fits read r cells i in
        let both = renumbered_same sig signature 0 [] after (map read cells) row ss.0 ss.1 (read_whole read r) in
        (both.1, both.0)

    pub read_sorted : (read : Reading) → IsReading kept read → (ss : List ℕ) → HaveSorts sig (map read cells) ss → HaveSorts sig row ss
    read_sorted read r ss h = (renumbered_same sig signature 0 [] after (map read cells) row ss h (read_whole read r)).2

pub none_at_all : (w : List (Option Term)) → w ≡ [] → (k : ℕ) (t : Term) → slice_get w k ≡ Some (Some t) → ⊥
none_at_all w e k t g = let none : None ≡ Some (Some t) = ap (λ l. slice_get l k) (sym e) ∙ g in cc
