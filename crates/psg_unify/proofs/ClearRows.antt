-- What cells read as, with sorts that are one constant written out.
use Rattle.std.proofs.Common.{◌≡◌, ◌↔◌, ℕ, Bool, IsTrue, Option, Some, None, List, [], ◌∷◌, map, refl, ap, sym, ◌∙◌, subst}
use Rattle.psg_terms.specs.Terms.{Term, variable, symbol, apply, applied}
use Rattle.psg_terms.specs.Signature.{Signature, HasSort, HaveSorts, only_constructor}
use Rattle.psg_terms.specs.Sound.{IsSound}
use Rattle.psg_terms.specs.Instances.{Substitution, substitute, IsInstance, IsSorted, IsGrounding, AllGroundInstancesIn}
use Rattle.psg_terms.specs.Canonical.{Variable, variables_of, IsWrittenOut, AreWrittenOut}
use Rattle.psg_terms.specs.Renaming.{written}
use Rattle.psg_terms.proofs.Applied.{applied-substitute}
use Rattle.psg_terms.proofs.InstanceLaws.{after, map-substitute-after, instance-ground}
use Rattle.psg_terms.proofs.OneConstant.{one_constant}
use Rattle.psg_terms.proofs.Renumbering.{HaveSorts-substitute, AgreeAt, agree_in}
use Rattle.psg_terms.proofs.Unique.{each-map, IsOfSort, all_of_sort}
use Rattle.psg_terms.proofs.Exact.{answer_exact}
use Rattle.psg_pool.specs.declared.cells.CellId.{CellId}
use Rattle.psg_pool.specs.Bindings.{Kept}
use Rattle.psg_unify.specs.Reading.{Reading, IsReading}
use Rattle.psg_unify.specs.Numbering.{IsClearReading}

-- the constants of one-constant sorts in place of their variables
abbrev pub cleared : Signature → Substitution
cleared sig s n = written (only_constructor sig s) (variable s n)

abbrev pub clear : Signature → Reading → Reading
clear sig read id = substitute (cleared sig) (read id)

map-clear : (sig : Signature) (read : Reading) (ids : List CellId) → map (substitute (cleared sig)) (map read ids) ≡ map (clear sig read) ids
map-clear sig read [] = refl
map-clear sig read (x ∷ ids) = ap (λ l. clear sig read x ∷ l) (map-clear sig read ids)

pub clear_reading : (sig : Signature) (kept : Kept) (read : Reading) → IsReading kept read → IsClearReading sig kept (clear sig read)
clear_reading sig kept read r = record {
  open_cell = λ id s e n. ap (substitute (cleared sig)) (r.open_cell id s e n);
  bound_cell = λ id to e. ap (substitute (cleared sig)) (r.bound_cell id to e);
  con_cell = λ id c args e.
      ap (substitute (cleared sig)) (r.con_cell id c args e) ∙ applied-substitute (cleared sig) (symbol c) (map read args) ∙ ap (applied (symbol c)) (map-clear sig read args);
}

cleared-variable : (sig : Signature) (s n : ℕ) (o : Option ℕ) → only_constructor sig s ≡ o → IsWrittenOut sig (written o (variable s n))
cleared-variable sig s n None e = e
cleared-variable sig s n (Some c) e = tt

cleared-written : (sig : Signature) (t : Term) → IsWrittenOut sig (substitute (cleared sig) t)
cleared-written sig (variable s n) = cleared-variable sig s n (only_constructor sig s) refl
cleared-written sig (symbol c) = tt
cleared-written sig (apply f a) = (cleared-written sig f, cleared-written sig a)

all-written : (sig : Signature) (row : List Term) → AreWrittenOut sig (map (substitute (cleared sig)) row)
all-written sig [] = tt
all-written sig (t ∷ row) = (cleared-written sig t, all-written sig row)

cleared-sorted : (sig : Signature) → IsSound sig → IsSorted sig (cleared sig)
cleared-sorted sig sound s n lt =
    elim (only_constructor sig s) as (λ o. only_constructor sig s ≡ o → HasSort sig (written o (variable s n)) s) [
      | None ↦ λ e. (lt, refl, refl)
      | Some c ↦ λ e. sound.constant s c lt e
    ] refl

-- a grounding has the constants already
grounds-cleared : (sig : Signature) → IsSound sig → (f : Substitution) → IsGrounding sig f → (x : Variable) → IsOfSort sig x → AgreeAt f (after f (cleared sig)) x
grounds-cleared sig sound f g x lt =
    elim (only_constructor sig x.0) as (λ o. only_constructor sig x.0 ≡ o → f x.0 x.1 ≡ substitute f (written o (variable x.0 x.1))) [
      | None ↦ λ e. refl
      | Some c ↦ λ e. one_constant sig sound x.0 c (f x.0 x.1) lt e (g.variable_free x.0 x.1 lt) (g.sorted x.0 x.1 lt)
    ] refl

ground_cleared : (sig : Signature) → IsSound sig → (row : List Term) (ss : List ℕ) → HaveSorts sig row ss → AllGroundInstancesIn sig row (map (substitute (cleared sig)) row)
ground_cleared sig sound row ss h values (f, g, e) = (
  f,
  g,
  e ∙ agree_in f (after f (cleared sig)) row (each-map (IsOfSort sig) (AgreeAt f (after f (cleared sig))) (grounds-cleared sig sound f g) (variables_of row) (all_of_sort sig row ss h))
      ∙ map-substitute-after f (cleared sig) row,
)

-- An answer on what the cells read as, with constants written out, is one on the ground instances.
pub covers_exact : (sig : Signature) → IsSound sig → (kept : Kept) (read : Reading) → IsReading kept read → (ids : List CellId) (general : List Term) (ss : List ℕ) (b : Bool)
    → ((clear : Reading) → IsClearReading sig kept clear → IsTrue b ↔ IsInstance (map clear ids) general)
    → HaveSorts sig (map read ids) ss → HaveSorts sig general ss → IsTrue b ↔ AllGroundInstancesIn sig (map read ids) general
covers_exact sig sound kept read r ids general ss b h hs hg =
    let row : List Term = map read ids in
    let clears : List Term = map (substitute (cleared sig)) row in
    let answer : IsTrue b ↔ IsInstance clears general = subst (λ l. IsTrue b ↔ IsInstance l general) (sym (map-clear sig read ids)) (h (clear sig read) (clear_reading sig kept read r)) in
    let sorted = cleared-sorted sig sound in
    let both = answer_exact sig sound general clears ss b answer (HaveSorts-substitute sig (cleared sig) sorted row ss hs) hg (all-written sig row) in
    let to = ground_cleared sig sound row ss hs in
    let back = instance-ground sig (cleared sig) row sorted in (
      λ t values i. both.0 t values (to values i),
      λ a. both.1 (λ values i. a values (back values i)),
    )
