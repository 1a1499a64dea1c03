-- How a tree is judged by its note, or by the fault in its place.
use Rattle.std.proofs.Common.{◌≡◌, inl, inr, ℕ, zero, suc, List, [], ◌∷◌, Some, slice_get, Result, Ok, Err, IfOk, IfErr, refl, sym, subst}
use Rattle.std.proofs.lemmas.Option.{none-some}
use Rattle.psg_terms.specs.Relations.{IsIn, first, later}
use Rattle.psg_grammar.specs.declared.types.Definition.{Definition}
use Rattle.psg_grammar.specs.Fragments.{Fragment}
use Rattle.psg_grammar.specs.Marks.{IsMark}
use Rattle.psg_grammar.specs.Paths.{Path}
use Rattle.psg_grammar.specs.Steps.{IsWide, IsFirstWide, Place, steps_of}
use Rattle.psg_cache.specs.Blames.{culprits_in}
use Rattle.psg_cache.specs.Notes.{IsFormed, IsNoteOf, IsNoteFault, mark_by}
use Rattle.psg_cache.proofs.MarkLaws.{marked}
use Rattle.psg_cache.proofs.NoteLaws.{noted_known}
use Rattle.psg_eval.specs.Summaries.{IsSummaryOf}
use Rattle.psg_cache.specs.Annotated.{Annotated, whole_in}
use Rattle.psg_cache.specs.declared.note.NoteFault.{NoteFault}
use Rattle.psg_cache.specs.declared.note.NoteFault.TheVariants as faults
use Rattle.psg_session.specs.declared.judging.Trial.{Trial}
use Rattle.psg_session.specs.declared.judging.Trial.TheVariants.{Opens, Grows, Types, Closes, Loosens}
use Rattle.psg_session.specs.declared.refusal.Refusal.{Refusal}
use Rattle.psg_session.specs.declared.refusal.Refusal.TheVariants.{Inadmissible}
use Rattle.psg_session.specs.Good.{IsGoodIn}
use Rattle.psg_session.specs.Outcomes.{IsJudged, IsNoted, MustBeGood, tree_tests}
use Rattle.psg_session.specs.Refusals.{Refuses, Passes}
use Rattle.psg_session.specs.Shrinking.{IsSmallFor}
use Rattle.psg_session.specs.Stops.{stop_of_note}

-- the summary of a note's tree
pub root_is : (def : Definition) (f : Fragment) (note : Annotated) → IsNoteOf def f note → IsSummaryOf def f (whole_in note)
root_is def f note noted =
    subst (λ x. IsSummaryOf def x (whole_in note)) noted.tree
    (noted_known def note noted.noted (subst (IsFormed def) (sym noted.tree) noted.formed)).0

-- and its mark
pub mark_is : (def : Definition) (f : Fragment) (note : Annotated) → IsNoteOf def f note → IsMark def f (mark_by (culprits_in note))
mark_is def f note noted = marked note (culprits_in note) refl def f noted

pub noted_by : (def : Definition) (f : Fragment) (r : Result Annotated NoteFault) → IfOk r (IsNoteOf def f)
    → IfErr r (IsNoteFault def f) → IsNoted def f r
noted_by def f (Ok note) is never = is
noted_by def f (Err fault) never is = is

is_in_at : (xs : List Place) (k : ℕ) (x : Place) → slice_get xs k ≡ Some x → IsIn x xs
is_in_at [] k x e = absurd (none-some x e)
is_in_at (y ∷ xs) zero x e = let same : y ≡ x = cc in subst (λ z. IsIn x (z ∷ xs)) (sym same) first
is_in_at (y ∷ xs) (suc k) x e = later (is_in_at xs k x e)

first_is_wide : (def : Definition) (f : Fragment) (place : Place) → IsFirstWide def f place → IsWide def f
first_is_wide def f place h = (place, is_in_at (steps_of def [] f) h.number place h.found, h.passes)

abbrev pub Fails : Definition → Trial → Fragment → Refusal → Type 0
Fails def trial f r = Refuses (tree_tests def trial (λ P. P f)) r

-- a tree without a note
pub judged_fault : (def : Definition) (trial : Trial) (f : Fragment) (fault : NoteFault) → IsSmallFor def trial f
    → IsNoteFault def f fault → IsJudged def trial f (Err (stop_of_note fault))
judged_fault def Opens f faults.Deep small h = absurd (small.0 h)
judged_fault def Grows f faults.Deep small h = inl (h, refl)
judged_fault def Types f faults.Deep small h = inl (h, refl)
judged_fault def Closes f faults.Deep small h = absurd (small.0 h)
judged_fault def Loosens f faults.Deep small h = absurd (small.0 h)
judged_fault def Opens f faults.Big (low, few, wide) h = absurd (few h.1)
judged_fault def Grows f faults.Big small (shallow, h) = inr (shallow, inl (h, refl))
judged_fault def Types f faults.Big small (shallow, h) = inr (shallow, inl (h, refl))
judged_fault def Closes f faults.Big (low, few) h = absurd (few h.1)
judged_fault def Loosens f faults.Big (low, few) h = absurd (few h.1)
judged_fault def Opens f (faults.Wide at step) s (shallow, small, part, h) = inl (first_is_wide def f _ h, refl)
judged_fault def Grows f (faults.Wide at step) s (shallow, small, part, h) =
    inr (shallow, inr (small, inl (first_is_wide def f _ h, refl)))
judged_fault def Types f (faults.Wide at step) s (shallow, small, part, h) =
    inr (shallow, inr (small, inl (first_is_wide def f _ h, refl)))
judged_fault def Closes f (faults.Wide at step) s (shallow, small, part, h) = inl (first_is_wide def f _ h, refl)
judged_fault def Loosens f (faults.Wide at step) s (shallow, small, part, h) = inl (first_is_wide def f _ h, refl)
judged_fault def Opens f faults.Heavy (low, few, wide) (shallow, small, narrow, h) = absurd (narrow (wide h))
judged_fault def Grows f faults.Heavy s (shallow, small, narrow, h) =
    inr (shallow, inr (small, inr (narrow, inl (h, refl))))
judged_fault def Types f faults.Heavy s (shallow, small, narrow, h) =
    inr (shallow, inr (small, inr (narrow, inl (h, refl))))
judged_fault def Closes f faults.Heavy s (shallow, small, narrow, h) = inr (narrow, inl (h, refl))
judged_fault def Loosens f faults.Heavy s (shallow, small, narrow, h) = inr (narrow, inl (h, refl))
judged_fault def trial f faults.Memory small h = tt

module _ (def : Definition) (f : Fragment) (note : Annotated) (noted : IsNoteOf def f note) where
  not_good : (culprits_in note ≡ [] → ⊥) → IsGoodIn def f → ⊥
  not_good some = go (culprits_in note) some (mark_is def f note noted) where
    go : (paths : List Path) → (paths ≡ [] → ⊥) → IsMark def f (mark_by paths) → IsGoodIn def f → ⊥
    go [] some mark good = some refl
    go (p ∷ paths) some mark good = mark.0 good

  is_good : culprits_in note ≡ [] → IsGoodIn def f
  is_good none = subst (λ paths. IsMark def f (mark_by paths)) none (mark_is def f note noted)

  -- a tree that is not good, where it must be
  pub judged_inadmissible : (trial : Trial) → MustBeGood trial → (culprits_in note ≡ [] → ⊥) → Fails def trial f Inadmissible
  judged_inadmissible Opens must some = absurd must
  judged_inadmissible Grows must some =
      inr (
        noted.within.shallow,
        inr (
          noted.within.small,
          inr (
            noted.within.narrow,
            inr (noted.within.light, inl (not_good some, refl)),
          ),
        ),
      )
  judged_inadmissible Types must some = absurd must
  judged_inadmissible Closes must some =
      inr (noted.within.narrow, inr (noted.within.light, inl (not_good some, refl)))
  judged_inadmissible Loosens must some = absurd must

  -- a tree that passes its tests
  pub judged_right : (trial : Trial) → ((MustBeGood trial × (culprits_in note ≡ [] → ⊥)) → ⊥)
      → Passes (tree_tests def trial (λ P. P f))
  judged_right Opens never = (noted.within.narrow, tt)
  judged_right Grows never = (
    noted.within.shallow,
    (
      noted.within.small,
      (noted.within.narrow, (noted.within.light, ((λ bad. never (tt, λ none. bad (is_good none))), tt))),
    ),
  )
  judged_right Types never =
      (noted.within.shallow, (noted.within.small, (noted.within.narrow, (noted.within.light, tt))))
  judged_right Closes never =
      (noted.within.narrow, (noted.within.light, ((λ bad. never (tt, λ none. bad (is_good none))), tt)))
  judged_right Loosens never = (noted.within.narrow, (noted.within.light, tt))
