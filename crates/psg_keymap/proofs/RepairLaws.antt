-- What is found of a program, step by step.
use Rattle.std.proofs.Common.{◌≡◌, inr, false, true≢false, ℕ, ◌+◌, ◌*◌, ◌^◌, ◌≤◌, Option, Some, None, sym, subst, arith}
use Rattle.psg_grammar.specs.declared.types.Definition.{Definition}
use Rattle.psg_grammar.specs.Fragments.{Fragment}
use Rattle.psg_grammar.specs.Legal.{IsCompletable}
use Rattle.psg_grammar.specs.Work.{work_of}
use Rattle.psg_cache.specs.Notes.{IsFormed, IsNoteFault}
use Rattle.psg_cache.specs.declared.note.NoteFault.{NoteFault}
use Rattle.psg_cache.specs.declared.note.NoteFault.TheVariants as notes
use Rattle.psg_places.specs.declared.fault.BlameFault.{BlameFault}
use Rattle.psg_places.specs.declared.fault.BlameFault.TheVariants as blames
use Rattle.psg_places.specs.declared.blaming.Blamed.{Blamed}
use Rattle.psg_places.specs.Answers.{IsBlame, IsBlameFault, IsFound, IsOfTree, trials_work}
use Rattle.psg_places.specs.Blame.{kept_in, most_blamed}
use Rattle.psg_places.specs.NewNames.{new_name}
use Rattle.psg_places.specs.Places.{place_count}
use Rattle.psg_places.proofs.WorkLaws.{one_trial, opened_work}
use Rattle.psg_keymap.specs.Repairs.{IsBlamed, IsNoteIn, is_memory, is_out, limited, none_left}

pub blamed_is : (def : Definition) (f : Fragment) (o : Option Blamed) → IsBlame (IsCompletable def) def f o
    → IsBlamed def f o
blamed_is def f None h = none_left h
blamed_is def f (Some b) h = h

module _ (def : Definition) (f : Fragment) (found : Blamed) (h : IsFound (IsCompletable def) def f found) where
  pub no_more_work : work_of found.repaired ≤ work_of f
  no_more_work =
      subst (λ t. work_of t ≤ work_of f) (sym h.repaired)
      (opened_work def (kept_in found.kept) (new_name found.names) f)

  pub formed_repaired : IsFormed def f → IsFormed def found.repaired
  formed_repaired w = (w.0, h.formed w.0 w.1)

pub by_limit : (def : Definition) (f : Fragment) (fault : BlameFault) → is_memory fault ≡ false
    → IsBlameFault def f fault → IsBlamed def f None
by_limit def f (blames.Limit kept fault) e h = limited kept.items fault h
by_limit def f blames.Memory e h = absurd (true≢false e)

real : (fault : NoteFault) → is_out fault ≡ false → IsOfTree fault
real notes.Deep e = tt
real notes.Big e = tt
real (notes.Wide path step) e = tt
real notes.Heavy e = tt
real notes.Memory e = absurd (true≢false e)

pub no_note : (def : Definition) (f : Fragment) (blamed : ℕ) (fault : NoteFault) → is_out fault ≡ false
    → IsNoteFault def f fault → IsNoteIn def blamed f None
no_note def f blamed fault e h = inr (fault, (h, real fault e))

-- ---- ticks

module _ (old mid : ℕ) (most w : ℕ) (first : mid ≤ old + trials_work (2 + most) w) where
  one_more : trials_work (3 + most) w ≡ w + trials_work (2 + most) w
  one_more = one_trial (2 + most) (3 + most) w (omega arith)

  pub all_ticks : (new : ℕ) → new ≤ mid + w → new ≤ old + trials_work (3 + most) w
  all_ticks new le = let e = one_more in omega (arith, first, le, e)

  pub first_ticks : mid ≤ old + trials_work (3 + most) w
  first_ticks = let e = one_more in omega (arith, first, e)

pub ticks_in : (a b : Definition) (f : Fragment) (old new : ℕ) → a ≡ b
    → ((h : ℕ) → place_count a f ≤ 2 ^ h → new ≤ old + trials_work (3 + most_blamed * (1 + h)) (work_of f))
    → (h : ℕ) → place_count b f ≤ 2 ^ h → new ≤ old + trials_work (3 + most_blamed * (1 + h)) (work_of f)
ticks_in a b f old new e g =
    subst (λ d. (h : ℕ) → place_count d f ≤ 2 ^ h → new ≤ old + trials_work (3 + most_blamed * (1 + h)) (work_of f)) e g
