-- How many evaluations were counted.
use Rattle.std.proofs.Common.{Bool, ◌≡◌, inl, ℕ, ◌+◌, ◌≤◌, Some, None, refl, ap, ◌∙◌, subst, arith}
use Rattle.psg_terms.specs.Names.{Name}
use Rattle.psg_grammar.specs.declared.types.Kind.{Kind}
use Rattle.psg_grammar.specs.declared.types.Kind.TheVariants as kinds
use Rattle.psg_grammar.specs.declared.types.Definition.{Definition}
use Rattle.psg_grammar.specs.Fragments.{Fragment, hole, ending, cell, operator, with_child, with_name, with_number, with_text, anything, observed}
use Rattle.psg_grammar.specs.Insertion.{blank}
use Rattle.psg_grammar.specs.Paths.{ended}
use Rattle.psg_grammar.specs.Work.{work_of}
use Rattle.psg_script.specs.declared.command.Command.{Command}
use Rattle.psg_script.specs.declared.command.Command.TheVariants.{New, Goto, Refine, Insert, Cut, Remove, Close, Reopen, Over, Range, Show, Screen, Relation, Own, Menu, Names, Free, Undo, Redo, Save, Paste, Keep, Fetch}
use Rattle.psg_session.specs.PlainState.{State}
use Rattle.psg_session.specs.Ticks.{HasTicked, MayTick}

pub ended_work : (u : Bool) (f : Fragment) → work_of (ended u f) ≡ work_of f
ended_work u (hole p) = refl
ended_work u (ending l v) = refl
ended_work u (cell l e r) = ap (λ n. work_of e + n + 1) (ended_work u r)
ended_work u (operator o) = refl
ended_work u (with_child f t) = refl
ended_work u (with_name f n) = refl
ended_work u (with_number f n) = refl
ended_work u (with_text f t) = refl
ended_work u anything = refl
ended_work u (observed f) = refl

pub blank_work : (def : Definition) (kind : Kind) → work_of (blank def kind) ≡ 1
blank_work def (kinds.Phylum p) = refl
blank_work def (kinds.List l) = refl

module _ (def : Definition) (s : State) where
  none_taken : (command : Command) → MayTick def s command 0
  none_taken (New name) = omega arith
  none_taken (Refine place name args) = inl refl
  none_taken (Insert place k name args) = inl refl
  none_taken (Cut place) = inl refl
  none_taken (Remove place k) = inl refl
  none_taken (Close place) = inl refl
  none_taken (Reopen place) = inl refl
  none_taken (Own place) = refl
  none_taken Show = refl
  none_taken Free = refl
  none_taken (Goto place) = refl
  none_taken (Over place text) = inl refl
  none_taken (Range start end text) = inl refl
  none_taken (Screen top left rows cols) = refl
  none_taken (Relation place) = inl refl
  none_taken (Menu place k) = inl refl
  none_taken (Names place k name) = inl refl
  none_taken Undo = refl
  none_taken Redo = refl
  none_taken (Save name place) = refl
  none_taken (Paste place None name) = inl refl
  none_taken (Paste place (Some k) name) = inl refl
  none_taken (Keep name file) = refl
  none_taken (Fetch file) = refl

  -- nothing was counted
  pub quiet : (command : Command) (from to : ℕ) → to ≡ from → HasTicked def s command from to
  quiet command from to same = record { taken = 0; counted = omega (arith, same); within = none_taken command }

  -- a new fragment was evaluated
  pub new_counted : (name : Name) (kind : Kind) (tree : Fragment) → tree ≡ blank def kind → (from to : ℕ)
      → to ≤ from + work_of tree → HasTicked def s (New name) from to
  new_counted name kind tree is from to h = record {
    taken = 1;
    counted = subst (λ n. to ≤ from + n) (ap work_of is ∙ blank_work def kind) h;
    within = omega arith;
  }
