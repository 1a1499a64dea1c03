-- Words on what a step back or forward hands out.
use Rattle.psg_history.specs.declared.undone.Undone.{Undone}
use Rattle.psg_history.specs.declared.undone.Undone.TheVariants.{Moved, Nothing}

module _ {T : Type 0} where
  -- There was nothing to step to.
  abbrev pub IsNothing : Undone T → Type 0
  IsNothing (Moved _) = ⊥
  IsNothing (Nothing _) = Unit {0}

  -- If the step was made, this holds of the value that became current.
  abbrev pub IfMoved : Undone T → (T → Type 0) → Type 0
  IfMoved (Moved value) P = P value
  IfMoved (Nothing _) P = Unit {0}

  -- If there was nothing to step to, this holds of the value that is given back.
  abbrev pub IfNothing : Undone T → (T → Type 0) → Type 0
  IfNothing (Moved _) P = Unit {0}
  IfNothing (Nothing value) P = P value
