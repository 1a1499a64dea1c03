-- What a note says of programs.
use Rattle.std.specs.Prelude.{◌≡◌, ◌↔◌, []}
use Rattle.psg_grammar.specs.declared.types.Definition.{Definition}
use Rattle.psg_grammar.specs.Fragments.{Fragment}
use Rattle.psg_grammar.specs.Legal.{IsCompletable}
use Rattle.psg_grammar.specs.Marks.{IsMarkBy}
use Rattle.psg_completions.specs.Conditions.{HasTrueRows}
use Rattle.psg_cache.specs.Annotated.{Annotated, whole_in}
use Rattle.psg_cache.specs.Blames.{culprits_in}
use Rattle.psg_cache.specs.Notes.{mark_by}

module _ (def : Definition) (f : Fragment) where
  pub record IsByCompletions (n : Annotated) : Type 0 where
    -- the tree has a legal completion just where its relation has a row
    pub relation : IsCompletable def f ↔ ((whole_in n).rel ≡ [] → ⊥)
    -- the culprits are the nodes that have none while each of their children has one
    pub culprits : IsMarkBy (IsCompletable def) f (mark_by (culprits_in n))

  -- where the definition's rows are true of trees, a note of the tree says this
  abbrev pub TellsCompletable : Annotated → Type 0
  TellsCompletable n = HasTrueRows def → IsByCompletions n
