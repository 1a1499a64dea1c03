-- A program that is judged, and one that is wrong, as `lint` keeps them.
use Rattle.std.specs.Prelude.{ℕ, ◌≡◌}
use Rattle.psg_terms.specs.Names.{Name}
use Rattle.psg_grammar.specs.declared.types.Definition.{Definition}
use Rattle.psg_grammar.specs.Fragments.{Fragment}
use Rattle.psg_cache.specs.Notes.{AreTables, IsFormed, IsNoteOf}
use Rattle.psg_grammar.specs.Open.{IsOpen}
use Rattle.psg_places.specs.Blame.{AreAllAnswers}
use Rattle.psg_places.specs.NewNames.{AreNew, IsFront, new_name}
use Rattle.psg_places.specs.Places.{places_of}
use Rattle.psg_lint.specs.declared.trials.Judged.{Judged}
use Rattle.psg_lint.specs.declared.trials.Wrong.{Wrong}
use Rattle.psg_known.specs.Knowns.{IsKnown}

pub record IsJudged (j : Judged) : Type 0 where
  pub known : IsKnown j.spots.known
  pub same : j.spots.known.definition.now ≡ j.definition.now
  pub tables : AreTables j.definition.now j.tables.now
  pub formed : IsFormed j.definition.now j.tree.now

pub record IsWrong (w : Wrong) : Type 0 where
  pub judged : IsJudged w.judged
  pub names : IsFront w.judged.definition.now w.judged.tree.now w.names.now
  pub new : AreNew w.judged.definition.now w.judged.tree.now (new_name w.names.now)
  pub places : w.places.now ≡ places_of w.judged.definition.now w.judged.tree.now
  pub answers : AreAllAnswers (IsOpen w.judged.definition.now) w.judged.definition.now (new_name w.names.now)
      w.judged.tree.now w.kept.now
  pub note : IsNoteOf w.judged.definition.now w.judged.tree.now w.note.now

-- the definition
abbrev pub def_of : Wrong → Definition
def_of w = w.judged.definition.now

-- the tree of the program
abbrev pub tree_in : Wrong → Fragment
tree_in w = w.judged.tree.now

-- the new names, by the numbers of their places
abbrev pub fresh_of : Wrong → ℕ → Name
fresh_of w = new_name w.names.now
