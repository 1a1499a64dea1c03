-- What is found and replied when operators and names are tried at a place.
use Rattle.std.specs.Prelude.{ℕ, ◌≡◌, ◌<◌, ◌+◌, ◌⊎◌, length, Option, Some, None, Result, Ok, Err}
use Rattle.psg_terms.specs.Names.{Name}
use Rattle.psg_grammar.specs.declared.types.Kind.TheVariants as kinds
use Rattle.psg_grammar.specs.declared.types.Definition.{Definition}
use Rattle.psg_grammar.specs.Fragments.{Fragment}
use Rattle.psg_grammar.specs.Paths.{Path}
use Rattle.psg_grammar.specs.Work.{climb_of}
use Rattle.psg_eval.specs.Frames.{CanClimb, StandAt, rungs}
use Rattle.psg_menu.specs.Answers.{HasOneName}
use Rattle.psg_session.specs.declared.menus.Site.{Site}
use Rattle.psg_session.specs.declared.refusal.Refusal.{Refusal}
use Rattle.psg_session.specs.declared.refusal.Refusal.TheVariants.{Unknown, OtherPhylum, BadArguments}
use Rattle.psg_session.specs.PlainStep.{HasNoPlace, IsOfPhylum, IsOperator, IsWanted}

-- the evaluations of a climb from the place
abbrev pub climb_before : Fragment → Path → Option ℕ → ℕ
climb_before f path None = climb_of f path
climb_before f path (Some k) = (k + 1) + climb_of f path

module _ (def : Definition) where
  -- An operator may be tried at the node: the phylum is that of the placeholder or of the list's elements, and the
  -- frames are those around the place.
  pub record IsSite (f : Fragment) (path : Path) (k : Option ℕ) (node : Fragment) (site : Site) : Type 0 where
    pub room : HasNoPlace def k node → ⊥
    pub wanted : IsWanted def k node site.phylum
    pub known : site.phylum < length def.phyla
    pub stand : StandAt def site.around.items path k f
    pub climb : CanClimb def site.around.items (kinds.Phylum site.phylum)
    pub cost : rungs site.around.items ≡ climb_before f path k

  -- the operator of the name, which is of the phylum and has one name; or why there is none
  abbrev pub IsNamingAnswer : ℕ → Name → Result ℕ Refusal → Type 0
  IsNamingAnswer p name (Ok o) = IsOperator def o name × HasOneName def o p
  IsNamingAnswer p name (Err r) =
      ((r ≡ Unknown) × ((o : ℕ) → IsOperator def o name → ⊥))
      ⊎ ((r ≡ OtherPhylum) × (o : ℕ) × IsOperator def o name × (IsOfPhylum def o p → ⊥))
      ⊎ ((r ≡ BadArguments) × (o : ℕ) × IsOperator def o name × IsOfPhylum def o p × (HasOneName def o p → ⊥))
