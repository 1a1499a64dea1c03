-- Marks of sorts that have terms without variables.
use Rattle.std.specs.Prelude.{ℕ, ◌≡◌, ◌+◌, cond, IsTrue, List, [], ◌∷◌, Some}
use Rattle.std.specs.List.{AllByRecursion, Contains}
use Rattle.psg_terms.specs.Names.{Name}
use Rattle.psg_terms.specs.declared.declare.ConDecl.{ConDecl}
use Rattle.psg_terms.specs.declared.declare.SortDecl.{SortDecl}
use Rattle.psg_deflines.specs.declared.lines.Line.{Line}
use Rattle.psg_defcheck.specs.Scopes.{sort_declared, sort_names}
use Rattle.psg_defcheck.specs.Meanings.{AreInhabited}
use Rattle.psg_defcheck.specs.NameSets.{has}
use Rattle.psg_defcheck.specs.declared.names.Names.{Names}

-- each of the sorts is marked
abbrev pub AreMarked : Names → List Name → Type 0
AreMarked marks names = AllByRecursion (λ n. IsTrue (has marks n)) names

-- one of the constructors has arguments of marked sorts
abbrev pub MakesGround : Names → List ConDecl → Type 0
MakesGround marks cs = (c : ConDecl) × Contains cs c × AreMarked marks c.args

-- each marked sort has a term without variables
abbrev pub AreRight : List Line → Names → Type 0
AreRight file marks = (n : Name) → IsTrue (has marks n) → AreInhabited file (n ∷ [])

-- the sort is marked if a term of it can be made of marked ones
abbrev pub Keeps : List Line → Names → Name → Type 0
Keeps file marks n =
    (d : SortDecl) → sort_declared file n ≡ Some d → MakesGround marks d.constructors → IsTrue (has marks n)

-- how many of the sorts are not marked
abbrev pub waiting : Names → List Name → ℕ
waiting marks [] = 0
waiting marks (n ∷ rest) = cond (has marks n) 0 1 + waiting marks rest

-- exactly the sorts with terms without variables are marked
pub record IsGround (file : List Line) (marks : Names) : Type 0 where
  pub right : AreRight file marks
  pub keep : AllByRecursion (Keeps file marks) (sort_names file)
