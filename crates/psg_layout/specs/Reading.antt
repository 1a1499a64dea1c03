-- What is kept of the lines of a layout that were read.
use Rattle.std.specs.Prelude.{ℕ, ◌≡◌, ◌==◌, ◌&&◌, ◌⊎◌, Bool, List, [], ◌∷◌, ◌++◌, Option, None, Some, count_by}
use Rattle.std.specs.Prelude.{MatchOption}
use Rattle.std.specs.List.{AllByRecursion, list_any}
use Rattle.psg_grammar.specs.declared.types.Operator.{Operator}
use Rattle.psg_grammar.specs.declared.types.Definition.{Definition}
use Rattle.psg_deflines.specs.Entries.{IsSkipped}
use Rattle.psg_layout.specs.declared.layout.LayoutFault.{LayoutFault}
use Rattle.psg_layout.specs.declared.layout.LayoutFault.TheVariants as faults
use Rattle.psg_layout.specs.declared.reading.Failed.{Failed}
use Rattle.psg_layout.specs.declared.reading.Failed.TheVariants as failed
use Rattle.psg_layout.specs.declared.reading.Read.{Read}
use Rattle.psg_layout.specs.Arranged.{is_counted}
use Rattle.psg_layout.specs.Layouts.{Rule, group, break, SpellsRule}
use Rattle.psg_layout.specs.Layouts.{Test, a_form, an_operator, an_item, a_new_line, tests}
use Rattle.psg_layout.specs.Layouts.{Passes, IsFirstFailing, AreGroups, AreBreaks, IsBadLine}
use Rattle.psg_layout.specs.Looked.{has_group, has_break}

-- the test that a line fails
abbrev pub test_of : Failed → Test
test_of failed.Form = a_form
test_of failed.Unknown = an_operator
test_of failed.Place = an_item
test_of failed.Repeated = a_new_line

-- how many items the operator has, without marks
abbrev pub items_in : Option Operator → ℕ
items_in None = 0
items_in (Some o) = count_by is_counted o.items

module _ (def : Definition) where
  -- these lines were read
  pub record IsRead (r : Read) (rules : List Rule) : Type 0 where
    pub groups : AreGroups def rules r.groups.items
    pub breaks : AreBreaks def rules r.breaks.items
    pub looked_groups : (o : ℕ) → has_group r.rules o ≡ list_any (λ g. g == o) r.groups.items
    pub looked_breaks : (o k : ℕ)
        → has_break r.rules o k ≡ list_any (λ (b : ℕ × ℕ). (b.0 == o) && (b.1 == k)) r.breaks.items

  -- the line is skipped, or it is one more rule
  abbrev pub Accepts : List ℕ → List Rule → Read → Type 0
  Accepts line rules new =
      (IsSkipped line × IsRead new rules)
      ⊎ ((rule : Rule)
      × (SpellsRule line rule × (AllByRecursion (Passes def rules line) tests × IsRead new (rules ++ rule ∷ []))))

  -- the line is accepted, or fails this test first
  abbrev pub IsLineRead : List ℕ → Read → Read → Option Failed → Type 0
  IsLineRead line old new found =
      (rules : List Rule) → IsRead old rules
      → MatchOption found (Accepts line rules new) (λ f. IsFirstFailing (Passes def rules line) tests (test_of f))

  -- memory may run out at any time
  abbrev pub IsLineFault : List (List ℕ) → LayoutFault → Type 0
  IsLineFault texts (faults.Line line code) = IsBadLine def texts line code
  IsLineFault texts faults.Memory = Unit {0}

-- the rule of the operator was read
abbrev pub has_rule : Read → ℕ → Rule → Bool
has_rule r op (group name) = has_group r.rules op
has_rule r op (break name k) = has_break r.rules op k
