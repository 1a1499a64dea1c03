-- What a line says, as the program has it, and what follows the first word of a line.
use Rattle.std.specs.Prelude.{ℕ, ◌<◌, ◌^◌, List, [], decimal}
use Rattle.psg_terms.specs.Names.{Name}
use Rattle.psg_grammar.specs.Sound.{IsOwnName}
use Rattle.psg_layout.specs.Layouts.{Rule, group, break, IsBefore}
use Rattle.psg_layout.specs.declared.rule.Rule.{Rule as Line}
use Rattle.psg_layout.specs.declared.rule.Rule.TheVariants.{Group, Break}

abbrev pub said : Line → Rule
said (Group op) = group op.now
said (Break op k) = break op.now k

-- spaces and the name of a group
abbrev pub GroupAfter : Name → List ℕ → Type 0
GroupAfter o behind = IsOwnName o × IsBefore [] o behind

abbrev pub HasNoGroup : List ℕ → Type 0
HasNoGroup behind = (o : Name) → GroupAfter o behind → ⊥

abbrev pub IsGroupBehind : List ℕ → Line → Type 0
IsGroupBehind behind (Group op) = GroupAfter op.now behind
IsGroupBehind behind (Break op k) = ⊥

-- spaces, a name, spaces, and a number
abbrev pub BreakAfter : Name → ℕ → List ℕ → Type 0
BreakAfter o k behind =
    IsOwnName o × ((k < 2 ^ 32) × ((words : List ℕ) × (IsBefore [] words behind × IsBefore o (decimal k) words)))

abbrev pub HasNoBreak : List ℕ → Type 0
HasNoBreak behind = (o : Name) (k : ℕ) → BreakAfter o k behind → ⊥

abbrev pub IsBreakBehind : List ℕ → Line → Type 0
IsBreakBehind behind (Group op) = ⊥
IsBreakBehind behind (Break op k) = BreakAfter op.now k behind
