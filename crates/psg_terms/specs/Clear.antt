-- Constructors whose names have none of the characters that a term's text puts between names.
use Rattle.std.specs.Prelude.{ℕ, ◌≢◌}
use Rattle.std.specs.List.{AllByRecursion}
use Rattle.psg_terms.specs.Signature.{Signature, Symbol}

-- no space, bracket, comma or question mark
abbrev pub IsClear : ℕ → Type 0
IsClear c = (c ≢ 32) × (c ≢ 40) × (c ≢ 41) × (c ≢ 44) × (c ≢ 63)

-- Without this two rows can have one text: a constant named `f(a)` is printed as the constructor `f` over `a` is.
abbrev pub HasClearNames : Signature → Type 0
HasClearNames sig = AllByRecursion (λ (s : Symbol). AllByRecursion IsClear s.name) sig.symbols
