-- Worked cases of what is wanted of lines: a language of two constants.
use Rattle.std.proofs.Common.{◌≡◌, true, false, zero, suc, List, [], ◌∷◌, ◌++◌, get_or, inl, inr, refl, ap, sym, subst, arith}
use Rattle.std.specs.Prelude.{codes, Some, None}
use Rattle.std.specs.List.{Contains}
use Rattle.std.proofs.lemmas.Bool.{false≢true}
use Rattle.psg_terms.specs.Names.{Name}
use Rattle.psg_terms.specs.declared.declare.ConDecl.{ConDecl}
use Rattle.psg_terms.specs.declared.declare.SortDecl.{SortDecl}
use Rattle.psg_grammar.specs.declared.types.Level.TheVariants as levels
use Rattle.psg_deflines.specs.WrittenTerms.{WrittenTerm, variable, named}
use Rattle.psg_deflines.specs.WrittenTrees.{operator, with_name}
use Rattle.psg_defcheck.specs.Scopes.{sort_declared, entity_place}
use Rattle.psg_defcheck.specs.Meanings.{IsNew, IsKnown, IsCounted, IsSorted, HasEntity, IsChoice, AreInhabited, none, more}
use Rattle.psg_deflines.specs.declared.lines.LineItem.TheVariants as items
use Rattle.psg_deflines.specs.declared.lines.Line.{Line}
use Rattle.psg_deflines.specs.declared.lines.Line.TheVariants as lines

abbrev constant : Name → ConDecl
constant n = record { name = n; args = [] }

abbrev sort_line : Line
sort_line = lines.Sort (record { name = codes "T"; constructors = constant (codes "a") ∷ constant (codes "b") ∷ [] })

abbrev phylum_line : Line
phylum_line = lines.Phylum (codes "P") (codes "T") false

abbrev operator_line : Line
operator_line = lines.Operator (codes "x") (codes "P") false levels.Plain (items.Word (codes "x") ∷ [])

abbrev row_of : WrittenTerm → List WrittenTerm → Line
row_of head columns = lines.Row head columns

abbrev hole_line : Line
hole_line = lines.Hole (codes "P") (variable (codes "T")) (Some (operator (codes "x")))

abbrev above : List Line
above = sort_line ∷ phylum_line ∷ operator_line ∷ []

abbrev file_with : Line → List Line
file_with row = above ++ row ∷ hole_line ∷ []

abbrev file : List Line
file = file_with (row_of (named (codes "a")) [])

-- the row of a constant
pub row_known : IsKnown file (row_of (named (codes "a")) [])
row_known = (refl, tt)

pub row_counted : IsCounted file above (row_of (named (codes "a")) [])
row_counted = (refl, tt, refl)

pub row_sorted : IsSorted file above (row_of (named (codes "a")) [])
row_sorted = (λ n. n, ((refl, refl), tt))

-- no line declares `c`
pub row_unknown : IsKnown (file_with (row_of (named (codes "c")) [])) (row_of (named (codes "c")) []) → ⊥
row_unknown h = false≢true h.0

-- the operator has no slot, so its rows have no column
pub row_long : IsCounted file above (row_of (named (codes "a")) (named (codes "a") ∷ [])) → ⊥
row_long h = omega (arith, h.2)

-- a variable takes the sort of its place
pub hole_sorted : IsSorted file (above ++ row_of (named (codes "a")) [] ∷ []) hole_line
hole_sorted = (λ n. codes "T", (refl, (refl, refl)))

-- an operator's name as a constructor's is another name
pub hole_known : IsKnown file hole_line
hole_known = (refl, tt, refl)

-- the phylum's line a second time
pub phylum_twice : IsNew (sort_line ∷ phylum_line ∷ []) phylum_line → ⊥
phylum_twice h = absurd (cc)

-- a name position without a space
pub no_entity : HasEntity file (lines.Operator (codes "x") (codes "P") false levels.Plain (items.Refers [] ∷ [])) → ⊥
no_entity (inl h) = absurd (cc)
no_entity (inr h) = false≢true h

-- an only constructor with an argument
pub one_wide : IsChoice (record { name = codes "f"; args = codes "T" ∷ [] } ∷ []) → ⊥
one_wide h = absurd (cc)

-- a sort whose only constructor takes the sort itself has no term without variables
abbrev round : ConDecl
round = record { name = codes "f"; args = codes "T" ∷ [] }

abbrev round_sort : SortDecl
round_sort = record { name = codes "T"; constructors = round ∷ [] }

abbrev round_file : List Line
round_file = lines.Sort round_sort ∷ []

only_round : (c : ConDecl) → Contains (round ∷ []) c → c ≡ round
only_round c (zero, h, e) = sym e
only_round c (suc k, h, e) = absurd (omega (arith, h))

one_sort : (sort : Name) (d : SortDecl) → sort ≡ codes "T" → sort_declared round_file sort ≡ Some d → round_sort ≡ d
one_sort sort d e found =
    let at : Some round_sort ≡ Some d = subst (λ n. sort_declared round_file n ≡ Some d) e found in
    cc

pub no_ground : (names : List Name) → AreInhabited round_file names → names ≡ codes "T" ∷ [] → ⊥
no_ground names none e = absurd (cc)
no_ground names (more sort rest d c found member args others) e =
    let first : sort ≡ codes "T" = cc in
    let here : round_sort ≡ d = one_sort sort d first found in
    let same : c ≡ round = only_round c (subst (λ s. Contains s.constructors c) (sym here) member) in
    no_ground c.args args (ap (λ x. x.args) same)

-- The second term of a declare row is the value of an element, and not of the list.
abbrev list_file : List Line
list_file =
    lines.Sort (record { name = codes "Bit"; constructors = constant (codes "one") ∷ constant (codes "two") ∷ [] })
    ∷ lines.Sort (record { name = codes "Seq"; constructors = constant (codes "nil") ∷ constant (codes "all") ∷ [] })
    ∷ lines.Space [] (codes "Bit")
    ∷ lines.Phylum (codes "Item") (codes "Bit") false
    ∷ lines.List (codes "Items") (codes "Seq") (codes "Item") (codes ",") false true
    ∷ lines.Operator (codes "a") (codes "Item") false levels.Plain (items.Word (codes "a") ∷ items.Declares [] ∷ [])
    ∷ []

abbrev declare_line : WrittenTerm → Line
declare_line value = lines.Declare [] (codes "Items") (named (codes "one")) value (with_name (operator (codes "a")) (codes "it"))

pub declare_sorted : IsSorted list_file list_file (declare_line (named (codes "one")))
declare_sorted = (λ n. n, ((refl, refl), (refl, refl), (refl, refl)))

other_sort : codes "Seq" ≡ codes "Bit" → ⊥
other_sort e = omega (arith, ap (λ xs. get_or xs 0 0) e)

pub declare_unsorted : IsSorted list_file list_file (declare_line (named (codes "all"))) → ⊥
declare_unsorted h = other_sort h.1.1.1

-- Two spaces of a file of version 2. A name position of a space has the sort of that space, and an unnamed one that of
-- the first.
abbrev two_spaces : List Line
two_spaces =
    lines.Sort (record { name = codes "Bit"; constructors = constant (codes "one") ∷ constant (codes "two") ∷ [] })
    ∷ lines.Sort (record { name = codes "Seq"; constructors = constant (codes "nil") ∷ constant (codes "all") ∷ [] })
    ∷ lines.Space (codes "val") (codes "Bit")
    ∷ lines.Space (codes "lab") (codes "Seq")
    ∷ []

pub first_place : entity_place two_spaces [] ≡ Some (codes "Bit")
first_place = refl

pub second_place : entity_place two_spaces (codes "lab") ≡ Some (codes "Seq")
second_place = refl

pub no_place : entity_place two_spaces (codes "typ") ≡ None
no_place = refl
