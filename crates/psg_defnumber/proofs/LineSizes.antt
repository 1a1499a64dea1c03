-- The texts of a file are together at least as long as its lines have parts.
use Rattle.std.proofs.Common.{◌≡◌, ℕ, suc, ◌+◌, ◌≤◌, Some, None, List, [], ◌∷◌, ◌++◌, length, length-append, map, ap, subst, replicate, arith}
use Rattle.std.specs.Prelude.{chars, encode_utf8_all}
use Rattle.std.specs.List.{AllByRecursion}
use Rattle.std.proofs.lemmas.Bool.{false≢true}
use Rattle.std.proofs.lemmas.Str.{encode_ascii}
use Rattle.psg_terms.specs.Names.{Name}
use Rattle.psg_terms.specs.declared.declare.ConDecl.{ConDecl}
use Rattle.psg_grammar.specs.Sound.{IsKindName, IsOwnName}
use Rattle.psg_lexis.specs.Tokens.{quoted}
use Rattle.psg_deflines.specs.Written.{IsWritten}
use Rattle.psg_deflines.specs.WrittenTrees.{quoted_part}
use Rattle.psg_deflines.specs.Forms.{HasForm, HasConstructorForm, HasItemForm, parts_of, constructor_parts, argument_parts, closed_names, item_part}
use Rattle.psg_deflines.specs.Entries.{Entry, written, AreEntries}
use Rattle.psg_deflines.specs.declared.lines.LineItem.{LineItem}
use Rattle.psg_deflines.specs.declared.lines.LineItem.TheVariants as items
use Rattle.psg_deflines.specs.declared.lines.Line.{Line}
use Rattle.psg_deflines.specs.declared.lines.Line.TheVariants as lines
use Rattle.psg_defnumber.specs.Soundness.{total, AreOfFile}
use Rattle.psg_defnumber.proofs.TreeWeights.{total-append}

written-total : (parts : List (List ℕ)) (text : List ℕ) → IsWritten parts text → total parts ≤ length text
written-total [] text e = omega arith
written-total (part ∷ []) text e = omega (arith, ap length e)
written-total (part ∷ next ∷ parts) text (spaces, rest, e, apart, w) =
    omega (
      arith,
      ap length e,
      length-append part (replicate spaces 32 ++ rest),
      length-append (replicate spaces 32) rest,
      written-total (next ∷ parts) rest w,
    )

-- the bytes of all parts of the lines
abbrev pub lines_total : List Line → ℕ
lines_total [] = 0
lines_total (line ∷ rest) = total (parts_of line) + lines_total rest

pub entries-total : (above : List Line) (texts : List (List ℕ)) (entries : List Entry)
    → AreEntries above texts entries → lines_total (written entries) ≤ total texts
entries-total above [] [] h = omega arith
entries-total above [] (e ∷ entries) h = absurd h
entries-total above (t ∷ texts) [] h = absurd h
entries-total above (t ∷ texts) (None ∷ entries) h = omega (arith, entries-total (above ++ []) texts entries h.1)
entries-total above (t ∷ texts) (Some line ∷ entries) h =
    omega (
      arith,
      written-total (parts_of line) t h.0.spelled.written,
      entries-total (above ++ line ∷ []) texts entries h.1,
    )

pub entries-formed : (above : List Line) (texts : List (List ℕ)) (entries : List Entry)
    → AreEntries above texts entries → AllByRecursion HasForm (written entries)
entries-formed above [] [] h = tt
entries-formed above [] (e ∷ entries) h = absurd h
entries-formed above (t ∷ texts) [] h = absurd h
entries-formed above (t ∷ texts) (None ∷ entries) h = entries-formed (above ++ []) texts entries h.1
entries-formed above (t ∷ texts) (Some line ∷ entries) h =
    (h.0.spelled.form, entries-formed (above ++ line ∷ []) texts entries h.1)

-- each line of a file has its form
pub formed : (file : List Line) → AreOfFile file → AllByRecursion HasForm file
formed file h = subst (AllByRecursion HasForm) h.lines (entries-formed [] h.texts h.entries h.each)

-- each line has a word in front
line-long : (line : Line) → 1 ≤ total (parts_of line)
line-long (lines.Sort d) = omega arith
line-long (lines.Space [] sort) = omega arith
line-long (lines.Space (c ∷ cs) sort) = omega arith
line-long (lines.Phylum name sort bracketed) = omega arith
line-long (lines.List name sort element separator on_lines unfinished) = omega arith
line-long (lines.Operator name phylum scope level made) = omega arith
line-long (lines.Row head columns) = omega arith
line-long (lines.Nil list term) = omega arith
line-long (lines.Cell list term element rest) = omega arith
line-long (lines.Hole kind term specimen) = omega arith
line-long (lines.Case term specimen) = omega arith
line-long (lines.Declare space list entity value specimen) = omega arith

pub few-lines : (file : List Line) → length file ≤ lines_total file
few-lines [] = omega arith
few-lines (line ∷ rest) = omega (arith, line-long line, few-lines rest)

-- ---- names are not empty

pub kind-name-long : (n : Name) → IsKindName n → 1 ≤ length n
kind-name-long [] h = absurd (false≢true h)
kind-name-long (c ∷ cs) h = omega arith

pub own-name-long : (n : Name) → IsOwnName n → 1 ≤ length n
own-name-long [] h = absurd (false≢true h)
own-name-long (c ∷ cs) h = omega arith

-- ---- constructors and their arguments

closed-long : (n : Name) (rest : List Name) → suc (length rest) ≤ total (closed_names (n ∷ rest))
closed-long n [] = omega arith
closed-long n (m ∷ rest) = omega (arith, closed-long m rest)

pub arguments-long : (args : List Name) → length args ≤ total (argument_parts args)
arguments-long [] = omega arith
arguments-long (n ∷ rest) = omega (arith, closed-long n rest)

pub constructors-long : (cs : List ConDecl) → AllByRecursion HasConstructorForm cs
    → length cs ≤ total (constructor_parts cs)
constructors-long [] h = omega arith
constructors-long (c ∷ rest) h =
    omega (
      arith,
      total-append (c.name ∷ argument_parts c.args) (constructor_parts rest),
      own-name-long c.name h.0.0,
      constructors-long rest h.1,
    )

-- ---- items

quoted-long : (w : List ℕ) → 1 ≤ length (quoted_part w)
quoted-long w =
    let begins : quoted_part w ≡ 34 ∷ encode_utf8_all (quoted (chars w) ++ 34 ∷ []) =
    ap (λ xs. xs ++ encode_utf8_all (quoted (chars w) ++ 34 ∷ [])) (encode_ascii 34 (omega arith)) in
    omega (arith, ap length begins)

item-long : (i : LineItem) → HasItemForm i → 1 ≤ length (item_part i)
item-long (items.Word w) h = quoted-long w
item-long (items.Slot k) h = kind-name-long k h
item-long (items.Refers space) h = omega arith
item-long (items.Declares space) h = omega arith
item-long items.Number h = omega arith
item-long items.Text h = omega arith
item-long items.Space h = omega arith
item-long items.Tight h = omega arith
item-long items.Line h = omega arith
item-long items.In h = omega arith
item-long items.Out h = omega arith

pub items-long : (made : List LineItem) → AllByRecursion HasItemForm made → length made ≤ total (map item_part made)
items-long [] h = omega arith
items-long (i ∷ rest) h = omega (arith, item-long i h.0, items-long rest h.1)
