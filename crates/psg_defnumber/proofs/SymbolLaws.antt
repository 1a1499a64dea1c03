-- The sorts and constructors of a signature that a file spells.
use Rattle.std.proofs.Common.{◌≡◌, ℕ, ◌+◌, ◌≤◌, ◌<◌, ◌^◌, List, [], ◌∷◌, length, length-append, refl, ap, sym, subst, arith}
use Rattle.psg_terms.proofs.Lists.{each_append}
use Rattle.std.specs.List.{AllByRecursion}
use Rattle.psg_terms.specs.Names.{Name}
use Rattle.psg_terms.specs.Signature.{Signature, Symbol}
use Rattle.psg_terms.specs.Declarations.{Numbered, with_sort, in_order, AreNamed, AreSpelled, IsSpelled, sort_names, names_in, constructor_names}
use Rattle.psg_terms.specs.declared.declare.ConDecl.{ConDecl}
use Rattle.psg_grammar.specs.Sound.{IsKindName, IsOwnName, IsShort}
use Rattle.psg_terms.proofs.DeclareLaws.{sort_names-length}
use Rattle.psg_deflines.specs.Entries.{written}
use Rattle.psg_deflines.specs.Forms.{HasForm, HasConstructorForm, constructor_parts, argument_parts}
use Rattle.psg_deflines.specs.declared.lines.Line.{Line}
use Rattle.psg_deflines.specs.declared.lines.Line.TheVariants as lines
use Rattle.psg_defnumber.specs.Numbers.{sort_decls}
use Rattle.psg_defnumber.specs.Soundness.{total, AreOfFile}
use Rattle.psg_defnumber.proofs.TreeWeights.{total-append}
use Rattle.psg_defnumber.proofs.LineSizes.{lines_total, few-lines, entries-total, entries-formed, arguments-long, constructors-long}

pub sorts-named : (file : List Line) → AllByRecursion HasForm file
    → AllByRecursion IsKindName (sort_names (sort_decls file))
sorts-named [] h = tt
sorts-named (lines.Sort d ∷ rest) h = (h.0.0, sorts-named rest h.1)
sorts-named (line ∷ rest) h = sorts-named rest h.1

pub few-sorts : (file : List Line) → length (sort_names (sort_decls file)) ≤ length file
few-sorts [] = omega arith
few-sorts (lines.Sort d ∷ rest) = omega (arith, few-sorts rest)
few-sorts (line ∷ rest) = omega (arith, few-sorts rest)

-- ---- constructors

abbrev IsSmall : Numbered → Type 0
IsSmall c = HasConstructorForm c.1 × IsShort c.1.args

constructors-small : (s : ℕ) (cs : List ConDecl) → AllByRecursion HasConstructorForm cs
    → total (constructor_parts cs) < 2 ^ 32 → AllByRecursion IsSmall (with_sort s cs)
constructors-small s [] h limit = tt
constructors-small s (c ∷ rest) h limit =
    let size = total-append (c.name ∷ argument_parts c.args) (constructor_parts rest) in
    ((h.0, omega (arith, size, arguments-long c.args)), constructors-small s rest h.1 (omega (arith, size)))

all-small : (n : ℕ) (file : List Line) → AllByRecursion HasForm file → lines_total file < 2 ^ 32
    → AllByRecursion IsSmall (in_order n (sort_decls file))
all-small n [] h limit = tt
all-small n (lines.Sort d ∷ rest) h limit =
    let first = constructors-small n d.constructors h.0.2 (omega arith) in
    let more = all-small (n + 1) rest h.1 (omega arith) in
    each_append IsSmall (with_sort n d.constructors) (in_order (n + 1) (sort_decls rest)) first more
all-small n (line ∷ rest) h limit = all-small n rest h.1 (omega arith)

sort-length : (s : ℕ) (cs : List ConDecl) → length (with_sort s cs) ≡ length cs
sort-length s [] = refl
sort-length s (c ∷ rest) = omega (arith, sort-length s rest)

pub few-numbered : (n : ℕ) (file : List Line) → AllByRecursion HasForm file
    → length (in_order n (sort_decls file)) ≤ lines_total file
few-numbered n [] h = omega arith
few-numbered n (lines.Sort d ∷ rest) h =
    omega (
      arith,
      length-append (with_sort n d.constructors) (in_order (n + 1) (sort_decls rest)),
      sort-length n d.constructors,
      constructors-long d.constructors h.0.2,
      few-numbered (n + 1) rest h.1,
    )
few-numbered n (line ∷ rest) h = omega (arith, few-numbered n rest h.1)

named-length : (sorts ns : List Name) (ss : List ℕ) → AreNamed sorts ns ss → length ss ≡ length ns
named-length sorts [] [] h = refl
named-length sorts [] (s ∷ ss) h = absurd h
named-length sorts (n ∷ ns) [] h = absurd h
named-length sorts (n ∷ ns) (s ∷ ss) h = omega (arith, named-length sorts ns ss h.1)

spelled-length : (sorts : List Name) (cs : List Numbered) (xs : List Symbol) → AreSpelled sorts cs xs
    → length xs ≡ length cs
spelled-length sorts [] [] h = refl
spelled-length sorts [] (x ∷ xs) h = absurd h
spelled-length sorts (c ∷ cs) [] h = absurd h
spelled-length sorts (c ∷ cs) (x ∷ xs) h = omega (arith, spelled-length sorts cs xs h.1)

spelled-named : (sorts : List Name) (cs : List Numbered) (xs : List Symbol) → AreSpelled sorts cs xs
    → AllByRecursion IsSmall cs → AllByRecursion (λ (s : Symbol). IsOwnName s.name) xs
spelled-named sorts [] [] h k = tt
spelled-named sorts [] (x ∷ xs) h k = absurd h
spelled-named sorts (c ∷ cs) [] h k = absurd h
spelled-named sorts (c ∷ cs) (x ∷ xs) h k = (subst IsOwnName (sym h.0.name) k.0.0.0, spelled-named sorts cs xs h.1 k.1)

spelled-short : (sorts : List Name) (cs : List Numbered) (xs : List Symbol) → AreSpelled sorts cs xs
    → AllByRecursion IsSmall cs → AllByRecursion (λ (s : Symbol). IsShort s.arguments) xs
spelled-short sorts [] [] h k = tt
spelled-short sorts [] (x ∷ xs) h k = absurd h
spelled-short sorts (c ∷ cs) [] h k = absurd h
spelled-short sorts (c ∷ cs) (x ∷ xs) h k =
    (omega (arith, named-length sorts c.1.args x.arguments h.0.arguments, k.0.1), spelled-short sorts cs xs h.1 k.1)

-- what a file says of the signature
pub record HasSmallSignature (sig : Signature) : Type 0 where
  pub sort_names : AllByRecursion IsKindName sig.sorts
  pub constructor_names : AllByRecursion (λ (s : Symbol). IsOwnName s.name) sig.symbols
  pub few_sorts : IsShort sig.sorts
  pub few_constructors : IsShort sig.symbols
  pub few_arguments : AllByRecursion (λ (s : Symbol). IsShort s.arguments) sig.symbols

pub small-signature : (file : List Line) (sig : Signature) → AllByRecursion HasForm file → lines_total file < 2 ^ 32
    → length file < 2 ^ 32 → IsSpelled (sort_decls file) sig → HasSmallSignature sig
small-signature file sig h limit short spelled =
    let sorts = sort_names (sort_decls file) in
    let cs = in_order 0 (sort_decls file) in
    let small = all-small 0 file h limit in
    record {
      sort_names = subst (AllByRecursion IsKindName) (sym spelled.sorts) (sorts-named file h);
      constructor_names = spelled-named sorts cs sig.symbols spelled.symbols small;
      few_sorts = omega (arith, ap length spelled.sorts, few-sorts file);
      few_constructors = omega (arith, spelled-length sorts cs sig.symbols spelled.symbols, few-numbered 0 file h);
      few_arguments = spelled-short sorts cs sig.symbols spelled.symbols small;
    }

-- ---- the lines of a file

small-file : (file : List Line) → AreOfFile file → (lines_total file < 2 ^ 32) × AllByRecursion HasForm file
small-file file h = subst (λ l. (lines_total l < 2 ^ 32) × AllByRecursion HasForm l) h.lines (total-few, entries-formed [] h.texts h.entries h.each)
  where
    total-few : lines_total (written h.entries) < 2 ^ 32
    total-few = omega (arith, entries-total [] h.texts h.entries h.each, h.few)

pub few-decls : (file : List Line) → AreOfFile file → length (sort_decls file) < 2 ^ 32
few-decls file h =
    let small = small-file file h in
    omega (arith, small.0, few-lines file, few-sorts file, sort_names-length (sort_decls file))

names-length : (cs : List Numbered) → length (names_in cs) ≡ length cs
names-length [] = refl
names-length (c ∷ cs) = omega (arith, names-length cs)

pub few-declared : (file : List Line) → AreOfFile file → length (constructor_names (sort_decls file)) < 2 ^ 32
few-declared file h =
    let small = small-file file h in
    omega (arith, small.0, few-numbered 0 file small.1, names-length (in_order 0 (sort_decls file)))
