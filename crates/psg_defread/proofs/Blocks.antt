-- The lines that write a definition, block by block: the lines of a block have one rank. What is said of a file by its
-- lines of some ranks is not changed by a block of others.
use Rattle.std.proofs.Common.{◌≡◌, ℕ, zero, suc, ◌+◌, ◌<◌, ◌≤◌, List, [], ◌∷◌, ◌++◌, drop, map, refl, sym, subst, append_assoc, arith}
use Rattle.psg_terms.proofs.Lists.{each_append}
use Rattle.std.specs.List.{AllByRecursion, flat_map}
use Rattle.psg_terms.specs.Names.{Name}
use Rattle.psg_grammar.specs.declared.types.Definition.{Definition}
use Rattle.psg_deflines.specs.declared.lines.Line.{Line}
use Rattle.psg_deflines.specs.declared.lines.Line.TheVariants as lines
use Rattle.psg_defread.specs.Layout.{rank}
use Rattle.psg_defread.specs.WrittenLines.{lines_of, sort_lines, space_line, phylum_line, list_line, operator_lines, row_line, nil_lines, cell_lines, cell_line, hole_lines, case_line, declare_line, term_written}

-- ---- the blocks

abbrev pub blocks : Definition → List (List Line)
blocks def =
    sort_lines def 0 def.signature.sorts ∷ map (space_line def) def.spaces ∷ map (phylum_line def) def.phyla
    ∷ map (list_line def) def.lists ∷ flat_map (operator_lines def) def.operators ∷ flat_map (nil_lines def) def.lists
    ∷ flat_map (cell_lines def) def.lists ∷ flat_map (hole_lines def) def.hole_rows
    ∷ map (declare_line def) def.declare_rows ∷ []

abbrev pub joined : List (List Line) → List Line
joined [] = []
joined (b ∷ []) = b
joined (b ∷ c ∷ rest) = b ++ joined (c ∷ rest)

-- the lines from a block on
abbrev pub from_entities : Definition → List Line
from_entities def = joined (drop 1 (blocks def))

abbrev pub from_phyla : Definition → List Line
from_phyla def = joined (drop 2 (blocks def))

abbrev pub from_lists : Definition → List Line
from_lists def = joined (drop 3 (blocks def))

abbrev pub from_operators : Definition → List Line
from_operators def = joined (drop 4 (blocks def))

abbrev pub from_nils : Definition → List Line
from_nils def = joined (drop 5 (blocks def))

abbrev pub from_cells : Definition → List Line
from_cells def = joined (drop 6 (blocks def))

abbrev pub from_holes : Definition → List Line
from_holes def = joined (drop 7 (blocks def))

abbrev pub from_declares : Definition → List Line
from_declares def = joined (drop 8 (blocks def))

-- one thing's lines in front of the others'
pub flat-front : {X : Type 0} (W : List Line → Type 0) (f : X → List Line) (x : X) (xs : List X) (tail : List Line)
    → W (f x ++ (flat_map f xs ++ tail)) → W (flat_map f (x ∷ xs) ++ tail)
flat-front W f x xs tail w = subst W (sym (append_assoc (f x) (flat_map f xs) tail)) w

-- ---- what holds of each line of a block

pub map-all : {X : Type 0} (P : Line → Type 0) (f : X → Line) → ((x : X) → P (f x)) → (xs : List X)
    → AllByRecursion P (map f xs)
map-all P f each [] = tt
map-all P f each (x ∷ xs) = (each x, map-all P f each xs)

pub flat-all : {X : Type 0} (P : Line → Type 0) (f : X → List Line) → ((x : X) → AllByRecursion P (f x))
    → (xs : List X) → AllByRecursion P (flat_map f xs)
flat-all P f each [] = tt
flat-all P f each (x ∷ xs) = each_append P (f x) (flat_map f xs) (each x) (flat-all P f each xs)

-- where it holds of the lines of each thing that is written
pub mapped : {X : Type 0} (P : Line → Type 0) (f : X → Line) (xs : List X) → AllByRecursion (λ x. P (f x)) xs
    → AllByRecursion P (map f xs)
mapped P f [] h = tt
mapped P f (x ∷ xs) h = (h.0, mapped P f xs h.1)

pub flattened : {X : Type 0} (P : Line → Type 0) (f : X → List Line) (xs : List X)
    → AllByRecursion (λ x. AllByRecursion P (f x)) xs → AllByRecursion P (flat_map f xs)
flattened P f [] h = tt
flattened P f (x ∷ xs) h = each_append P (f x) (flat_map f xs) h.0 (flattened P f xs h.1)

pub sorts-all : (P : Line → Type 0) (def : Definition)
    → ((n : ℕ) (name : Name) → AllByRecursion P (sort_lines def n (name ∷ []))) → (n : ℕ) (names : List Name)
    → AllByRecursion P (sort_lines def n names)
sorts-all P def each n [] = tt
sorts-all P def each n (name ∷ rest) = ((each n name).0, sorts-all P def each (n + 1) rest)

all-blocks : (P : Line → Type 0) (bs : List (List Line)) → AllByRecursion (AllByRecursion P) bs
    → AllByRecursion P (joined bs)
all-blocks P [] h = tt
all-blocks P (b ∷ []) h = h.0
all-blocks P (b ∷ c ∷ rest) h = each_append P b (joined (c ∷ rest)) h.0 (all-blocks P (c ∷ rest) h.1)

pub record HoldsOfBlocks (P : Line → Type 0) (def : Definition) : Type 0 where
  pub sorts : AllByRecursion P (sort_lines def 0 def.signature.sorts)
  pub entities : AllByRecursion P (map (space_line def) def.spaces)
  pub phyla : AllByRecursion P (map (phylum_line def) def.phyla)
  pub lists : AllByRecursion P (map (list_line def) def.lists)
  pub operators : AllByRecursion P (flat_map (operator_lines def) def.operators)
  pub nils : AllByRecursion P (flat_map (nil_lines def) def.lists)
  pub cells : AllByRecursion P (flat_map (cell_lines def) def.lists)
  pub holes : AllByRecursion P (flat_map (hole_lines def) def.hole_rows)
  pub declares : AllByRecursion P (map (declare_line def) def.declare_rows)

pub all-lines : (P : Line → Type 0) (def : Definition) → HoldsOfBlocks P def → AllByRecursion P (lines_of def)
all-lines P def b =
    all-blocks P (blocks def)
    (b.sorts, (b.entities, (b.phyla, (b.lists, (b.operators, (b.nils, (b.cells, (b.holes, (b.declares, tt)))))))))

-- ---- ranks

abbrev pub HasRank : ℕ → Line → Type 0
HasRank r line = rank line ≡ r

abbrev pub AreRanked : ℕ → List (List Line) → Type 0
AreRanked r [] = Unit {0}
AreRanked r (b ∷ rest) = AllByRecursion (HasRank r) b × AreRanked (suc r) rest

pub ranked : (def : Definition) → AreRanked 0 (blocks def)
ranked def =
    let sorts = sorts-all (HasRank 0) def (λ n name. (refl, tt)) 0 def.signature.sorts in
    let spaces = map-all (HasRank 1) (space_line def) (λ s. refl) def.spaces in
    let phyla = map-all (HasRank 2) (phylum_line def) (λ p. refl) def.phyla in
    let lists = map-all (HasRank 3) (list_line def) (λ l. refl) def.lists in
    let operators = flat-all (HasRank 4) (operator_lines def)
    (λ o. (refl, map-all (HasRank 4) (row_line def) (λ r. refl) o.rows)) def.operators in
    let nils = flat-all (HasRank 5) (nil_lines def)
    (λ l. map-all (HasRank 5) (λ t. lines.Nil l.name (term_written def t)) (λ t. refl) l.nil_rows) def.lists in
    let cells = flat-all (HasRank 6) (cell_lines def)
    (λ l. map-all (HasRank 6) (cell_line def l.name) (λ r. refl) l.cell_rows) def.lists in
    let holes = flat-all (HasRank 7) (hole_lines def)
    (λ h. (refl, map-all (HasRank 7) (case_line def) (λ c. refl) h.cases)) def.hole_rows in
    let declares = map-all (HasRank 8) (declare_line def) (λ d. refl) def.declare_rows in
    (sorts, (spaces, (phyla, (lists, (operators, (nils, (cells, (holes, (declares, tt)))))))))

dropped : (n r : ℕ) (bs : List (List Line)) → AreRanked r bs → AreRanked (r + n) (drop n bs)
dropped zero r bs h = subst (λ s. AreRanked s bs) (let e : r ≡ r + 0 = omega arith in e) h
dropped (suc n) r [] h = tt
dropped (suc n) r (b ∷ bs) h =
    let e : suc r + n ≡ r + suc n = omega arith in
    subst (λ s. AreRanked s (drop n bs)) e (dropped n (suc r) bs h.1)

-- ---- blocks of other ranks

abbrev IsStep : (ℕ → Type 0) → (List Line → Type 0) → Type 0
IsStep Free W = (line : Line) (rest : List Line) → Free (rank line) → W rest → W (line ∷ rest)

module _ (Free : ℕ → Type 0) (W : List Line → Type 0) (step : IsStep Free W) where
  past : (r : ℕ) → Free r → (xs rest : List Line) → AllByRecursion (HasRank r) xs → W rest → W (xs ++ rest)
  past r free [] rest h w = w
  past r free (line ∷ xs) rest h w =
      step line (xs ++ rest) (subst Free (sym h.0) free) (past r free xs rest h.1 w)

  past-all : (r : ℕ) → Free r → (xs : List Line) → AllByRecursion (HasRank r) xs → W [] → W xs
  past-all r free [] h w = w
  past-all r free (line ∷ xs) h w = step line xs (subst Free (sym h.0) free) (past-all r free xs h.1 w)

  to-end : (r : ℕ) (bs : List (List Line)) → AreRanked r bs → ((s : ℕ) → r ≤ s → Free s) → W [] → W (joined bs)
  to-end r [] h free w = w
  to-end r (b ∷ []) h free w = past-all r (free r (omega arith)) b h.0 w
  to-end r (b ∷ c ∷ rest) h free w =
      past r (free r (omega arith)) b (joined (c ∷ rest)) h.0
      (to-end (suc r) (c ∷ rest) h.1 (λ s l. free s (omega (arith, l))) w)

  over : (k r : ℕ) (bs : List (List Line)) → AreRanked r bs → ((s : ℕ) → r ≤ s → s < r + k → Free s)
      → W (joined (drop k bs)) → W (joined bs)
  over zero r bs h free w = w
  over (suc k) r [] h free w = w
  over (suc zero) r (b ∷ []) h free w = past-all r (free r (omega arith) (omega arith)) b h.0 w
  over (suc (suc k)) r (b ∷ []) h free w = past-all r (free r (omega arith) (omega arith)) b h.0 w
  over (suc k) r (b ∷ c ∷ rest) h free w =
      past r (free r (omega arith) (omega arith)) b (joined (c ∷ rest)) h.0
      (over k (suc r) (c ∷ rest) h.1 (λ s l m. free s (omega (arith, l)) (omega (arith, m))) w)

-- the lines from block n on, where what is said does not look at the first k of these blocks
pub some-blocks : (n k : ℕ) (Free : ℕ → Type 0) (W : List Line → Type 0) → IsStep Free W → (def : Definition)
    → ((r : ℕ) → n ≤ r → r < n + k → Free r) → W (joined (drop k (drop n (blocks def))))
    → W (joined (drop n (blocks def)))
some-blocks n k Free W step def free w =
    over Free W step k (0 + n) (drop n (blocks def)) (dropped n 0 (blocks def) (ranked def))
    (λ r l m. free r (omega (arith, l)) (omega (arith, m))) w

-- all lines, where it does not look at the blocks before block k
pub first-blocks : (k : ℕ) (Free : ℕ → Type 0) (W : List Line → Type 0) → IsStep Free W → (def : Definition)
    → ((r : ℕ) → r < k → Free r) → W (joined (drop k (blocks def))) → W (lines_of def)
first-blocks k Free W step def free w =
    over Free W step k 0 (blocks def) (ranked def) (λ r l m. free r (omega (arith, m))) w

-- the lines from block k on, where it looks at none of them
pub last-blocks : (k : ℕ) (Free : ℕ → Type 0) (W : List Line → Type 0) → IsStep Free W → (def : Definition)
    → ((r : ℕ) → k ≤ r → Free r) → W [] → W (joined (drop k (blocks def)))
last-blocks k Free W step def free w =
    to-end Free W step (0 + k) (drop k (blocks def)) (dropped k 0 (blocks def) (ranked def))
    (λ r l. free r (omega (arith, l))) w
