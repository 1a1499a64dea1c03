-- The lines of a tree that says a definition: their forms, and where rows are.
use Rattle.std.proofs.Common.{arith, ◌≡◌, ◌≤◌, ℕ, zero, suc, ◌<◌, Bool, true, false, cond, is_some, inl, inr, Option, Some, None, List, [], ◌∷◌, ◌++◌, map, replicate, slice_get, refl, ap, sym, ◌∙◌, subst}
use Rattle.std.specs.Prelude.{bytes_eq, not, IsUtf8}
use Rattle.std.specs.List.{AllByRecursion, list_any, list_all, flat_map}
use Rattle.std.proofs.lemmas.Bool.{false≢true, and_parts, cases_lt}
use Rattle.std.proofs.lemmas.Bool.Decides.{nat_tests}
use Rattle.std.proofs.lemmas.List.Elements.{All-from_recursion}
use Rattle.std.proofs.lemmas.Str.{IsUtf8-append, IsUtf8-from_ascii}
use Rattle.std.proofs.lemmas.Str.Ascii.{IsAscii-from_all}
use Rattle.psg_terms.specs.Names.{Name}
use Rattle.psg_terms.proofs.Lists.{each_at}
use Rattle.psg_terms.proofs.DeclareLaws.{bytes_eq-refl}
use Rattle.psg_grammar.specs.declared.types.Kind.{Kind}
use Rattle.psg_grammar.specs.declared.types.Kind.TheVariants as kinds
use Rattle.psg_grammar.specs.declared.types.Phylum.{Phylum}
use Rattle.psg_grammar.specs.declared.types.ListKind.{ListKind}
use Rattle.psg_grammar.specs.declared.types.Definition.{Definition}
use Rattle.psg_grammar.specs.Fragments.{Fragment}
use Rattle.psg_grammar.specs.Sound.{IsKindName}
use Rattle.psg_deflines.specs.WrittenTerms.{WrittenTerm}
use Rattle.psg_deflines.specs.WrittenTrees.{WrittenTree, HasTreeForm}
use Rattle.psg_deflines.specs.Written.{IsWritten, goes_on_word}
use Rattle.psg_deflines.specs.Parts.{IsPart}
use Rattle.psg_deflines.specs.Forms.{HasForm}
use Rattle.psg_deflines.specs.Versions.{is_of, names_space}
use Rattle.psg_deflines.specs.Entries.{takes_rows}
use Rattle.psg_deflines.specs.declared.lines.LineItem.{LineItem}
use Rattle.psg_deflines.specs.declared.lines.LineItem.TheVariants as items
use Rattle.psg_deflines.specs.declared.lines.Line.{Line}
use Rattle.psg_deflines.specs.declared.lines.Line.TheVariants as lines
use Rattle.psg_defcheck.specs.Scopes.{last_operator, kind_declared, a_phylum}
use Rattle.psg_defcheck.proofs.AboveLaws.{last_operator-append}
use Rattle.psg_defnumber.specs.Numbers.{IsKind}
use Rattle.psg_defread.specs.WrittenLines.{phylum_line, sort_name}
use Rattle.psg_self.specs.declared.form.Form.{Form}
use Rattle.psg_self.specs.declared.form.Form.TheVariants as forms
use Rattle.psg_self.specs.NodeParts.{form_of, elements_at, elements_of}
use Rattle.psg_self.specs.SelfLines.{lines_by, lines_of, lines_in, row_of, operator_line}
use Rattle.psg_self.specs.Says.{HasPlainVariables}
use Rattle.psg_self.proofs.LinesLaid.{IsOwnItem, IsOwnLine}
use Rattle.psg_self.proofs.NamesFormed.{HaveNames, HaveKindNames}
use Rattle.psg_self.proofs.FileShape.{rows_in, holes_in}
use Rattle.psg_self.proofs.RowFacts.{IsRowLine, IsRightRow, IsHoleLine, IsRightHole}
use Rattle.psg_self.proofs.KnownLines.{HasOperator}
use Rattle.psg_self.proofs.TreesSame.{term-form, terms-form}

-- ---- rows and hole rows of an exported text

module _ (def : Definition) (Small : ℕ → Type 0) (P : Line → Type 0) where
  pub each-row : ((w : WrittenTerm) (ws : List WrittenTerm) → IsOwnLine (lines.Row w ws) → HasPlainVariables (lines.Row w ws)
      → IsRowLine def Small w ws → P (lines.Row w ws)) → (ls : List Line) → AllByRecursion IsOwnLine ls
      → AllByRecursion HasPlainVariables ls → AllByRecursion (IsRightRow def Small) (rows_in ls) → AllByRecursion P (rows_in ls)
  each-row f [] o v h = tt
  each-row f (lines.Row w ws ∷ ls) o v h = (f w ws o.0 v.0 h.0, each-row f ls o.1 v.1 h.1)
  each-row f (_ ∷ ls) o v h = each-row f ls o.1 v.1 h

  pub each-hole : (Good : WrittenTree → Type 0) → ((k : Name) (w : WrittenTerm) (tree : WrittenTree) → IsOwnLine (lines.Hole k w (Some tree))
      → HasPlainVariables (lines.Hole k w (Some tree)) → IsHoleLine def Small Good k w tree → P (lines.Hole k w (Some tree))) → (ls : List Line)
      → AllByRecursion IsOwnLine ls → AllByRecursion HasPlainVariables ls → AllByRecursion (IsRightHole def Small Good) (holes_in ls)
      → AllByRecursion P (holes_in ls)
  each-hole Good f [] o v h = tt
  each-hole Good f (lines.Hole k w None ∷ ls) o v h = absurd o.0
  each-hole Good f (lines.Hole k w (Some tree) ∷ ls) o v h = (f k w tree o.0 v.0 h.0, each-hole Good f ls o.1 v.1 h.1)
  each-hole Good f (_ ∷ ls) o v h = each-hole Good f ls o.1 v.1 h

-- ---- forms

module _ (def : Definition) (symbols : HaveNames def.signature.symbols) (phyla : HaveKindNames def.phyla)
    (no_lists : def.lists ≡ []) where
  no-list-kind : (n : Name) (l : ℕ) → IsKind def n (kinds.List l) → ⊥
  no-list-kind n l h = no-at l h.0 (ap (λ xs. slice_get xs l) (sym no_lists) ∙ h.1)
    where
      no-at : (m : ℕ) (x : ListKind) → ◌≡◌ {A = Option ListKind} (slice_get [] m) (Some x) → ⊥
      no-at zero x f = cc
      no-at (suc m) x f = cc

  kind-form : (n : Name) (k : Kind) → IsKind def n k → IsKindName n
  kind-form n (kinds.Phylum p) h = subst IsKindName h.2 (each_at (λ (k : Phylum). IsKindName k.name) def.phyla phyla p h.0 h.1)
  kind-form n (kinds.List l) h = absurd (no-list-kind n l h)

  pub row-form : (Small : ℕ → Type 0) (w : WrittenTerm) (ws : List WrittenTerm) → IsOwnLine (lines.Row w ws) → HasPlainVariables (lines.Row w ws)
      → IsRowLine def Small w ws → HasForm (lines.Row w ws)
  row-form Small w ws o v r = (
    term-form def.signature symbols r.is.names [] r.sort w r.row.head r.is.of_head o.0 v.0,
    terms-form def.signature symbols r.is.names r.columns ws r.row.columns r.is.of_columns o.1 v.1,
  )

  pub hole-form : (Small : ℕ → Type 0) (k : Name) (w : WrittenTerm) (tree : WrittenTree) → IsOwnLine (lines.Hole k w (Some tree))
      → HasPlainVariables (lines.Hole k w (Some tree)) → IsHoleLine def Small HasTreeForm k w tree → HasForm (lines.Hole k w (Some tree))
  hole-form Small k w tree o v h =
      let c = h.is.has_cases in (
        kind-form k h.row.kind h.is.of_kind,
        term-form def.signature symbols c.3.names [] h.is.sort w c.0.term c.3.of_term o.1 v,
        h.good,
      )

  -- a kind of the definition is declared where its phyla are
  kind-there : (all : List Phylum) (p : ℕ) (k : Phylum) → slice_get all p ≡ Some k
      → is_some (kind_declared (map (phylum_line def) all) k.name) ≡ true
  kind-there [] p k e = absurd (no-at p k e)
    where
      no-at : (m : ℕ) (x : Phylum) → ◌≡◌ {A = Option Phylum} (slice_get [] m) (Some x) → ⊥
      no-at zero x f = cc
      no-at (suc m) x f = cc
  kind-there (x ∷ all) zero k e =
      let same : x ≡ k = some-is x k e in
      subst (λ (y : Phylum). is_some (kind_declared (map (phylum_line def) (x ∷ all)) y.name) ≡ true) same
      (ap (λ b. is_some (cond b (Some (a_phylum (sort_name def x.sort.0))) (kind_declared (map (phylum_line def) all) x.name))) (bytes_eq-refl x.name))
    where
      some-is : (a b : Phylum) → Some a ≡ Some b → a ≡ b
      some-is a b f = cc
  kind-there (x ∷ all) (suc p) k e = either (bytes_eq x.name k.name) (kind-there all p k e)
    where
      either : (b : Bool) → is_some (kind_declared (map (phylum_line def) all) k.name) ≡ true
          → is_some (cond b (Some (a_phylum (sort_name def x.sort.0))) (kind_declared (map (phylum_line def) all) k.name)) ≡ true
      either true f = refl
      either false f = f

  pub kind-found : (n : Name) (k : Kind) → IsKind def n k → is_some (kind_declared (map (phylum_line def) def.phyla) n) ≡ true
  kind-found n (kinds.Phylum p) h = subst (λ m. is_some (kind_declared (map (phylum_line def) def.phyla) m) ≡ true) h.2 (kind-there def.phyla p h.0 h.1)
  kind-found n (kinds.List l) h = absurd (no-list-kind n l h)

-- ---- version 1

own-no-space : (is : List LineItem) → AllByRecursion IsOwnItem is → list_any names_space is ≡ false
own-no-space [] h = refl
own-no-space (items.Refers s ∷ is) h = absurd h.0
own-no-space (items.Declares s ∷ is) h = absurd h.0
own-no-space (_ ∷ is) h = own-no-space is h.1

pub own-version : (l : Line) → IsOwnLine l → is_of 1 l ≡ true
own-version (lines.Sort d) h = refl
own-version (lines.Phylum n s b) h = refl
own-version (lines.Operator n p s l is) h = ap not (own-no-space is h.3)
own-version (lines.Row t ts) h = refl
own-version (lines.Hole n t w) h = refl
own-version (lines.Space n t) h = absurd h
own-version (lines.List n t x w l u) h = absurd h
own-version (lines.Nil n t) h = absurd h
own-version (lines.Cell n t u v) h = absurd h
own-version (lines.Case t w) h = absurd h
own-version (lines.Declare a n t u w) h = absurd h

-- ---- a row is below an operator

pub record IsReady (above : List Line) : Type 0 where
  pub operator : HasOperator (last_operator None above)
  pub rows : takes_rows above ≡ true

abbrev pub IsReadyFor : List Line → Line → Type 0
IsReadyFor above (lines.Row w ws) = IsReady above
IsReadyFor above _ = Unit {0}

abbrev pub AreReady : List Line → List Line → Type 0
AreReady above [] = Unit {0}
AreReady above (l ∷ ls) = IsReadyFor above l × AreReady (above ++ l ∷ []) ls

takes-front : (xs ys : List Line) → takes_rows xs ≡ true → takes_rows (xs ++ ys) ≡ true
takes-front [] ys h = absurd (false≢true h)
takes-front (lines.Operator n p s l is ∷ xs) ys h = refl
takes-front (lines.Sort d ∷ xs) ys h = takes-front xs ys h
takes-front (lines.Space n t ∷ xs) ys h = takes-front xs ys h
takes-front (lines.Phylum n t b ∷ xs) ys h = takes-front xs ys h
takes-front (lines.List n t x w l u ∷ xs) ys h = takes-front xs ys h
takes-front (lines.Row t ts ∷ xs) ys h = takes-front xs ys h
takes-front (lines.Nil n t ∷ xs) ys h = takes-front xs ys h
takes-front (lines.Cell n t u v ∷ xs) ys h = takes-front xs ys h
takes-front (lines.Hole n t w ∷ xs) ys h = takes-front xs ys h
takes-front (lines.Case t w ∷ xs) ys h = takes-front xs ys h
takes-front (lines.Declare a n t u w ∷ xs) ys h = takes-front xs ys h

takes-back : (xs ys : List Line) → takes_rows ys ≡ true → takes_rows (xs ++ ys) ≡ true
takes-back [] ys h = h
takes-back (lines.Operator n p s l is ∷ xs) ys h = refl
takes-back (lines.Sort d ∷ xs) ys h = takes-back xs ys h
takes-back (lines.Space n t ∷ xs) ys h = takes-back xs ys h
takes-back (lines.Phylum n t b ∷ xs) ys h = takes-back xs ys h
takes-back (lines.List n t x w l u ∷ xs) ys h = takes-back xs ys h
takes-back (lines.Row t ts ∷ xs) ys h = takes-back xs ys h
takes-back (lines.Nil n t ∷ xs) ys h = takes-back xs ys h
takes-back (lines.Cell n t u v ∷ xs) ys h = takes-back xs ys h
takes-back (lines.Hole n t w ∷ xs) ys h = takes-back xs ys h
takes-back (lines.Case t w ∷ xs) ys h = takes-back xs ys h
takes-back (lines.Declare a n t u w ∷ xs) ys h = takes-back xs ys h

after-row : (above : List Line) (w : WrittenTerm) (ws : List WrittenTerm) → IsReady above → IsReady (above ++ lines.Row w ws ∷ [])
after-row above w ws h = record {
  operator = subst HasOperator (sym (last_operator-append None above (lines.Row w ws ∷ []))) h.operator;
  rows = takes-front above (lines.Row w ws ∷ []) h.rows;
}

after-operator : (above : List Line) (f : Fragment) → IsReady (above ++ operator_line f ∷ [])
after-operator above f = record {
  operator = subst HasOperator (sym (last_operator-append None above (operator_line f ∷ []))) tt;
  rows = takes-back above (operator_line f ∷ []) refl;
}

rows-ready : (above : List Line) (rows : List Fragment) (ls : List Line) → IsReady above → ((a : List Line) → AreReady a ls)
    → AreReady above (map row_of rows ++ ls)
rows-ready above [] ls h k = k above
rows-ready above (r ∷ rows) ls h k = (h, rows-ready (above ++ row_of r ∷ []) rows ls (after-row above _ _ h) k)

node-ready : (o : Option Form) (f : Fragment) (above ls : List Line) → ((a : List Line) → AreReady a ls) → AreReady above (lines_by o f ++ ls)
node-ready None f above ls k = k above
node-ready (Some forms.SortLine) f above ls k = (tt, k (above ++ _ ∷ []))
node-ready (Some forms.PhylumLine) f above ls k = (tt, k (above ++ _ ∷ []))
node-ready (Some forms.BracketedLine) f above ls k = (tt, k (above ++ _ ∷ []))
node-ready (Some forms.HoleLine) f above ls k = (tt, k (above ++ _ ∷ []))
node-ready (Some forms.OperatorLine) f above ls k =
    (tt, rows-ready (above ++ operator_line f ∷ []) (elements_at f 4) ls (after-operator above f) k)
node-ready (Some _) f above ls k = k above

nodes-ready : (es : List Fragment) (above : List Line) → AreReady above (flat_map lines_of es)
nodes-ready [] above = tt
nodes-ready (e ∷ es) above = node-ready (form_of e) e above (flat_map lines_of es) (nodes-ready es)

pub tree-ready : (f : Fragment) → AreReady [] (lines_in f)
tree-ready f = nodes-ready (elements_of f) []

-- ---- UTF-8

low-word : (c : ℕ) → goes_on_word c ≡ true → c < 128
low-word c h = elim (cases_lt c 128) [
  | inl small ↦ small
  | inr large ↦ absurd (false≢true (sym (above c large) ∙ h))
]
  where
    above : (d : ℕ) → 128 ≤ d → goes_on_word d ≡ false
    above d large = grind (arith, nat_tests)

pub ascii-utf8 : (bs : List ℕ) → AllByRecursion (λ b. b < 128) bs → IsUtf8 bs
ascii-utf8 bs h = IsUtf8-from_ascii bs (IsAscii-from_all bs (All-from_recursion (λ b. b < 128) bs h))

pub word-low : (bs : List ℕ) → list_all goes_on_word bs ≡ true → AllByRecursion (λ b. b < 128) bs
word-low [] h = tt
word-low (b ∷ bs) h =
    let both = and_parts (goes_on_word b) (list_all goes_on_word bs) h in (low-word b both.0, word-low bs both.1)

spaces-low : (n : ℕ) → AllByRecursion (λ b. b < 128) (replicate n 32)
spaces-low zero = tt
spaces-low (suc n) = (omega arith, spaces-low n)

module _ (low : (p : List ℕ) → IsPart p → IsUtf8 p) where
  pub written-utf8 : (ps : List (List ℕ)) (x : List ℕ) → AllByRecursion IsPart ps → IsWritten ps x → IsUtf8 x
  written-utf8 [] x h w = subst IsUtf8 (sym w) (ascii-utf8 [] tt)
  written-utf8 (p ∷ []) x h w = subst IsUtf8 (sym w) (low p h.0)
  written-utf8 (p ∷ q ∷ ps) x h (n, rest, e, apart, w) =
      subst IsUtf8 (sym e)
      (IsUtf8-append p (replicate n 32 ++ rest) (low p h.0)
      (IsUtf8-append (replicate n 32) rest (ascii-utf8 (replicate n 32) (spaces-low n)) (written-utf8 (q ∷ ps) rest h.1 w)))
