-- The lines of a file pass the tests of their meaning, where those of another file of the same definition do.
use Rattle.std.proofs.Common.{arith, ◌≡◌, ℕ, ◌+◌, Bool, true, false, cond, is_some, IsTrue, inl, inr, Option, Some, None, List, [], ◌∷◌, ◌++◌, length, map, slice_get, refl, ap, sym, ◌∙◌, subst}
use Rattle.std.specs.Prelude.{bytes_eq}
use Rattle.std.specs.List.{AllByRecursion, list_any}
use Rattle.std.proofs.lemmas.Bool.{or_cases, false≢true}
use Rattle.std.proofs.lemmas.List.{length-map}
use Rattle.psg_terms.specs.Names.{Name, is_among}
use Rattle.psg_terms.specs.Terms.{Term}
use Rattle.psg_terms.specs.Signature.{Signature, Symbol}
use Rattle.psg_terms.specs.declared.declare.ConDecl.{ConDecl}
use Rattle.psg_terms.specs.declared.declare.SortDecl.{SortDecl}
use Rattle.psg_grammar.specs.declared.types.Level.{Level}
use Rattle.psg_terms.specs.Declarations.{IsSpelled}
use Rattle.psg_terms.proofs.Lists.{slice_get-map_some}
use Rattle.psg_terms.proofs.DeclareLaws.{is_among-at}
use Rattle.psg_terms.proofs.DeclareFaults.{symbol_names}
use Rattle.psg_deflines.specs.WrittenTerms.{WrittenTerm, variable, named, apply}
use Rattle.psg_deflines.specs.WrittenTrees.{WrittenTree}
use Rattle.psg_deflines.specs.WrittenTrees as trees
use Rattle.psg_deflines.specs.declared.lines.LineItem.{LineItem}
use Rattle.psg_deflines.specs.declared.lines.LineItem.TheVariants as items
use Rattle.psg_deflines.specs.declared.lines.Line.{Line}
use Rattle.psg_deflines.specs.declared.lines.Line.TheVariants as lines
use Rattle.psg_defcheck.specs.Scopes.{Constructor, constructor_names, names_of, constructor_among, constructor_declared, operator_declared, is_phylum, is_kind, OpDecl, Place, last_operator}
use Rattle.psg_defcheck.specs.Meanings.{KnowsTerm, KnowsTree, KnowsSort, KnowsItem, IsKnown, CountsTerm, CountsTree, IsCounted, IsArity, IsPartCount, IsColumnCount, count_of, has_column, PartPlace, for_tree, column_places, SortsTerm, SortAll, SortsTree, SortsRow, SortsLine, Accepts, TakesParts, HasEntity, is_name_item}
use Rattle.psg_defnumber.specs.Numbers.{sort_decls, IsTerm, AreTerms}
use Rattle.psg_defnumber.proofs.OnceLaws.{decls-constructors}
use Rattle.psg_defread.proofs.PassedItems.{parts-counted}
use Rattle.psg_self.proofs.LinesLaid.{IsOwnTree, IsOwnItem}
use Rattle.psg_self.proofs.FileShape.{HasSame, same-sort_names, same-kind_declared, same-operator_declared}

-- ---- constructors

among-there : (sort : Name) (cs : List ConDecl) (ns : List Name) (n : Name) (o : Option Constructor) → is_among (names_of cs ++ ns) n ≡ true
    → (is_among ns n ≡ true → is_some o ≡ true) → is_some (constructor_among sort cs n o) ≡ true
among-there sort [] ns n o h k = k h
among-there sort (c ∷ cs) ns n o h k = elim (or_cases (bytes_eq c.name n) (is_among (names_of cs ++ ns) n) h) [
  | inl e ↦ ap (λ b. is_some (cond b (Some (sort, c)) (constructor_among sort cs n o))) e
  | inr e ↦ either (bytes_eq c.name n) (among-there sort cs ns n o e k)
]
  where
    either : (b : Bool) → is_some (constructor_among sort cs n o) ≡ true
        → is_some (cond b (Some (sort, c)) (constructor_among sort cs n o)) ≡ true
    either true f = refl
    either false f = f

declared-there : (ls : List Line) (n : Name) → is_among (constructor_names ls) n ≡ true → is_some (constructor_declared ls n) ≡ true
declared-there [] n h = absurd (false≢true h)
declared-there (lines.Sort d ∷ ls) n h = among-there d.name d.constructors (constructor_names ls) n (constructor_declared ls n) h (declared-there ls n)
declared-there (lines.Space m t ∷ ls) n h = declared-there ls n h
declared-there (lines.Phylum m t b ∷ ls) n h = declared-there ls n h
declared-there (lines.List m t x w l k ∷ ls) n h = declared-there ls n h
declared-there (lines.Operator m p s l is ∷ ls) n h = declared-there ls n h
declared-there (lines.Row t ts ∷ ls) n h = declared-there ls n h
declared-there (lines.Nil m t ∷ ls) n h = declared-there ls n h
declared-there (lines.Cell m t k v ∷ ls) n h = declared-there ls n h
declared-there (lines.Hole m t w ∷ ls) n h = declared-there ls n h
declared-there (lines.Case t w ∷ ls) n h = declared-there ls n h
declared-there (lines.Declare x m t k w ∷ ls) n h = declared-there ls n h

module _ (sig : Signature) (ls : List Line) (spelled : IsSpelled (sort_decls ls) sig) where
  symbol-known : (c : ℕ) (s : Symbol) → slice_get sig.symbols c ≡ Some s → is_some (constructor_declared ls s.name) ≡ true
  symbol-known c s at =
      let names : map (λ (x : Symbol). x.name) sig.symbols ≡ constructor_names ls = symbol_names (sort_decls ls) sig spelled ∙ decls-constructors 0 ls in
      declared-there ls s.name (sym (ap (λ ns. is_among ns s.name) names)
      ∙ is_among-at (map (λ (x : Symbol). x.name) sig.symbols) c s.name (slice_get-map_some (λ (x : Symbol). x.name) sig.symbols c s at))

  pub term-known : (vs : List Name) (arguments : List ℕ) (sort : ℕ) (w : WrittenTerm) (t : Term) → IsTerm sig vs arguments sort w t → KnowsTerm ls w
  term-known vs arguments sort (variable n) t h = tt
  term-known vs arguments sort (named n) t h = subst (λ m. is_some (constructor_declared ls m) ≡ true) h.3 (symbol-known h.0 h.1 h.2)
  term-known vs arguments sort (apply f a) t h = (term-known vs (h.0 ∷ arguments) sort f h.1 h.3, term-known vs [] h.0 a h.2 h.4)

  pub terms-known : (vs : List Name) (sorts : List ℕ) (ws : List WrittenTerm) (ts : List Term) → AreTerms sig vs sorts ws ts
      → AllByRecursion (KnowsTerm ls) ws
  terms-known vs [] [] ts h = tt
  terms-known vs [] (w ∷ ws) ts h = absurd h
  terms-known vs (s ∷ sorts) [] ts h = absurd h
  terms-known vs (s ∷ sorts) (w ∷ ws) ts h = (term-known vs [] s w h.0 h.2, terms-known vs sorts ws h.1 h.3)

-- ---- what is sorted is counted

arity-is : (file : List Line) (sorts : Name → Name) (o : Option Constructor) (places : List Place) (at : Place) → Accepts file sorts o places at
    → IsArity o (length places)
arity-is file sorts None places at h = tt
arity-is file sorts (Some c) places at h = sym (ap length h.0 ∙ length-map c.1.args _)

pub term-counted : (file : List Line) (sorts : Name → Name) (places : List Place) (at : Place) (w : WrittenTerm) → SortsTerm file sorts places at w
    → CountsTerm file (length places) w
term-counted file sorts places at (variable n) h = tt
term-counted file sorts places at (named n) h = arity-is file sorts (constructor_declared file n) places at h
term-counted file sorts places at (apply f a) h =
    let size : length (h.0 ∷ places) ≡ length places + 1 = omega arith in
    (subst (λ k. CountsTerm file k f) size (term-counted file sorts (h.0 ∷ places) at f h.1), term-counted file sorts [] h.0 a h.2)

terms-counted : (file : List Line) (sorts : Name → Name) (places : List Place) (ws : List WrittenTerm) → SortAll file sorts places ws
    → AllByRecursion (CountsTerm file 0) ws
terms-counted file sorts [] [] h = tt
terms-counted file sorts [] (w ∷ ws) h = absurd h
terms-counted file sorts (p ∷ places) [] h = absurd h
terms-counted file sorts (p ∷ places) (w ∷ ws) h = (term-counted file sorts [] p w h.0, terms-counted file sorts places ws h.1)

terms-many : (file : List Line) (sorts : Name → Name) (places : List Place) (ws : List WrittenTerm) → SortAll file sorts places ws
    → length places ≡ length ws
terms-many file sorts [] [] h = refl
terms-many file sorts [] (w ∷ ws) h = absurd h
terms-many file sorts (p ∷ places) [] h = absurd h
terms-many file sorts (p ∷ places) (w ∷ ws) h = omega (arith, terms-many file sorts places ws h.1)

columns-many : (file : List Line) (is : List LineItem) → count_of has_column is ≡ length (column_places file is)
columns-many file [] = refl
columns-many file (items.Slot k ∷ is) = omega (arith, columns-many file is)
columns-many file (items.Refers s ∷ is) = omega (arith, columns-many file is)
columns-many file (items.Declares s ∷ is) = omega (arith, columns-many file is)
columns-many file (_ ∷ is) = columns-many file is

parts-are : (file : List Line) (sorts : Name → Name) (o : Option OpDecl) (places : List PartPlace) (at : Place) → TakesParts file sorts o places at
    → IsPartCount o (length places)
parts-are file sorts None places at h = tt
parts-are file sorts (Some o) places at h = parts-counted file o.made ∙ sym (ap length h.0)

tree-counted : (file : List Line) (sorts : Name → Name) (places : List PartPlace) (at : Place) (w : WrittenTree) → IsOwnTree w
    → SortsTree file sorts places at w → CountsTree file (length places) w
tree-counted file sorts places at (trees.operator n) own h = parts-are file sorts (operator_declared file n) places at h
tree-counted file sorts places at (trees.with_tree f t) own h =
    let behind : List PartPlace = for_tree h.0 ∷ places in
    let size : length behind ≡ length places + 1 = omega arith in
    (subst (λ k. CountsTree file k f) size (tree-counted file sorts behind at f own.0 h.1), tree-counted file sorts [] h.0 t own.1 h.2)
tree-counted file sorts places at (trees.with_name f n) own h = absurd own
tree-counted file sorts places at (trees.with_number f d) own h = absurd own
tree-counted file sorts places at (trees.with_text f w) own h = absurd own
tree-counted file sorts places at trees.list_end own h = absurd own
tree-counted file sorts places at (trees.list_rest l t) own h = absurd own
tree-counted file sorts places at (trees.element e r) own h = absurd own
tree-counted file sorts places at (trees.place k t) own h = absurd own

row-counted : (file : List Line) (sorts : Name → Name) (o : Option OpDecl) (w : WrittenTerm) (ws : List WrittenTerm) → SortsRow file sorts o w ws
    → IsColumnCount o (length ws)
row-counted file sorts None w ws h = tt
row-counted file sorts (Some o) w ws h = columns-many file o.made ∙ terms-many file sorts (column_places file o.made) ws h.1

-- a row after an operator
abbrev pub HasOperator : Option OpDecl → Type 0
HasOperator None = ⊥
HasOperator (Some o) = Unit {0}

row-terms-counted : (file : List Line) (sorts : Name → Name) (o : Option OpDecl) (w : WrittenTerm) (ws : List WrittenTerm) → HasOperator o
    → SortsRow file sorts o w ws → CountsTerm file 0 w × AllByRecursion (CountsTerm file 0) ws
row-terms-counted file sorts None w ws p h = absurd p
row-terms-counted file sorts (Some o) w ws p h = (term-counted file sorts [] _ w h.0, terms-counted file sorts (column_places file o.made) ws h.1)

pub row-line-counted : (file above : List Line) (sorts : Name → Name) (w : WrittenTerm) (ws : List WrittenTerm) → HasOperator (last_operator None above)
    → SortsLine file sorts above (lines.Row w ws) → IsCounted file above (lines.Row w ws)
row-line-counted file above sorts w ws p h =
    let both = row-terms-counted file sorts (last_operator None above) w ws p h in
    (both.0, both.1, row-counted file sorts (last_operator None above) w ws h)

pub hole-line-counted : (file above : List Line) (sorts : Name → Name) (k : Name) (w : WrittenTerm) (tree : WrittenTree) → IsOwnTree tree
    → SortsLine file sorts above (lines.Hole k w (Some tree)) → IsCounted file above (lines.Hole k w (Some tree))
hole-line-counted file above sorts k w tree own h = (term-counted file sorts [] _ w h.0, tree-counted file sorts [] _ tree own h.1)

-- ---- what is known in the other file

module _ (ls ms : List Line) (same : HasSame ls ms) where
  sort-known : (n : Name) → KnowsSort ms n → KnowsSort ls n
  sort-known n h = rw (same-sort_names ls ms same) h

  phylum-known : (n : Name) → IsTrue (is_phylum ms n) → IsTrue (is_phylum ls n)
  phylum-known n h = rw (same-kind_declared ls ms same n) h

  pub kind-known : (n : Name) → IsTrue (is_kind ms n) → IsTrue (is_kind ls n)
  kind-known n h = rw (same-kind_declared ls ms same n) h

  pub tree-known : (w : WrittenTree) → IsOwnTree w → KnowsTree ms w → KnowsTree ls w
  tree-known (trees.operator n) own h = rw (same-operator_declared ls ms same n) h
  tree-known (trees.with_tree f t) own h = (tree-known f own.0 h.0, tree-known t own.1 h.1)
  tree-known (trees.with_name f n) own h = absurd own
  tree-known (trees.with_number f d) own h = absurd own
  tree-known (trees.with_text f w) own h = absurd own
  tree-known trees.list_end own h = absurd own
  tree-known (trees.list_rest l t) own h = absurd own
  tree-known (trees.element e r) own h = absurd own
  tree-known (trees.place k t) own h = absurd own

  sorts-known : (ns : List Name) → AllByRecursion (KnowsSort ms) ns → AllByRecursion (KnowsSort ls) ns
  sorts-known [] h = tt
  sorts-known (n ∷ ns) h = (sort-known n h.0, sorts-known ns h.1)

  constructors-known : (cs : List ConDecl) → AllByRecursion (λ (c : ConDecl). AllByRecursion (KnowsSort ms) c.args) cs
      → AllByRecursion (λ (c : ConDecl). AllByRecursion (KnowsSort ls) c.args) cs
  constructors-known [] h = tt
  constructors-known (c ∷ cs) h = (sorts-known c.args h.0, constructors-known cs h.1)

  item-known : (i : LineItem) → IsOwnItem i → KnowsItem ms i → KnowsItem ls i
  item-known (items.Slot k) own h = kind-known k h
  item-known (items.Refers s) own h = absurd own
  item-known (items.Declares s) own h = absurd own
  item-known (items.Word w) own h = tt
  item-known items.Number own h = tt
  item-known items.Text own h = tt
  item-known items.Space own h = tt
  item-known items.Tight own h = tt
  item-known items.Line own h = tt
  item-known items.In own h = tt
  item-known items.Out own h = tt

  items-known : (is : List LineItem) → AllByRecursion IsOwnItem is → AllByRecursion (KnowsItem ms) is → AllByRecursion (KnowsItem ls) is
  items-known [] own h = tt
  items-known (i ∷ is) own h = (item-known i own.0 h.0, items-known is own.1 h.1)

  pub sort-line-known : (d : SortDecl) → IsKnown ms (lines.Sort d) → IsKnown ls (lines.Sort d)
  sort-line-known d h = constructors-known d.constructors h

  pub phylum-line-known : (n s : Name) (b : Bool) → IsKnown ms (lines.Phylum n s b) → IsKnown ls (lines.Phylum n s b)
  phylum-line-known n s b h = sort-known s h

  pub operator-line-known : (n p : Name) (s : Bool) (l : Level) (is : List LineItem) → AllByRecursion IsOwnItem is
      → IsKnown ms (lines.Operator n p s l is) → IsKnown ls (lines.Operator n p s l is)
  operator-line-known n p s l is own h = (phylum-known p h.0, items-known is own h.1)

pub own-no-name : (is : List LineItem) → AllByRecursion IsOwnItem is → list_any is_name_item is ≡ false
own-no-name [] h = refl
own-no-name (items.Refers s ∷ is) h = absurd h.0
own-no-name (items.Declares s ∷ is) h = absurd h.0
own-no-name (_ ∷ is) h = own-no-name is h.1

pub operator-line-entity : (file : List Line) (n p : Name) (s : Bool) (l : Level) (is : List LineItem) → AllByRecursion IsOwnItem is
    → HasEntity file (lines.Operator n p s l is)
operator-line-entity file n p s l is h = inl (own-no-name is h)
