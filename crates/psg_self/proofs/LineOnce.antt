-- What an exported line spells is its line, but where an item names a space.
use Rattle.std.proofs.Common.{arith, ◌≡◌, ◌⊎◌, ℕ, ◌+◌, ◌*◌, ◌<◌, ◌≤◌, ◌^◌, Bool, true, false, inl, inr, Some, None, List, [], ◌∷◌, ◌++◌, get_or, length, map, refl, ap, ap₂, sym, ◌∙◌, subst, append-nil, codes, decimal}
use Rattle.std.specs.Prelude.{IsUtf8, bytes_eq}
use Rattle.std.specs.List.{AllByRecursion, list_all, list_any}
use Rattle.std.proofs.lemmas.Bool.{and_parts, false≢true, or_left, or_right}
use Rattle.std.proofs.lemmas.Fmt.{decimal_digit}
use Rattle.psg_terms.specs.Names.{Name, is_among}
use Rattle.psg_terms.proofs.DeclareLaws.{bytes_eq-refl}
use Rattle.psg_terms.specs.declared.declare.ConDecl.{ConDecl}
use Rattle.psg_terms.specs.declared.declare.SortDecl.{SortDecl}
use Rattle.psg_grammar.specs.Sound.{IsOwnName as IsTold, IsKindName, IsLevel, is_name_from, is_upper}
use Rattle.psg_grammar.specs.declared.types.Level.{Level}
use Rattle.psg_grammar.specs.declared.types.Level.TheVariants as levels
use Rattle.psg_lexis.specs.Tokens.{value_of}
use Rattle.psg_lexis.proofs.Decimals.{decimal-value}
use Rattle.psg_deflines.specs.TermWalks.{IsNotOpened}
use Rattle.psg_deflines.specs.Written.{IsWritten}
use Rattle.psg_deflines.specs.WrittenTerms.{WrittenTerm, term_parts}
use Rattle.psg_deflines.specs.WrittenTrees.{WrittenTree, quoted_part}
use Rattle.psg_deflines.specs.Forms.{parts_of, item_part, closed_names, argument_parts, constructor_parts, columns_parts, by_parts, word_if, level_parts, HasConstructorForm, HasItemForm, HasForm, SpellsLine}
use Rattle.psg_deflines.specs.declared.lines.LineItem.{LineItem}
use Rattle.psg_deflines.specs.declared.lines.LineItem.TheVariants as items
use Rattle.psg_deflines.specs.declared.lines.Line.{Line}
use Rattle.psg_deflines.specs.declared.lines.Line.TheVariants as lines
use Rattle.psg_deflines.proofs.SpellLaws.{line-parts}
use Rattle.psg_deflines.proofs.LineInverses.{Is_sort, sort_line, sort-inverse, Is_phylum, phylum_line, phylum-inverse, Is_op, op_line, op-inverse, Is_row, row_line, row-inverse, Is_hole, hole_line, hole-inverse}
use Rattle.psg_defcheck.specs.Meanings.{is_name_item}
use Rattle.psg_self.specs.Export.{exported_words, spaced, level_words}
use Rattle.psg_self.specs.Pieces.{is_broad, IsRun, Laid}
use Rattle.psg_self.proofs.QuoteOnce.{quoted-is, quoted-once}
use Rattle.psg_self.proofs.PiecesOnce.{laid-once, laid-of}
use Rattle.psg_self.proofs.LinesLaid.{first_byte, own_words, own_parts, IsOwnConstructor, IsOwnItem, IsSmallLevel, IsOwnLine, line-laid}
use Rattle.psg_self.proofs.FormsTold.{row-named, columns-formed, term-formed, tree-formed, hole-simple, hole-named, IsNamed, IsSimple, front, back}

abbrev Parts : Type 0
Parts = List (List ℕ)

abbrev first_of : Parts → List ℕ
first_of [] = []
first_of (p ∷ ps) = p

abbrev rest_of : Parts → Parts
rest_of [] = []
rest_of (p ∷ ps) = ps

abbrev byte_of : List ℕ → ℕ
byte_of w = first_byte w

-- ---- constructors

abbrev IsApartName : ConDecl → Type 0
IsApartName c = c.name ≡ codes "(" → ⊥

cons-apart : (cs : List ConDecl) → AllByRecursion IsApartName cs → IsNotOpened (constructor_parts cs)
cons-apart [] h rest e = cc
cons-apart (c ∷ cs) h rest e = h.0 (ap first_of e)

closed-once : (n m : Name) (ns ms : List Name) (r q : Parts) → closed_names (n ∷ ns) ++ r ≡ closed_names (m ∷ ms) ++ q
    → (n ∷ ns ≡ m ∷ ms) × (r ≡ q)
closed-once n m [] [] r q e = (ap (λ l. first_of l ∷ []) e, ap (λ l. rest_of (rest_of l)) e)
closed-once n m [] (k ∷ ms) r q e = absurd (omega (arith, ap (λ l. byte_of (first_of (rest_of l))) e))
closed-once n m (k ∷ ns) [] r q e = absurd (omega (arith, ap (λ l. byte_of (first_of (rest_of l))) e))
closed-once n m (k ∷ ns) (l ∷ ms) r q e =
    let behind = closed-once k l ns ms r q (ap (λ x. rest_of (rest_of x)) e) in
    (ap₂ (λ x xs. x ∷ xs) (ap first_of e) behind.0, behind.1)

arguments-once : (xs ys : List Name) (r q : Parts) → IsNotOpened r → IsNotOpened q
    → argument_parts xs ++ r ≡ argument_parts ys ++ q → (xs ≡ ys) × (r ≡ q)
arguments-once [] [] r q h k e = (refl, e)
arguments-once [] (y ∷ ys) r q h k e = absurd (h _ e)
arguments-once (x ∷ xs) [] r q h k e = absurd (k _ (sym e))
arguments-once (x ∷ xs) (y ∷ ys) r q h k e = closed-once x y xs ys r q (ap rest_of e)

constructors-once : (cs ds : List ConDecl) → AllByRecursion IsApartName cs → AllByRecursion IsApartName ds
    → constructor_parts cs ≡ constructor_parts ds → cs ≡ ds
constructors-once [] [] h k e = refl
constructors-once [] (d ∷ ds) h k e = cc
constructors-once (c ∷ cs) [] h k e = cc
constructors-once (c ∷ cs) (d ∷ ds) h k e =
    let both = arguments-once c.args d.args (constructor_parts cs) (constructor_parts ds) (cons-apart cs h.1)
    (cons-apart ds k.1) (ap rest_of e) in
    ap₂ (λ x xs. x ∷ xs) (ap₂ (λ n sorts. record { name = n; args = sorts }) (ap first_of e) both.0)
    (constructors-once cs ds h.1 k.1 both.1)

told-apart : (cs : List ConDecl) → AllByRecursion HasConstructorForm cs → AllByRecursion IsApartName cs
told-apart [] h = tt
told-apart (c ∷ cs) h = ((λ e. false≢true (subst IsTold e h.0.0)), told-apart cs h.1)

own-apart : (cs : List ConDecl) → AllByRecursion IsOwnConstructor cs → AllByRecursion IsApartName cs
own-apart [] h = tt
own-apart (c ∷ cs) h = ((λ e. false≢true (ap (list_all is_broad) (sym e) ∙ h.0.0.run)), own-apart cs h.1)

-- ---- levels

abbrev key : List ℕ → ℕ
key w = length w * 256 + get_or w 5 0

pub words-are : (l : Level) → IsLevel l → level_parts l ≡ level_words l
words-are levels.Plain h = refl
words-are (levels.Prefix n) h = ap (λ d. codes "prefix" ∷ d ∷ []) (sym (decimal_digit n (omega (arith, h.1))))
words-are (levels.Postfix n) h = ap (λ d. codes "postfix" ∷ d ∷ []) (sym (decimal_digit n (omega (arith, h.1))))
words-are (levels.InfixLeft n) h = ap (λ d. codes "infixl" ∷ d ∷ []) (sym (decimal_digit n (omega (arith, h.1))))
words-are (levels.InfixRight n) h = ap (λ d. codes "infixr" ∷ d ∷ []) (sym (decimal_digit n (omega (arith, h.1))))
words-are (levels.InfixNone n) h = ap (λ d. codes "infix" ∷ d ∷ []) (sym (decimal_digit n (omega (arith, h.1))))

-- numbers are told from their digits
abbrev pub AreTold : Type 0
AreTold = (m n : ℕ) → m ≤ 9 → n < 2 ^ 128 → decimal m ≡ decimal n → m ≡ n

pub numbers-told : AreTold
numbers-told m n small wide e =
    sym (decimal-value m (omega (arith, small))) ∙ ap value_of e ∙ decimal-value n wide

module _ (told : AreTold) where
  level-once : (l m : Level) (r q : Parts) → IsLevel l → IsSmallLevel m → level_words l ++ (codes "=" ∷ r) ≡ level_words m ++ (codes "=" ∷ q)
      → (l ≡ m) × (r ≡ q)
  level-once levels.Plain levels.Plain r q h k e = (refl, ap rest_of e)
  level-once (levels.Prefix n) (levels.Prefix m) r q h k e =
      (ap levels.Prefix (told n m h.1 k (ap (λ x. first_of (rest_of x)) e)), ap (λ x. rest_of (rest_of (rest_of x))) e)
  level-once (levels.Postfix n) (levels.Postfix m) r q h k e =
      (ap levels.Postfix (told n m h.1 k (ap (λ x. first_of (rest_of x)) e)), ap (λ x. rest_of (rest_of (rest_of x))) e)
  level-once (levels.InfixLeft n) (levels.InfixLeft m) r q h k e =
      (ap levels.InfixLeft (told n m h.1 k (ap (λ x. first_of (rest_of x)) e)), ap (λ x. rest_of (rest_of (rest_of x))) e)
  level-once (levels.InfixRight n) (levels.InfixRight m) r q h k e =
      (ap levels.InfixRight (told n m h.1 k (ap (λ x. first_of (rest_of x)) e)), ap (λ x. rest_of (rest_of (rest_of x))) e)
  level-once (levels.InfixNone n) (levels.InfixNone m) r q h k e =
      (ap levels.InfixNone (told n m h.1 k (ap (λ x. first_of (rest_of x)) e)), ap (λ x. rest_of (rest_of (rest_of x))) e)
  level-once l m r q h k e = absurd (omega (arith, ap (λ x. key (first_of x)) e))

-- a scope is not exported
no-scope : (m : Level) (r q : Parts) → codes "scope" ∷ r ≡ level_words m ++ (codes "=" ∷ q) → ⊥
no-scope levels.Plain r q e = omega (arith, ap (λ x. byte_of (first_of x)) e)
no-scope (levels.Prefix n) r q e = omega (arith, ap (λ x. byte_of (first_of x)) e)
no-scope (levels.Postfix n) r q e = omega (arith, ap (λ x. byte_of (first_of x)) e)
no-scope (levels.InfixLeft n) r q e = omega (arith, ap (λ x. byte_of (first_of x)) e)
no-scope (levels.InfixRight n) r q e = omega (arith, ap (λ x. byte_of (first_of x)) e)
no-scope (levels.InfixNone n) r q e = omega (arith, ap (λ x. byte_of (first_of x)) e)

-- ---- items

not-word : (w n : Name) → is_among own_words n ≡ false → is_among own_words w ≡ true → w ≡ n → ⊥
not-word w n h k e = false≢true (sym h ∙ ap (is_among own_words) (sym e) ∙ k)

not-name : (w n : Name) → bytes_eq n w ≡ false → w ≡ n → ⊥
not-name w n h e = false≢true (sym h ∙ ap (λ x. bytes_eq x w) (sym e) ∙ bytes_eq-refl w)

run-quote : (w n : List ℕ) → IsUtf8 w → IsRun n → quoted_part w ≡ n → ⊥
run-quote w [] u r e = omega (arith, r.long)
run-quote w (c ∷ cs) u r e =
    let first : 34 ≡ c = ap first_byte (sym (quoted-is w u) ∙ e) in
    false≢true (ap is_broad first ∙ (and_parts (is_broad c) (list_all is_broad cs) r.run).0)

same-quote : (w v : List ℕ) → IsUtf8 w → IsUtf8 v → quoted_part w ≡ quoted_part v → w ≡ v
same-quote w v u t e = (quoted-once w v [] [] u t (append-nil (quoted_part w) ∙ e ∙ sym (append-nil (quoted_part v)))).0

quote-byte : (w : List ℕ) → IsUtf8 w → (v : List ℕ) → quoted_part w ≡ v → first_byte v ≡ 34
quote-byte w u v e = ap first_byte (sym e ∙ quoted-is w u)

lower-kind : (k w : Name) → IsKindName k → k ≡ w → IsKindName w
lower-kind k w h e = subst IsKindName e h

-- a number that the words of layout marks and literals have each for itself
abbrev word_key : List ℕ → ℕ
word_key w = get_or w 0 0 * 65536 + length w * 256 + get_or w 1 0

abbrev IsOdd : LineItem → Type 0
IsOdd m = is_name_item m ≡ true

-- the item, or a name position
item-once : (m i : LineItem) → HasItemForm m → IsOwnItem i → item_part m ≡ item_part i → (m ≡ i) ⊎ IsOdd m
item-once (items.Refers s) i h k e = inr refl
item-once (items.Declares s) i h k e = inr refl
item-once m (items.Refers s) h k e = absurd k
item-once m (items.Declares s) h k e = absurd k
item-once (items.Word w) (items.Word v) h k e = inl (ap items.Word (same-quote w v h.utf8 k e))
item-once (items.Word w) (items.Slot n) h k e = absurd (run-quote w n h.utf8 k.0.is_run e)
item-once (items.Word w) i h k e = absurd (omega (arith, quote-byte w h.utf8 (item_part i) e))
item-once (items.Slot n) (items.Word w) h k e = absurd (by_name n h (quote-byte w k n (sym e)))
  where
    by_name : (m : Name) → IsKindName m → first_byte m ≡ 34 → ⊥
    by_name [] q f = false≢true q
    by_name (c ∷ cs) q f = false≢true (subst (λ d. is_name_from is_upper (d ∷ cs) ≡ true) f q)
item-once (items.Slot n) (items.Slot m) h k e = inl (ap items.Slot e)
item-once (items.Slot n) i h k e = absurd (false≢true (lower-kind n (item_part i) h e))
item-once m (items.Word w) h k e = absurd (omega (arith, quote-byte w k (item_part m) (sym e)))
item-once items.Number (items.Slot n) h k e = absurd (not-name (codes "number") n k.1 e)
item-once items.Text (items.Slot n) h k e = absurd (not-name (codes "text") n k.2 e)
item-once items.Space (items.Slot n) h k e = absurd (not-word (codes "space") n k.0.no_word refl e)
item-once items.Tight (items.Slot n) h k e = absurd (not-word (codes "tight") n k.0.no_word refl e)
item-once items.Line (items.Slot n) h k e = absurd (not-word (codes "line") n k.0.no_word refl e)
item-once items.In (items.Slot n) h k e = absurd (not-word (codes "in") n k.0.no_word refl e)
item-once items.Out (items.Slot n) h k e = absurd (not-word (codes "out") n k.0.no_word refl e)
item-once items.Number items.Number h k e = inl refl
item-once items.Text items.Text h k e = inl refl
item-once items.Space items.Space h k e = inl refl
item-once items.Tight items.Tight h k e = inl refl
item-once items.Line items.Line h k e = inl refl
item-once items.In items.In h k e = inl refl
item-once items.Out items.Out h k e = inl refl
item-once m i h k e = absurd (omega (arith, ap word_key e))

items-once : (ms is : List LineItem) → AllByRecursion HasItemForm ms → AllByRecursion IsOwnItem is → map item_part ms ≡ map item_part is
    → (ms ≡ is) ⊎ (list_any is_name_item ms ≡ true)
items-once [] [] h k e = inl refl
items-once [] (i ∷ is) h k e = absurd (omega (arith, ap length e))
items-once (m ∷ ms) [] h k e = absurd (omega (arith, ap length e))
items-once (m ∷ ms) (i ∷ is) h k e = elim (item-once m i h.0 k.0 (ap first_of e)) [
  | inr odd ↦ inr (or_left (is_name_item m) (list_any is_name_item ms) odd)
  | inl same ↦ elim (items-once ms is h.1 k.1 (ap rest_of e)) [
    | inr odd ↦ inr (or_right (is_name_item m) (list_any is_name_item ms) odd)
    | inl rest ↦ inl (ap₂ (λ x xs. x ∷ xs) same rest)
  ]
]

-- ---- lines

abbrev pub HasNameItem : Line → Type 0
HasNameItem (lines.Operator name phylum scope level made) = list_any is_name_item made ≡ true
HasNameItem _ = ⊥

word_if-once : (a b : Bool) (w : List ℕ) → word_if a w ≡ word_if b w → a ≡ b
word_if-once true true w e = refl
word_if-once false false w e = refl
word_if-once true false w e = cc
word_if-once false true w e = cc

abbrev pub SpellOnce : Type 0
SpellOnce = (t : List ℕ) (a b : Line) → SpellsLine t a → SpellsLine t b → a ≡ b

module _ (once : SpellOnce) (told : AreTold) (digits : (n : ℕ) → IsRun (decimal n)) (text : List ℕ) where
  parts-are : (other own : Line) → SpellsLine text other → IsOwnLine own → text ≡ spaced (exported_words own) → parts_of other ≡ own_parts own
  parts-are other own s h e =
      laid-once (parts_of other) (own_parts own) text (laid-of (parts_of other) text (line-parts other s.form) s.written)
      (subst (Laid (own_parts own)) (sym e) (line-laid digits own h))

  sort-once : (other : Line) (own : Line) (ps : Parts) → Is_sort ps other → HasForm other → IsOwnLine own → ps ≡ rest_of (own_parts own)
      → (d : SortDecl) → own ≡ lines.Sort d → other ≡ own
  sort-once _ own ps (sort_line x f) form h e d is =
      let same : x.name ∷ codes "=" ∷ constructor_parts x.constructors ≡ d.name ∷ codes "=" ∷ constructor_parts d.constructors =
      sym f ∙ e ∙ ap (λ l. rest_of (own_parts l)) is in
      let own_all = subst IsOwnLine is h in
      let made = constructors-once x.constructors d.constructors (told-apart x.constructors form.2) (own-apart d.constructors own_all.1)
      (ap (λ l. rest_of (rest_of l)) same) in
      ap₂ (λ n cs. lines.Sort (record { name = n; constructors = cs })) (ap first_of same) made ∙ sym is

  phylum-once : (other : Line) (ps : Parts) (n s : Name) (b : Bool) → Is_phylum ps other
      → ps ≡ n ∷ codes ":" ∷ s ∷ word_if b (codes "bracketed") → other ≡ lines.Phylum n s b
  phylum-once _ ps n s b (phylum_line m t c f) e =
      let same = sym f ∙ e in
      let brackets = word_if-once c b (codes "bracketed") (ap (λ l. rest_of (rest_of (rest_of l))) same) in
      ap (λ l. lines.Phylum (first_of l) (first_of (rest_of (rest_of l))) c) same ∙ ap (lines.Phylum n s) brackets

  operator-once : (other : Line) (ps : Parts) (n p : Name) (l : Level) (is : List LineItem) → Is_op ps other → HasForm other
      → AllByRecursion IsOwnItem is → IsSmallLevel l → ps ≡ n ∷ codes ":" ∷ p ∷ (level_words l ++ (codes "=" ∷ map item_part is))
      → (other ≡ lines.Operator n p false l is) ⊎ HasNameItem other
  operator-once _ ps n p l is (op_line m k true d ms f) form h small e =
      absurd (no-scope l (level_parts d ++ (codes "=" ∷ map item_part ms)) (map item_part is) (ap (λ x. rest_of (rest_of (rest_of x))) (sym f ∙ e)))
  operator-once _ ps n p l is (op_line m k false d ms f) form h small e =
      let same = sym f ∙ e in
      let header = level-once told d l (map item_part ms) (map item_part is) form.2 small
      (ap (λ x. x ++ (codes "=" ∷ map item_part ms)) (sym (words-are d form.2)) ∙ ap (λ x. rest_of (rest_of (rest_of x))) same) in
      elim (items-once ms is form.4 h header.1) [
        | inr odd ↦ inr odd
        | inl made ↦ inl (ap₂ (λ x y. lines.Operator x y false d ms) (ap first_of same) (ap (λ x. first_of (rest_of (rest_of x))) same)
            ∙ ap₂ (λ x y. lines.Operator n p false x y) header.0 made)
      ]

  -- where the own line has its form, it is the one that is spelled
  formed-once : (other own : Line) → SpellsLine text other → parts_of other ≡ parts_of own → HasForm own → other ≡ own
  formed-once other own s e form =
      once text other own s (record { form = form; written = subst (λ ps. IsWritten ps text) e s.written })

  row-once : (other : Line) (ps : Parts) (t : WrittenTerm) (ts : List WrittenTerm) → Is_row ps other → HasForm other
      → IsOwnLine (lines.Row t ts) → ps ≡ term_parts t ++ columns_parts ts → HasForm (lines.Row t ts)
  row-once _ ps t ts (row_line u us f) form h e =
      let named = subst (AllByRecursion IsNamed) (sym f ∙ e) (row-named u us form.0 form.1) in (
        term-formed t h.0 (front IsNamed (term_parts t) (columns_parts ts) named),
        columns-formed ts h.1 (back IsNamed (term_parts t) (columns_parts ts) named),
      )

  hole-once : (other : Line) (ps : Parts) (n : Name) (t : WrittenTerm) (w : WrittenTree) → Is_hole ps other → HasForm other
      → IsOwnLine (lines.Hole n t (Some w)) → ps ≡ n ∷ (term_parts t ++ by_parts (Some w)) → HasForm (lines.Hole n t (Some w))
  hole-once _ ps n t w (hole_line m u v f) form h e =
      let same = sym f ∙ e in
      let rest = ap rest_of same in
      let simple = subst (AllByRecursion IsSimple) (sym rest) (hole-simple t w h.1 h.2) in
      let named = subst (AllByRecursion IsNamed) rest (hole-named u v form.1 form.2 simple) in
      let kind = subst IsKindName (ap first_of same) form.0 in (
        kind,
        term-formed t h.1 (front IsNamed (term_parts t) (by_parts (Some w)) named),
        tree-formed w h.2 (back IsNamed (term_parts t) (by_parts (Some w)) named).1,
      )

  pub line-told : (other own : Line) → SpellsLine text other → IsOwnLine own → text ≡ spaced (exported_words own)
      → (other ≡ own) ⊎ HasNameItem other
  line-told other (lines.Sort d) s h e =
      let ps = parts-are other (lines.Sort d) s h e in
      inl (sort-once other (lines.Sort d) _ (sort-inverse _ other ps) s.form h refl d refl)
  line-told other (lines.Phylum n t b) s h e =
      inl (phylum-once other _ n t b (phylum-inverse _ other (parts-are other (lines.Phylum n t b) s h e)) refl)
  line-told other (lines.Operator n p true l is) s h e = absurd (false≢true (sym h.2))
  line-told other (lines.Operator n p false l is) s h e =
      operator-once other _ n p l is (op-inverse _ other (parts-are other (lines.Operator n p false l is) s h e)) s.form h.3 h.4 refl
  line-told other (lines.Row t ts) s h e =
      let ps = parts-are other (lines.Row t ts) s h e in
      inl (formed-once other (lines.Row t ts) s ps (row-once other _ t ts (row-inverse _ other ps) s.form h refl))
  line-told other (lines.Hole n t (Some w)) s h e =
      let ps = parts-are other (lines.Hole n t (Some w)) s h e in
      inl (formed-once other (lines.Hole n t (Some w)) s ps (hole-once other _ n t w (hole-inverse _ other ps) s.form h refl))
  line-told other (lines.Hole n t None) s h e = absurd h
  line-told other (lines.Space n t) s h e = absurd h
  line-told other (lines.List n t x w l u) s h e = absurd h
  line-told other (lines.Nil n t) s h e = absurd h
  line-told other (lines.Cell n t u v) s h e = absurd h
  line-told other (lines.Case t w) s h e = absurd h
  line-told other (lines.Declare a n t u w) s h e = absurd h
