-- An exported line has the parts of its line.
use Rattle.std.proofs.Common.{arith, ◌≡◌, ◌==◌, ◌⊎◌, ℕ, ◌<◌, ◌^◌, Bool, true, false, cond, inl, inr, Some, None, List, [], ◌∷◌, ◌++◌, map, length, refl, ap, sym, ◌∙◌, subst, append_assoc, append-nil, codes, decimal}
use Rattle.std.specs.Prelude.{IsUtf8, bytes_eq}
use Rattle.std.specs.List.{AllByRecursion, list_all, flat_map}
use Rattle.std.proofs.lemmas.Bool.{cases_Bool, false≢true}
use Rattle.psg_terms.specs.Names.{Name, is_among}
use Rattle.psg_grammar.specs.Sound.{is_digit}
use Rattle.psg_terms.specs.declared.declare.ConDecl.{ConDecl}
use Rattle.psg_grammar.specs.declared.types.Level.{Level}
use Rattle.psg_grammar.specs.declared.types.Level.TheVariants as levels
use Rattle.psg_deflines.specs.WrittenTerms.{WrittenTerm, variable, named, apply, term_parts, opened, is_head}
use Rattle.psg_deflines.specs.WrittenTrees.{WrittenTree}
use Rattle.psg_deflines.specs.WrittenTrees as trees
use Rattle.psg_deflines.specs.Parts.{is_mark, is_sigil, IsMarkPart}
use Rattle.psg_deflines.specs.Forms.{parts_of, item_part, closed_names, argument_parts, constructor_parts, columns_parts, terms_parts, word_if}
use Rattle.psg_deflines.specs.declared.lines.LineItem.{LineItem}
use Rattle.psg_deflines.specs.declared.lines.LineItem.TheVariants as items
use Rattle.psg_deflines.specs.declared.lines.Line.{Line}
use Rattle.psg_deflines.specs.declared.lines.Line.TheVariants as lines
use Rattle.psg_self.specs.Export.{packed, constructor_text, term_text, specimen_text, level_words, column_words, exported_words, spaced}
use Rattle.psg_self.specs.Pieces.{is_broad, begins_broad, IsRun, Piece, run_piece, sign_piece, mark_piece, quote_piece, IsEnded, Laid}
use Rattle.psg_self.proofs.PiecesOnce.{kind_of_byte, mark-kind, laid-spaced}

-- ---- what is before the end of a line or a space

pub record Behind (qs : List (List ℕ)) (x : List ℕ) : Type 0 where
  pub laid : Laid qs x
  pub quiet : begins_broad x ≡ false

nothing : Behind [] []
nothing = record { laid = refl; quiet = refl }

ended-quiet : (p : List ℕ) (a : Piece p) (x : List ℕ) → begins_broad x ≡ false → IsEnded a x
ended-quiet p (run_piece r) x h = h
ended-quiet p (sign_piece s n i r e) x h = h
ended-quiet p (mark_piece m) x h = tt
ended-quiet p (quote_piece w e u) x h = tt

not-broad : (c : ℕ) → kind_of_byte c ≡ 2 → is_broad c ≡ false
not-broad c k = elim (cases_Bool (is_broad c)) [
  | inl e ↦ absurd (omega (arith, sym k ∙ ap (λ b. cond b 0 (cond (is_sigil c) 1 (cond (is_mark c) 2 (cond (c == 34) 3 4)))) e))
  | inr e ↦ e
]

mark-quiet : (q x : List ℕ) → IsMarkPart q → begins_broad (q ++ x) ≡ false
mark-quiet q x m = ap (λ z. begins_broad (z ++ x)) m.whole ∙ not-broad m.mark (mark-kind m.mark m.is)

pub laid-before : (p : List ℕ) → Piece p → (qs : List (List ℕ)) (x : List ℕ) → Behind qs x → Laid (p ∷ qs) (p ++ x)
laid-before p a qs x b = (0, x, a, refl, ended-quiet p a x b.quiet, b.laid)

word-before : (p : List ℕ) → Piece p → (qs : List (List ℕ)) (x : List ℕ) → Behind qs x → Behind (p ∷ qs) (32 ∷ (p ++ x))
word-before p a qs x b = record { laid = laid-spaced 1 p qs (p ++ x) (laid-before p a qs x b); quiet = refl }

words-before : (ws : List (List ℕ)) → AllByRecursion Piece ws → Behind ws (flat_map (λ v. 32 ∷ v) ws)
words-before [] h = nothing
words-before (w ∷ ws) h = word-before w h.0 ws (flat_map (λ v. 32 ∷ v) ws) (words-before ws h.1)

-- ---- parts with nothing between them

abbrev pub IsTight : List (List ℕ) → Type 0
IsTight [] = ⊥
IsTight (p ∷ []) = Piece p
IsTight (p ∷ q ∷ ps) = Piece p × (IsMarkPart p ⊎ IsMarkPart q) × IsTight (q ∷ ps)

abbrev EndsMark : List (List ℕ) → Type 0
EndsMark [] = ⊥
EndsMark (p ∷ []) = IsMarkPart p
EndsMark (p ∷ q ∷ ps) = EndsMark (q ∷ ps)

tight-laid : (p : List ℕ) (ps : List (List ℕ)) → IsTight (p ∷ ps) → (qs : List (List ℕ)) (x : List ℕ) → Behind qs x
    → Laid ((p ∷ ps) ++ qs) (packed (p ∷ ps) ++ x)
tight-laid p [] a qs x b = (0, x, a, append_assoc p [] x, ended-quiet p a x b.quiet, b.laid)
tight-laid p (q ∷ ps) (a, inl m, t) qs x b =
    (0, packed (q ∷ ps) ++ x, mark_piece m, append_assoc p (packed (q ∷ ps)) x, tt, tight-laid q ps t qs x b)
tight-laid p (q ∷ ps) (a, inr m, t) qs x b =
    let quiet : begins_broad (packed (q ∷ ps) ++ x) ≡ false =
    ap begins_broad (append_assoc q (packed ps) x) ∙ mark-quiet q (packed ps ++ x) m in
    (0, packed (q ∷ ps) ++ x, a, append_assoc p (packed (q ∷ ps)) x, ended-quiet p a (packed (q ∷ ps) ++ x) quiet, tight-laid q ps t qs x b)

tight-before : (ps : List (List ℕ)) → IsTight ps → (qs : List (List ℕ)) (x : List ℕ) → Behind qs x
    → Behind (ps ++ qs) (32 ∷ (packed ps ++ x))
tight-before [] h qs x b = absurd h
tight-before (p ∷ ps) h qs x b =
    record { laid = laid-spaced 1 p (ps ++ qs) (packed (p ∷ ps) ++ x) (tight-laid p ps h qs x b); quiet = refl }

tight-join : (xs ys : List (List ℕ)) → IsTight xs → EndsMark xs → IsTight ys → IsTight (xs ++ ys)
tight-join [] ys h m k = absurd h
tight-join (p ∷ []) [] h m k = absurd k
tight-join (p ∷ []) (y ∷ ys) h m k = (h, inl m, k)
tight-join (p ∷ q ∷ xs) ys h m k = (h.0, h.1, tight-join (q ∷ xs) ys h.2 m k)

tight-close : (xs : List (List ℕ)) (y : List ℕ) → IsTight xs → IsMarkPart y → IsTight (xs ++ y ∷ [])
tight-close [] y h m = absurd h
tight-close (p ∷ []) y h m = (h, inr m, mark_piece m)
tight-close (p ∷ q ∷ xs) y h m = (h.0, h.1, tight-close (q ∷ xs) y h.2 m)

ends-close : (xs : List (List ℕ)) (y : List ℕ) → IsMarkPart y → EndsMark (xs ++ y ∷ [])
ends-close [] y m = m
ends-close (p ∷ []) y m = m
ends-close (p ∷ q ∷ xs) y m = ends-close (q ∷ xs) y m

opening : IsMarkPart (codes "(")
opening = record { mark = 40; whole = refl; is = refl }

comma : IsMarkPart (codes ",")
comma = record { mark = 44; whole = refl; is = refl }

closing : IsMarkPart (codes ")")
closing = record { mark = 41; whole = refl; is = refl }

-- ---- terms

-- the words that an item of an exported line may be, and that of a hole place
abbrev pub own_words : List Name
own_words = codes "hole" ∷ codes "space" ∷ codes "tight" ∷ codes "line" ∷ codes "in" ∷ codes "out" ∷ []

-- the first byte, and 0 of nothing
abbrev pub first_byte : List ℕ → ℕ
first_byte [] = 0
first_byte (c ∷ cs) = c

-- A name of a tree: a run that does not begin with a digit, and none of the words of the language.
pub record IsOwnName (n : Name) : Type 0 where
  pub is_run : IsRun n
  pub no_digit : is_digit (first_byte n) ≡ false
  pub no_word : is_among own_words n ≡ false

abbrev pub IsOwnTerm : WrittenTerm → Type 0
IsOwnTerm (variable n) = IsOwnName n
IsOwnTerm (named n) = IsOwnName n
IsOwnTerm (apply f a) = IsOwnTerm f × IsOwnTerm a × (is_head f ≡ true)

variable-piece : (n : List ℕ) → IsRun n → Piece (63 ∷ n)
variable-piece n r = sign_piece 63 n refl r refl

mutual
  pub term-tight : (t : WrittenTerm) → IsOwnTerm t → IsTight (term_parts t)
  term-tight (variable n) h = variable-piece n h.is_run
  term-tight (named n) h = run_piece h.is_run
  term-tight (apply f a) h =
      let before = opened-tight f h.0 in
      tight-close (opened f ++ term_parts a) (codes ")") (tight-join (opened f) (term_parts a) before.0 before.1 (term-tight a h.1)) closing

  opened-tight : (t : WrittenTerm) → IsOwnTerm t → IsTight (opened t) × EndsMark (opened t)
  opened-tight (variable n) h = ((variable-piece n h.is_run, inr opening, mark_piece opening), opening)
  opened-tight (named n) h = ((run_piece h.is_run, inr opening, mark_piece opening), opening)
  opened-tight (apply f a) h =
      let before = opened-tight f h.0 in (
        tight-close (opened f ++ term_parts a) (codes ",") (tight-join (opened f) (term_parts a) before.0 before.1 (term-tight a h.1)) comma,
        ends-close (opened f ++ term_parts a) (codes ",") comma,
      )

-- ---- specimens

abbrev pub IsOwnTree : WrittenTree → Type 0
IsOwnTree (trees.operator o) = IsOwnName o
IsOwnTree (trees.with_tree f t) = IsOwnTree f × IsOwnTree t
IsOwnTree _ = ⊥

mutual
  tree-tight : (t : WrittenTree) → IsOwnTree t → IsTight (trees.tree_parts t)
  tree-tight (trees.operator o) h = run_piece h.is_run
  tree-tight (trees.with_tree f t) h =
      let before = front-tight f h.0 in
      tight-close (trees.opened f ++ trees.tree_parts t) (codes ")")
      (tight-join (trees.opened f) (trees.tree_parts t) before.0 before.1 (tree-tight t h.1)) closing
  tree-tight (trees.with_name f n) h = absurd h
  tree-tight (trees.with_number f d) h = absurd h
  tree-tight (trees.with_text f w) h = absurd h
  tree-tight trees.list_end h = absurd h
  tree-tight (trees.list_rest l t) h = absurd h
  tree-tight (trees.element e r) h = absurd h
  tree-tight (trees.place k t) h = absurd h

  front-tight : (t : WrittenTree) → IsOwnTree t → IsTight (trees.opened t) × EndsMark (trees.opened t)
  front-tight (trees.operator o) h = ((run_piece h.is_run, inr opening, mark_piece opening), opening)
  front-tight (trees.with_tree f t) h =
      let before = front-tight f h.0 in (
        tight-close (trees.opened f ++ trees.tree_parts t) (codes ",")
            (tight-join (trees.opened f) (trees.tree_parts t) before.0 before.1 (tree-tight t h.1)) comma,
        ends-close (trees.opened f ++ trees.tree_parts t) (codes ",") comma,
      )
  front-tight (trees.with_name f n) h = absurd h
  front-tight (trees.with_number f d) h = absurd h
  front-tight (trees.with_text f w) h = absurd h
  front-tight trees.list_end h = absurd h
  front-tight (trees.list_rest l t) h = absurd h
  front-tight (trees.element e r) h = absurd h
  front-tight (trees.place k t) h = absurd h

-- ---- constructors

abbrev pub IsOwnConstructor : ConDecl → Type 0
IsOwnConstructor c = IsRun c.name × AllByRecursion IsRun c.args

before-names : (p : List ℕ) → IsMarkPart p → (n : Name) (ns : List Name) → IsTight (closed_names (n ∷ ns))
    → IsTight (p ∷ closed_names (n ∷ ns))
before-names p m n [] t = (mark_piece m, inl m, t)
before-names p m n (l ∷ ns) t = (mark_piece m, inl m, t)

closed-tight : (n : Name) (ns : List Name) → IsRun n → AllByRecursion IsRun ns → IsTight (closed_names (n ∷ ns))
closed-tight n [] h k = (run_piece h, inr closing, mark_piece closing)
closed-tight n (m ∷ ns) h k = (run_piece h, inr comma, before-names (codes ",") comma m ns (closed-tight m ns k.0 k.1))

constructor-tight : (c : ConDecl) → IsOwnConstructor c → IsTight (c.name ∷ argument_parts c.args)
constructor-tight c h = by_args c.args h.1
  where
    by_args : (ns : List Name) → AllByRecursion IsRun ns → IsTight (c.name ∷ argument_parts ns)
    by_args [] k = run_piece h.0
    by_args (n ∷ ns) k = (run_piece h.0, inr opening, before-names (codes "(") opening n ns (closed-tight n ns k.0 k.1))

constructors-before : (cs : List ConDecl) → AllByRecursion IsOwnConstructor cs
    → Behind (constructor_parts cs) (flat_map (λ v. 32 ∷ v) (map constructor_text cs))
constructors-before [] h = nothing
constructors-before (c ∷ cs) h =
    tight-before (c.name ∷ argument_parts c.args) (constructor-tight c h.0) (constructor_parts cs)
    (flat_map (λ v. 32 ∷ v) (map constructor_text cs)) (constructors-before cs h.1)

-- ---- items and levels

abbrev pub IsOwnItem : LineItem → Type 0
IsOwnItem (items.Word w) = IsUtf8 w
IsOwnItem (items.Slot k) = IsOwnName k × (bytes_eq k (codes "number") ≡ false) × (bytes_eq k (codes "text") ≡ false)
IsOwnItem (items.Refers s) = ⊥
IsOwnItem (items.Declares s) = ⊥
IsOwnItem _ = Unit {0}

run : (w : List ℕ) → 0 < length w → list_all is_broad w ≡ true → Piece w
run w h k = run_piece (record { long = h; run = k })

item-piece : (i : LineItem) → IsOwnItem i → Piece (item_part i)
item-piece (items.Word w) h = quote_piece w refl h
item-piece (items.Slot k) h = run_piece h.0.is_run
item-piece (items.Refers s) h = absurd h
item-piece (items.Declares s) h = absurd h
item-piece items.Number h = run (codes "number") (omega arith) refl
item-piece items.Text h = run (codes "text") (omega arith) refl
item-piece items.Space h = run (codes "space") (omega arith) refl
item-piece items.Tight h = run (codes "tight") (omega arith) refl
item-piece items.Line h = run (codes "line") (omega arith) refl
item-piece items.In h = run (codes "in") (omega arith) refl
item-piece items.Out h = run (codes "out") (omega arith) refl

items-pieces : (is : List LineItem) → AllByRecursion IsOwnItem is → AllByRecursion Piece (map item_part is)
items-pieces [] h = tt
items-pieces (i ∷ is) h = (item-piece i h.0, items-pieces is h.1)

module _ (digits : (n : ℕ) → IsRun (decimal n)) where
  level-pieces : (l : Level) (ws : List (List ℕ)) → AllByRecursion Piece ws → AllByRecursion Piece (level_words l ++ ws)
  level-pieces levels.Plain ws h = h
  level-pieces (levels.Prefix n) ws h = (run (codes "prefix") (omega arith) refl, (run_piece (digits n), h))
  level-pieces (levels.Postfix n) ws h = (run (codes "postfix") (omega arith) refl, (run_piece (digits n), h))
  level-pieces (levels.InfixLeft n) ws h = (run (codes "infixl") (omega arith) refl, (run_piece (digits n), h))
  level-pieces (levels.InfixRight n) ws h = (run (codes "infixr") (omega arith) refl, (run_piece (digits n), h))
  level-pieces (levels.InfixNone n) ws h = (run (codes "infix") (omega arith) refl, (run_piece (digits n), h))

-- the number of a level is one of the program's
abbrev pub IsSmallLevel : Level → Type 0
IsSmallLevel levels.Plain = Unit {0}
IsSmallLevel (levels.Prefix n) = n < 2 ^ 128
IsSmallLevel (levels.Postfix n) = n < 2 ^ 128
IsSmallLevel (levels.InfixLeft n) = n < 2 ^ 128
IsSmallLevel (levels.InfixRight n) = n < 2 ^ 128
IsSmallLevel (levels.InfixNone n) = n < 2 ^ 128

-- ---- lines

abbrev pub IsOwnLine : Line → Type 0
IsOwnLine (lines.Sort d) = IsRun d.name × AllByRecursion IsOwnConstructor d.constructors
IsOwnLine (lines.Phylum name sort bracketed) = IsRun name × IsRun sort
IsOwnLine (lines.Operator name phylum scope level made) =
    IsRun name × IsRun phylum × (scope ≡ false) × AllByRecursion IsOwnItem made × IsSmallLevel level
IsOwnLine (lines.Row head columns) = IsOwnTerm head × AllByRecursion IsOwnTerm columns
IsOwnLine (lines.Hole kind term (Some tree)) = IsRun kind × IsOwnTerm term × IsOwnTree tree
IsOwnLine _ = ⊥

-- the parts of an exported line; a level's number may have several digits
abbrev pub own_parts : Line → List (List ℕ)
own_parts (lines.Operator name phylum scope level made) = exported_words (lines.Operator name phylum scope level made)
own_parts line = parts_of line

terms-before : (ts : List WrittenTerm) → AllByRecursion IsOwnTerm ts
    → Behind (terms_parts ts) (flat_map (λ v. 32 ∷ v) (map term_text ts))
terms-before [] h = nothing
terms-before (t ∷ ts) h =
    tight-before (term_parts t) (term-tight t h.0) (terms_parts ts) (flat_map (λ v. 32 ∷ v) (map term_text ts)) (terms-before ts h.1)

columns-before : (ts : List WrittenTerm) → AllByRecursion IsOwnTerm ts
    → Behind (columns_parts ts) (flat_map (λ v. 32 ∷ v) (column_words ts))
columns-before [] h = nothing
columns-before (t ∷ ts) h =
    word-before (codes ":") (mark_piece (record { mark = 58; whole = refl; is = refl })) (terms_parts (t ∷ ts))
    (flat_map (λ v. 32 ∷ v) (map term_text (t ∷ ts))) (terms-before (t ∷ ts) h)

equals : Piece (codes "=")
equals = mark_piece (record { mark = 61; whole = refl; is = refl })

colon : Piece (codes ":")
colon = mark_piece (record { mark = 58; whole = refl; is = refl })

word : (w : List ℕ) → IsRun w → Piece w
word w r = run_piece r

bracketed-pieces : (b : Bool) → AllByRecursion Piece (word_if b (codes "bracketed"))
bracketed-pieces true = (run (codes "bracketed") (omega arith) refl, tt)
bracketed-pieces false = tt

-- the first word, and then the others after a space each
first-word : (w : List ℕ) → Piece w → (ws : List (List ℕ)) → AllByRecursion Piece ws → Laid (w ∷ ws) (spaced (w ∷ ws))
first-word w a ws h = laid-before w a ws (flat_map (λ v. 32 ∷ v) ws) (words-before ws h)

pub line-laid : ((n : ℕ) → IsRun (decimal n)) → (line : Line) → IsOwnLine line → Laid (own_parts line) (spaced (exported_words line))
line-laid digits (lines.Sort d) h =
    let cs = constructors-before d.constructors h.1 in
    let name = word-before (codes "=") equals (constructor_parts d.constructors) (flat_map (λ v. 32 ∷ v) (map constructor_text d.constructors)) cs in
    laid-before (codes "sort") (run (codes "sort") (omega arith) refl) _ _ (word-before d.name (run_piece h.0) _ _ name)
line-laid digits (lines.Phylum name sort b) h =
    first-word (codes "phylum") (run (codes "phylum") (omega arith) refl) (name ∷ codes ":" ∷ sort ∷ word_if b (codes "bracketed"))
    (run_piece h.0, (colon, (run_piece h.1, bracketed-pieces b)))
line-laid digits (lines.Operator name phylum true level made) h = absurd (false≢true (sym h.2))
line-laid digits (lines.Operator name phylum false level made) h =
    let rest : AllByRecursion Piece (level_words level ++ (codes "=" ∷ map item_part made)) =
    level-pieces digits level (codes "=" ∷ map item_part made) (equals, items-pieces made h.3) in
    first-word (codes "op") (run (codes "op") (omega arith) refl)
    (name ∷ codes ":" ∷ phylum ∷ (level_words level ++ (codes "=" ∷ map item_part made)))
    (run_piece h.0, (colon, (run_piece h.1, rest)))
line-laid digits (lines.Row head columns) h =
    laid-before (codes "row") (run (codes "row") (omega arith) refl) _ _
    (tight-before (term_parts head) (term-tight head h.0) (columns_parts columns) (flat_map (λ v. 32 ∷ v) (column_words columns))
    (columns-before columns h.1))
line-laid digits (lines.Hole kind term (Some tree)) h =
    let last : Behind (trees.tree_parts tree ++ []) (32 ∷ (specimen_text tree ++ [])) =
    tight-before (trees.tree_parts tree) (tree-tight tree h.2) [] [] nothing in
    let behind : Behind (trees.tree_parts tree) (32 ∷ (specimen_text tree ++ [])) =
    subst (λ ps. Behind ps (32 ∷ (specimen_text tree ++ []))) (append-nil (trees.tree_parts tree)) last in
    let by = word-before (codes "by") (run (codes "by") (omega arith) refl) (trees.tree_parts tree) _ behind in
    laid-before (codes "hole") (run (codes "hole") (omega arith) refl) _ _
    (word-before kind (run_piece h.0) _ _
    (tight-before (term_parts term) (term-tight term h.1) (codes "by" ∷ trees.tree_parts tree) _ by))
line-laid digits (lines.Hole kind term None) h = absurd h
line-laid digits (lines.Space name sort) h = absurd h
line-laid digits (lines.List name sort element separator on unfinished) h = absurd h
line-laid digits (lines.Nil list term) h = absurd h
line-laid digits (lines.Cell list term element rest) h = absurd h
line-laid digits (lines.Case term specimen) h = absurd h
line-laid digits (lines.Declare space list entity value specimen) h = absurd h
