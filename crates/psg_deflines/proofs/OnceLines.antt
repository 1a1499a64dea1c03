-- A text spells one line at most.
use Rattle.std.proofs.Common.{◌≡◌, ◌==◌, ℕ, ◌+◌, ◌-◌, ◌*◌, Bool, true, false, cond, List, [], ◌∷◌, ◌++◌, length, get_or, map, codes, refl, ap, ap₂, sym, ◌∙◌, subst, arith}
use Rattle.std.specs.Prelude.{Option, Some, None}
use Rattle.std.specs.List.{AllByRecursion}
use Rattle.std.proofs.lemmas.Bool.{false≢true}
use Rattle.psg_terms.specs.Names.{Name}
use Rattle.psg_terms.specs.declared.declare.ConDecl.{ConDecl}
use Rattle.psg_grammar.specs.Sound.{IsOwnName}
use Rattle.psg_grammar.specs.declared.types.Level.{Level}
use Rattle.psg_grammar.specs.declared.types.Level.TheVariants as levels
use Rattle.psg_deflines.specs.WrittenTerms.{WrittenTerm, HasTermForm}
use Rattle.psg_deflines.specs.Forms.{closed_names, argument_parts, constructor_parts, word_if, level_parts, item_part, by_parts, columns_parts, HasConstructorForm, HasItemForm, HasFormBehindBy, HasForm, parts_of, SpellsLine}
use Rattle.psg_deflines.specs.WrittenTrees.{WrittenTree, quoted_part}
use Rattle.psg_deflines.specs.TermWalks.{Parts, IsNotOpened}
use Rattle.psg_deflines.specs.FormReads.{IsItemPart}
use Rattle.psg_deflines.specs.Only.{IsOnly}
use Rattle.psg_deflines.specs.Parts.{HasParts}
use Rattle.psg_deflines.specs.declared.lines.LineItem.{LineItem}
use Rattle.psg_deflines.specs.declared.lines.LineItem.TheVariants as items
use Rattle.psg_deflines.specs.declared.lines.Line.{Line}
use Rattle.psg_deflines.specs.declared.lines.Line.TheVariants as lines
use Rattle.psg_deflines.proofs.PartReads.{first_of, rest_of, byte_of}
use Rattle.psg_deflines.proofs.TreeWalkLaws.{quote-same}
use Rattle.psg_deflines.proofs.ItemKinds.{refers-only, declares-only, slot-only, quote-only, word-only}
use Rattle.psg_deflines.proofs.SpellLaws.{line-parts}
use Rattle.psg_deflines.proofs.LineInverses.{Is_sort, sort_line, sort-inverse, Is_entity, entity_line, entity-inverse, Is_space, space_line, space-inverse, Is_phylum, phylum_line, phylum-inverse, Is_list, list_line, list-inverse, Is_op, op_line, op-inverse}
use Rattle.psg_deflines.proofs.LineInverses.{Is_row, row_line, row-inverse, Is_nil, nil_line, nil-inverse, Is_cell, cell_line, cell-inverse, Is_hole, hole_line, hole-inverse, Is_case, case_line, case-inverse, Is_declare, declare_line, declare-inverse}
use Rattle.psg_deflines.proofs.OnceParts.{parts-once, term-once, nothing-apart, term-alone, term-closed, terms-once, tree-once}

apart-by : (p : List ℕ) (ps : Parts) → (byte_of p ≡ 40 → ⊥) → IsNotOpened (p ∷ ps)
apart-by p ps h rest e = h (ap (λ x. byte_of (first_of x)) e)

-- ---- constructors

cons-apart : (cs : List ConDecl) → AllByRecursion HasConstructorForm cs → IsNotOpened (constructor_parts cs)
cons-apart [] h rest e = nothing-apart rest e
cons-apart (c ∷ cs) h rest e = false≢true (subst IsOwnName (ap first_of e) h.0.0)

closed-once : (n m : Name) (ns ms : List Name) (r q : Parts) → closed_names (n ∷ ns) ++ r ≡ closed_names (m ∷ ms) ++ q
    → (n ∷ ns ≡ m ∷ ms) × (r ≡ q)
closed-once n m [] [] r q e = (ap (λ l. first_of l ∷ []) e, ap (λ l. rest_of (rest_of l)) e)
closed-once n m [] (k ∷ ms) r q e = absurd (omega (arith, ap (λ l. byte_of (first_of (rest_of l))) e))
closed-once n m (k ∷ ns) [] r q e = absurd (omega (arith, ap (λ l. byte_of (first_of (rest_of l))) e))
closed-once n m (k ∷ ns) (l ∷ ms) r q e =
    let behind = closed-once k l ns ms r q (ap (λ x. rest_of (rest_of x)) e) in
    (ap₂ (λ x xs. x ∷ xs) (ap first_of e) behind.0, behind.1)

arguments-once : (xs ys : List Name) (r q : Parts) → IsNotOpened r → IsNotOpened q
    → argument_parts xs ++ r ≡ argument_parts ys ++ q → (xs ≡ ys) × (r ≡ q)
arguments-once [] [] r q h k e = (refl, e)
arguments-once [] (y ∷ ys) r q h k e = absurd (h _ e)
arguments-once (x ∷ xs) [] r q h k e = absurd (k _ (sym e))
arguments-once (x ∷ xs) (y ∷ ys) r q h k e = closed-once x y xs ys r q (ap rest_of e)

constructors-once : (cs ds : List ConDecl) → AllByRecursion HasConstructorForm cs
    → AllByRecursion HasConstructorForm ds → constructor_parts cs ≡ constructor_parts ds → cs ≡ ds
constructors-once [] [] h k e = refl
constructors-once [] (d ∷ ds) h k e = cc
constructors-once (c ∷ cs) [] h k e = cc
constructors-once (c ∷ cs) (d ∷ ds) h k e =
    let both = arguments-once c.args d.args (constructor_parts cs) (constructor_parts ds) (cons-apart cs h.1)
    (cons-apart ds k.1) (ap rest_of e) in
    ap₂ (λ x xs. x ∷ xs) (ap₂ (λ n sorts. record { name = n; args = sorts }) (ap first_of e) both.0)
    (constructors-once cs ds h.1 k.1 both.1)

-- ---- words that are there or not

word_if-once : (a b : Bool) (w : List ℕ) → word_if a w ≡ word_if b w → a ≡ b
word_if-once true true w e = refl
word_if-once false false w e = refl
word_if-once true false w e = cc
word_if-once false true w e = cc

-- a choice of two words that begin differently
choice-once : (a b : Bool) (v w : List ℕ) → (byte_of v ≡ byte_of w → ⊥) → cond a v w ≡ cond b v w → a ≡ b
choice-once true true v w h e = refl
choice-once false false v w h e = refl
choice-once true false v w h e = absurd (h (ap byte_of e))
choice-once false true v w h e = absurd (h (sym (ap byte_of e)))

-- ---- an operator's header and items

abbrev key : List ℕ → ℕ
key w = length w * 256 + get_or w 5 0

abbrev level_of : ℕ → ℕ → Level
level_of k n =
    cond (k == key (codes "prefix")) (levels.Prefix n)
    (cond (k == key (codes "postfix")) (levels.Postfix n)
    (cond (k == key (codes "infixl")) (levels.InfixLeft n)
    (cond (k == key (codes "infixr")) (levels.InfixRight n) (levels.InfixNone n))))

-- the scope's word, the level up to the equality sign, and what is after that
abbrev read_level : Parts → Level × Parts
read_level [] = (levels.Plain, [])
read_level (w ∷ ps) =
    cond (byte_of w == 61) (levels.Plain, ps) (level_of (key w) (byte_of (first_of ps) - 48), rest_of (rest_of ps))

digit-back : (n : ℕ) → (48 + n) - 48 ≡ n
digit-back n = omega arith

level-read : (l : Level) (ps : Parts) → read_level (level_parts l ++ (codes "=" ∷ ps)) ≡ (l, ps)
level-read levels.Plain ps = refl
level-read (levels.Prefix n) ps = ap (λ m. (levels.Prefix m, ps)) (digit-back n)
level-read (levels.Postfix n) ps = ap (λ m. (levels.Postfix m, ps)) (digit-back n)
level-read (levels.InfixLeft n) ps = ap (λ m. (levels.InfixLeft m, ps)) (digit-back n)
level-read (levels.InfixRight n) ps = ap (λ m. (levels.InfixRight m, ps)) (digit-back n)
level-read (levels.InfixNone n) ps = ap (λ m. (levels.InfixNone m, ps)) (digit-back n)

abbrev read_header : Parts → Bool × (Level × Parts)
read_header ps = cond (byte_of (first_of ps) == 115) (true, read_level (rest_of ps)) (false, read_level ps)

header-read : (s : Bool) (l : Level) (ps : Parts)
    → read_header (word_if s (codes "scope") ++ (level_parts l ++ (codes "=" ∷ ps))) ≡ (s, (l, ps))
header-read true l ps = ap (λ x. (true, x)) (level-read l ps)
header-read false levels.Plain ps = refl
header-read false (levels.Prefix n) ps = ap (λ x. (false, x)) (level-read (levels.Prefix n) ps)
header-read false (levels.Postfix n) ps = ap (λ x. (false, x)) (level-read (levels.Postfix n) ps)
header-read false (levels.InfixLeft n) ps = ap (λ x. (false, x)) (level-read (levels.InfixLeft n) ps)
header-read false (levels.InfixRight n) ps = ap (λ x. (false, x)) (level-read (levels.InfixRight n) ps)
header-read false (levels.InfixNone n) ps = ap (λ x. (false, x)) (level-read (levels.InfixNone n) ps)

item-only : (i : LineItem) → HasItemForm i → IsOnly (IsItemPart (item_part i)) i
item-only (items.Word w) h =
    quote-only (quoted_part w) w (record {
      is = record { quotable = h; written = refl };
      only = λ v q. quote-same v w q.quotable h q.written;
    })
item-only (items.Slot k) h = slot-only k k (refl, h)
item-only (items.Refers n) h = refers-only _ n h refl
item-only (items.Declares n) h = declares-only _ n h refl
item-only items.Number h = word-only _ items.Number (tt, refl)
item-only items.Text h = word-only _ items.Text (tt, refl)
item-only items.Space h = word-only _ items.Space (tt, refl)
item-only items.Tight h = word-only _ items.Tight (tt, refl)
item-only items.Line h = word-only _ items.Line (tt, refl)
item-only items.In h = word-only _ items.In (tt, refl)
item-only items.Out h = word-only _ items.Out (tt, refl)

items-once : (ms ns : List LineItem) → AllByRecursion HasItemForm ms → AllByRecursion HasItemForm ns
    → map item_part ms ≡ map item_part ns → ms ≡ ns
items-once [] [] h k e = refl
items-once [] (n ∷ ns) h k e = cc
items-once (m ∷ ms) [] h k e = cc
items-once (m ∷ ms) (n ∷ ns) h k e =
    ap₂ (λ x xs. x ∷ xs) ((item-only n k.0).only m (record { form = h.0; written = ap first_of e }))
    (items-once ms ns h.1 k.1 (ap rest_of e))

-- ---- what is behind a term

by-apart : (w : Option WrittenTree) → IsNotOpened (by_parts w)
by-apart None = nothing-apart
by-apart (Some w) = apart-by (codes "by") _ (λ e. omega (arith, e))

by-once : (v w : Option WrittenTree) → HasFormBehindBy v → HasFormBehindBy w → by_parts v ≡ by_parts w → v ≡ w
by-once None None h k e = refl
by-once None (Some w) h k e = cc
by-once (Some v) None h k e = cc
by-once (Some v) (Some w) h k e = ap Some (tree-once v w h k (ap rest_of e))

columns-apart : (ts : List WrittenTerm) → IsNotOpened (columns_parts ts)
columns-apart [] = nothing-apart
columns-apart (t ∷ ts) = apart-by (codes ":") _ (λ e. omega (arith, e))

columns-once : (ts us : List WrittenTerm) → AllByRecursion HasTermForm ts → AllByRecursion HasTermForm us
    → columns_parts ts ≡ columns_parts us → ts ≡ us
columns-once [] [] h k e = refl
columns-once [] (u ∷ us) h k e = cc
columns-once (t ∷ ts) [] h k e = cc
columns-once (t ∷ ts) (u ∷ us) h k e = terms-once (t ∷ ts) (u ∷ us) h k (ap rest_of e)

colon-apart : (ps : Parts) → IsNotOpened (codes ":" ∷ ps)
colon-apart ps = apart-by (codes ":") ps (λ e. omega (arith, e))

-- ---- lines

-- what parts have the form of one line
abbrev IsAlone : Line → Line → Type 0
IsAlone a b = HasForm a → HasForm b → parts_of a ≡ parts_of b → a ≡ b

sort-once : (ps : Parts) (a b : Line) → Is_sort ps a → Is_sort ps b → HasForm a → HasForm b → a ≡ b
sort-once ps _ _ (sort_line d e) (sort_line x f) h k =
    let same = sym e ∙ f in
    let made = constructors-once d.constructors x.constructors h.2 k.2 (ap (λ l. rest_of (rest_of l)) same) in
    ap₂ (λ n cs. lines.Sort (record { name = n; constructors = cs })) (ap first_of same) made

entity-once : (ps : Parts) (a b : Line) → Is_entity ps a → Is_entity ps b → a ≡ b
entity-once ps _ _ (entity_line s e) (entity_line x f) = ap (λ l. lines.Space [] (first_of l)) (sym e ∙ f)

space-once : (ps : Parts) (a b : Line) → Is_space ps a → Is_space ps b → a ≡ b
space-once ps _ _ (space_line c cs s e) (space_line d ds x f) =
    ap (λ l. lines.Space (first_of l) (first_of (rest_of (rest_of l)))) (sym e ∙ f)

phylum-once : (ps : Parts) (a b : Line) → Is_phylum ps a → Is_phylum ps b → a ≡ b
phylum-once ps _ _ (phylum_line n s c e) (phylum_line m t d f) =
    let same = sym e ∙ f in
    let brackets = word_if-once c d (codes "bracketed") (ap (λ l. rest_of (rest_of (rest_of l))) same) in
    ap (λ l. lines.Phylum (first_of l) (first_of (rest_of (rest_of l))) c) same ∙ ap (lines.Phylum m t) brackets

list-once : (ps : Parts) (a b : Line) → Is_list ps a → Is_list ps b → HasForm a → HasForm b → a ≡ b
list-once ps _ _ (list_line n s x w l u e) (list_line m t y v k c f) h g =
    let same = sym e ∙ f in
    let quote : quoted_part w ≡ quoted_part v = cc in
    let on_lines : cond l (codes "lines") (codes "inline") ≡ cond k (codes "lines") (codes "inline") = cc in
    let end : cond u (codes "unfinished") (codes "fixed") ≡ cond c (codes "unfinished") (codes "fixed") = cc in
    let name : n ≡ m = cc in
    let sort : s ≡ t = cc in
    let elem : x ≡ y = cc in
    let word : w ≡ v = quote-same w v h.3 g.3 quote in
    let on : l ≡ k = choice-once l k (codes "lines") (codes "inline") (λ d. omega (arith, d)) on_lines in
    let fin : u ≡ c = choice-once u c (codes "unfinished") (codes "fixed") (λ d. omega (arith, d)) end in
    cc

op-once : (ps : Parts) (a b : Line) → Is_op ps a → Is_op ps b → HasForm a → HasForm b → a ≡ b
op-once ps _ _ (op_line n k s l ms e) (op_line m j t d ns f) h g =
    let same = sym e ∙ f in
    let header = sym (header-read s l (map item_part ms)) ∙ ap (λ x. read_header (rest_of (rest_of (rest_of x)))) same
    ∙ header-read t d (map item_part ns) in
    let made : ms ≡ ns = items-once ms ns h.4 g.4 (ap (λ x. x.1.1) header) in
    ap₂ (λ x y. lines.Operator x y s l ms) (ap first_of same) (ap (λ x. first_of (rest_of (rest_of x))) same)
    ∙ ap (λ x. lines.Operator m j x.0 x.1.0 ms) header ∙ ap (lines.Operator m j t d) made

row-once : (ps : Parts) (a b : Line) → Is_row ps a → Is_row ps b → HasForm a → HasForm b → a ≡ b
row-once ps _ _ (row_line t ts e) (row_line u us f) h k =
    let both = term-once t u (columns_parts ts) (columns_parts us) h.0 k.0 (columns-apart ts) (columns-apart us)
    (sym e ∙ f) in
    ap₂ lines.Row both.0 (columns-once ts us h.1 k.1 both.1)

nil-once : (ps : Parts) (a b : Line) → Is_nil ps a → Is_nil ps b → HasForm a → HasForm b → a ≡ b
nil-once ps _ _ (nil_line n t e) (nil_line m u f) h k =
    let same = sym e ∙ f in ap₂ lines.Nil (ap first_of same) (term-alone t u h.1 k.1 (ap rest_of same))

cell-once : (ps : Parts) (a b : Line) → Is_cell ps a → Is_cell ps b → HasForm a → HasForm b → a ≡ b
cell-once ps _ _ (cell_line n t u v e) (cell_line m x y z f) h k =
    let same = sym e ∙ f in
    let name : n ≡ m = ap first_of same in
    let first = term-once t x _ _ h.1 k.1 (colon-apart _) (colon-apart _) (ap rest_of same) in
    let next = term-once u y _ _ h.2 k.2 (term-closed v h.3) (term-closed z k.3) (ap rest_of first.1) in
    let head : t ≡ x = first.0 in
    let elem : u ≡ y = next.0 in
    let rest : v ≡ z = term-alone v z h.3 k.3 next.1 in
    cc

hole-once : (ps : Parts) (a b : Line) → Is_hole ps a → Is_hole ps b → HasForm a → HasForm b → a ≡ b
hole-once ps _ _ (hole_line n t v e) (hole_line m u w f) h k =
    let same = sym e ∙ f in
    let both = term-once t u (by_parts v) (by_parts w) h.1 k.1 (by-apart v) (by-apart w) (ap rest_of same) in
    let name : n ≡ m = ap first_of same in
    let term : t ≡ u = both.0 in
    let tree : v ≡ w = by-once v w h.2 k.2 both.1 in
    cc

case-once : (ps : Parts) (a b : Line) → Is_case ps a → Is_case ps b → HasForm a → HasForm b → a ≡ b
case-once ps _ _ (case_line t v e) (case_line u w f) h k =
    let both = term-once t u _ _ h.0 k.0 (by-apart (Some v)) (by-apart (Some w)) (sym e ∙ f) in
    ap₂ lines.Case both.0 (tree-once v w h.1 k.1 (ap rest_of both.1))

declare-once : (spot : Name) (ps : Parts) (a b : Line) → Is_declare spot ps a → Is_declare spot ps b → HasForm a
    → HasForm b → a ≡ b
declare-once spot ps _ _ (declare_line n t x v e) (declare_line m u y w f) h k =
    let same = sym e ∙ f in
    let name : n ≡ m = ap first_of same in
    let first = term-once t u _ _ h.2 k.2 (colon-apart _) (colon-apart _) (ap rest_of same) in
    let next = term-once x y _ _ h.3 k.3 (by-apart (Some v)) (by-apart (Some w)) (ap rest_of first.1) in
    let entity : t ≡ u = first.0 in
    let value : x ≡ y = next.0 in
    let tree : v ≡ w = tree-once v w h.4 k.4 (ap rest_of next.1) in
    cc

line-once : (a b : Line) → IsAlone a b
line-once (lines.Sort d) b h k e = sort-once _ _ b (sort_line d refl) (sort-inverse _ b (sym e)) h k
line-once (lines.Space [] s) b h k e = entity-once _ _ b (entity_line s refl) (entity-inverse _ b (sym e))
line-once (lines.Space (c ∷ cs) s) b h k e = space-once _ _ b (space_line c cs s refl) (space-inverse _ b (sym e))
line-once (lines.Phylum n s c) b h k e = phylum-once _ _ b (phylum_line n s c refl) (phylum-inverse _ b (sym e))
line-once (lines.List n s x w l u) b h k e =
    list-once _ _ b (list_line n s x w l u refl) (list-inverse _ b (sym e)) h k
line-once (lines.Operator n p s l ms) b h k e =
    op-once _ _ b (op_line n p s l ms refl) (op-inverse _ b (sym e)) h k
line-once (lines.Row t ts) b h k e = row-once _ _ b (row_line t ts refl) (row-inverse _ b (sym e)) h k
line-once (lines.Nil n t) b h k e = nil-once _ _ b (nil_line n t refl) (nil-inverse _ b (sym e)) h k
line-once (lines.Cell n t u v) b h k e = cell-once _ _ b (cell_line n t u v refl) (cell-inverse _ b (sym e)) h k
line-once (lines.Hole n t w) b h k e = hole-once _ _ b (hole_line n t w refl) (hole-inverse _ b (sym e)) h k
line-once (lines.Case t w) b h k e = case-once _ _ b (case_line t w refl) (case-inverse _ b (sym e)) h k
line-once (lines.Declare spot n t u w) b h k e =
    declare-once spot _ _ b (declare_line n t u w refl) (declare-inverse spot _ b (sym e)) h k

pub spell_once : (text : List ℕ) (a b : Line) → SpellsLine text a → SpellsLine text b → a ≡ b
spell_once text a b h k =
    let own : HasParts text (parts_of a) = record { each = line-parts a h.form; written = h.written } in
    let other : HasParts text (parts_of b) = record { each = line-parts b k.form; written = k.written } in
    line-once a b h.form k.form (parts-once (parts_of a) (parts_of b) text own other)
