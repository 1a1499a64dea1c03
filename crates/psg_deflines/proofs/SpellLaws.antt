-- A line that a text spells has the text's parts.
use Rattle.std.proofs.Common.{◌≡◌, ◌==◌, ◌&&◌, ◌||◌, nat_le, ℕ, ◌+◌, ◌<◌, Bool, true, false, cond, zero, suc, List, [], ◌∷◌, ◌++◌, length, length-append, map, codes, refl, sym, subst, arith}
use Rattle.std.specs.Prelude.{Option, Some, None}
use Rattle.std.specs.List.{AllByRecursion, list_all}
use Rattle.std.proofs.lemmas.Bool.{and_parts, and_from, or_left, or_right, false≢true}
use Rattle.psg_terms.specs.Names.{Name}
use Rattle.psg_terms.specs.declared.declare.ConDecl.{ConDecl}
use Rattle.psg_grammar.specs.Sound.{is_upper, is_lower, is_digit, goes_on_name, IsKindName, IsOwnName, is_specimen_name, IsLevel, IsBinding}
use Rattle.psg_grammar.specs.declared.types.Level.{Level}
use Rattle.psg_grammar.specs.declared.types.Level.TheVariants as levels
use Rattle.psg_deflines.specs.WrittenTerms.{WrittenTerm, variable, named, apply, term_parts, opened, is_variable_name, HasTermForm}
use Rattle.psg_deflines.specs.WrittenTrees as trees
use Rattle.psg_deflines.specs.WrittenTrees.{WrittenTree, operator, with_tree, with_name, with_number, with_text, list_end, list_rest, element, place, tree_parts, follow, place_parts, HasTreeForm, quoted_part, IsQuotable, is_digits}
use Rattle.psg_deflines.specs.Written.{IsWritten, goes_on_word}
use Rattle.psg_deflines.specs.Parts.{IsPart, a_word, a_mark, a_sigil, a_quoted, HasParts, HasNoParts, is_mark}
use Rattle.psg_deflines.specs.Forms.{closed_names, argument_parts, constructor_parts, word_if, level_parts, item_part, terms_parts, columns_parts, by_parts, parts_of, HasConstructorForm, HasItemForm, HasFormBehindBy, HasForm, SpellsLine, IsSpaceName, tag}
use Rattle.psg_deflines.specs.FormReads.{IsForm}
use Rattle.psg_deflines.specs.Only.{IsOnly}
use Rattle.psg_deflines.specs.declared.lines.LineItem.{LineItem}
use Rattle.psg_deflines.specs.declared.lines.LineItem.TheVariants as items
use Rattle.psg_deflines.specs.declared.lines.Line.{Line}
use Rattle.psg_deflines.specs.declared.lines.Line.TheVariants as lines
use Rattle.psg_deflines.specs.TermWalks.{Parts}

abbrev All : Parts → Type 0
All = AllByRecursion IsPart

join : (ps qs : Parts) → All ps → All qs → All (ps ++ qs)
join [] qs h k = k
join (p ∷ ps) qs h k = (h.0, join ps qs h.1 k)

word : (w : List ℕ) → 0 < length w → list_all goes_on_word w ≡ true → IsPart w
word w h k = a_word (h, k)

-- what goes on a name goes on a word
pub names-go_on : (w : List ℕ) → list_all goes_on_name w ≡ true → list_all goes_on_word w ≡ true
names-go_on [] h = refl
names-go_on (c ∷ cs) h =
    let both = and_parts (goes_on_name c) (list_all goes_on_name cs) h in
    and_from (goes_on_word c) (list_all goes_on_word cs) (or_left (goes_on_name c) (c == 64) both.0) (names-go_on cs both.1)

name : (w : List ℕ) → 0 < length w → list_all goes_on_name w ≡ true → IsPart w
name w h k = word w h (names-go_on w k)

own-go_on : (n : List ℕ) → IsOwnName n → list_all goes_on_name n ≡ true
own-go_on [] h = absurd (false≢true h)
own-go_on (c ∷ cs) h =
    let first = and_parts (is_lower c && list_all goes_on_name cs) (nat_le (length cs) 63) h in
    let both = and_parts (is_lower c) (list_all goes_on_name cs) first.0 in
    and_from (goes_on_name c) (list_all goes_on_name cs)
    (or_left ((is_upper c || is_lower c) || is_digit c) (c == 95) (or_left (is_upper c || is_lower c) (is_digit c) (or_right (is_upper c) (is_lower c) both.0))) both.1

go-on : (v w : List ℕ) → list_all goes_on_word v ≡ true → list_all goes_on_word w ≡ true → list_all goes_on_word (v ++ w) ≡ true
go-on [] w h k = k
go-on (c ∷ cs) w h k = let both = and_parts (goes_on_word c) (list_all goes_on_word cs) h in and_from (goes_on_word c) (list_all goes_on_word (cs ++ w)) both.0 (go-on cs w both.1 k)

tag-goes_on : (n : List ℕ) → IsSpaceName n → list_all goes_on_word (tag n) ≡ true
tag-goes_on [] h = refl
tag-goes_on (c ∷ cs) h = names-go_on (c ∷ cs) (own-go_on (c ∷ cs) h)

-- a word with the name of a space
tagged : (w n : List ℕ) → 0 < length w → list_all goes_on_word w ≡ true → IsSpaceName n → IsPart (w ++ tag n)
tagged w n h k s = word (w ++ tag n) (omega (arith, h, length-append w (tag n))) (go-on w (tag n) k (tag-goes_on n s))

mark : (c : ℕ) → is_mark c ≡ true → IsPart (c ∷ [])
mark c h = a_mark (record { mark = c; whole = refl; is = h })

kind_name-part : (n : List ℕ) → IsKindName n → IsPart n
kind_name-part [] h = absurd (false≢true h)
kind_name-part (c ∷ cs) h =
    let first = and_parts (is_upper c && list_all goes_on_name cs) (nat_le (length cs) 63) h in
    let both = and_parts (is_upper c) (list_all goes_on_name cs) first.0 in
    name (c ∷ cs) (omega arith)
    (and_from (goes_on_name c) (list_all goes_on_name cs)
    (or_left ((is_upper c || is_lower c) || is_digit c) (c == 95) (or_left (is_upper c || is_lower c) (is_digit c) (or_left (is_upper c) (is_lower c) both.0))) both.1)

own_name-part : (n : List ℕ) → IsOwnName n → IsPart n
own_name-part [] h = absurd (false≢true h)
own_name-part (c ∷ cs) h = name (c ∷ cs) (omega arith) (own-go_on (c ∷ cs) h)

digit-goes_on : (c : ℕ) → is_digit c ≡ true → goes_on_name c ≡ true
digit-goes_on c h = or_left ((is_upper c || is_lower c) || is_digit c) (c == 95) (or_right (is_upper c || is_lower c) (is_digit c) h)

digits-go_on : (d : List ℕ) → list_all is_digit d ≡ true → list_all goes_on_name d ≡ true
digits-go_on [] h = refl
digits-go_on (c ∷ cs) h = let both = and_parts (is_digit c) (list_all is_digit cs) h in and_from (goes_on_name c) (list_all goes_on_name cs) (digit-goes_on c both.0) (digits-go_on cs both.1)

digits-part : (d : List ℕ) → is_digits d ≡ true → IsPart d
digits-part [] h = absurd (false≢true h)
digits-part (c ∷ cs) h = name (c ∷ cs) (omega arith) (digits-go_on (c ∷ cs) h)

variable-part : (n : List ℕ) → is_variable_name n ≡ true → IsPart (63 ∷ n)
variable-part [] h = absurd (false≢true h)
variable-part (c ∷ cs) h = a_sigil (record { sigil = 63; name = c ∷ cs; whole = refl; is = refl; long = omega arith; run = h })

specimen-part : (n : List ℕ) → is_specimen_name n ≡ true → IsPart (36 ∷ n)
specimen-part [] h = absurd (false≢true h)
specimen-part (c ∷ cs) h = a_sigil (record { sigil = 36; name = c ∷ cs; whole = refl; is = refl; long = omega arith; run = h })

quoted : (w : List ℕ) → IsQuotable w → IsPart (quoted_part w)
quoted w h = a_quoted (record { contents = w; whole = refl; is = h })

binding-part : (n : ℕ) → IsBinding n → IsPart ((48 + n) ∷ [])
binding-part zero h = absurd (omega (arith, h.0))
binding-part (suc zero) h = word (49 ∷ []) (omega arith) refl
binding-part (suc (suc zero)) h = word (50 ∷ []) (omega arith) refl
binding-part (suc (suc (suc zero))) h = word (51 ∷ []) (omega arith) refl
binding-part (suc (suc (suc (suc zero)))) h = word (52 ∷ []) (omega arith) refl
binding-part (suc (suc (suc (suc (suc zero))))) h = word (53 ∷ []) (omega arith) refl
binding-part (suc (suc (suc (suc (suc (suc zero)))))) h = word (54 ∷ []) (omega arith) refl
binding-part (suc (suc (suc (suc (suc (suc (suc zero))))))) h = word (55 ∷ []) (omega arith) refl
binding-part (suc (suc (suc (suc (suc (suc (suc (suc zero)))))))) h = word (56 ∷ []) (omega arith) refl
binding-part (suc (suc (suc (suc (suc (suc (suc (suc (suc zero))))))))) h = word (57 ∷ []) (omega arith) refl
binding-part (suc (suc (suc (suc (suc (suc (suc (suc (suc (suc n)))))))))) h = absurd (omega (arith, h.1))

-- ---- terms and specimens

pub record TermParts (t : WrittenTerm) : Type 0 where
  pub whole : All (term_parts t)
  pub before : All (opened t)

term-all : (t : WrittenTerm) → HasTermForm t → TermParts t
term-all (variable n) h = record { whole = (variable-part n h, tt); before = (variable-part n h, (mark 40 refl, tt)) }
term-all (named n) h = record { whole = (own_name-part n h, tt); before = (own_name-part n h, (mark 40 refl, tt)) }
term-all (apply f a) h =
    let front = (term-all f h.1).before in
    let arg = (term-all a h.2).whole in
    record {
      whole = join (opened f ++ term_parts a) (codes ")" ∷ []) (join (opened f) (term_parts a) front arg) (mark 41 refl, tt);
      before = join (opened f ++ term_parts a) (codes "," ∷ []) (join (opened f) (term_parts a) front arg) (mark 44 refl, tt);
    }

pub terms-all : (ts : List WrittenTerm) → AllByRecursion HasTermForm ts → All (terms_parts ts)
terms-all [] h = tt
terms-all (t ∷ ts) h = join (term_parts t) (terms_parts ts) (term-all t h.0).whole (terms-all ts h.1)

columns-all : (ts : List WrittenTerm) → AllByRecursion HasTermForm ts → All (columns_parts ts)
columns-all [] h = tt
columns-all (t ∷ ts) h = (mark 58 refl, terms-all (t ∷ ts) h)

place-all : (k : Name) (t : WrittenTerm) → IsKindName k → HasTermForm t → All (place_parts k t)
place-all k t h f = (word (codes "hole") (omega arith) refl, (mark 40 refl, (kind_name-part k h, (mark 44 refl, join (term_parts t) (codes ")" ∷ []) (term-all t f).whole (mark 41 refl, tt)))))

pub record TreeParts (w : WrittenTree) : Type 0 where
  pub whole : All (tree_parts w)
  pub before : All (trees.opened w)
  pub behind : All (follow w)

tree-all : (w : WrittenTree) → HasTreeForm w → TreeParts w
tree-all (operator o) h = record { whole = (own_name-part o h, tt); before = (own_name-part o h, (mark 40 refl, tt)); behind = tt }
tree-all (with_tree f t) h =
    let front = (tree-all f h.1).before in
    let tree = (tree-all t h.2).whole in
    record {
      whole = join (trees.opened f ++ tree_parts t) (codes ")" ∷ []) (join (trees.opened f) (tree_parts t) front tree) (mark 41 refl, tt);
      before = join (trees.opened f ++ tree_parts t) (codes "," ∷ []) (join (trees.opened f) (tree_parts t) front tree) (mark 44 refl, tt);
      behind = tt;
    }
tree-all (with_name f n) h =
    let front = (tree-all f h.1).before in
    record { whole = join (trees.opened f) _ front (specimen-part n h.2, (mark 41 refl, tt)); before = join (trees.opened f) _ front (specimen-part n h.2, (mark 44 refl, tt)); behind = tt }
tree-all (with_number f d) h =
    let front = (tree-all f h.1).before in
    record { whole = join (trees.opened f) _ front (digits-part d h.2, (mark 41 refl, tt)); before = join (trees.opened f) _ front (digits-part d h.2, (mark 44 refl, tt)); behind = tt }
tree-all (with_text f w) h =
    let front = (tree-all f h.1).before in
    record { whole = join (trees.opened f) _ front (quoted w h.2, (mark 41 refl, tt)); before = join (trees.opened f) _ front (quoted w h.2, (mark 44 refl, tt)); behind = tt }
tree-all list_end h = record { whole = (mark 91 refl, (mark 93 refl, tt)); before = tt; behind = (mark 93 refl, tt) }
tree-all (list_rest l t) h =
    let rest = join (place_parts l t) (codes "]" ∷ []) (place-all l t h.0 h.1) (mark 93 refl, tt) in
    record { whole = (mark 91 refl, (mark 124 refl, rest)); before = tt; behind = (mark 124 refl, rest) }
tree-all (element e r) h =
    let first = (tree-all e h.1).whole in
    let rest = (tree-all r h.2).behind in
    record { whole = (mark 91 refl, join (tree_parts e) (follow r) first rest); before = tt; behind = (mark 44 refl, join (tree_parts e) (follow r) first rest) }
tree-all (place k t) h = record { whole = place-all k t h.0 h.1; before = tt; behind = tt }

by-all : (w : Option WrittenTree) → HasFormBehindBy w → All (by_parts w)
by-all None h = tt
by-all (Some w) h = (word (codes "by") (omega arith) refl, (tree-all w h).whole)

-- ---- lines

names-all : (ns : List Name) → AllByRecursion IsKindName ns → All (closed_names ns)
names-all [] h = tt
names-all (n ∷ []) h = (kind_name-part n h.0, (mark 41 refl, tt))
names-all (n ∷ m ∷ rest) h = (kind_name-part n h.0, (mark 44 refl, names-all (m ∷ rest) h.1))

arguments-all : (ns : List Name) → AllByRecursion IsKindName ns → All (argument_parts ns)
arguments-all [] h = tt
arguments-all (n ∷ rest) h = (mark 40 refl, names-all (n ∷ rest) h)

cons-all : (cs : List ConDecl) → AllByRecursion HasConstructorForm cs → All (constructor_parts cs)
cons-all [] h = tt
cons-all (c ∷ rest) h = join (c.name ∷ argument_parts c.args) (constructor_parts rest) (own_name-part c.name h.0.0, arguments-all c.args h.0.1) (cons-all rest h.1)

word_if-all : (b : Bool) (w : List ℕ) → IsPart w → All (word_if b w)
word_if-all true w h = (h, tt)
word_if-all false w h = tt

level-all : (l : Level) → IsLevel l → All (level_parts l)
level-all levels.Plain h = tt
level-all (levels.Prefix n) h = (word (codes "prefix") (omega arith) refl, (binding-part n h, tt))
level-all (levels.Postfix n) h = (word (codes "postfix") (omega arith) refl, (binding-part n h, tt))
level-all (levels.InfixLeft n) h = (word (codes "infixl") (omega arith) refl, (binding-part n h, tt))
level-all (levels.InfixRight n) h = (word (codes "infixr") (omega arith) refl, (binding-part n h, tt))
level-all (levels.InfixNone n) h = (word (codes "infix") (omega arith) refl, (binding-part n h, tt))

item-all : (i : LineItem) → HasItemForm i → IsPart (item_part i)
item-all (items.Word w) h = quoted w h
item-all (items.Slot k) h = kind_name-part k h
item-all (items.Refers n) h = tagged (codes "refers") n (omega arith) refl h
item-all (items.Declares n) h = tagged (codes "declares") n (omega arith) refl h
item-all items.Number h = word (codes "number") (omega arith) refl
item-all items.Text h = word (codes "text") (omega arith) refl
item-all items.Space h = word (codes "space") (omega arith) refl
item-all items.Tight h = word (codes "tight") (omega arith) refl
item-all items.Line h = word (codes "line") (omega arith) refl
item-all items.In h = word (codes "in") (omega arith) refl
item-all items.Out h = word (codes "out") (omega arith) refl

items-all : (ms : List LineItem) → AllByRecursion HasItemForm ms → All (map item_part ms)
items-all [] h = tt
items-all (i ∷ rest) h = (item-all i h.0, items-all rest h.1)

layout-all : (b : Bool) (v w : List ℕ) → IsPart v → IsPart w → IsPart (cond b v w)
layout-all true v w h k = h
layout-all false v w h k = k

pub line-parts : (line : Line) → HasForm line → All (parts_of line)
line-parts (lines.Sort d) h = (word (codes "sort") (omega arith) refl, (kind_name-part d.name h.0, (mark 61 refl, cons-all d.constructors h.2)))
line-parts (lines.Space [] sort) h = (word (codes "entity") (omega arith) refl, (kind_name-part sort h.1, tt))
line-parts (lines.Space (c ∷ cs) sort) h =
    (word (codes "space") (omega arith) refl, (own_name-part (c ∷ cs) h.0, (mark 58 refl, (kind_name-part sort h.1, tt))))
line-parts (lines.Phylum n s b) h =
    (word (codes "phylum") (omega arith) refl, (kind_name-part n h.0, (mark 58 refl, (kind_name-part s h.1, word_if-all b (codes "bracketed") (word (codes "bracketed") (omega arith) refl)))))
line-parts (lines.List n s e w l u) h = (
  word (codes "list") (omega arith) refl,
  (
    kind_name-part n h.0,
    (
      mark 58 refl,
      (
        kind_name-part s h.1,
        (
          word (codes "of") (omega arith) refl,
          (
            kind_name-part e h.2,
            (
              quoted w h.3,
              (
                layout-all l (codes "lines") (codes "inline") (word (codes "lines") (omega arith) refl) (word (codes "inline") (omega arith) refl),
                (layout-all u (codes "unfinished") (codes "fixed") (word (codes "unfinished") (omega arith) refl) (word (codes "fixed") (omega arith) refl), tt),
              ),
            ),
          ),
        ),
      ),
    ),
  ),
)
line-parts (lines.Operator n k s l ms) h = (
  word (codes "op") (omega arith) refl,
  (
    own_name-part n h.0,
    (
      mark 58 refl,
      (
        kind_name-part k h.1,
        join (word_if s (codes "scope")) _ (word_if-all s (codes "scope") (word (codes "scope") (omega arith) refl)) (join (level_parts l) _ (level-all l h.2) (mark 61 refl, items-all ms h.4)),
      ),
    ),
  ),
)
line-parts (lines.Row t ts) h = (word (codes "row") (omega arith) refl, join (term_parts t) (columns_parts ts) (term-all t h.0).whole (columns-all ts h.1))
line-parts (lines.Nil n t) h = (word (codes "nil") (omega arith) refl, (kind_name-part n h.0, (term-all t h.1).whole))
line-parts (lines.Cell n t u v) h =
    (word (codes "cell") (omega arith) refl, (kind_name-part n h.0, join (term_parts t) _ (term-all t h.1).whole (mark 58 refl, join (term_parts u) (term_parts v) (term-all u h.2).whole (term-all v h.3).whole)))
line-parts (lines.Hole n t w) h = (word (codes "hole") (omega arith) refl, (kind_name-part n h.0, join (term_parts t) (by_parts w) (term-all t h.1).whole (by-all w h.2)))
line-parts (lines.Case t w) h = (word (codes "case") (omega arith) refl, join (term_parts t) (by_parts (Some w)) (term-all t h.0).whole (by-all (Some w) h.1))
line-parts (lines.Declare spot n t u w) h =
    (tagged (codes "declare") spot (omega arith) refl h.0, (kind_name-part n h.1, join (term_parts t) _ (term-all t h.2).whole (mark 58 refl, join (term_parts u) (by_parts (Some w)) (term-all u h.3).whole (by-all (Some w) h.4))))

-- ---- what a text spells

spells-parts : (text : List ℕ) (line : Line) → SpellsLine text line → HasParts text (parts_of line)
spells-parts text line h = record { each = line-parts line h.form; written = h.written }

pub spells-form : (text : List ℕ) (parts : Parts) (line : Line) → IsOnly (HasParts text) parts → SpellsLine text line → IsForm parts line
spells-form text parts line o h = record { form = h.form; written = o.only (parts_of line) (spells-parts text line h) }

pub form-spells : (text : List ℕ) (parts : Parts) (line : Line) → IsOnly (HasParts text) parts → IsForm parts line → SpellsLine text line
form-spells text parts line o f = record { form = f.form; written = subst (λ ps. IsWritten ps text) (sym f.written) o.is.written }

pub spells-no_parts : (text : List ℕ) (line : Line) → HasNoParts text → SpellsLine text line → ⊥
spells-no_parts text line none h = none (parts_of line) (spells-parts text line h)
