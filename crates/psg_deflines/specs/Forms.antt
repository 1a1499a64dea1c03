-- The forms of the lines of a definition.
use Rattle.std.specs.Prelude.{ℕ, ◌<◌, ◌+◌, Bool, true, false, cond, Option, Some, None, List, [], ◌∷◌, ◌++◌}
use Rattle.std.specs.Prelude.{length, map, codes}
use Rattle.std.specs.List.{AllByRecursion}
use Rattle.psg_terms.specs.Names.{Name}
use Rattle.psg_terms.specs.declared.declare.ConDecl.{ConDecl}
use Rattle.psg_grammar.specs.Sound.{IsKindName, IsOwnName, IsLevel}
use Rattle.psg_grammar.specs.declared.types.Level.{Level}
use Rattle.psg_grammar.specs.declared.types.Level.TheVariants as levels
use Rattle.psg_lexis.specs.Tokens.{IsFixedWord}
use Rattle.psg_deflines.specs.Written.{IsWritten}
use Rattle.psg_deflines.specs.WrittenTerms.{WrittenTerm, term_parts, HasTermForm, IsShallowTerm}
use Rattle.psg_deflines.specs.WrittenTrees.{WrittenTree, tree_parts, HasTreeForm, IsShallowTree, IsQuotable}
use Rattle.psg_deflines.specs.WrittenTrees.{quoted_part}
use Rattle.psg_deflines.specs.declared.lines.LineItem.{LineItem}
use Rattle.psg_deflines.specs.declared.lines.LineItem.TheVariants as items
use Rattle.psg_deflines.specs.declared.lines.Line.{Line}
use Rattle.psg_deflines.specs.declared.lines.Line.TheVariants as lines

-- names with a comma between two and a bracket after the last one
abbrev pub closed_names : List Name → List (List ℕ)
closed_names [] = []
closed_names (n ∷ []) = n ∷ codes ")" ∷ []
closed_names (n ∷ m ∷ rest) = n ∷ codes "," ∷ closed_names (m ∷ rest)

-- in brackets, where there are any
abbrev pub argument_parts : List Name → List (List ℕ)
argument_parts [] = []
argument_parts (n ∷ rest) = codes "(" ∷ closed_names (n ∷ rest)

-- constructors one after the other
abbrev pub constructor_parts : List ConDecl → List (List ℕ)
constructor_parts [] = []
constructor_parts (c ∷ rest) = (c.name ∷ argument_parts c.args) ++ constructor_parts rest

-- the word, where it is to be there
abbrev pub word_if : Bool → List ℕ → List (List ℕ)
word_if true w = w ∷ []
word_if false w = []

-- the word of the form and one digit
abbrev pub level_parts : Level → List (List ℕ)
level_parts levels.Plain = []
level_parts (levels.Prefix n) = codes "prefix" ∷ ((48 + n) ∷ []) ∷ []
level_parts (levels.Postfix n) = codes "postfix" ∷ ((48 + n) ∷ []) ∷ []
level_parts (levels.InfixLeft n) = codes "infixl" ∷ ((48 + n) ∷ []) ∷ []
level_parts (levels.InfixRight n) = codes "infixr" ∷ ((48 + n) ∷ []) ∷ []
level_parts (levels.InfixNone n) = codes "infix" ∷ ((48 + n) ∷ []) ∷ []

-- the name of a space after `@`; an empty one is not written
abbrev pub tag : Name → List ℕ
tag [] = []
tag (c ∷ cs) = 64 ∷ c ∷ cs

-- the one part that an item is
abbrev pub item_part : LineItem → List ℕ
item_part (items.Word w) = quoted_part w
item_part (items.Slot k) = k
item_part (items.Refers space) = codes "refers" ++ tag space
item_part (items.Declares space) = codes "declares" ++ tag space
item_part items.Number = codes "number"
item_part items.Text = codes "text"
item_part items.Space = codes "space"
item_part items.Tight = codes "tight"
item_part items.Line = codes "line"
item_part items.In = codes "in"
item_part items.Out = codes "out"

-- terms one after the other
abbrev pub terms_parts : List WrittenTerm → List (List ℕ)
terms_parts [] = []
terms_parts (t ∷ rest) = term_parts t ++ terms_parts rest

-- the terms of a row's columns, after a colon where there are any
abbrev pub columns_parts : List WrittenTerm → List (List ℕ)
columns_parts [] = []
columns_parts (t ∷ rest) = codes ":" ∷ terms_parts (t ∷ rest)

-- `by` and the specimen, where there is one
abbrev pub by_parts : Option WrittenTree → List (List ℕ)
by_parts None = []
by_parts (Some w) = codes "by" ∷ tree_parts w

-- the parts of a line, in order
abbrev pub parts_of : Line → List (List ℕ)
parts_of (lines.Sort d) = codes "sort" ∷ d.name ∷ codes "=" ∷ constructor_parts d.constructors
parts_of (lines.Space [] sort) = codes "entity" ∷ sort ∷ []
parts_of (lines.Space (c ∷ cs) sort) = codes "space" ∷ (c ∷ cs) ∷ codes ":" ∷ sort ∷ []
parts_of (lines.Phylum name sort bracketed) = codes "phylum" ∷ name ∷ codes ":" ∷ sort
    ∷ word_if bracketed (codes "bracketed")
parts_of (lines.List name sort element separator on_lines unfinished) =
    codes "list" ∷ name ∷ codes ":" ∷ sort ∷ codes "of" ∷ element ∷ quoted_part separator
    ∷ cond on_lines (codes "lines") (codes "inline") ∷ cond unfinished (codes "unfinished") (codes "fixed") ∷ []
parts_of (lines.Operator name phylum scope level made) =
    codes "op" ∷ name ∷ codes ":" ∷ phylum ∷ word_if scope (codes "scope")
    ++ (level_parts level ++ (codes "=" ∷ map item_part made))
parts_of (lines.Row head columns) = codes "row" ∷ (term_parts head ++ columns_parts columns)
parts_of (lines.Nil list term) = codes "nil" ∷ list ∷ term_parts term
parts_of (lines.Cell list term element rest) =
    codes "cell" ∷ list ∷ (term_parts term ++ (codes ":" ∷ (term_parts element ++ term_parts rest)))
parts_of (lines.Hole kind term specimen) = codes "hole" ∷ kind ∷ (term_parts term ++ by_parts specimen)
parts_of (lines.Case term specimen) = codes "case" ∷ (term_parts term ++ by_parts (Some specimen))
parts_of (lines.Declare space list entity value specimen) =
    (codes "declare" ++ tag space) ∷ list
    ∷ (term_parts entity ++ (codes ":" ∷ (term_parts value ++ by_parts (Some specimen))))

-- a constructor's name and its sorts have their forms
abbrev pub HasConstructorForm : ConDecl → Type 0
HasConstructorForm c = IsOwnName c.name × AllByRecursion IsKindName c.args

-- the name of a space; the first one has the empty name too
abbrev pub IsSpaceName : Name → Type 0
IsSpaceName [] = Unit {0}
IsSpaceName (c ∷ cs) = IsOwnName (c ∷ cs)

-- what the item names has its form
abbrev pub HasItemForm : LineItem → Type 0
HasItemForm (items.Word w) = IsQuotable w
HasItemForm (items.Slot k) = IsKindName k
HasItemForm (items.Refers space) = IsSpaceName space
HasItemForm (items.Declares space) = IsSpaceName space
HasItemForm _ = Unit {0}

-- the specimen has its form, where there is one
abbrev pub HasFormBehindBy : Option WrittenTree → Type 0
HasFormBehindBy None = Unit {0}
HasFormBehindBy (Some w) = HasTreeForm w

-- the names, texts and numbers have their forms, and where one or more are wanted there are some
abbrev pub HasForm : Line → Type 0
HasForm (lines.Sort d) = IsKindName d.name × (0 < length d.constructors)
    × AllByRecursion HasConstructorForm d.constructors
HasForm (lines.Space name sort) = IsSpaceName name × IsKindName sort
HasForm (lines.Phylum name sort bracketed) = IsKindName name × IsKindName sort
HasForm (lines.List name sort element separator on_lines unfinished) =
    IsKindName name × IsKindName sort × IsKindName element × IsQuotable separator
HasForm (lines.Operator name phylum scope level made) =
    IsOwnName name × IsKindName phylum × IsLevel level × (0 < length made) × AllByRecursion HasItemForm made
HasForm (lines.Row head columns) = HasTermForm head × AllByRecursion HasTermForm columns
HasForm (lines.Nil list term) = IsKindName list × HasTermForm term
HasForm (lines.Cell list term element rest) = IsKindName list × HasTermForm term × HasTermForm element
    × HasTermForm rest
HasForm (lines.Hole kind term specimen) = IsKindName kind × HasTermForm term × HasFormBehindBy specimen
HasForm (lines.Case term specimen) = HasTermForm term × HasTreeForm specimen
HasForm (lines.Declare space list entity value specimen) =
    IsSpaceName space × IsKindName list × HasTermForm entity × HasTermForm value × HasTreeForm specimen

-- the text is the line
pub record SpellsLine (text : List ℕ) (line : Line) : Type 0 where
  pub form : HasForm line
  pub written : IsWritten (parts_of line) text

-- the item is no quoted word, or one that is one token
abbrev pub IsFixedItem : LineItem → Type 0
IsFixedItem (items.Word w) = IsFixedWord w
IsFixedItem _ = Unit {0}

-- each quoted word is one token
abbrev pub HasFixedWords : Line → Type 0
HasFixedWords (lines.List name sort element separator on_lines unfinished) = IsFixedWord separator
HasFixedWords (lines.Operator name phylum scope level made) = AllByRecursion IsFixedItem made
HasFixedWords _ = Unit {0}

-- the specimen is not nested too deep, where there is one
abbrev pub IsShallowBehindBy : Option WrittenTree → Type 0
IsShallowBehindBy None = Unit {0}
IsShallowBehindBy (Some w) = IsShallowTree w

-- no term and no specimen is nested too deep
abbrev pub IsShallow : Line → Type 0
IsShallow (lines.Row head columns) = IsShallowTerm head × AllByRecursion IsShallowTerm columns
IsShallow (lines.Nil list term) = IsShallowTerm term
IsShallow (lines.Cell list term element rest) = IsShallowTerm term × IsShallowTerm element × IsShallowTerm rest
IsShallow (lines.Hole kind term specimen) = IsShallowTerm term × IsShallowBehindBy specimen
IsShallow (lines.Case term specimen) = IsShallowTerm term × IsShallowTree specimen
IsShallow (lines.Declare space list entity value specimen) = IsShallowTerm entity × IsShallowTerm value
    × IsShallowTree specimen
IsShallow _ = Unit {0}
