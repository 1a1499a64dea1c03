-- The words of a text's tokens are short, and what its quoted texts show has widths.
use Rattle.std.proofs.Common.{◌≡◌, inl, inr, ℕ, ◌+◌, ◌≤◌, ◌||◌, false, List, [], ◌∷◌, length, map, chars, Some, is_some, IsTrue, refl, subst}
use Rattle.std.specs.Prelude.{IsUtf8}
use Rattle.std.specs.List.{AllByRecursion}
use Rattle.std.proofs.lemmas.Bool.Decides.{eqb_tells}
use Rattle.std.proofs.lemmas.Option.{none-some}
use Rattle.std.proofs.lemmas.Str.{chars_from_encodes}
use Rattle.unicode_width.specs.Width.{char_width}
use Rattle.psg_terms.specs.Names.{Name}
use Rattle.psg_grammar.specs.Insertion.{Leaf, a_name, a_number, a_text}
use Rattle.psg_grammar.specs.Printable.{IsShown}
use Rattle.psg_class.specs.Only.{IsValue}
use Rattle.psg_class.specs.Terminals.{Token, word, numeral, quoted, solo, symbols, placeholder, dots}
use Rattle.psg_class.specs.Texts.{tokens_of}
use Rattle.psg_lexis.specs.Classes.{Chars}
use Rattle.psg_lexis.specs.declared.token.Spanned.{Spanned}
use Rattle.psg_lexis.specs.Tokens.{is_content, HasTokens, nothing, blank, next, IsToken}
use Rattle.psg_lexis.specs.Tokens.{word as is_word, number as is_number, text as is_text, solo as is_solo, symbol as is_symbol, hole as is_hole, more as is_more}
use Rattle.psg_session.specs.Leaves.{given, leaf_of}

-- A word has at most 255 bytes. A text has at most 4,096, and each of its characters is shown.
abbrev pub IsShort : Token → Type 0
IsShort (word w) = length w ≤ 255
IsShort (quoted t) = (length t ≤ 4096) × (IsUtf8 t → AllByRecursion IsShown (chars t))
IsShort _ = Unit {0}

shown_one : (c : ℕ) → IsTrue (is_content c) → IsShown c
shown_one c h = elim (eqb_tells c 10) [
  | inl e ↦ inl e.1
  | inr e ↦ inr (subst (λ b. IsTrue (b || is_some (char_width false c))) e.0 h)
]

shown_all : (cs : Chars) → AllByRecursion (λ c. IsTrue (is_content c)) cs → AllByRecursion IsShown cs
shown_all [] h = tt
shown_all (c ∷ cs) h = (shown_one c h.0, shown_all cs h.1)

short_is : (fixed : List Name) (cs rest : Chars) (t : Token) → IsToken fixed cs rest t → IsShort t
short_is fixed cs rest t (is_word ds after is ends short) = short
short_is fixed cs rest t (is_number ds after is ends small) = tt
short_is fixed cs rest t (is_text ds written after is contents short) =
    (short, λ u. subst (AllByRecursion IsShown) (chars_from_encodes ds _ u refl) (shown_all ds contents))
short_is fixed cs rest t (is_solo c after is) = tt
short_is fixed cs rest t (is_symbol ds after is among not_dots) = tt
short_is fixed cs rest t (is_hole ds after is ends short) = tt
short_is fixed cs rest t (is_more after ends) = tt

-- the tokens of any characters are so
pub short_tokens : (fixed : List Name) (cs : Chars) (at : ℕ) (ts : List Spanned) → HasTokens fixed cs at ts
    → AllByRecursion IsShort (tokens_of ts)
short_tokens fixed cs at ts (nothing from) = tt
short_tokens fixed cs at ts (blank c ds from us is more_are) = short_tokens fixed ds (from + 1) us more_are
short_tokens fixed cs at ts (next all from s us begins more_are) = (
  short_is fixed begins.front begins.rest s.token begins.token,
  short_tokens fixed begins.rest s.end us more_are,
)

-- ---- tokens whose trees can be printed

-- a short token; its text is UTF-8
abbrev pub IsShowable : Token → Type 0
IsShowable (word w) = length w ≤ 255
IsShowable (quoted t) = (length t ≤ 4096) × AllByRecursion IsShown (chars t)
IsShowable _ = Unit {0}

showable : (t : Token) → IsShort t → IsValue t → IsShowable t
showable (word w) h v = h
showable (numeral n) h v = tt
showable (quoted t) h v = (h.0, h.1 v)
showable (solo c) h v = tt
showable (symbols w) h v = tt
showable (placeholder w) h v = tt
showable dots h v = tt

pub all_showable : (ts : List Token) → AllByRecursion IsShort ts → AllByRecursion IsValue ts
    → AllByRecursion IsShowable ts
all_showable [] h v = tt
all_showable (t ∷ ts) h v = (showable t h.0 v.0, all_showable ts h.1 v.1)

-- ---- leaves

abbrev pub IsShortLeaf : Leaf → Type 0
IsShortLeaf (a_name n) = length n ≤ 255
IsShortLeaf (a_number n) = Unit {0}
IsShortLeaf (a_text t) = (length t ≤ 4096) × (IsUtf8 t → AllByRecursion IsShown (chars t))

short_leaf : (s : Spanned) (leaf : Leaf) → IsShort s.token → given s ≡ Some leaf → IsShortLeaf leaf
short_leaf s leaf h e = go s.token h e where
  go : (t : Token) → IsShort t → leaf_of t ≡ Some leaf → IsShortLeaf leaf
  go (word w) h e = let same : a_name w ≡ leaf = cc in subst IsShortLeaf same h
  go (numeral n) h e = let same : a_number n ≡ leaf = cc in subst IsShortLeaf same tt
  go (quoted t) h e = let same : a_text t ≡ leaf = cc in subst IsShortLeaf same h
  go (solo c) h e = absurd (none-some leaf e)
  go (symbols w) h e = absurd (none-some leaf e)
  go (placeholder w) h e = absurd (none-some leaf e)
  go dots h e = absurd (none-some leaf e)

-- the leaves that the tokens are
pub short_leaves : (ts : List Spanned) (leaves : List Leaf) → AllByRecursion IsShort (tokens_of ts)
    → map given ts ≡ map Some leaves → AllByRecursion IsShortLeaf leaves
short_leaves [] [] h e = tt
short_leaves [] (leaf ∷ leaves) h e = absurd (cc)
short_leaves (t ∷ ts) [] h e = tt
short_leaves (t ∷ ts) (leaf ∷ leaves) h e =
    let head : given t ≡ Some leaf = cc in
    let tail : map given ts ≡ map Some leaves = cc in
    (short_leaf t leaf h.0 head, short_leaves ts leaves h.1 tail)
