-- The walk over the items of an operator.
use Rattle.std.proofs.Common.{◌≡◌, inl, ℕ, ◌+◌, ◌≤◌, cond, Bool, true, false, List, [], ◌∷◌, ◌++◌, length, drop, Some, None, refl, sym, ap, ◌∙◌, subst, arith, append-nil}
use Rattle.std.proofs.lemmas.List.{drop_all}
use Rattle.psg_grammar.specs.declared.types.Item.{Item}
use Rattle.psg_grammar.specs.declared.types.Operator.{Operator}
use Rattle.psg_grammar.specs.declared.types.Definition.{Definition}
use Rattle.psg_grammar.specs.Fragments.{Fragment, operator, with_child, with_name, with_number, with_text}
use Rattle.psg_tree.specs.declared.tree.Part.{Part}
use Rattle.psg_tree.specs.declared.tree.Part.TheVariants.{Sub, Name, Number, Text}
use Rattle.psg_tree.specs.Shapes.{height, with_part, with_parts}
use Rattle.psg_class.specs.Places.{solid}
use Rattle.psg_class.specs.Terminals.{Token}
use Rattle.psg_grammar.specs.declared.types.Kind.{Kind}
use Rattle.psg_grammar.specs.declared.types.Kind.TheVariants as kinds
use Rattle.psg_class.specs.Yields.{PartsYield, Yields}
use Rattle.psg_ranges.specs.Brackets.{has_brackets}
use Rattle.psg_ranges.specs.Forests.{no_nodes, of_tree, of_list, nodes_of, ranges_in}
use Rattle.psg_ranges.specs.declared.reading.Reader.{Reader}
use Rattle.psg_ranges.specs.Walking.{behind_first, first_sub, is_word_item, left_of, parts_in, ReadsNode, ReadsParts, ReadsItem, IsNext}
use Rattle.psg_ranges.proofs.Parts.{nothing_next, next_then, next_end}

-- ---- heights

grows : (f g : Fragment) (ps : List Part) → height f ≤ height g → height (with_parts f ps) ≤ height (with_parts g ps)
grows f g [] h = h
grows f g (Sub t ∷ ps) h = grows (with_child f t) (with_child g t) ps (omega (arith, h))
grows f g (Name n ∷ ps) h = grows (with_name f n) (with_name g n) ps h
grows f g (Number n ∷ ps) h = grows (with_number f n) (with_number g n) ps h
grows f g (Text t ∷ ps) h = grows (with_text f t) (with_text g t) ps h

pub behind_low : (ps : List Part) → height (with_parts (operator 0) (behind_first ps)) ≤ height (with_parts (operator 0) ps)
behind_low [] = omega arith
behind_low (p ∷ ps) = grows (operator 0) (with_part (operator 0) p) ps (omega arith)

above : (f : Fragment) (ps : List Part) → height f ≤ height (with_parts f ps)
above f [] = omega arith
above f (Sub t ∷ ps) = omega (arith, above (with_child f t) ps)
above f (Name n ∷ ps) = above (with_name f n) ps
above f (Number n ∷ ps) = above (with_number f n) ps
above f (Text t ∷ ps) = above (with_text f t) ps

pub first_low : (t : Fragment) (ps rest : List Part) → ps ≡ Sub t ∷ rest → height t + 1 ≤ height (with_parts (operator 0) ps)
first_low t ps rest e = let x = above (with_child (operator 0) t) rest in omega (arith, x, ap (λ k. height (with_parts (operator 0) k)) e)

pub sub_low : (ps : List Part) (t : Fragment) → Some t ≡ first_sub ps → height t + 1 ≤ height (with_parts (operator 0) ps)
sub_low [] t h = absurd (let x : Some t ≡ None = h in cc)
sub_low (Sub s ∷ ps) t h = let e : t ≡ s = (let x : Some t ≡ Some s = h in cc) in let x = first_low s (Sub s ∷ ps) ps refl in omega (arith, x, ap height e)
sub_low (Name n ∷ ps) t h = absurd (let x : Some t ≡ None = h in cc)
sub_low (Number n ∷ ps) t h = absurd (let x : Some t ≡ None = h in cc)
sub_low (Text n ∷ ps) t h = absurd (let x : Some t ≡ None = h in cc)

pub left_low : (i : Item) (ps : List Part) → height (with_parts (operator 0) (left_of i ps)) ≤ height (with_parts (operator 0) ps)
left_low i ps = by (is_word_item i) where
  by : (b : Bool) → height (with_parts (operator 0) (cond b ps (behind_first ps))) ≤ height (with_parts (operator 0) ps)
  by true = omega arith
  by false = behind_low ps

-- ---- the whole tree

pub top_read : (def : Definition) (tokens : List Token) (f : Fragment) (kind : Kind) (bracketed : Bool) (start : ℕ) (a d : Reader) → bracketed ≡ has_brackets def kind
    → ReadsNode def tokens bracketed 0 f start a d → (level nesting : ℕ) (y : Yields def f kind level nesting tokens) → a.at ≡ 0 → a.ranges.items ≡ []
    → d.ranges.items ≡ ranges_in (nodes_of def f kind level nesting tokens y)
top_read def tokens f (kinds.Phylum p) bracketed start a d br read level nesting y at none =
    (read.tree p level nesting tokens y [] [] 0 br (sym (append-nil tokens)) (omega (arith, at)) (omega arith) (omega arith, inl refl) (inl refl)).1.ranges
    ∙ ap (λ x. x ++ ranges_in (of_tree y 0 no_nodes)) none
top_read def tokens f (kinds.List l) bracketed start a d br read level nesting y at none =
    (read.list l nesting tokens y [] [] br (sym (append-nil tokens)) at refl).1.ranges ∙ ap (λ x. x ++ ranges_in (of_list y 0 no_nodes)) none

-- ---- the items

pub record PartsSoFar (def : Definition) (tokens : List Token) (is : List Item) (parts left : List Part) (k : ℕ) (a b : Reader) (n0 n1 : List ℕ) : Type 0 where
  pub low : height (with_parts (operator 0) left) ≤ height (with_parts (operator 0) parts)
  pub reads : (o : Operator) (first : Bool) (f g : Fragment) (d e : ℕ) (more : List Item) (ts : List Token) (z : PartsYield def o first f d more g e ts) (before after : List Token)
      → more ≡ solid is → parts ≡ parts_in z → tokens ≡ before ++ (ts ++ after) → a.at ≡ length before → IsNext z (length before) (drop k is) left a b n0 n1

pub so_far_init : (def : Definition) (tokens : List Token) (is : List Item) (parts : List Part) (a : Reader) (n : List ℕ) → PartsSoFar def tokens is parts parts 0 a a n n
so_far_init def tokens is parts a n = record {
  low = omega arith;
  reads = λ o first f g d e more ts z before after m p are at. nothing_next a a n n tokens z is parts (length before) m p at refl refl;
}

pub so_far_next : (def : Definition) (tokens : List Token) (is : List Item) (parts mid left : List Part) (k : ℕ) (i : Item) (a b d : Reader) (n0 n1 n2 : List ℕ)
    → PartsSoFar def tokens is parts mid k a b n0 n1 → drop k is ≡ i ∷ drop (k + 1) is → height (with_parts (operator 0) left) ≤ height (with_parts (operator 0) mid)
    → ReadsItem def tokens i mid left b d n1 n2 → PartsSoFar def tokens is parts left (k + 1) a d n0 n2
so_far_next def tokens is parts mid left k i a b d n0 n1 n2 x row low read = record {
  low = omega (arith, x.low, low);
  reads = λ o first f g dd e more ts z before after m p are at.
      next_then z tokens before after i (drop (k + 1) is) mid left a b d n0 n1 n2 are
      (subst (λ s. IsNext z (length before) s mid a b n0 n1) row (x.reads o first f g dd e more ts z before after m p are at)) read;
}

pub so_far_end : (def : Definition) (tokens : List Token) (is : List Item) (parts left : List Part) (k : ℕ) (a b : Reader) (n0 n1 : List ℕ)
    → PartsSoFar def tokens is parts left k a b n0 n1 → length is ≤ k → ReadsParts def tokens is parts a b n0 n1
so_far_end def tokens is parts left k a b n0 n1 x all = λ o first f g dd e more ts z before after m p are at.
    next_end z (length before) left a b n0 n1
    (subst (λ s. IsNext z (length before) s left a b n0 n1) (drop_all k is all) (x.reads o first f g dd e more ts z before after m p are at))
