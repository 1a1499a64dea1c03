-- What the whole needs of a tree at a place in it, and places inside it.
use Rattle.std.proofs.Common.{◌≡◌, ℕ, ◌+◌, ◌<◌, ◌≤◌, max, List, [], ◌++◌, ap, sym, ◌∙◌, subst, append_assoc, append-nil, arith}
use Rattle.psg_grammar.specs.declared.types.Kind.{Kind}
use Rattle.psg_grammar.specs.declared.types.Definition.{Definition}
use Rattle.psg_grammar.specs.Fragments.{Fragment, hole, ending, cell, operator, with_child, with_name, with_number, with_text, anything, observed}
use Rattle.psg_grammar.specs.Sizes.{depth_of}
use Rattle.psg_grammar.specs.WellFormed.{fixed_words}
use Rattle.psg_class.specs.Terminals.{Token}
use Rattle.psg_class.specs.Yields.{Yields}
use Rattle.psg_unparse.specs.Rows.{Piece}
use Rattle.psg_unparse.specs.Spots.{Spot, top_spot}
use Rattle.psg_unparse.proofs.Lexing.{RowTokens, no_pieces}
use Rattle.psg_unparse.proofs.Passing.{tokens-append}

pub depth_some : (f : Fragment) → 1 ≤ depth_of f
depth_some (hole p) = omega arith
depth_some (ending l u) = omega arith
depth_some (cell l e r) = omega (arith, depth_some r)
depth_some (operator o) = omega arith
depth_some (with_child f t) = omega (arith, depth_some f)
depth_some (with_name f n) = depth_some f
depth_some (with_number f n) = depth_some f
depth_some (with_text f n) = depth_some f
depth_some anything = omega arith
depth_some (observed f) = depth_some f

abbrev Tokens : Type 0
Tokens = List Token

regrouped : (f a u b k : Tokens) → f ++ ((a ++ (u ++ b)) ++ k) ≡ (f ++ a) ++ (u ++ (b ++ k))
regrouped f a u b k =
    ap (λ x. f ++ x) (append_assoc a (u ++ b) k ∙ ap (λ x. a ++ x) (append_assoc u b k))
    ∙ sym (append_assoc f a (u ++ (b ++ k)))

module _ (def : Definition) (whole : Fragment) (kind : Kind) where
  -- Whatever P takes at the spot, with brackets nested so deep and these tokens, makes a whole that has its tokens between those before and
  -- after the spot. What is elsewhere nests less deep than the whole is.
  pub record Hole (s : Spot) (P : Fragment → ℕ → List Token → Type 0) (put : Fragment → Fragment) : Type 0 where
    pub front : List Token
    pub back : List Token
    pub has_front : RowTokens (fixed_words def) s.before front
    pub has_back : RowTokens (fixed_words def) s.behind back
    pub elsewhere : ℕ
    pub shallow : elsewhere < depth_of whole
    pub fills : (t : Fragment) (m : ℕ) (us : List Token) → P t m us
        → Yields def (put t) kind 0 (max elsewhere (s.around + m)) (front ++ (us ++ back))

  pub top_hole : Hole top_spot (λ t m us. Yields def t kind 0 m us) (λ t. t)
  top_hole = record {
    front = [];
    back = [];
    has_front = no_pieces;
    has_back = no_pieces;
    elsewhere = 0;
    shallow = omega (arith, depth_some whole);
    fills = λ t m us y.
        let same : m ≡ max 0 (0 + m) = omega arith in
        subst (λ d. Yields def t kind 0 d (us ++ [])) same (subst (Yields def t kind 0 m) (sym (append-nil us)) y);
  }

  pub mapped : {s : Spot} {P : Fragment → ℕ → List Token → Type 0} {put : Fragment → Fragment}
      (Q : Fragment → ℕ → List Token → Type 0) → Hole s P put
      → ((t : Fragment) (m : ℕ) (us : List Token) → Q t m us → P t m us) → Hole s Q put
  mapped Q h g = record {
    front = h.front;
    back = h.back;
    has_front = h.has_front;
    has_back = h.has_back;
    elsewhere = h.elsewhere;
    shallow = h.shallow;
    fills = λ t m us q. h.fills t m us (g t m us q);
  }

  pub put_so : {s : Spot} {P : Fragment → ℕ → List Token → Type 0} {put : Fragment → Fragment} (other : Fragment → Fragment)
      → Hole s P put → ((t : Fragment) → put t ≡ other t) → Hole s P other
  put_so {s = s} other h same = record {
    front = h.front;
    back = h.back;
    has_front = h.has_front;
    has_back = h.has_back;
    elsewhere = h.elsewhere;
    shallow = h.shallow;
    fills = λ t m us q.
        subst (λ x. Yields def x kind 0 (max h.elsewhere (s.around + m)) (h.front ++ (us ++ h.back))) (same t)
        (h.fills t m us q);
  }

  -- A spot inside another one: what is between them has tokens of its own, which nest as deep as x.
  pub inside : {s : Spot} {P : Fragment → ℕ → List Token → Type 0} {put : Fragment → Fragment}
      (inner : Spot) (Q : Fragment → ℕ → List Token → Type 0) (wrap : Fragment → Fragment)
      (a b : List Piece) (x extra : ℕ) (A B : List Token) → Hole s P put
      → s.before ++ a ≡ inner.before → b ++ s.behind ≡ inner.behind → inner.around ≡ s.around + extra
      → RowTokens (fixed_words def) a A → RowTokens (fixed_words def) b B → s.around + x < depth_of whole
      → ((t : Fragment) (m : ℕ) (us : List Token) → Q t m us → P (wrap t) (max x (extra + m)) (A ++ (us ++ B)))
      → Hole inner Q (λ t. put (wrap t))
  inside {s = s} {put = put} inner Q wrap a b x extra A B h before behind around has_a has_b shallow step =
      record {
        front = h.front ++ A;
        back = B ++ h.back;
        has_front = subst (λ r. RowTokens (fixed_words def) r (h.front ++ A)) before
            (tokens-append (fixed_words def) s.before a h.front A h.has_front has_a);
        has_back = subst (λ r. RowTokens (fixed_words def) r (B ++ h.back)) behind
            (tokens-append (fixed_words def) b s.behind B h.back has_b h.has_back);
        elsewhere = max h.elsewhere (s.around + x);
        shallow = omega (arith, h.shallow, shallow);
        fills = λ t m us q.
            let same : max h.elsewhere (s.around + max x (extra + m))
            ≡ max (max h.elsewhere (s.around + x)) (inner.around + m) = omega (arith, around) in
            subst (λ d. Yields def (put (wrap t)) kind 0 d ((h.front ++ A) ++ (us ++ (B ++ h.back)))) same
            (subst (Yields def (put (wrap t)) kind 0 (max h.elsewhere (s.around + max x (extra + m))))
            (regrouped h.front A us B h.back) (h.fills (wrap t) (max x (extra + m)) (A ++ (us ++ B)) (step t m us q)));
      }
