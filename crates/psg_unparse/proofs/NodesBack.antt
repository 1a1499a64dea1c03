-- Each node of a printed tree reads back from the bytes on which it is written.
use Rattle.std.proofs.Common.{◌≡◌, inl, inr, ℕ, ◌+◌, ◌-◌, Bool, true, false, cond, List, [], ◌∷◌, ◌++◌, length, length-append, take, drop, Option, refl, ap, sym, ◌∙◌, subst, append_assoc, arith}
use Rattle.std.specs.Prelude.{decimal}
use Rattle.std.specs.List.{AllByRecursion}
use Rattle.psg_lexis.specs.Tokens.{IsFixedWord}
use Rattle.psg_grammar.specs.declared.types.Kind.{Kind}
use Rattle.psg_grammar.specs.declared.types.Kind.TheVariants as kinds
use Rattle.psg_grammar.specs.declared.types.Item.{Item}
use Rattle.psg_grammar.specs.declared.types.Item.TheVariants as items
use Rattle.psg_grammar.specs.declared.types.Operator.{Operator}
use Rattle.psg_grammar.specs.declared.types.Definition.{Definition}
use Rattle.psg_grammar.specs.Fragments.{Fragment, hole, ending, cell, operator, with_child, with_name, with_number, with_text, anything, observed}
use Rattle.psg_grammar.specs.Printable.{IsPrintable}
use Rattle.psg_grammar.specs.Sound.{IsSound}
use Rattle.psg_grammar.specs.WellFormed.{Fits, IsPlain, fixed_words}
use Rattle.psg_tree.specs.AbstractText.{quoted}
use Rattle.psg_class.specs.Class.{IsClass}
use Rattle.psg_class.specs.Terminals.{Token}
use Rattle.psg_class.specs.Texts.{TextTokens}
use Rattle.psg_class.specs.Yields.{Yields}
use Rattle.psg_class.proofs.ClassFacts.{ClassFacts, facts}
use Rattle.psg_unparse.specs.Rows.{row, operator_of, wanted, is_below_level}
use Rattle.psg_unparse.specs.Layout.{laid, lead, text_of}
use Rattle.psg_unparse.specs.Spots.{Spot, Placed, top_spot, element_spot, rest_spot, child_spot, front_spot, leaf_spot, placed_from, placed_below, placed_in}
use Rattle.psg_unparse.specs.Nodes.{part_of, start_of, end_of, NodeReadsBack, NodesReadBackIfPrintable}
use Rattle.psg_unparse.proofs.Rows.{laid-append, IsCutAt, cut_in}
use Rattle.psg_unparse.proofs.Lexing.{RowTokens, Lexed, bare, lead_and_bare, bare_tokens}
use Rattle.psg_unparse.proofs.FixedTokens.{HasTokens, has_tokens}
use Rattle.psg_unparse.proofs.Claims.{WholeBack}
use Rattle.psg_unparse.proofs.SlotSteps.{below_zero}
use Rattle.psg_unparse.proofs.Trees.{claim}

-- ---- the bytes of a node

pub take_front : (xs ys : List ℕ) → take (length xs) (xs ++ ys) ≡ xs
take_front [] ys = refl
take_front (x ∷ xs) ys = ap (λ zs. x ∷ zs) (take_front xs ys)

pub drop_front : (xs ys : List ℕ) → drop (length xs) (xs ++ ys) ≡ ys
drop_front [] ys = refl
drop_front (x ∷ xs) ys = drop_front xs ys

-- the bytes between what is in front of them and what is after them
part_between : (a x b : List ℕ) (start end : ℕ) → start ≡ length a → end ≡ length (a ++ x)
    → part_of start end (a ++ (x ++ b)) ≡ x
part_between a x b start end s e =
    ap (λ n. take (end - n) (drop n (a ++ (x ++ b)))) s ∙ ap (λ ys. take (end - length a) ys) (drop_front a (x ++ b))
    ∙ ap (λ n. take n (x ++ b)) size ∙ take_front x b
  where
    size : end - length a ≡ length x
    size = omega (arith, e, length-append a x)

module _ (def : Definition) (f : Fragment) (p : Placed) (cut : IsCutAt def (row def f) p) where
  pub own : List ℕ
  own = bare p.spot.before (row def p.node)

  pub front : List ℕ
  front = laid [] p.spot.before ++ lead p.spot.before (row def p.node)

  pub behind : List ℕ
  behind = laid (p.spot.before ++ row def p.node) p.spot.behind

  -- the row up to the end of the node
  pub up_to : laid [] (p.spot.before ++ row def p.node) ≡ front ++ own
  unfolding own front
  up_to =
      laid-append [] p.spot.before (row def p.node)
      ∙ ap (λ x. laid [] p.spot.before ++ x) (lead_and_bare p.spot.before (row def p.node))
      ∙ sym (append_assoc (laid [] p.spot.before) (lead p.spot.before (row def p.node))
      (bare p.spot.before (row def p.node)))

  pub whole : text_of def f ≡ front ++ (own ++ behind)
  unfolding behind
  whole =
      ap (laid []) (sym cut ∙ sym (append_assoc p.spot.before (row def p.node) p.spot.behind))
      ∙ laid-append [] (p.spot.before ++ row def p.node) p.spot.behind
      ∙ ap (λ x. x ++ laid (p.spot.before ++ row def p.node) p.spot.behind) up_to
      ∙ append_assoc front own (laid (p.spot.before ++ row def p.node) p.spot.behind)

  own_part : part_of (start_of def p) (end_of def p) (text_of def f) ≡ bare p.spot.before (row def p.node)
  unfolding own front
  own_part =
      ap (part_of (start_of def p) (end_of def p)) whole
      ∙ part_between front own behind (start_of def p) (end_of def p)
      (sym (length-append (laid [] p.spot.before) (lead p.spot.before (row def p.node)))) (ap length up_to)

-- ---- the tokens of a node

all-append : (P : Placed → Type 0) (xs ys : List Placed) → AllByRecursion P xs → AllByRecursion P ys
    → AllByRecursion P (xs ++ ys)
all-append P [] ys a b = b
all-append P (x ∷ xs) ys a b = (a.0, all-append P xs ys a.1 b)

module _ (def : Definition) where
  -- the node's row has tokens, and they yield it at the level that is wanted there
  pub record NodeBack (p : Placed) : Type 0 where
    pub kind : Kind
    pub nesting : ℕ
    pub tokens : List Token
    pub has : RowTokens (fixed_words def) (row def p.node) tokens
    pub yields : Yields def p.node kind p.spot.level nesting tokens

  node_back : (s : Spot) (f : Fragment) (kind : Kind) → is_below_level (operator_of def f) s.level ≡ false
      → WholeBack def f kind → NodeBack (record { spot = s; node = f })
  node_back s f (kinds.Phylum p) low a =
      record {
        kind = kinds.Phylum p;
        nesting = a.nesting;
        tokens = a.tokens;
        has = a.has;
        yields = a.yields s.level low;
      }
  node_back s f (kinds.List l) low a =
      record { kind = kinds.List l; nesting = a.nesting; tokens = a.tokens; has = a.has; yields = a.yields }

  reads_back : (f : Fragment) (p : Placed) → IsCutAt def (row def f) p → NodeBack p → NodeReadsBack def f p
  reads_back f p cut a =
      let lexed : Lexed (fixed_words def) (bare p.spot.before (row def p.node)) 0 a.tokens =
      bare_tokens (fixed_words def) p.spot.before (row def p.node) a.tokens a.has 0 in (
        a.kind,
        a.nesting,
        record {
          tokens = lexed.spans;
          are = subst (λ bs. TextTokens def bs lexed.spans) (sym (own_part def f p cut)) lexed.are;
          yields = subst (Yields def p.node a.kind p.spot.level a.nesting) (sym lexed.tokens) a.yields;
        },
      )

  all_read : (f : Fragment) (ps : List Placed) → AllByRecursion (IsCutAt def (row def f)) ps
      → AllByRecursion NodeBack ps
      → AllByRecursion (NodeReadsBack def f) ps
  all_read f [] cuts backs = tt
  all_read f (p ∷ ps) cuts backs = (reads_back f p cuts.0 backs.0, all_read f ps cuts.1 backs.1)

-- inside brackets each level is right
pub bracket_level : (x : Option Operator) (least : ℕ) → is_below_level x (cond (is_below_level x least) 0 least) ≡ false
bracket_level x least = by (is_below_level x least) refl where
  by : (b : Bool) → is_below_level x least ≡ b → is_below_level x (cond b 0 least) ≡ false
  by true e = below_zero x
  by false e = e

module _ (def : Definition) (sound : IsSound def) (c : ClassFacts def) (known : HasTokens def) where
  head : (s : Spot) (f : Fragment) (kind : Kind) → Fits def f [] kind → IsPlain f → IsPrintable f
      → is_below_level (operator_of def f) s.level ≡ false → NodeBack def (record { spot = s; node = f })
  head s f kind h plain printable low =
      node_back def s f kind low ((claim def sound c known f [] kind h plain printable).whole refl)

  mutual
    nodes_from : (s : Spot) (f : Fragment) (kind : Kind) → Fits def f [] kind → IsPlain f → IsPrintable f
        → is_below_level (operator_of def f) s.level ≡ false → AllByRecursion (NodeBack def) (placed_from def s f)
    nodes_from s (hole p) kind h plain printable low = (head s (hole p) kind h plain printable low, tt)
    nodes_from s (ending l u) kind h plain printable low = (head s (ending l u) kind h plain printable low, tt)
    nodes_from s (cell l e r) kind h plain printable low = (
      head s (cell l e r) kind h plain printable low,
      all-append (NodeBack def) (placed_from def (element_spot def s 0 l r) e)
          (placed_below def (rest_spot def s l e r) 1 r)
          (nodes_from (element_spot def s 0 l r) e (kinds.Phylum h.2.element) h.4 plain.0 printable.0
          (below_zero (operator_of def e)))
          (nodes_below (rest_spot def s l e r) 1 r [] (kinds.List l) h.5 plain.1 printable.1),
    )
    nodes_from s (operator o) kind h plain printable low = (head s (operator o) kind h plain printable low, tt)
    nodes_from s (with_child f t) kind h plain printable low = (
      head s (with_child f t) kind h plain printable low,
      all-append (NodeBack def) (placed_below def (front_spot def s f t) 0 f) (placed_from def (child_spot def s f t) t)
          (nodes_below (front_spot def s f t) 0 f (items.Slot h.0 ∷ []) kind h.1 plain.0 printable.0)
          (nodes_from (child_spot def s f t) t h.0 h.2 plain.1 printable.1
          (bracket_level (operator_of def t) (wanted def f))),
    )
    nodes_from s (with_name f n) kind (inl (x, h), name) plain printable low = (
      head s (with_name f n) kind (inl (x, h), name) plain printable low,
      nodes_below (leaf_spot def s f n) 0 f (items.Refers x ∷ []) kind h plain printable.0,
    )
    nodes_from s (with_name f n) kind (inr (x, h), name) plain printable low = (
      head s (with_name f n) kind (inr (x, h), name) plain printable low,
      nodes_below (leaf_spot def s f n) 0 f (items.Declares x ∷ []) kind h plain printable.0,
    )
    nodes_from s (with_number f n) kind h plain printable low = (
      head s (with_number f n) kind h plain printable low,
      nodes_below (leaf_spot def s f (decimal n)) 0 f (items.Number ∷ []) kind h.0 plain printable,
    )
    nodes_from s (with_text f n) kind h plain printable low = (
      head s (with_text f n) kind h plain printable low,
      nodes_below (leaf_spot def s f (quoted n)) 0 f (items.Text ∷ []) kind h.0 plain printable.0,
    )
    nodes_from s anything kind h plain printable low = absurd h
    nodes_from s (observed f) kind h plain printable low = absurd plain

    nodes_below : (s : Spot) (n : ℕ) (f : Fragment) (more : List Item) (kind : Kind) → Fits def f more kind → IsPlain f
        → IsPrintable f → AllByRecursion (NodeBack def) (placed_below def s n f)
    nodes_below s n (hole p) more kind h plain printable = tt
    nodes_below s n (ending l u) more kind h plain printable = tt
    nodes_below s n (cell l e r) more kind h plain printable =
        all-append (NodeBack def) (placed_from def (element_spot def s n l r) e)
        (placed_below def (rest_spot def s l e r) (n + 1) r)
        (nodes_from (element_spot def s n l r) e (kinds.Phylum h.2.element) h.4 plain.0 printable.0
        (below_zero (operator_of def e)))
        (nodes_below (rest_spot def s l e r) (n + 1) r [] (kinds.List l) h.5 plain.1 printable.1)
    nodes_below s n (operator o) more kind h plain printable = tt
    nodes_below s n (with_child f t) more kind h plain printable =
        all-append (NodeBack def) (placed_below def (front_spot def s f t) n f)
        (placed_from def (child_spot def s f t) t)
        (nodes_below (front_spot def s f t) n f (items.Slot h.0 ∷ more) kind h.1 plain.0 printable.0)
        (nodes_from (child_spot def s f t) t h.0 h.2 plain.1 printable.1
        (bracket_level (operator_of def t) (wanted def f)))
    nodes_below s n (with_name f x) more kind (inl (y, h), name) plain printable =
        nodes_below (leaf_spot def s f x) n f (items.Refers y ∷ more) kind h plain printable.0
    nodes_below s n (with_name f x) more kind (inr (y, h), name) plain printable =
        nodes_below (leaf_spot def s f x) n f (items.Declares y ∷ more) kind h plain printable.0
    nodes_below s n (with_number f x) more kind h plain printable =
        nodes_below (leaf_spot def s f (decimal x)) n f (items.Number ∷ more) kind h.0 plain printable
    nodes_below s n (with_text f x) more kind h plain printable =
        nodes_below (leaf_spot def s f (quoted x)) n f (items.Text ∷ more) kind h.0 plain printable.0
    nodes_below s n anything more kind h plain printable = absurd h
    nodes_below s n (observed f) more kind h plain printable = absurd plain

pub nodes_read_back : (def : Definition) → IsSound def → AllByRecursion IsFixedWord (fixed_words def) → IsClass def
    → (f : Fragment) → NodesReadBackIfPrintable def f
nodes_read_back def sound words class f printable kind formed =
    all_read def f (placed_in def f) (cut_in def f)
    (nodes_from def sound (facts def class) (has_tokens def words) top_spot f kind formed.0 formed.1 printable
    (below_zero (operator_of def f)))
