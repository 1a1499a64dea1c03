-- The theorem, from what the walk gives: a refuted tree is not open.
use Rattle.std.proofs.Common.{◌≡◌, ◌⊎◌, inl, inr, ℕ, ◌||◌, ◌&&◌, Bool, true, false, cond, List, [], ◌∷◌, Some, refl, ap, sym, ◌∙◌, subst}
use Rattle.std.specs.Prelude.{bytes_eq, option_and_then}
use Rattle.std.specs.List.{slice_get}
use Rattle.psg_terms.specs.Names.{is_among, has_twice}
use Rattle.psg_terms.proofs.DeclareLaws.{bytes_eq-same}
use Rattle.psg_terms.proofs.Lists.{each_at}
use Rattle.psg_terms.proofs.Variables.{true_false}
use Rattle.psg_grammar.specs.declared.types.Kind.{Kind}
use Rattle.psg_grammar.specs.declared.types.Definition.{Definition}
use Rattle.psg_grammar.specs.Fragments.{Fragment, hole, ending, cell, operator, with_child, with_name, with_number, with_text, anything, observed, children_of}
use Rattle.psg_grammar.specs.Lookups.{is_scope}
use Rattle.psg_grammar.specs.Legal.{Within}
use Rattle.psg_grammar.specs.Keys.{Key}
use Rattle.psg_grammar.specs.Open.{IsOpen, AgreeOpen}
use Rattle.psg_grammar.specs.Paths.{Path, node_at, IsList}
use Rattle.psg_grammar.specs.Regions.{declared_inside, unfinished_inside}
use Rattle.psg_grammar.specs.WellFormed.{WellFormed}
use Rattle.psg_grammar.proofs.PathLaws.{step}
use Rattle.psg_scope.proofs.MergeLaws.{meets, has_twice-append}
use Rattle.psg_cache.proofs.FormedTrees.{node_formed}
use Rattle.psg_cache.proofs.OpenTrees.{children_open, holds_unseen}
use Rattle.psg_cache.proofs.RealTrees.{IsReal, real}
use Rattle.psg_explain.specs.declared.refutation.Claim.{Claim}
use Rattle.psg_explain.specs.declared.refutation.Refutation.{Refutation}
use Rattle.psg_explain.specs.declared.refutation.Refutation.TheVariants as refutations
use Rattle.psg_explain.specs.Walks.{At}
use Rattle.psg_explain.specs.Refutations.{ClaimTo, Refutes, is_twice_among}

both : (a b : Bool) → (a && b) ≡ true → (a ≡ true) × (b ≡ true)
both true b e = (refl, e)
both false b e = absurd (true_false (sym e))

either : (a b : Bool) → (a || b) ≡ true → (a ≡ true) ⊎ (b ≡ true)
either true b e = inl refl
either false b e = inr e

or_right : (a : Bool) → (a || true) ≡ true
or_right true = refl
or_right false = refl

-- a key that stands twice is one that does
twice_there : (ns : List Key) (k : Key) → is_twice_among ns k ≡ true → has_twice ns ≡ true
twice_there [] k e = absurd (true_false (sym e))
twice_there (n ∷ ns) k e = elim (either (bytes_eq n k && is_among ns k) (is_twice_among ns k) e) [
  | inl h ↦
      let (here, again) = both (bytes_eq n k) (is_among ns k) h in
      ap (λ b. b || has_twice ns) (ap (is_among ns) (bytes_eq-same n k here) ∙ again)
  | inr h ↦ ap (λ b. is_among ns n || b) (twice_there ns k h) ∙ or_right (is_among ns n)
]

module _ (def : Definition) where
  -- each node of an open tree is open
  pub open_at : (path : Path) (f node : Fragment) (kind : Kind) → WellFormed def f kind → IsOpen def f → node_at f path ≡ Some node → IsOpen def node
  open_at [] f node kind formed is_open at = let e : f ≡ node = cc in subst (IsOpen def) e is_open
  open_at (k ∷ path) f node kind formed is_open at =
      let (t, there, below) = step (slice_get (children_of f) k) path node at in
      let one : node_at f (k ∷ []) ≡ Some t = ap (λ o. option_and_then (λ t. Some t) o) there in
      let (own, of_child) = node_formed def f kind (k ∷ []) t formed one in
      open_at path t node own of_child (each_at (IsOpen def) (children_of f) (children_open def f (real def f (kind, formed)) is_open) k t there) below

  module _ (walked_out : (path : Path) (f : Fragment) (kind : Kind) (claims : List Claim) (last : At) → WellFormed def f kind → ClaimTo def path f claims last → IsOpen def f → ⊥) where
    pub refuted : (f : Fragment) (kind : Kind) (r : Refutation) → WellFormed def f kind → Refutes def f r → IsOpen def f → ⊥
    refuted f kind (refutations.Twice path space name) formed (node, at, twice) is_open =
        let o = open_at path f node kind formed is_open at in
        true_false (sym (twice_there (declared_inside def node) (space ∷ name) twice) ∙ o.distinct.0)
    refuted f kind (refutations.Empty path claims) formed (node, at, last, claim) is_open =
        let (own, of_node) = node_formed def f kind path node formed at in
        walked_out path node own claims last of_node claim (open_at path f node kind formed is_open at)

-- the rest of an open cell is open
module _ (def : Definition) where
  pub list_no_scope : (r : Fragment) → IsList r → is_scope def r ≡ false
  list_no_scope (ending l u) h = refl
  list_no_scope (cell l e r) h = refl
  list_no_scope (hole p) h = absurd h
  list_no_scope (operator o) h = absurd h
  list_no_scope (with_child f t) h = absurd h
  list_no_scope (with_name f n) h = absurd h
  list_no_scope (with_number f n) h = absurd h
  list_no_scope (with_text f n) h = absurd h
  list_no_scope anything h = absurd h
  list_no_scope (observed f) h = absurd h

  third : (a b c : Bool) → ((a || b) || c) ≡ false → b ≡ false
  third false false c e = refl
  third false true c e = absurd (true_false e)
  third true b c e = absurd (true_false e)

  pub open_rest : (l : ℕ) (e r : Fragment) → IsReal (cell l e r) → IsOpen def (cell l e r) → IsOpen def r
  open_rest l e r (of_e, of_r, list) is_open =
      let j = is_open.judged in
      let (none, one, others, mid, inner, row, are, agree, first, rest) = j.holds in
      record {
        distinct = (
          third (has_twice (cond (is_scope def e) [] (declared_inside def e))) (has_twice (declared_inside def r))
              (meets (cond (is_scope def e) [] (declared_inside def e)) (declared_inside def r))
              (sym (has_twice-append (cond (is_scope def e) [] (declared_inside def e)) (declared_inside def r)) ∙ is_open.distinct.0),
          is_open.distinct.1.2,
        );
        choice = is_open.choice.2;
        outside = j.inner;
        entities = j.entities;
        value = others;
        judged = record {
          inner = j.inner;
          entities = j.entities;
          agree = subst (λ b. Within b (AgreeOpen (λ s. unfinished_inside def s r) (declared_inside def r)) j.inner j.inner) (sym (list_no_scope r list)) refl;
          holds = holds_unseen def r of_r j.inner is_open.choice.2 [] others mid [] [] rest;
        };
      }
