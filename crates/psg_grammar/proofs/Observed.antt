-- The values of observed nodes are listed in front of what follows.
use Rattle.std.proofs.Common.{◌≡◌, true, false, List, [], ◌∷◌, ◌++◌, refl, ap, sym, ◌∙◌, append_assoc}
use Rattle.psg_terms.specs.Terms.{Term}
use Rattle.psg_grammar.specs.declared.types.Definition.{Definition}
use Rattle.psg_grammar.specs.Fragments.{Fragment, hole, ending, cell, operator, with_child, with_name, with_number, with_text, anything, observed}
use Rattle.psg_grammar.specs.Lookups.{key_at}
use Rattle.psg_grammar.specs.Legal.{Entities}
use Rattle.psg_grammar.specs.Open.{Choice, Holds}

module _ (def : Definition) where
  -- more may follow on both sides
  pub holds_more : (f : Fragment) (c : Choice f) (g : Entities) (columns : List Term) (v : Term) (before mid after : List Term) → Holds def g f c columns v before mid → Holds def g f c columns v (before ++ after) (mid ++ after)
  holds_more (hole p) c g columns v before mid after (n, e, h) = (n, ap (λ l. l ++ after) e, h)
  holds_more (ending l true) c g columns v before mid after (n, e, h) = (n, ap (λ l. l ++ after) e, h)
  holds_more (ending l false) c g columns v before mid after (n, e, h) = (n, ap (λ l. l ++ after) e, h)
  holds_more (cell l e r) c g columns v before mid after (n, first, others, m, inner, row, ei, agr, he, hr) =
      (n, first, others, m ++ after, inner, row, ei, agr, holds_more e c.1 inner [] first before m after he, holds_more r c.2 g [] others m mid after hr)
  holds_more (operator o) c g columns v before mid after (e, h) = (ap (λ l. l ++ after) e, h)
  holds_more (with_child f t) c g columns v before mid after (u, m, inner, hf, ei, agr, ht) =
      (u, m ++ after, inner, holds_more f c.0 g (u ∷ columns) v before m after hf, ei, agr, holds_more t c.1 inner [] u m mid after ht)
  holds_more (with_name f x) c g columns v before mid after h = holds_more f c g (g (key_at def f x) ∷ columns) v before mid after h
  holds_more (with_number f x) c g columns v before mid after h = holds_more f c g columns v before mid after h
  holds_more (with_text f x) c g columns v before mid after h = holds_more f c g columns v before mid after h
  holds_more anything c g columns v before mid after (n, e) = (n, ap (λ l. l ++ after) e)
  holds_more (observed f) c g columns v before mid after (m, e, h) = (m ++ after, ap (λ l. l ++ after) e, holds_more f c g columns v m mid after h)

  -- the node's own values, without what follows
  pub record Own (f : Fragment) (c : Choice f) (g : Entities) (columns : List Term) (v : Term) (before after : List Term) : Type 0 where
    pub own : List Term
    pub is : before ≡ own ++ after
    pub holds : Holds def g f c columns v own []

  pub own_of : (f : Fragment) (c : Choice f) (g : Entities) (columns : List Term) (v : Term) (before after : List Term) → Holds def g f c columns v before after → Own f c g columns v before after
  own_of (hole p) c g columns v before after (n, e, h) = record { own = []; is = e; holds = (n, refl, h) }
  own_of (ending l true) c g columns v before after (n, e, h) = record { own = []; is = e; holds = (n, refl, h) }
  own_of (ending l false) c g columns v before after (n, e, h) = record { own = []; is = e; holds = (n, refl, h) }
  own_of (cell l e r) c g columns v before after (n, first, others, m, inner, row, ei, agr, he, hr) =
      let a = own_of e c.1 inner [] first before m he in
      let b = own_of r c.2 g [] others m after hr in
      record {
        own = a.own ++ b.own;
        is = a.is ∙ ap (λ l. a.own ++ l) b.is ∙ sym (append_assoc a.own b.own after);
        holds = (n, first, others, b.own, inner, row, ei, agr, holds_more e c.1 inner [] first a.own [] b.own a.holds, b.holds);
      }
  own_of (operator o) c g columns v before after (e, h) = record { own = []; is = e; holds = (refl, h) }
  own_of (with_child f t) c g columns v before after (u, m, inner, hf, ei, agr, ht) =
      let a = own_of f c.0 g (u ∷ columns) v before m hf in
      let b = own_of t c.1 inner [] u m after ht in
      record {
        own = a.own ++ b.own;
        is = a.is ∙ ap (λ l. a.own ++ l) b.is ∙ sym (append_assoc a.own b.own after);
        holds = (u, b.own, inner, holds_more f c.0 g (u ∷ columns) v a.own [] b.own a.holds, ei, agr, b.holds);
      }
  own_of (with_name f x) c g columns v before after h = let a = own_of f c g (g (key_at def f x) ∷ columns) v before after h in record { own = a.own; is = a.is; holds = a.holds }
  own_of (with_number f x) c g columns v before after h = let a = own_of f c g columns v before after h in record { own = a.own; is = a.is; holds = a.holds }
  own_of (with_text f x) c g columns v before after h = let a = own_of f c g columns v before after h in record { own = a.own; is = a.is; holds = a.holds }
  own_of anything c g columns v before after (n, e) = record { own = v ∷ []; is = e; holds = (n, refl) }
  own_of (observed f) c g columns v before after (m, e, h) =
      let a = own_of f c g columns v m after h in
      record { own = v ∷ a.own; is = e ∙ ap (λ l. v ∷ l) a.is; holds = (a.own, refl, a.holds) }
