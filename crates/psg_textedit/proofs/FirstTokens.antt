-- Each tree of a phylum has a token, and where the first token of a row is.
use Rattle.std.proofs.Common.{◌≡◌, ◌⊎◌, inl, inr, ℕ, ◌+◌, ◌≤◌, Bool, true, false, List, [], ◌∷◌, ◌++◌, length, length-append, Some, slice_get, refl, ap, sym, ◌∙◌, subst, append_assoc, append-nil, arith}
use Rattle.std.proofs.lemmas.Bool.{false≢true, cases_Bool}
use Rattle.std.proofs.lemmas.Option.{none-some}
use Rattle.psg_grammar.specs.declared.types.Kind.{Kind}
use Rattle.psg_grammar.specs.declared.types.Kind.TheVariants as kinds
use Rattle.psg_grammar.specs.declared.types.Item.{Item}
use Rattle.psg_grammar.specs.declared.types.Item.TheVariants as items
use Rattle.psg_grammar.specs.declared.types.Operator.{Operator}
use Rattle.psg_grammar.specs.declared.types.Definition.{Definition}
use Rattle.psg_grammar.specs.Fragments.{Fragment, hole, ending, cell, operator, with_child, with_name, with_number, with_text, anything, observed}
use Rattle.psg_grammar.specs.Lookups.{part_items}
use Rattle.psg_grammar.specs.WellFormed.{Fits, IsPlain}
use Rattle.std.specs.Prelude.{decimal}
use Rattle.psg_tree.specs.AbstractText.{quoted}
use Rattle.psg_class.specs.Terminals.{Terminal, item_terminal}
use Rattle.psg_class.specs.Places.{solid}
use Rattle.psg_class.proofs.ClassFacts.{ClassFacts}
use Rattle.psg_unparse.specs.Rows.{Piece, token, mark, row, words, from_part, behind_first, words_behind, is_bracketed, opening, closing, items_in}
use Rattle.psg_unparse.specs.Layout.{laid, lead}
use Rattle.psg_unparse.proofs.Rows.{laid-append}
use Rattle.psg_unparse.proofs.Lexing.{bare, lead_and_bare}
use Rattle.psg_unparse.proofs.Passing.{Begins, none_left, one_left, parts_left}
use Rattle.psg_unparse.proofs.Claims.{IsSpine, spine_of}

abbrev Pieces : Type 0
Pieces = List Piece

abbrev pub has_token : Pieces → Bool
has_token [] = false
has_token (token t ∷ rest) = true
has_token (mark i ∷ rest) = has_token rest

pub token_left : (a b : Pieces) → has_token a ≡ true → has_token (a ++ b) ≡ true
token_left [] b h = absurd (false≢true h)
token_left (token t ∷ a) b h = refl
token_left (mark i ∷ a) b h = token_left a b h

pub token_right : (a b : Pieces) → has_token b ≡ true → has_token (a ++ b) ≡ true
token_right [] b h = h
token_right (token t ∷ a) b h = refl
token_right (mark i ∷ a) b h = token_right a b h

-- ---- where the first token is

abbrev pub start_from : Pieces → Pieces → ℕ
start_from before r = length (laid [] before) + length (lead before r)

lead_front : (before x r : Pieces) → has_token x ≡ true → lead before (x ++ r) ≡ lead before x
lead_front before [] r h = absurd (false≢true h)
lead_front before (token t ∷ x) r h = refl
lead_front before (mark i ∷ x) r h = lead_front (before ++ mark i ∷ []) x r h

lead_past : (before x r : Pieces) → has_token x ≡ false → lead before (x ++ r) ≡ lead (before ++ x) r
lead_past before [] r h = ap (λ b. lead b r) (sym (append-nil before))
lead_past before (token t ∷ x) r h = absurd (false≢true (sym h))
lead_past before (mark i ∷ x) r h =
    lead_past (before ++ mark i ∷ []) x r h ∙ ap (λ b. lead b r) (append_assoc before (mark i ∷ []) x)

laid_none : (before x : Pieces) → has_token x ≡ false → laid before x ≡ []
laid_none before [] h = refl
laid_none before (token t ∷ x) h = absurd (false≢true (sym h))
laid_none before (mark i ∷ x) h = laid_none (before ++ mark i ∷ []) x h

-- the first token of a row is no later than that of a part of it, where what is in front of the part or the part has a token
pub starts_before : (before x r y : Pieces) → (has_token x ≡ true) ⊎ (has_token r ≡ true)
    → start_from before (x ++ (r ++ y)) ≤ start_from (before ++ x) r
starts_before before x r y some = elim (cases_Bool (has_token x)) [
  | inl h ↦
      let size : length (laid [] (before ++ x)) ≡ length (laid [] before) + (length (lead before x) + length (bare before x)) =
      ap length (laid-append [] before x) ∙ length-append (laid [] before) (laid before x)
      ∙ ap (λ n. length (laid [] before) + n)
      (ap length (lead_and_bare before x) ∙ length-append (lead before x) (bare before x)) in
      omega (arith, size, ap length (lead_front before x (r ++ y) h))
  | inr h ↦
      let has : has_token r ≡ true = elim some [ inl k ↦ absurd (false≢true (sym h ∙ k)) | inr k ↦ k ] in
      let size : length (laid [] (before ++ x)) ≡ length (laid [] before) =
      ap length (laid-append [] before x ∙ ap (λ z. laid [] before ++ z) (laid_none before x h) ∙ append-nil (laid [] before)) in
      let same : length (lead before (x ++ (r ++ y))) ≡ length (lead (before ++ x) r) =
      ap length (lead_past before x (r ++ y) h ∙ lead_front (before ++ x) r y has) in
      omega (arith, size, same)
]

pub ends_after : (before x r y : Pieces) → length (laid [] ((before ++ x) ++ r)) ≤ length (laid [] (before ++ (x ++ (r ++ y))))
ends_after before x r y =
    let same : before ++ (x ++ (r ++ y)) ≡ ((before ++ x) ++ r) ++ y =
    sym (append_assoc before x (r ++ y)) ∙ sym (append_assoc (before ++ x) r y) in
    let size : length (laid [] (before ++ (x ++ (r ++ y))))
    ≡ length (laid [] ((before ++ x) ++ r)) + length (laid ((before ++ x) ++ r) y) =
    ap (λ z. length (laid [] z)) same ∙ ap length (laid-append [] ((before ++ x) ++ r) y)
    ∙ length-append (laid [] ((before ++ x) ++ r)) (laid ((before ++ x) ++ r) y) in
    omega (arith, size)

-- ---- trees have tokens

words_none : (xs : List Item) → has_token (words xs) ≡ false → solid xs ≡ solid (from_part xs)
words_none [] h = refl
words_none (items.Word w ∷ xs) h = absurd (false≢true (sym h))
words_none (items.Slot k ∷ xs) h = refl
words_none (items.Refers s ∷ xs) h = refl
words_none (items.Declares s ∷ xs) h = refl
words_none (items.Number ∷ xs) h = refl
words_none (items.Text ∷ xs) h = refl
words_none (items.Space ∷ xs) h = words_none xs h
words_none (items.Tight ∷ xs) h = words_none xs h
words_none (items.Line ∷ xs) h = words_none xs h
words_none (items.In ∷ xs) h = words_none xs h
words_none (items.Out ∷ xs) h = words_none xs h

module _ (def : Definition) (c : ClassFacts def) where
  -- an operator without parts yet, which begins with a part
  pub record Untouched (more : List Item) : Type 0 where
    pub n : ℕ
    pub o : Operator
    pub found : slice_get def.operators n ≡ Some o
    pub same : solid o.items ≡ solid (from_part o.items)
    pub parts : more ≡ part_items (from_part o.items)

  -- such an operator begins with a slot of its own phylum
  pub own_slot : (k : Kind) (more : List Item) (u : Untouched (items.Slot k ∷ more)) → k ≡ kinds.Phylum u.o.phylum
  own_slot k more u =
      let b : Begins (from_part u.o.items) (items.Slot k) more = one_left u.o.items (items.Slot k) more u.parts in
      let rest : List Item = solid (behind_first (from_part u.o.items)) in
      let first : solid u.o.items ≡ items.Slot k ∷ rest = u.same ∙ ap solid b.is in
      elim (c.begins u.n u.o u.found) [
        | inl t ↦ absurd (no_slot_token t.item k t.terminal
            (let both : t.item ∷ t.more ≡ items.Slot k ∷ rest = sym t.items ∙ first in cc) t.begins)
        | inr t ↦ one_slot k u.o.phylum
            (let both : items.Slot (kinds.Phylum u.o.phylum) ∷ t.item ∷ t.more ≡ items.Slot k ∷ rest = sym t.items ∙ first in cc)
      ]
    where
      no_slot_token : (i : Item) (j : Kind) (t : Terminal) → i ≡ items.Slot j → item_terminal i ≡ Some t → ⊥
      no_slot_token i j t e h = none-some t (sym (ap item_terminal e) ∙ h)

      one_slot : (j : Kind) (p : ℕ) → items.Slot (kinds.Phylum p) ≡ items.Slot j → j ≡ kinds.Phylum p
      one_slot j p e = cc

  none_untouched : (u : Untouched []) → ⊥
  none_untouched u =
      let none : solid u.o.items ≡ [] = u.same ∙ ap solid (none_left u.o.items u.parts) in
      elim (c.begins u.n u.o u.found) [
        | inl t ↦ let e : [] ≡ t.item ∷ t.more = sym none ∙ t.items in absurd (cc)
        | inr t ↦
            let e : [] ≡ items.Slot (kinds.Phylum u.o.phylum) ∷ t.item ∷ t.more = sym none ∙ t.items in absurd (cc)
      ]

  pub record HasToken (f : Fragment) (more : List Item) (kind : Kind) : Type 0 where
    pub part : IsSpine f → (has_token (row def f) ≡ true) ⊎ Untouched more
    pub whole : (p : ℕ) → kind ≡ kinds.Phylum p → more ≡ [] → has_token (row def f) ≡ true

  closed : (f : Fragment) (more : List Item) (kind : Kind) → (has_token (row def f) ≡ true) ⊎ Untouched more → HasToken f more kind
  closed f more kind a = record {
    part = λ spine. a;
    whole = λ p e none. elim a [
      | inl h ↦ h
      | inr u ↦ absurd (none_untouched (subst Untouched none u))
    ];
  }

  leaf : (f g : Fragment) (more : List Item) (kind : Kind) (w : List ℕ) → row def g ≡ row def f ++ token w ∷ words_behind def f
      → HasToken g more kind
  leaf f g more kind w e =
      closed g more kind (inl (ap has_token e ∙ token_right (row def f) (token w ∷ words_behind def f) refl))

  pub tokens_of_tree : (f : Fragment) (more : List Item) (kind : Kind) → Fits def f more kind → IsPlain f → HasToken f more kind
  tokens_of_tree (hole p) more kind h plain = record { part = λ no. absurd no; whole = λ q e none. refl }
  tokens_of_tree (ending l u) more kind h plain = record {
    part = λ no. absurd no;
    whole = λ q e none. let k : kinds.List l ≡ kinds.Phylum q = sym h.1 ∙ e in absurd (cc);
  }
  tokens_of_tree (cell l x r) more kind h plain = record {
    part = λ no. absurd no;
    whole = λ q e none. let k : kinds.List l ≡ kinds.Phylum q = sym h.1 ∙ e in absurd (cc);
  }
  tokens_of_tree (operator n) more kind h plain =
      let at : items_in (slice_get def.operators n) ≡ h.0.items = ap items_in h.1 in
      closed (operator n) more kind (elim (cases_Bool (has_token (words (items_in (slice_get def.operators n))))) [
        | inl t ↦ inl t
        | inr t ↦ inr (record {
          n = n;
          o = h.0;
          found = h.1;
          same = words_none h.0.items (sym (ap (λ xs. has_token (words xs)) at) ∙ t);
          parts = h.2 ∙ sym (parts_left h.0.items);
        })
      ])
  tokens_of_tree (with_child f t) more kind h plain =
      let a = (tokens_of_tree f (items.Slot h.0 ∷ more) kind h.1 plain.0).part (spine_of def f (items.Slot h.0) more kind h.1) in
      let b = tokens_of_tree t [] h.0 h.2 plain.1 in
      closed (with_child f t) more kind (inl (elim a [
        | inl k ↦ token_left (row def f) (opening (is_bracketed def f t) ++ (row def t ++ (closing (is_bracketed def f t) ++ words_behind def f))) k
        | inr u ↦
            token_right (row def f) (opening (is_bracketed def f t) ++ (row def t ++ (closing (is_bracketed def f t) ++ words_behind def f)))
            (token_right (opening (is_bracketed def f t)) (row def t ++ (closing (is_bracketed def f t) ++ words_behind def f))
            (token_left (row def t) (closing (is_bracketed def f t) ++ words_behind def f)
            (b.whole u.o.phylum (own_slot h.0 more u) refl)))
      ]))
  tokens_of_tree (with_name f n) more kind h plain = leaf f (with_name f n) more kind n refl
  tokens_of_tree (with_number f n) more kind h plain = leaf f (with_number f n) more kind (decimal n) refl
  tokens_of_tree (with_text f t) more kind h plain = leaf f (with_text f t) more kind (quoted t) refl
  tokens_of_tree anything more kind h plain = absurd h
  tokens_of_tree (observed f) more kind h plain = absurd plain
