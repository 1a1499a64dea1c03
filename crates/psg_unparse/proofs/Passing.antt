-- The words and marks before the next part.
use Rattle.std.proofs.Common.{◌≡◌, ℕ, Bool, false, List, [], ◌∷◌, ◌++◌, refl, ap, sym, subst, append_assoc, append-nil}
use Rattle.std.specs.List.{AllByRecursion}
use Rattle.psg_terms.specs.Names.{Name}
use Rattle.psg_grammar.specs.declared.types.Item.{Item}
use Rattle.psg_grammar.specs.declared.types.Item.TheVariants as items
use Rattle.psg_grammar.specs.declared.types.Operator.{Operator}
use Rattle.psg_grammar.specs.declared.types.Definition.{Definition}
use Rattle.psg_grammar.specs.Fragments.{Fragment}
use Rattle.psg_grammar.specs.Lookups.{part_items}
use Rattle.psg_grammar.specs.WellFormed.{words_in, fixed_words}
use Rattle.psg_class.specs.Terminals.{Token}
use Rattle.psg_unparse.specs.Rows.{Piece, words, from_part, behind_first}
use Rattle.psg_unparse.proofs.Lexing.{RowTokens, no_pieces, a_mark, a_token}
use Rattle.psg_unparse.proofs.WordTokens.{FixedToken}
use Rattle.psg_unparse.proofs.Building.{Front, past_word, past_mark}

pub tokens-append : (known : List Name) (r s : List Piece) (ts us : List Token) → RowTokens known r ts
    → RowTokens known s us → RowTokens known (r ++ s) (ts ++ us)
tokens-append known _ s _ us no_pieces y = y
tokens-append known _ s _ us (a_mark {r = r} {ts = ts} x) y = a_mark (tokens-append known r s ts us x y)
tokens-append known _ s _ us (a_token {r = r} {ts = ts} w x) y = a_token w (tokens-append known r s ts us x y)

-- ---- the items from the next part on

pub parts_left : (xs : List Item) → part_items (from_part xs) ≡ part_items xs
parts_left [] = refl
parts_left (items.Word w ∷ xs) = parts_left xs
parts_left (items.Slot k ∷ xs) = refl
parts_left (items.Refers s ∷ xs) = refl
parts_left (items.Declares s ∷ xs) = refl
parts_left (items.Number ∷ xs) = refl
parts_left (items.Text ∷ xs) = refl
parts_left (items.Space ∷ xs) = parts_left xs
parts_left (items.Tight ∷ xs) = parts_left xs
parts_left (items.Line ∷ xs) = parts_left xs
parts_left (items.In ∷ xs) = parts_left xs
parts_left (items.Out ∷ xs) = parts_left xs

pub none_left : (xs : List Item) → [] ≡ part_items (from_part xs) → from_part xs ≡ []
none_left [] e = refl
none_left (items.Word w ∷ xs) e = none_left xs e
none_left (items.Slot k ∷ xs) e = absurd (let f : [] ≡ items.Slot k ∷ part_items xs = e in cc)
none_left (items.Refers s ∷ xs) e = absurd (let f : [] ≡ items.Refers s ∷ part_items xs = e in cc)
none_left (items.Declares s ∷ xs) e = absurd (let f : [] ≡ items.Declares s ∷ part_items xs = e in cc)
none_left (items.Number ∷ xs) e = absurd (let f : [] ≡ items.Number ∷ part_items xs = e in cc)
none_left (items.Text ∷ xs) e = absurd (let f : [] ≡ items.Text ∷ part_items xs = e in cc)
none_left (items.Space ∷ xs) e = none_left xs e
none_left (items.Tight ∷ xs) e = none_left xs e
none_left (items.Line ∷ xs) e = none_left xs e
none_left (items.In ∷ xs) e = none_left xs e
none_left (items.Out ∷ xs) e = none_left xs e

-- the items begin with this one, and these parts are after it
pub record Begins (zs : List Item) (i : Item) (more : List Item) : Type 0 where
  pub is : zs ≡ i ∷ behind_first zs
  pub behind : more ≡ part_items (behind_first zs)

begins : (j : Item) (xs : List Item) (i : Item) (more : List Item) → i ∷ more ≡ j ∷ part_items xs
    → Begins (j ∷ xs) i more
begins j xs i more e = record { is = (let f : j ≡ i = cc in ap (λ x. x ∷ xs) f); behind = cc }

pub one_left : (xs : List Item) (i : Item) (more : List Item) → i ∷ more ≡ part_items (from_part xs)
    → Begins (from_part xs) i more
one_left [] i more e = absurd (let f : i ∷ more ≡ [] = e in cc)
one_left (items.Word w ∷ xs) i more e = one_left xs i more e
one_left (items.Slot k ∷ xs) i more e = begins (items.Slot k) xs i more e
one_left (items.Refers s ∷ xs) i more e = begins (items.Refers s) xs i more e
one_left (items.Declares s ∷ xs) i more e = begins (items.Declares s) xs i more e
one_left (items.Number ∷ xs) i more e = begins items.Number xs i more e
one_left (items.Text ∷ xs) i more e = begins items.Text xs i more e
one_left (items.Space ∷ xs) i more e = one_left xs i more e
one_left (items.Tight ∷ xs) i more e = one_left xs i more e
one_left (items.Line ∷ xs) i more e = one_left xs i more e
one_left (items.In ∷ xs) i more e = one_left xs i more e
one_left (items.Out ∷ xs) i more e = one_left xs i more e

-- ---- past the words

module _ (def : Definition) (n : ℕ) (o : Operator) (f : Fragment) (d : ℕ) where
  -- what is read once the words and marks before the next part are
  pub record Passed (xs : List Item) (ts : List Token) : Type 0 where
    pub first : Bool
    pub tokens : List Token
    pub has : RowTokens (fixed_words def) (words xs) tokens
    pub there : Front def n o f first (from_part xs) d (ts ++ tokens)

  at_part : (first : Bool) (xs : List Item) (ts : List Token) → words xs ≡ [] → from_part xs ≡ xs
      → Front def n o f first xs d ts → Passed xs ts
  at_part first xs ts none same a = record {
    first = first;
    tokens = [];
    has = subst (λ r. RowTokens (fixed_words def) r []) (sym none) no_pieces;
    there = subst (λ ys. Front def n o f first ys d (ts ++ [])) (sym same)
        (subst (Front def n o f first xs d) (sym (append-nil ts)) a);
  }

  pub pass : (first : Bool) (xs : List Item) (ts : List Token) → AllByRecursion (FixedToken def) (words_in xs)
      → Front def n o f first xs d ts → Passed xs ts
  pass first [] ts h a = at_part first [] ts refl refl a
  pass first (items.Word w ∷ xs) ts h a =
      let b : Passed xs (ts ++ h.0.token ∷ []) =
      pass false xs (ts ++ h.0.token ∷ []) h.1 (past_word def n o h.0.token h.0.terminal a) in
      record {
        first = b.first;
        tokens = h.0.token ∷ b.tokens;
        has = a_token h.0.text b.has;
        there = subst (Front def n o f b.first (from_part xs) d) (append_assoc ts (h.0.token ∷ []) b.tokens) b.there;
      }
  pass first (items.Slot k ∷ xs) ts h a = at_part first (items.Slot k ∷ xs) ts refl refl a
  pass first (items.Refers s ∷ xs) ts h a = at_part first (items.Refers s ∷ xs) ts refl refl a
  pass first (items.Declares s ∷ xs) ts h a = at_part first (items.Declares s ∷ xs) ts refl refl a
  pass first (items.Number ∷ xs) ts h a = at_part first (items.Number ∷ xs) ts refl refl a
  pass first (items.Text ∷ xs) ts h a = at_part first (items.Text ∷ xs) ts refl refl a
  pass first (items.Space ∷ xs) ts h a =
      let b : Passed xs ts = pass first xs ts h (past_mark def n o items.Space refl a) in
      record { first = b.first; tokens = b.tokens; has = a_mark b.has; there = b.there }
  pass first (items.Tight ∷ xs) ts h a =
      let b : Passed xs ts = pass first xs ts h (past_mark def n o items.Tight refl a) in
      record { first = b.first; tokens = b.tokens; has = a_mark b.has; there = b.there }
  pass first (items.Line ∷ xs) ts h a =
      let b : Passed xs ts = pass first xs ts h (past_mark def n o items.Line refl a) in
      record { first = b.first; tokens = b.tokens; has = a_mark b.has; there = b.there }
  pass first (items.In ∷ xs) ts h a =
      let b : Passed xs ts = pass first xs ts h (past_mark def n o items.In refl a) in
      record { first = b.first; tokens = b.tokens; has = a_mark b.has; there = b.there }
  pass first (items.Out ∷ xs) ts h a =
      let b : Passed xs ts = pass first xs ts h (past_mark def n o items.Out refl a) in
      record { first = b.first; tokens = b.tokens; has = a_mark b.has; there = b.there }
