-- The columns of an operator's rows, and its first step.
use Rattle.std.specs.Prelude.{ℕ, suc, ◌≡◌, true, false, List, [], ◌∷◌, ◌++◌, length}
use Rattle.psg_terms.specs.Names.{Name}
use Rattle.psg_terms.specs.Terms.{Term}
use Rattle.psg_terms.specs.Relations.{IsRelation}
use Rattle.psg_grammar.specs.declared.types.Definition.{Definition}
use Rattle.psg_grammar.specs.declared.types.Item.{Item}
use Rattle.psg_grammar.specs.declared.types.Item.TheVariants as items
use Rattle.psg_grammar.specs.declared.types.Operator.{Operator}
use Rattle.psg_grammar.specs.Keys.{Key}
use Rattle.psg_unify.specs.Pairs.{Pair as Columns}
use Rattle.psg_scope.specs.declared.header.Header.{Header}
use Rattle.psg_scope.specs.Headers.{declared_keys, IsHeader, IsOrdered, keys}
use Rattle.psg_eval.specs.OwnRows.{OwnRow, positions}
use Rattle.psg_eval.specs.Summaries.{are_names}
use Rattle.psg_eval.specs.Walks.{IsWalk}
use Rattle.psg_eval.specs.declared.own.OwnKeys.{OwnKeys}

-- the columns of the slots among the items, the first of which has this number
abbrev pub slot_columns : ℕ → List Item → List ℕ
slot_columns n [] = []
slot_columns n (items.Slot k ∷ rest) = n ∷ slot_columns (suc n) rest
slot_columns n (items.Refers s ∷ rest) = slot_columns (suc n) rest
slot_columns n (items.Declares s ∷ rest) = slot_columns (suc n) rest
slot_columns n (_ ∷ rest) = slot_columns n rest

-- the columns of the name positions
abbrev pub name_columns : ℕ → List Item → List ℕ
name_columns n [] = []
name_columns n (items.Slot k ∷ rest) = name_columns (suc n) rest
name_columns n (items.Refers s ∷ rest) = n ∷ name_columns (suc n) rest
name_columns n (items.Declares s ∷ rest) = n ∷ name_columns (suc n) rest
name_columns n (_ ∷ rest) = name_columns n rest

-- The keys of positions with these columns are these keys with these columns, where a row's columns agree on the pairs:
-- of no position and of one, and of the positions of both halves.
pub data IsOwn : (ks : List Key) (cs : List ℕ) (M : List Key) (columns : List ℕ) (pairs : List Columns) → Type 0 where
  own_none : IsOwn [] [] [] [] []
  own_one : (k : Key) (c : ℕ) → IsOwn (k ∷ []) (c ∷ []) (k ∷ []) (c ∷ []) []
  own_two : {ks ls K L M : List Key} {cs ds A B columns : List ℕ} {ps qs rs : List Columns} → IsOwn ks cs K A ps
      → IsOwn ls ds L B qs
      → IsWalk 0 A B K L M rs columns → IsOwn (ks ++ ls) (cs ++ ds) M columns (ps ++ qs ++ rs)

-- the columns of the operator's slots, and its own keys where it has these names
pub record AreOwn (def : Definition) (op : Operator) (names : List Name) (slots : List ℕ) (own : OwnKeys) : Type 0 where
  pub fits : length (are_names def op.items) ≡ length names
  pub slots_are : slots ≡ slot_columns 1 op.items
  pub region : IsHeader (keys (positions op.items names)) (declared_keys (positions op.items names))
      (λ _. false) own.header
  pub ordered : IsOrdered own.header
  pub columns : IsOwn (keys (positions op.items names)) (name_columns 1 op.items)
      (keys own.header.names) own.columns.items own.pairs.items

-- header and rows of an operator without children
pub record IsOwnStep (def : Definition) (op : Operator) (names : List Name) (header : Header)
    (rows : List (List Term)) : Type 0 where
  pub region : IsHeader (keys (positions op.items names)) (declared_keys (positions op.items names)) (λ _. false) header
  pub none : header.twice ≡ true → rows ≡ []
  pub made : header.twice ≡ false → (ss : List ℕ) × IsRelation def.signature ss (OwnRow def.signature op names) rows
