-- Which trees are of the kind of whole definitions, and how the place of an open one is written.
use Rattle.std.proofs.Common.{◌≡◌, ◌==◌, ℕ, Bool, eqb-true, List, [], ◌∷◌, ◌++◌, Result, Ok, Err, inl, inr, refl, sym, ◌∙◌, ap, subst}
use Rattle.std.specs.Prelude.{codes, IfOk, IsTrue, MatchResult, String, string_bytes}
use Rattle.std.specs.declared.alloc.Global.{Global}
use Rattle.psg_defread.specs.Reading.{IsReadAs, Spells}
use Rattle.psg_defread.specs.Refusals.{Refusal}
use Rattle.psg_deflines.specs.FaultText.{fault_text}
use Rattle.psg_deflines.specs.declared.fault.DefFault.{DefFault}
use Rattle.psg_specimen.specs.Refusal.{IsAccepted, Refuses}
use Rattle.psg_specimen.specs.Texts.{refusal_text}
use Rattle.psg_specimen.specs.declared.fault.AcceptFault.{AcceptFault}
use Rattle.psg_specimen.specs.declared.fault.AcceptFault.TheVariants as faults
use Rattle.psg_run.specs.Exporting.{IsCheckLine, IsReadOnlyAs, is_faulty, is_good}
use Rattle.psg_run.specs.Reading.{IsRefusalLine, no_definition, not_accepted}
use Rattle.psg_grammar.specs.declared.types.Definition.{Definition}
use Rattle.psg_grammar.specs.declared.types.Item.{Item}
use Rattle.psg_grammar.specs.declared.types.Item.TheVariants as items
use Rattle.psg_grammar.specs.declared.types.Kind.{Kind}
use Rattle.psg_grammar.specs.declared.types.Kind.TheVariants as kinds
use Rattle.psg_grammar.specs.Fragments.{Fragment, hole, ending, cell, operator, with_child, with_name, with_number}
use Rattle.psg_grammar.specs.Fragments.{with_text, anything, observed}
use Rattle.psg_grammar.specs.Paths.{Path}
use Rattle.psg_grammar.specs.WellFormed.{Fits, WellFormed}
use Rattle.psg_script.specs.Forms.{steps_text}
use Rattle.psg_session.specs.Marked.{path_text}
use Rattle.psg_session.specs.Replies.{feed}
use Rattle.psg_tree.specs.declared.tree.Part.{Part}
use Rattle.psg_tree.specs.declared.tree.Part.TheVariants as parts
use Rattle.psg_tree.specs.declared.tree.Shape.{Shape}
use Rattle.psg_tree.specs.declared.tree.Shape.TheVariants.{Op, List as ListOf, Hole}
use Rattle.psg_tree.specs.Shapes.{list_of, tree_of, with_part, with_parts}

-- ---- kinds

-- a tree of this kind is the list of this number
abbrev IsNodeOf : ℕ → Fragment → Type 0
IsNodeOf l (hole p) = ⊥
IsNodeOf l (ending m u) = m ≡ l
IsNodeOf l (cell m e r) = m ≡ l
IsNodeOf l (operator o) = ⊥
IsNodeOf l (with_child f t) = ⊥
IsNodeOf l (with_name f n) = ⊥
IsNodeOf l (with_number f n) = ⊥
IsNodeOf l (with_text f t) = ⊥
IsNodeOf l anything = ⊥
IsNodeOf l (observed f) = ⊥

module _ (def : Definition) where
  -- an operator whose parts follow is of no list's kind
  none_left : (f : Fragment) (i : Item) (more : List Item) (l : ℕ) → Fits def f (i ∷ more) (kinds.List l) → ⊥
  none_left (hole p) i more l (none, is, small, quiet) = cc
  none_left (ending m u) i more l (none, is, rest) = cc
  none_left (cell m e r) i more l (none, is, k, found, first, rest, plain) = cc
  none_left (operator o) i more l (op, at, all, is) = cc
  none_left (with_child f t) i more l (k, front, child) = none_left f (items.Slot k) (i ∷ more) l front
  none_left (with_name f n) i more l (inl (s, front), name) = none_left f (items.Refers s) (i ∷ more) l front
  none_left (with_name f n) i more l (inr (s, front), name) = none_left f (items.Declares s) (i ∷ more) l front
  none_left (with_number f n) i more l (front, small) = none_left f items.Number (i ∷ more) l front
  none_left (with_text f t) i more l (front, utf8) = none_left f items.Text (i ∷ more) l front
  none_left anything i more l h = h
  none_left (observed f) i more l (none, front) = cc

  node_of : (f : Fragment) (l : ℕ) → WellFormed def f (kinds.List l) → IsNodeOf l f
  node_of (hole p) l ((none, is, small, quiet), plain) = cc
  node_of (ending m u) l ((none, is, rest), plain) = cc
  node_of (cell m e r) l ((none, is, k, found, first, rest, unseen), plain) = cc
  node_of (operator o) l ((op, at, all, is), plain) = cc
  node_of (with_child f t) l ((k, front, child), plain) = none_left f (items.Slot k) [] l front
  node_of (with_name f n) l ((inl (s, front), name), plain) = none_left f (items.Refers s) [] l front
  node_of (with_name f n) l ((inr (s, front), name), plain) = none_left f (items.Declares s) [] l front
  node_of (with_number f n) l ((front, small), plain) = none_left f items.Number [] l front
  node_of (with_text f t) l ((front, utf8), plain) = none_left f items.Text [] l front
  node_of anything l (h, plain) = h
  node_of (observed f) l (front, plain) = plain

  node_kind : (f : Fragment) (l : ℕ) (kind : Kind) → IsNodeOf l f → WellFormed def f kind → kind ≡ kinds.List l
  node_kind (ending m u) l kind same ((none, is, rest), plain) = is ∙ ap kinds.List same
  node_kind (cell m e r) l kind same ((none, is, k, found, first, rest, unseen), plain) = is ∙ ap kinds.List same
  node_kind (hole p) l kind h formed = absurd h
  node_kind (operator o) l kind h formed = absurd h
  node_kind (with_child f t) l kind h formed = absurd h
  node_kind (with_name f n) l kind h formed = absurd h
  node_kind (with_number f n) l kind h formed = absurd h
  node_kind (with_text f t) l kind h formed = absurd h
  node_kind anything l kind h formed = absurd h
  node_kind (observed f) l kind h formed = absurd h

  list_is_node : (l : ℕ) (es : List Fragment) (u : Bool) → IsNodeOf l (list_of l es u)
  list_is_node l [] u = refl
  list_is_node l (e ∷ es) u = refl

  pub list_has_kind : (s : Shape) (l : ℕ) (es : List Fragment) (u : Bool) (f : Fragment) (kind : Kind) → s ≡ ListOf l es u
      → tree_of s ≡ f → WellFormed def f kind → kind ≡ kinds.List l
  list_has_kind s l es u f kind is same formed =
      node_kind f l kind (subst (IsNodeOf l) (sym (ap tree_of is) ∙ same) (list_is_node l es u)) formed

  -- with a part more it is no list
  no_node : (l : ℕ) (f : Fragment) (p : Part) → IsNodeOf l (with_part f p) → ⊥
  no_node l f p h = by p h where
    by : (p : Part) → IsNodeOf l (with_part f p) → ⊥
    by (parts.Sub t) h = h
    by (parts.Name n) h = h
    by (parts.Number n) h = h
    by (parts.Text t) h = h

  no_nodes : (l : ℕ) (f : Fragment) (ps : List Part) → (IsNodeOf l f → ⊥) → IsNodeOf l (with_parts f ps) → ⊥
  no_nodes l f [] never h = never h
  no_nodes l f (p ∷ ps) never h = no_nodes l (with_part f p) ps (no_node l f p) h

  pub operator_has_not : (s : Shape) (o : ℕ) (ps : List Part) (f : Fragment) (kind : Kind) → s ≡ Op o ps → tree_of s ≡ f
      → WellFormed def f kind → kind ≡ kinds.List 0 → ⊥
  operator_has_not s o ps f kind is same formed lines =
      no_nodes 0 (operator o) ps (λ h. h)
      (subst (IsNodeOf 0) (sym same ∙ ap tree_of is) (node_of f 0 (subst (WellFormed def f) lines formed)))

  pub hole_has_not : (s : Shape) (p : ℕ) (f : Fragment) (kind : Kind) → s ≡ Hole p → tree_of s ≡ f
      → WellFormed def f kind → kind ≡ kinds.List 0 → ⊥
  hole_has_not s p f kind is same formed lines =
      subst (IsNodeOf 0) (sym same ∙ ap tree_of is) (node_of f 0 (subst (WellFormed def f) lines formed))

pub same_list : (kind : Kind) (l : ℕ) → kind ≡ kinds.List l → kind ≡ kinds.List 0 → l ≡ 0
same_list kind l is lines = let both : kinds.List l ≡ kinds.List 0 = sym is ∙ lines in cc

-- ---- places

pub top_line : (p : Path) → p ≡ [] → codes "unfinished /\n" ≡ feed (codes "unfinished " ++ path_text p)
top_line p is = ap (λ (x : Path). feed (codes "unfinished " ++ path_text x)) (sym is)

pub place_line : (p : Path) → (p ≡ [] → ⊥) → steps_text p ≡ path_text p
place_line [] some = absurd (some refl)
place_line (k ∷ ks) some = refl

-- ---- numbers

pub zero_is : (l : ℕ) → IsTrue (l == 0) → l ≡ 0
zero_is l same = eqb-true l 0 same

pub is_zero : (l : ℕ) → l ≡ 0 → IsTrue (l == 0)
is_zero l is = ap (λ n. n == 0) is

-- ---- refusals

-- the text of a refusal is the line of the bytes that were read as the definition
pub refused_line : (def : Definition) (fault : AcceptFault) → Refuses def fault → (fault ≡ faults.Memory → ⊥)
    → {E : Type 0} (r : Result (String Global) E) → IfOk r (λ t. string_bytes t ≡ refusal_text def fault)
    → IfOk r (λ t. (bytes : List ℕ) → IsReadOnlyAs bytes def → IsRefusalLine bytes (string_bytes t))
refused_line def fault (inl memory) none r is = absurd (none memory)
refused_line def fault (inr (refusal, of)) none (Ok text) is = λ bytes read. not_accepted def fault read.0 read.1 refusal is
refused_line def fault (inr (refusal, of)) none (Err e) is = tt

-- ---- the line of `check`

module _ {E : Type 0} (r : Result (String Global) E) where
  -- what is written is the line of the bytes that were read as the definition
  abbrev IsLineOf : Definition → Type 0
  IsLineOf def = IfOk r (λ t. (bytes : List ℕ) → IsReadOnlyAs bytes def → IsCheckLine bytes (string_bytes t))

  -- it is the line of the bytes of which this was read
  abbrev IsLineOfRead : Result Definition DefFault → Type 0
  IsLineOfRead read =
      IfOk r (λ t. (bytes : List ℕ) → MatchResult read (IsReadOnlyAs bytes) (Refusal bytes) → IsCheckLine bytes (string_bytes t))

pub accepted_line : (def : Definition) → IsAccepted def → {E : Type 0} (r : Result (String Global) E)
    → IfOk r (λ t. string_bytes t ≡ codes "accepted") → IsLineOf r def
accepted_line def accepted (Ok t) is = λ bytes read.
    is_good def (record { read = read.0; only = read.1; accepted = accepted }) is
accepted_line def accepted (Err e) is = tt

pub line_refused : (def other : Definition) → other ≡ def → {E : Type 0} (r : Result (String Global) E)
    → IfOk r (λ t. (bytes : List ℕ) → IsReadOnlyAs bytes other → IsRefusalLine bytes (string_bytes t)) → IsLineOf r def
line_refused def other same (Ok t) h = λ bytes read.
    is_faulty (h bytes (subst (IsReadOnlyAs bytes) (sym same) read))
line_refused def other same (Err e) h = tt

pub line_read : (read : Result Definition DefFault) (def : Definition) → read ≡ Ok def → {E : Type 0} (r : Result (String Global) E)
    → IsLineOf r def → IsLineOfRead r read
line_read read def is (Ok t) h = λ bytes known.
    h bytes (subst (λ (x : Result Definition DefFault). MatchResult x (IsReadOnlyAs bytes) (Refusal bytes)) is known)
line_read read def is (Err e) h = tt

pub line_of_fault : (read : Result Definition DefFault) (fault : DefFault) → read ≡ Err fault → {E : Type 0} (r : Result (String Global) E)
    → IfOk r (λ t. string_bytes t ≡ fault_text fault) → IsLineOfRead r read
line_of_fault read fault is (Ok t) same = λ bytes known.
    is_faulty (no_definition fault
    (subst (λ (x : Result Definition DefFault). MatchResult x (IsReadOnlyAs bytes) (Refusal bytes)) is known) same)
line_of_fault read fault is (Err e) same = tt

pub read_only : (bytes : List ℕ) (read : Result Definition DefFault) → MatchResult read (IsReadAs bytes) (Refusal bytes)
    → IfOk read (λ d. (other : Definition) → Spells bytes other → other ≡ d)
    → MatchResult read (IsReadOnlyAs bytes) (Refusal bytes)
read_only bytes (Ok d) checked only = (checked, only)
read_only bytes (Err fault) checked only = checked
