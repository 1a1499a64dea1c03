-- Trials of well-formed fragments are well-formed.
use Rattle.std.proofs.Common.{◌≡◌, ◌↔◌, inl, inr, ℕ, zero, suc, ◌<◌, Bool, false, cond, List, [], ◌∷◌, ◌++◌, map, length, slice_get, Some, None, Option, refl, sym, ◌∙◌, ap, subst, append_assoc, append-nil, arith}
use Rattle.std.specs.List.{AllByRecursion}
use Rattle.std.proofs.lemmas.Option.{none-some}
use Rattle.std.proofs.lemmas.Bool.Decides.{eqb_tells}
use Rattle.psg_completions.proofs.Growth.{unobserved}
use Rattle.psg_grammar.proofs.PathLaws.{step}
use Rattle.psg_terms.proofs.Lists.{slice_get-end_is, slice_get-not_end}
use Rattle.std.specs.Prelude.{Result, Ok, Err, Vec}
use Rattle.std.specs.declared.alloc.Global.{Global}
use Rattle.psg_terms.specs.Terms.{Term}
use Rattle.psg_terms.specs.Relations.{IsIn, first, later}
use Rattle.psg_grammar.specs.Legal.{IsCompletable}
use Rattle.psg_grammar.specs.Marks.{Chosen, nothing, taken, passed}
use Rattle.psg_grammar.specs.Open.{IsOpen}
use Rattle.psg_completions.specs.Conditions.{HasTrueRows}
use Rattle.psg_completions.proofs.Law.{open_or_completable}
use Rattle.psg_eval.specs.declared.question.FocusFault.{FocusFault}
use Rattle.psg_eval.specs.declared.question.FocusFault.TheVariants as questions
use Rattle.psg_menu.specs.Answers.{IsMenuAnswer}
use Rattle.psg_grammar.specs.declared.types.Kind.{Kind}
use Rattle.psg_grammar.specs.declared.types.Kind.TheVariants as kinds
use Rattle.psg_grammar.specs.declared.types.Item.{Item}
use Rattle.psg_grammar.specs.declared.types.Item.TheVariants as items
use Rattle.psg_grammar.specs.declared.types.ListKind.{ListKind}
use Rattle.psg_grammar.specs.declared.types.Operator.{Operator}
use Rattle.psg_grammar.specs.declared.types.Phylum.{Phylum}
use Rattle.psg_grammar.specs.declared.types.Definition.{Definition}
use Rattle.psg_grammar.specs.Fragments.{Fragment, hole, ending, cell, operator, with_child, with_name, with_number, with_text, anything, observed, children_of, top_operator}
use Rattle.psg_grammar.specs.Insertion.{AreLeaves, Leaf, a_name, a_number, a_text, blank, filled, fresh_operator, may_be_unfinished, with_operator}
use Rattle.psg_grammar.specs.Kinds.{HasKind, IsOfKind}
use Rattle.psg_grammar.specs.Lookups.{part_items, items_of, operator_at}
use Rattle.psg_grammar.specs.Paths.{Path, node_at, change_child, change_at, inserted}
use Rattle.psg_grammar.specs.Sound.{IsSound}
use Rattle.psg_grammar.specs.WellFormed.{Fits, IsPlain, WellFormed}
use Rattle.psg_eval.specs.declared.frame.Frame.{Frame}
use Rattle.psg_eval.specs.declared.frame.Frame.TheVariants as frames
use Rattle.psg_eval.specs.declared.summary.SummaryParts.{SummaryParts}
use Rattle.psg_eval.specs.Frames.{CanClimb, IsElement, IsFrame, IsGap, StandAt, StandFor, put_at}
use Rattle.psg_eval.specs.Summaries.{IsSummary, slot_kinds}
use Rattle.psg_eval.proofs.FrameLaws.{frame_child, stands-node}
use Rattle.psg_menu.specs.Menus.{HasQuietSlots, IsChoosable, IsFreshTrial, IsQuiet, operators_of}
use Rattle.psg_menu.proofs.MenuLaws.{op_slots, op_there}
use Rattle.psg_menu.proofs.TrialPlaces.{change_here}

same_list : (l m : ℕ) → kinds.List l ≡ kinds.List m → m ≡ l
same_list l m e = cc

module _ (def : Definition) where
  child_changed : (g : Fragment → Fragment) (f : Fragment) (more : List Item) (kind : Kind) (k : ℕ) (c : Fragment)
      → Fits def f more kind → IsPlain f → slice_get (children_of f) k ≡ Some c
      → ((K : Kind) → WellFormed def c K → WellFormed def (g c) K)
      → Fits def (change_child g k f) more kind × IsPlain (change_child g k f)
  child_changed g (hole p) more kind k c fits plain at keeps = absurd (none-some c at)
  child_changed g (ending l u) more kind k c fits plain at keeps = absurd (none-some c at)
  child_changed g (cell l e r) more kind zero c (a, b, list, found, fe, fr, z) plain at keeps =
      let same : c ≡ e = cc in
      let element = kinds.Phylum list.element in
      let (fits, flat) = keeps element (subst (λ x. WellFormed def x element) (sym same) (fe, plain.0)) in (
        (a, b, list, found, subst (λ x. Fits def (g x) [] element) same fits, fr, z),
        (subst (λ x. IsPlain (g x)) same flat, plain.1),
      )
  child_changed g (cell l e r) more kind (suc k) c (a, b, list, found, fe, fr, z) plain at keeps =
      let (fits, flat) = child_changed g r [] (kinds.List l) k c fr plain.1 at keeps in
      ((a, b, list, found, fe, fits, unobserved (change_child g k r) flat), (plain.0, flat))
  child_changed g (operator o) more kind k c fits plain at keeps = absurd (none-some c at)
  child_changed g (with_child f t) more kind k c (K, ff, ft) plain at keeps =
      let Keeps : Bool → Type 0 =
      λ b. Fits def (cond b (with_child f (g t)) (with_child (change_child g k f) t)) more kind
      × IsPlain (cond b (with_child f (g t)) (with_child (change_child g k f) t)) in
      elim (eqb_tells (length (children_of f)) k) [
        | inl e ↦
            let there = subst (λ n. slice_get (children_of f ++ t ∷ []) n ≡ Some c) (sym e.1) at in
            let same : c ≡ t = slice_get-end_is (children_of f) t c there in
            let (fits, flat) = keeps K (subst (λ x. WellFormed def x K) (sym same) (ft, plain.1)) in
            subst Keeps (sym e.0) (
              (K, ff, subst (λ x. Fits def (g x) [] K) same fits),
              (plain.0, subst (λ x. IsPlain (g x)) same flat),
            )
        | inr e ↦
            let (fits, flat) = child_changed g f (items.Slot K ∷ more) kind k c ff plain.0
            (slice_get-not_end (children_of f) t c k e.1 at) keeps in
            subst Keeps (sym e.0) ((K, fits, ft), (flat, plain.1))
      ]
  child_changed g (with_name f n) more kind k c (inl (s, h), name) plain at keeps =
      let (fits, flat) = child_changed g f (items.Refers s ∷ more) kind k c h plain at keeps in
      ((inl (s, fits), name), flat)
  child_changed g (with_name f n) more kind k c (inr (s, h), name) plain at keeps =
      let (fits, flat) = child_changed g f (items.Declares s ∷ more) kind k c h plain at keeps in
      ((inr (s, fits), name), flat)
  child_changed g (with_number f n) more kind k c (h, small) plain at keeps =
      let (fits, flat) = child_changed g f (items.Number ∷ more) kind k c h plain at keeps in ((fits, small), flat)
  child_changed g (with_text f t) more kind k c (h, text) plain at keeps =
      let (fits, flat) = child_changed g f (items.Text ∷ more) kind k c h plain at keeps in ((fits, text), flat)
  child_changed g anything more kind k c fits plain at keeps = absurd fits
  child_changed g (observed f) more kind k c fits plain at keeps = absurd plain

  -- a tree stays of its kind where a node is changed to one of the node's kind
  pub changed_formed : (g : Fragment → Fragment) (f : Fragment) (kind : Kind) (path : Path) (node : Fragment)
      → WellFormed def f kind → node_at f path ≡ Some node
      → ((K : Kind) → WellFormed def node K → WellFormed def (g node) K) → WellFormed def (change_at g path f) kind
  changed_formed g f kind [] node h at keeps =
      let same : f ≡ node = cc in
      subst (λ x. WellFormed def (g x) kind) (sym same) (keeps kind (subst (λ x. WellFormed def x kind) same h))
  changed_formed g f kind (k ∷ path) node (fits, plain) at keeps =
      let (c, child, below) = step (slice_get (children_of f) k) path node at in
      child_changed (change_at g path) f [] kind k c fits plain child
      (λ K h. changed_formed g c K path node h below keeps)

  -- ---- lists

  there : (l m : ℕ) (k : ListKind) → kinds.List l ≡ kinds.List m → slice_get def.lists l ≡ Some k
      → slice_get def.lists m ≡ Some k
  there l m k e found = subst (λ n. slice_get def.lists n ≡ Some k) (sym (same_list l m e)) found

  pub inserted_formed : (n : ℕ) (new f : Fragment) (l : ℕ) (k : ListKind) → WellFormed def f (kinds.List l)
      → slice_get def.lists l ≡ Some k → WellFormed def new (kinds.Phylum k.element)
      → WellFormed def (inserted n new f) (kinds.List l)
  inserted_formed zero new (ending m u) l k ((a, b, end), plain) found (fresh, flat) =
      ((refl, b, k, there l m k b found, fresh, (refl, refl, end), tt), (flat, tt))
  inserted_formed zero new (cell m e r) l k ((a, b, own, at, fe, fr, z), plain) found (fresh, flat) =
      ((refl, b, k, there l m k b found, fresh, (refl, refl, own, at, fe, fr, z), tt), (flat, plain))
  inserted_formed (suc n) new (cell m e r) l k ((a, b, own, at, fe, fr, z), plain) found fresh =
      let (fits, flat) = inserted_formed n new r m k (fr, plain.1) (there l m k b found) fresh in
      ((refl, b, own, at, fe, fits, unobserved (inserted n new r) flat), (plain.0, flat))
  inserted_formed zero new _ l k h found fresh = h
  inserted_formed (suc n) new _ l k h found fresh = h

  -- ---- kinds of trees

  fits_kind : (f : Fragment) (more : List Item) (kind : Kind) → Fits def f more kind → IsOfKind def f kind
  fits_kind (hole p) more kind (a, b, small, quiet) = b
  fits_kind (ending l u) more kind (a, b, rest) = b
  fits_kind (cell l e r) more kind (a, b, k, found, fe, fr, z) = b
  fits_kind (operator o) more kind (op, found, all, is) = (op, found, is)
  fits_kind (with_child f t) more kind (k, hf, ht) = fits_kind f (items.Slot k ∷ more) kind hf
  fits_kind (with_name f n) more kind (inl (s, h), name) = fits_kind f (items.Refers s ∷ more) kind h
  fits_kind (with_name f n) more kind (inr (s, h), name) = fits_kind f (items.Declares s ∷ more) kind h
  fits_kind (with_number f n) more kind (h, small) = fits_kind f (items.Number ∷ more) kind h
  fits_kind (with_text f t) more kind (h, utf8) = fits_kind f (items.Text ∷ more) kind h
  fits_kind anything more kind h = absurd h
  fits_kind (observed f) more kind (a, h) = fits_kind f [] kind h

  same_op : (a b : Operator) (x : Option Operator) → x ≡ Some a → x ≡ Some b → a ≡ b
  same_op a b x e d = cc

  one_kind : (f : Fragment) (a b : Kind) → IsOfKind def f a → IsOfKind def f b → a ≡ b
  one_kind (hole p) a b h i = h ∙ sym i
  one_kind (ending l u) a b h i = h ∙ sym i
  one_kind (cell l e r) a b h i = h ∙ sym i
  one_kind (operator o) a b (x, at, is) (y, also, same) =
      is ∙ ap (λ (op : Operator). kinds.Phylum op.phylum) (same_op x y (slice_get def.operators o) at also) ∙ sym same
  one_kind (with_child f t) a b h i = one_kind f a b h i
  one_kind (with_name f n) a b h i = one_kind f a b h i
  one_kind (with_number f n) a b h i = one_kind f a b h i
  one_kind (with_text f n) a b h i = one_kind f a b h i
  one_kind anything a b h i = absurd h
  one_kind (observed f) a b h i = one_kind f a b h i

  formed_once : (f : Fragment) (a b : Kind) → Fits def f [] a → Fits def f [] b → a ≡ b
  formed_once f a b h i = one_kind f a b (fits_kind f [] a h) (fits_kind f [] b i)

  -- ---- new trees

  list_found : (xs : List ListKind) (n : ℕ) → n < length xs → (own : ListKind) × (slice_get xs n ≡ Some own)
  list_found [] n h = absurd (omega (arith, h))
  list_found (x ∷ xs) zero h = (x, refl)
  list_found (x ∷ xs) (suc n) h = list_found xs n (omega (arith, h))

  blank_formed : (k : Kind) → HasKind def k → IsQuiet def k → WellFormed def (blank def k) k
  blank_formed (kinds.Phylum p) h quiet = ((refl, refl, h, quiet), tt)
  blank_formed (kinds.List l) h quiet =
      let (k, found) = list_found def.lists l h in
      ((refl, refl, (k, found, λ e. sym (ap may_be_unfinished found) ∙ e)), tt)

  filled_formed : (f : Fragment) (is : List Item) (leaves : List Leaf) (kind : Kind) → AreLeaves def is leaves → AllByRecursion (HasKind def) (slot_kinds def is) → AllByRecursion (IsQuiet def) (slot_kinds def is)
      → Fits def f is kind → IsPlain f → WellFormed def (filled def f is leaves) kind
  filled_formed f [] [] kind h there quiet fits plain = (fits, plain)
  filled_formed f [] (leaf ∷ leaves) kind h there quiet fits plain = absurd h
  filled_formed f (items.Slot k ∷ is) leaves kind h there quiet fits plain =
      let (b, p) = blank_formed k there.0 quiet.0 in
      filled_formed (with_child f (blank def k)) is leaves kind h there.1 quiet.1 (k, fits, b) (plain, p)
  filled_formed f (items.Refers s ∷ is) (a_name n ∷ leaves) kind (name, h) there quiet fits plain = filled_formed (with_name f n) is leaves kind h there quiet (inl (s, fits), name) plain
  filled_formed f (items.Declares s ∷ is) (a_name n ∷ leaves) kind (name, h) there quiet fits plain = filled_formed (with_name f n) is leaves kind h there quiet (inr (s, fits), name) plain
  filled_formed f (items.Number ∷ is) (a_number n ∷ leaves) kind (small, h) there quiet fits plain = filled_formed (with_number f n) is leaves kind h there quiet (fits, small) plain
  filled_formed f (items.Text ∷ is) (a_text n ∷ leaves) kind (utf8, h) there quiet fits plain = filled_formed (with_text f n) is leaves kind h there quiet (fits, utf8) plain
  filled_formed f (items.Refers s ∷ is) [] kind h there quiet fits plain = absurd h
  filled_formed f (items.Refers s ∷ is) (a_number n ∷ leaves) kind h there quiet fits plain = absurd h
  filled_formed f (items.Refers s ∷ is) (a_text n ∷ leaves) kind h there quiet fits plain = absurd h
  filled_formed f (items.Declares s ∷ is) [] kind h there quiet fits plain = absurd h
  filled_formed f (items.Declares s ∷ is) (a_number n ∷ leaves) kind h there quiet fits plain = absurd h
  filled_formed f (items.Declares s ∷ is) (a_text n ∷ leaves) kind h there quiet fits plain = absurd h
  filled_formed f (items.Number ∷ is) [] kind h there quiet fits plain = absurd h
  filled_formed f (items.Number ∷ is) (a_name n ∷ leaves) kind h there quiet fits plain = absurd h
  filled_formed f (items.Number ∷ is) (a_text n ∷ leaves) kind h there quiet fits plain = absurd h
  filled_formed f (items.Text ∷ is) [] kind h there quiet fits plain = absurd h
  filled_formed f (items.Text ∷ is) (a_name n ∷ leaves) kind h there quiet fits plain = absurd h
  filled_formed f (items.Text ∷ is) (a_number n ∷ leaves) kind h there quiet fits plain = absurd h
  filled_formed f (items.Word w ∷ is) leaves kind h there quiet fits plain = absurd h
  filled_formed f (items.Space ∷ is) leaves kind h there quiet fits plain = absurd h
  filled_formed f (items.Tight ∷ is) leaves kind h there quiet fits plain = absurd h
  filled_formed f (items.Line ∷ is) leaves kind h there quiet fits plain = absurd h
  filled_formed f (items.In ∷ is) leaves kind h there quiet fits plain = absurd h
  filled_formed f (items.Out ∷ is) leaves kind h there quiet fits plain = absurd h

  part_slots : (is : List Item) → slot_kinds def (part_items is) ≡ slot_kinds def is
  part_slots [] = refl
  part_slots (items.Slot k ∷ is) = ap (λ ks. k ∷ ks) (part_slots is)
  part_slots (items.Refers s ∷ is) = part_slots is
  part_slots (items.Declares s ∷ is) = part_slots is
  part_slots (items.Number ∷ is) = part_slots is
  part_slots (items.Text ∷ is) = part_slots is
  part_slots (items.Word w ∷ is) = part_slots is
  part_slots (items.Space ∷ is) = part_slots is
  part_slots (items.Tight ∷ is) = part_slots is
  part_slots (items.Line ∷ is) = part_slots is
  part_slots (items.In ∷ is) = part_slots is
  part_slots (items.Out ∷ is) = part_slots is

  pub fresh_formed : IsSound def → HasQuietSlots def → (o : ℕ) (op : Operator) (leaves : List Leaf) → slice_get def.operators o ≡ Some op → AreLeaves def (items_of (operator_at def o)) leaves
      → WellFormed def (fresh_operator def o leaves) (kinds.Phylum op.phylum)
  fresh_formed sound quiet o op leaves found are =
      let e : items_of (operator_at def o) ≡ part_items op.items = ap items_of found in
      let slots : slot_kinds def (items_of (operator_at def o)) ≡ slot_kinds def op.items = ap (slot_kinds def) e ∙ part_slots op.items in
      filled_formed (operator o) (items_of (operator_at def o)) leaves (kinds.Phylum op.phylum) are
      (subst (AllByRecursion (HasKind def)) (sym slots) (op_slots def sound o op found))
      (subst (AllByRecursion (IsQuiet def)) (sym slots) (quiet o op found)) (op, found, e, refl) tt

  -- ---- the kind of a place

  -- a summary of the phylum without rows
  phylum_found : (xs : List Phylum) (n : ℕ) → n < length xs → (own : Phylum) × (slice_get xs n ≡ Some own)
  phylum_found [] n h = absurd (omega (arith, h))
  phylum_found (x ∷ xs) zero h = (x, refl)
  phylum_found (x ∷ xs) (suc n) h = phylum_found xs n (omega (arith, h))

  abbrev pub empty : ℕ → SummaryParts
  empty p = record { kind = kinds.Phylum p; header = record { names = []; unfinished = []; twice = false }; seen = 0; rel = [] }

  -- the children of an operator's node are of the kinds of its slots
  abbrev AllFit : List Kind → List Fragment → Type 0
  AllFit [] [] = Unit {0}
  AllFit [] (f ∷ fs) = ⊥
  AllFit (k ∷ ks) [] = ⊥
  AllFit (k ∷ ks) (f ∷ fs) = Fits def f [] k × AllFit ks fs

  fit_push : (ks : List Kind) (fs : List Fragment) (k : Kind) (f : Fragment) → AllFit ks fs → Fits def f [] k → AllFit (ks ++ k ∷ []) (fs ++ f ∷ [])
  fit_push [] [] k f h one = (one, tt)
  fit_push [] (g ∷ fs) k f h one = absurd h
  fit_push (j ∷ ks) [] k f h one = absurd h
  fit_push (j ∷ ks) (g ∷ fs) k f h one = (h.0, fit_push ks fs k f h.1 one)

  fit_at : (ks : List Kind) (fs : List Fragment) (n : ℕ) (t : Fragment) (k : Kind) → AllFit ks fs → slice_get fs n ≡ Some t → slice_get ks n ≡ Some k → Fits def t [] k
  fit_at [] [] n t k h e d = absurd (cc)
  fit_at [] (f ∷ fs) n t k h e d = absurd h
  fit_at (j ∷ ks) [] n t k h e d = absurd h
  fit_at (j ∷ ks) (f ∷ fs) zero t k h e d =
      let a : f ≡ t = cc in
      let b : j ≡ k = cc in
      subst (λ x. Fits def x [] k) a (subst (Fits def f []) b h.0)
  fit_at (j ∷ ks) (f ∷ fs) (suc n) t k h e d = fit_at ks fs n t k h.1 e d

  -- the kinds of the children so far, and those of the slots that follow
  pub record Children (op : Operator) (f : Fragment) (more : List Item) : Type 0 where
    pub kinds_are : List Kind
    pub split : slot_kinds def (part_items op.items) ≡ kinds_are ++ slot_kinds def more
    pub fit : AllFit kinds_are (children_of f)

  children_fit : (o : ℕ) (op : Operator) → slice_get def.operators o ≡ Some op → (f : Fragment) (more : List Item) (kind : Kind) → top_operator f ≡ Some o → IsPlain f → Fits def f more kind → Children op f more
  children_fit o op found (operator p) more kind top plain (other, at, all, is) =
      let e : o ≡ p = cc in
      let same : other ≡ op = same_op other op (slice_get def.operators p) at (ap (slice_get def.operators) (sym e) ∙ found) in
      record { kinds_are = []; split = ap (λ (x : Operator). slot_kinds def (part_items x.items)) (sym same) ∙ ap (slot_kinds def) (sym all); fit = tt }
  children_fit o op found (with_child f t) more kind top plain (k, hf, ht) =
      let inner = children_fit o op found f (items.Slot k ∷ more) kind top plain.0 hf in
      record {
        kinds_are = inner.kinds_are ++ k ∷ [];
        split = inner.split ∙ sym (append_assoc inner.kinds_are (k ∷ []) (slot_kinds def more));
        fit = fit_push inner.kinds_are (children_of f) k t inner.fit ht;
      }
  children_fit o op found (with_name f n) more kind top plain (inl (s, h), name) =
      let inner = children_fit o op found f (items.Refers s ∷ more) kind top plain h in record { kinds_are = inner.kinds_are; split = inner.split; fit = inner.fit }
  children_fit o op found (with_name f n) more kind top plain (inr (s, h), name) =
      let inner = children_fit o op found f (items.Declares s ∷ more) kind top plain h in record { kinds_are = inner.kinds_are; split = inner.split; fit = inner.fit }
  children_fit o op found (with_number f n) more kind top plain (h, small) =
      let inner = children_fit o op found f (items.Number ∷ more) kind top plain h in record { kinds_are = inner.kinds_are; split = inner.split; fit = inner.fit }
  children_fit o op found (with_text f n) more kind top plain (h, utf8) =
      let inner = children_fit o op found f (items.Text ∷ more) kind top plain h in record { kinds_are = inner.kinds_are; split = inner.split; fit = inner.fit }
  children_fit o op found (hole p) more kind top plain h = absurd (cc)
  children_fit o op found (ending l u) more kind top plain h = absurd (cc)
  children_fit o op found (cell l e r) more kind top plain h = absurd (cc)
  children_fit o op found anything more kind top plain h = absurd h
  children_fit o op found (observed f) more kind top plain h = absurd plain

  put_kind : (n : ℕ) (s : SummaryParts) (ss : List SummaryParts) (ks : List Kind) → n < length ss → map (λ (x : SummaryParts). x.kind) (put_at n s ss) ≡ ks → slice_get ks n ≡ Some s.kind
  put_kind n s [] ks l e = absurd (omega (arith, l))
  put_kind zero s (r ∷ ss) ks l e = ap (λ xs. slice_get xs 0) (sym e)
  put_kind (suc n) s (r ∷ ss) ks l e = ap (λ xs. slice_get xs (suc n)) (sym e) ∙ put_kind n s ss (map (λ (x : SummaryParts). x.kind) (put_at n s ss)) (omega (arith, l)) refl

  -- an element of a list is of the list's phylum
  element_fits : (l : ℕ) (before : List SummaryParts) (rest : SummaryParts) (u t : Fragment) (K : Kind) (list : ListKind) → slice_get def.lists l ≡ Some list → IsElement def l before rest u t → Fits def u [] K
      → Fits def t [] (kinds.Phylum list.element)
  element_fits l [] rest (cell m e r) t K list found (a, b, c) (none, same, own, at, fe, fr, z) =
      let d : own ≡ list = one_list own list (slice_get def.lists m) at (ap (slice_get def.lists) a ∙ found) in
      subst (λ x. Fits def x [] (kinds.Phylum list.element)) b (subst (λ (k : ListKind). Fits def e [] (kinds.Phylum k.element)) d fe)
    where
      one_list : (x y : ListKind) (o : Option ListKind) → o ≡ Some x → o ≡ Some y → x ≡ y
      one_list x y o p q = cc
  element_fits l (s ∷ before) rest (cell m e r) t K list found (a, b, c) (none, same, own, at, fe, fr, z) = element_fits l before rest r t (kinds.List m) list found c fr
  element_fits l [] rest (hole p) t K list found h w = absurd h
  element_fits l [] rest (ending m u) t K list found h w = absurd h
  element_fits l [] rest (operator o) t K list found h w = absurd h
  element_fits l [] rest (with_child f c) t K list found h w = absurd h
  element_fits l [] rest (with_name f n) t K list found h w = absurd h
  element_fits l [] rest (with_number f n) t K list found h w = absurd h
  element_fits l [] rest (with_text f n) t K list found h w = absurd h
  element_fits l [] rest anything t K list found h w = absurd h
  element_fits l [] rest (observed f) t K list found h w = absurd h
  element_fits l (s ∷ before) rest (hole p) t K list found h w = absurd h
  element_fits l (s ∷ before) rest (ending m u) t K list found h w = absurd h
  element_fits l (s ∷ before) rest (operator o) t K list found h w = absurd h
  element_fits l (s ∷ before) rest (with_child f c) t K list found h w = absurd h
  element_fits l (s ∷ before) rest (with_name f n) t K list found h w = absurd h
  element_fits l (s ∷ before) rest (with_number f n) t K list found h w = absurd h
  element_fits l (s ∷ before) rest (with_text f n) t K list found h w = absurd h
  element_fits l (s ∷ before) rest anything t K list found h w = absurd h
  element_fits l (s ∷ before) rest (observed f) t K list found h w = absurd h

  in_list : (l : ℕ) (before : List SummaryParts) (rest : SummaryParts) (u : Fragment) → IsGap def l before rest u → IsOfKind def u (kinds.List l)
  in_list l [] rest u (is, same, of) = subst (IsOfKind def u) same of.kind
  in_list l (s ∷ before) rest (cell m e r) (a, b, c) = ap kinds.List (sym a)
  in_list l (s ∷ before) rest (hole p) h = absurd h
  in_list l (s ∷ before) rest (ending m u) h = absurd h
  in_list l (s ∷ before) rest (operator o) h = absurd h
  in_list l (s ∷ before) rest (with_child f c) h = absurd h
  in_list l (s ∷ before) rest (with_name f n) h = absurd h
  in_list l (s ∷ before) rest (with_number f n) h = absurd h
  in_list l (s ∷ before) rest (with_text f n) h = absurd h
  in_list l (s ∷ before) rest anything h = absurd h
  in_list l (s ∷ before) rest (observed f) h = absurd h

  module _ (p : ℕ) (there_is : p < length def.phyla) where
    pub empty_usual : IsSummary def (empty p)
    empty_usual =
        let (k, found) = phylum_found def.phyla p there_is in
        record {
          header = record { keys_rise = tt; spaces_rise = tt };
          sort = k.sort.0;
          kind_sort = (k, found, refl);
          seen = [];
          reported = refl;
          key_sorts = [];
          keys_sorted = refl;
          sorted = λ row i. absurd (no_row row i);
        } where
          no_row : (row : List Term) → IsIn row [] → ⊥
          no_row row i = elim i [ ]

    -- a tree in the frame is of the phylum
    frame_fits : (frame : Frame) (more : List Frame) (k : ℕ) (u t : Fragment) (K : Kind) → IsFrame def frame k u t → CanClimb def (frame ∷ more) (kinds.Phylum p) → WellFormed def u K → Fits def t [] (kinds.Phylum p)
    frame_fits (frames.Op number names children hot) more k u t K (node, at, child, but) (above, takes, rest) (fits, plain) =
        let (inside, silent, takes_at, o, found, up) = takes (empty p) empty_usual refl in
        let (op, op_found, of_op) = takes_at in
        let all = children_fit number op op_found u [] K node.top plain fits in
        let here : slice_get (slot_kinds def op.items) hot ≡ Some (kinds.Phylum p) = put_kind hot (empty p) children (slot_kinds def op.items) inside of_op.kinds_fit in
        let kinds_are : slot_kinds def op.items ≡ all.kinds_are = sym (part_slots op.items) ∙ all.split ∙ append-nil all.kinds_are in
        fit_at all.kinds_are (children_of u) hot t (kinds.Phylum p) all.fit (subst (λ n. slice_get (children_of u) n ≡ Some t) at child)
        (subst (λ ks. slice_get ks hot ≡ Some (kinds.Phylum p)) kinds_are here)
    frame_fits (frames.Elem list before rest) more k u t K (at, element) (above, takes, others) (fits, plain) =
        let (cells, silent, up, front) = takes (empty p) empty_usual refl in
        subst (Fits def t []) (sym cells.element_kind) (element_fits list before rest u t K cells.list cells.found element fits)

    module _ (x : Fragment) (fresh : WellFormed def x (kinds.Phylum p)) where
      put_formed : (around : List Frame) (f : Fragment) (path : Path) (kind : Kind) (t : Fragment) → CanClimb def around (kinds.Phylum p) → WellFormed def f kind → StandFor def around path f t
          → (K : Kind) × WellFormed def (change_at (λ old. x) path f) K
      put_formed [] f path kind t can h (none, same) = (kinds.Phylum p, subst (λ q. WellFormed def (change_at (λ old. x) q f) (kinds.Phylum p)) (sym none) fresh)
      put_formed (frame ∷ more) f path kind t can h (above, k, u, e, at, up) =
          let g : Fragment → Fragment = λ old. x in
          let d : change_at g path f ≡ change_at (change_child g k) above f = ap (λ q. change_at g q f) e ∙ change_here g k above f in (
            kind,
            subst (λ y. WellFormed def y kind) (sym d)
                (changed_formed (change_child g k) f kind above u h (stands-node def more above f u up)
                (λ K hu. child_changed g u [] K k t hu.0 hu.1 (frame_child def t frame k u at)
                (λ J ht. subst (WellFormed def x) (formed_once t (kinds.Phylum p) J (frame_fits frame more k u t K at can hu) ht.0) fresh))),
          )

      add_formed : (list : ℕ) (before : List SummaryParts) (rest : SummaryParts) (more : List Frame) (f : Fragment) (path : Path) (k : ℕ) (kind : Kind) (u : Fragment)
          → CanClimb def (frames.Elem list before rest ∷ more) (kinds.Phylum p) → WellFormed def f kind → StandFor def more path f u → IsGap def list before rest u
          → WellFormed def (change_at (inserted k x) path f) kind
      add_formed list before rest more f path k kind u (above, takes, others) h up gap =
          let (cells, silent, at, front) = takes (empty p) empty_usual refl in
          let new : WellFormed def x (kinds.Phylum cells.list.element) = subst (WellFormed def x) cells.element_kind fresh in
          changed_formed (inserted k x) f kind path u h (stands-node def more path f u up)
          (λ K hu.
          let same : K ≡ kinds.List list = one_kind u K (kinds.List list) (fits_kind u [] K hu.0) (in_list list before rest u gap) in
          subst (WellFormed def (inserted k x u)) (sym same) (inserted_formed k x u list cells.list (subst (WellFormed def u) same hu) cells.found new))

  -- the fragment with the operator is a tree of some kind
  pub trial_formed : IsSound def → HasQuietSlots def → (p : ℕ) → p < length def.phyla → (around : List Frame) → CanClimb def around (kinds.Phylum p) → (f : Fragment) (path : Path) (k : Option ℕ) (kind : Kind)
      → WellFormed def f kind → StandAt def around path k f → (o : ℕ) (op : Operator) (leaves : List Leaf) → slice_get def.operators o ≡ Some op → op.phylum ≡ p → AreLeaves def (items_of (operator_at def o)) leaves
      → (K : Kind) × WellFormed def (with_operator def f path k o leaves) K
  trial_formed sound quiet p there_is around can f path None kind h (t, up) o op leaves found same are =
      put_formed p there_is (fresh_operator def o leaves) (subst (λ q. WellFormed def (fresh_operator def o leaves) (kinds.Phylum q)) same (fresh_formed sound quiet o op leaves found are)) around f path kind t can h up
  trial_formed sound quiet p there_is [] can f path (Some k) kind h stand o op leaves found same are = absurd stand
  trial_formed sound quiet p there_is (frames.Op number names children hot ∷ more) can f path (Some k) kind h stand o op leaves found same are = absurd stand
  trial_formed sound quiet p there_is (frames.Elem list before rest ∷ more) can f path (Some k) kind h (u, up, at, gap) o op leaves found same are = (
    kind,
    add_formed p there_is (fresh_operator def o leaves) (subst (λ q. WellFormed def (fresh_operator def o leaves) (kinds.Phylum q)) same (fresh_formed sound quiet o op leaves found are))
        list before rest more f path k kind u can h up gap,
  )

  -- ---- answers for completable fragments

  pub chosen_map : {X : Type 0} (P Q : X → Type 0) (xs ys : List X) → ((x : X) → IsIn x xs → P x ↔ Q x) → Chosen P xs ys → Chosen Q xs ys
  chosen_map P Q [] [] e nothing = nothing
  chosen_map P Q [] (z ∷ ys) e h = elim h [ ]
  chosen_map P Q (x ∷ xs) (y ∷ ys) e (taken q more) = taken ((e x first).0 q) (chosen_map P Q xs ys (λ z i. e z (later i)) more)
  chosen_map P Q (x ∷ xs) ys e (passed q more) = passed (λ h. q ((e x first).1 h)) (chosen_map P Q xs ys (λ z i. e z (later i)) more)

  pub completable_menu : IsSound def → HasTrueRows def → HasQuietSlots def → (p : ℕ) → p < length def.phyla → (around : List Frame) → CanClimb def around (kinds.Phylum p) → (f : Fragment) (path : Path) (k : Option ℕ) (kind : Kind)
      → WellFormed def f kind → StandAt def around path k f → (result : Result (Vec ℕ Global) FocusFault) → IsMenuAnswer def (IsOpen def) f path k p result → IsMenuAnswer def (IsCompletable def) f path k p result
  completable_menu sound rows quiet p there_is around can f path k kind h stand (Ok ops) (chosen, narrow) =
      (chosen_map (IsChoosable def f path k (IsOpen def)) (IsChoosable def f path k (IsCompletable def)) (operators_of def p) ops.items both chosen, narrow) where
        trees : (o : ℕ) → IsIn o (operators_of def p) → (leaves : List Leaf) → IsFreshTrial def f path k o leaves → IsOpen def (with_operator def f path k o leaves) ↔ IsCompletable def (with_operator def f path k o leaves)
        trees o i leaves trial =
            let (op, found, same) = op_there def p o i in
            let (K, formed) = trial_formed sound quiet p there_is around can f path k kind h stand o op leaves found same trial.are_leaves in
            open_or_completable def sound rows (with_operator def f path k o leaves) K formed

        both : (o : ℕ) → IsIn o (operators_of def p) → IsChoosable def f path k (IsOpen def) o ↔ IsChoosable def f path k (IsCompletable def) o
        both o i = (
          (λ (leaves, trial, is). (leaves, trial, (trees o i leaves trial).0 is)),
          (λ (leaves, trial, is). (leaves, trial, (trees o i leaves trial).1 is)),
        )
  completable_menu sound rows quiet p there_is around can f path k kind h stand (Err questions.Wide) answer = answer
  completable_menu sound rows quiet p there_is around can f path k kind h stand (Err questions.Memory) answer = tt
