-- What evaluations begin with, under the names and for the children that they have.
use Rattle.std.proofs.Common.{◌≡◌, ℕ, zero, suc, ◌+◌, ◌<◌, get_or, Bool, true, false, List, [], ◌∷◌, ◌++◌, length, map, Option, Some, slice_get, refl, ap, sym, ◌∙◌, subst, true≢false, arith}
use Rattle.std.specs.Prelude.{IfOk, IfSome, None, Ok, Result, cond, count_by, sum_by}
use Rattle.std.proofs.lemmas.List.Recursion.{is_count_by}
use Rattle.std.proofs.lemmas.List.{nil_from_length}
use Rattle.psg_terms.specs.Names.{Name, has_twice, is_among}
use Rattle.psg_terms.specs.Terms.{Term}
use Rattle.psg_terms.specs.Instances.{substitute}
use Rattle.psg_terms.specs.Relations.{IsRelation}
use Rattle.psg_terms.specs.Signature.{Signature}
use Rattle.psg_terms.specs.Weight.{PassesLimit}
use Rattle.psg_grammar.specs.declared.types.Item.{Item}
use Rattle.psg_grammar.specs.declared.types.Item.TheVariants as items
use Rattle.psg_grammar.specs.declared.types.Kind.{Kind}
use Rattle.psg_grammar.specs.declared.types.Kind.TheVariants as kinds
use Rattle.psg_grammar.specs.declared.types.ListKind.{ListKind}
use Rattle.psg_grammar.specs.declared.types.Operator.{Operator}
use Rattle.psg_grammar.specs.declared.types.Definition.{Definition}
use Rattle.psg_grammar.specs.Fragments.{Fragment, ending}
use Rattle.psg_grammar.specs.Keys.{Key, in_order}
use Rattle.psg_grammar.specs.Levels.{is_name_position, is_slot}
use Rattle.psg_relation.specs.Choices.{AllHaveSorts}
use Rattle.psg_relation.proofs.Relating.{carried}
use Rattle.psg_relation.specs.declared.relation.RelFault.{RelFault}
use Rattle.psg_scope.specs.declared.header.NameCol.{NameCol}
use Rattle.psg_scope.specs.declared.header.Header.{Header}
use Rattle.psg_scope.specs.Headers.{declared_keys, is_declared, IsHeader, IsOrdered, keep_if, key_of, keys}
use Rattle.psg_eval.specs.declared.partial.Partial.{Partial}
use Rattle.psg_eval.specs.declared.starts.ListStart.{ListStart}
use Rattle.psg_eval.specs.declared.starts.NamedStart.{NamedStart}
use Rattle.psg_eval.specs.declared.summary.EvalFault.{EvalFault}
use Rattle.psg_eval.specs.declared.summary.SummaryParts.{SummaryParts}
use Rattle.psg_eval.specs.Own.{IsOwnStep}
use Rattle.psg_eval.specs.OwnRows.{OwnRow, positions, slot_terms}
use Rattle.psg_eval.specs.Partials.{IsPartial, MatchStep}
use Rattle.psg_eval.specs.Stages.{IsCellStart}
use Rattle.psg_eval.specs.Starts.{AreAt, IsCellBegun, IsListStart, IsNamed, IsOwnBegun, IsTreeStart, IsWhole}
use Rattle.psg_eval.specs.Summaries.{Answers, AreKeySorts, AreSummariesOf, IsSummary, Takes, are_names, slot_kinds}
use Rattle.psg_eval.specs.Trees.{IsNode}

-- ---- lists of starts

-- one more at the end
pub at_end : {X : Type 0} (P : ℕ → X → Type 0) (xs : List X) (x : X) → AreAt P xs → P (length xs) x → AreAt P (xs ++ x ∷ [])
at_end P [] x all p zero y e = let same : x ≡ y = (let f : Some x ≡ Some y = e in cc) in subst (P 0) same p
at_end P [] x all p (suc i) y e = absurd (cc)
at_end P (z ∷ xs) x all p zero y e = all zero y e
at_end P (z ∷ xs) x all p (suc i) y e = at_end (λ k. P (suc k)) xs x (λ k. all (suc k)) p i y e

pub at_more : {X : Type 0} (P : ℕ → X → Type 0) (xs ys : List X) (x : X) (n : ℕ) → AreAt P xs → length xs ≡ n → P n x → ys ≡ xs ++ x ∷ [] → AreAt P ys
at_more P xs ys x n all many p e = subst (AreAt P) (sym e) (at_end P xs x all (subst (λ k. P k x) (sym many) p))

pub at_none : {X : Type 0} (P : ℕ → X → Type 0) (xs : List X) → xs ≡ [] → AreAt P xs
at_none P [] e i x h = absurd (cc)
at_none P (y ∷ ys) e i x h = absurd (cc)

-- a summary that is kept
pub kept_start : (def : Definition) (f : Fragment) (made : Result SummaryParts EvalFault) (o : Option SummaryParts) → IfSome o (λ s. made ≡ Ok s) → Answers def f made → IfOk made (IsSummary def)
    → IfSome o (IsTreeStart def f)
kept_start def f made None e answer usual = tt
kept_start def f made (Some s) e answer usual = record {
  answer = subst (Answers def f) e answer;
  usual = subst (λ (r : Result SummaryParts EvalFault). IfOk r (IsSummary def)) e usual;
}

-- a cell without children that is kept
pub kept_cell : (def : Definition) (l : ℕ) (made : Result Partial RelFault) (o : Option Partial) → IfSome o (λ p. made ≡ Ok p) → MatchStep (IsCellStart def l) made
    → IfOk made (λ (p : Partial). (kind : ListKind) → slice_get def.lists l ≡ Some kind → IsPartial def (kinds.List l) (kinds.Phylum kind.element ∷ kinds.List l ∷ []) p)
    → IfOk made (λ (p : Partial). p.seen ≡ 0) → IfSome o (IsCellBegun def l)
kept_cell def l made None e step part seen = tt
kept_cell def l made (Some p) e step part seen = record {
  step = subst (MatchStep (IsCellStart def l)) e step;
  partial = subst (λ (r : Result Partial RelFault). IfOk r (λ (p : Partial). (kind : ListKind) → slice_get def.lists l ≡ Some kind → IsPartial def (kinds.List l) (kinds.Phylum kind.element ∷ kinds.List l ∷ []) p)) e part;
  seen = subst (λ (r : Result Partial RelFault). IfOk r (λ (p : Partial). p.seen ≡ 0)) e seen;
}

-- an operator without children that is kept
pub kept_own : (def : Definition) (op : Operator) (names : List Name) (made : Result Partial RelFault) (o : Option Partial) (p : Partial) → o ≡ Some p → IfSome o (λ p. made ≡ Ok p)
    → length (are_names def op.items) ≡ length names → MatchStep (IsOwnStep def op names) made
    → IfOk made (IsPartial def (kinds.Phylum op.phylum) (slot_kinds def op.items))
    → IfOk made (λ (p : Partial). p.seen ≡ 0) → IsOwnBegun def op names p
kept_own def op names made o p d e fits step part seen =
    let is : made ≡ Ok p = subst (λ (x : Option Partial). IfSome x (λ p. made ≡ Ok p)) d e in
    record {
      fits = fits;
      step = subst (MatchStep (IsOwnStep def op names)) is step;
      partial = subst (λ (r : Result Partial RelFault). IfOk r (IsPartial def (kinds.Phylum op.phylum) (slot_kinds def op.items))) is part;
      seen = subst (λ (r : Result Partial RelFault). IfOk r (λ (p : Partial). p.seen ≡ 0)) is seen;
    }

-- the summary of an operator's node that is kept
pub kept_whole : (def : Definition) (op : Operator) (made : Result SummaryParts EvalFault) (o : Option SummaryParts) (s : SummaryParts) → o ≡ Some s → IfSome o (λ s. made ≡ Ok s)
    → length (are_names def op.items) ≡ 0 → slot_kinds def op.items ≡ []
    → ((o : ℕ) (f : Fragment) → slice_get def.operators o ≡ Some op → IsNode def o [] f → AreSummariesOf def f [] → Answers def f made)
    → IfOk made (IsSummary def) → IfOk made (λ (s : SummaryParts). s.kind ≡ kinds.Phylum op.phylum) → IfOk made (λ (s : SummaryParts). s.seen ≡ 0) → IsWhole def op s
kept_whole def op made o s d e nameless slotless answer usual kind seen =
    let is : made ≡ Ok s = subst (λ (x : Option SummaryParts). IfSome x (λ s. made ≡ Ok s)) d e in
    record {
      nameless = nameless;
      slotless = slotless;
      answer = λ o f found node all. subst (Answers def f) is (answer o f found node all);
      usual = subst (λ (r : Result SummaryParts EvalFault). IfOk r (IsSummary def)) is usual;
      kind = subst (λ (r : Result SummaryParts EvalFault). IfOk r (λ (s : SummaryParts). s.kind ≡ kinds.Phylum op.phylum)) is kind;
      seen = subst (λ (r : Result SummaryParts EvalFault). IfOk r (λ (s : SummaryParts). s.seen ≡ 0)) is seen;
    }

-- ---- what is read

pub some_there : {X : Type 0} (read : Option (Option X)) (o : Option X) → read ≡ Some o → IfSome o (λ s. read ≡ Some (Some s))
some_there read None e = tt
some_there read (Some x) e = e

pub end_start : (def : Definition) (l : ℕ) (s : ListStart) (u : Bool) (o : Option SummaryParts) → IsListStart def l s → (u ≡ true → o ≡ s.unfinished) → (u ≡ false → o ≡ s.finished)
    → IfSome o (IsTreeStart def (ending l u))
end_start def l s true o is begun ended = subst (λ (x : Option SummaryParts). IfSome x (IsTreeStart def (ending l true))) (sym (begun refl)) is.unfinished
end_start def l s false o is begun ended = subst (λ (x : Option SummaryParts). IfSome x (IsTreeStart def (ending l false))) (sym (ended refl)) is.finished

pub only_one : {X : Type 0} (xs : List X) → length xs ≡ 1 → (x : X) × (xs ≡ x ∷ [])
only_one [] e = absurd (omega (arith, e))
only_one (x ∷ []) e = (x, refl)
only_one (x ∷ y ∷ xs) e = absurd (omega (arith, e))

pub first_is : {X : Type 0} (xs : List X) (x : X) → 0 < length xs → x ≡ get_or xs 0 x → (rest : List X) × (xs ≡ x ∷ rest)
first_is [] x some e = absurd (omega (arith, some))
first_is (y ∷ ys) x some e = (ys, ap (λ z. z ∷ ys) (sym e))

-- ---- names and children

no_children : (children : List SummaryParts) → map (λ (s : SummaryParts). s.kind) children ≡ [] → children ≡ []
no_children [] e = refl
no_children (c ∷ children) e = absurd (cc)

one_name : (names : List Name) (n : Name) → length names ≡ 1 → slice_get names 0 ≡ Some n → names ≡ n ∷ []
one_name [] n many e = absurd (omega (arith, many))
one_name (m ∷ []) n many e = let same : m ≡ n = (let f : Some m ≡ Some n = e in cc) in ap (λ x. x ∷ []) same
one_name (m ∷ k ∷ names) n many e = absurd (omega (arith, many))

module _ (def : Definition) (op : Operator) where
  -- an operator without names begins so under the names that it has
  pub bare_for : (names : List Name) → length (are_names def op.items) ≡ length names → (p : Partial) → IsOwnBegun def op [] p → IsOwnBegun def op names p
  bare_for names fits p begun = subst (λ ns. IsOwnBegun def op ns p) (sym (nil_from_length names (sym fits ∙ begun.fits))) begun

  -- and one with one name so under its name
  pub named_for : (n : NamedStart) → IsNamed def op n → (names : List Name) → length (are_names def op.items) ≡ length names → (name : Name) → slice_get names 0 ≡ Some name
      → (p : Partial) → IsOwnBegun def op (name ∷ []) p → IsOwnBegun def op names p
  named_for n named names fits name at p begun =
      subst (λ ns. IsOwnBegun def op ns p) (sym (one_name names name (sym fits ∙ named.begun.fits) at)) begun

  pub some_names : (n : NamedStart) → IsNamed def op n → (names : List Name) → length (are_names def op.items) ≡ length names → length names ≡ 1
  some_names n named names fits = sym fits ∙ named.begun.fits

  module _ (s : SummaryParts) (whole : IsWhole def op s) (names : List Name) (children : List SummaryParts) (takes : Takes def op names children) where
    nameless : names ≡ []
    nameless = nil_from_length names (sym takes.names_fit ∙ whole.nameless)

    childless : children ≡ []
    childless = no_children children (takes.kinds_fit ∙ whole.slotless)

    pub whole_answers : (o : ℕ) (f : Fragment) → slice_get def.operators o ≡ Some op → IsNode def o names f → AreSummariesOf def f children → Answers def f (Ok s)
    whole_answers o f found node all =
        whole.answer o f found (subst (λ ns. IsNode def o ns f) nameless node) (subst (λ cs. AreSummariesOf def f cs) childless all)

    pub whole_seen : s.seen ≡ sum_by (λ (c : SummaryParts). c.seen) children
    whole_seen = whole.seen ∙ sym (ap (λ cs. sum_by (λ (c : SummaryParts). c.seen) cs) childless)

-- ---- how many names and slots an operator has

pub names_in_count : (def : Definition) (xs : List Item) → length (are_names def xs) ≡ count_by is_name_position xs
names_in_count def xs = is_count_by (λ (ys : List Item). length (are_names def ys)) is_name_position refl next xs where
  next : (x : Item) (ys : List Item) → length (are_names def (x ∷ ys)) ≡ cond (is_name_position x) (1 + length (are_names def ys)) (length (are_names def ys))
  next (items.Refers s) ys = omega arith
  next (items.Declares s) ys = omega arith
  next (items.Slot k) ys = refl
  next (items.Word w) ys = refl
  next items.Number ys = refl
  next items.Text ys = refl
  next items.Space ys = refl
  next items.Tight ys = refl
  next items.Line ys = refl
  next items.In ys = refl
  next items.Out ys = refl

slots_in_count : (def : Definition) (xs : List Item) → length (slot_kinds def xs) ≡ count_by is_slot xs
slots_in_count def xs = is_count_by (λ (ys : List Item). length (slot_kinds def ys)) is_slot refl next xs where
  next : (x : Item) (ys : List Item) → length (slot_kinds def (x ∷ ys)) ≡ cond (is_slot x) (1 + length (slot_kinds def ys)) (length (slot_kinds def ys))
  next (items.Refers s) ys = refl
  next (items.Declares s) ys = refl
  next (items.Slot k) ys = omega arith
  next (items.Word w) ys = refl
  next items.Number ys = refl
  next items.Text ys = refl
  next items.Space ys = refl
  next items.Tight ys = refl
  next items.Line ys = refl
  next items.In ys = refl
  next items.Out ys = refl

no_kinds : (kinds : List Kind) → length kinds ≡ 0 → kinds ≡ []
no_kinds [] e = refl
no_kinds (k ∷ kinds) e = absurd (omega (arith, e))

pub no_slots : (def : Definition) (xs : List Item) (n : ℕ) → n ≡ count_by is_slot xs → n ≡ 0 → slot_kinds def xs ≡ []
no_slots def xs n e z = no_kinds (slot_kinds def xs) (slots_in_count def xs ∙ sym e ∙ z)

-- ---- the position of a name, which does not depend on the name

abbrev pub col : ℕ → Name → Bool → NameCol
col space n declared = record { space = space; name = n; declared = declared }

no_positions : (xs : List Item) → positions xs [] ≡ []
no_positions [] = refl
no_positions (items.Refers s ∷ xs) = refl
no_positions (items.Declares s ∷ xs) = refl
no_positions (_ ∷ xs) = no_positions xs

pub position_of : (xs : List Item) (m : Name) (c : NameCol) (rest : List NameCol) → positions xs (m ∷ []) ≡ c ∷ rest → (n : Name)
    → positions xs (n ∷ []) ≡ col c.space n c.declared ∷ []
position_of [] m c rest e n = absurd (cc)
position_of (items.Refers s ∷ xs) m c rest e n =
    let same : col s m false ≡ c = cc in
    ap (λ (d : NameCol). col d.space n d.declared ∷ positions xs []) same ∙ ap (λ more. col c.space n c.declared ∷ more) (no_positions xs)
position_of (items.Declares s ∷ xs) m c rest e n =
    let same : col s m true ≡ c = cc in
    ap (λ (d : NameCol). col d.space n d.declared ∷ positions xs []) same ∙ ap (λ more. col c.space n c.declared ∷ more) (no_positions xs)
position_of (_ ∷ xs) m c rest e n = position_of xs m c rest e n

-- ---- one key

abbrev pub alone : ℕ → Name → Bool → Header
alone space n declared = record { names = col space n declared ∷ []; unfinished = []; twice = false }

not_twice : (b : Bool) (k : Key) → has_twice (keep_if b k []) ≡ false
not_twice true k = refl
not_twice false k = refl

declares_one : (space : ℕ) (n : Name) (b : Bool) (k : Key) → is_declared (col space n b ∷ []) k ≡ is_among (keep_if b (space ∷ n) []) k
declares_one space n true k = refl
declares_one space n false k = refl

pub alone_is : (space : ℕ) (n : Name) (b : Bool) → IsHeader (keys (col space n b ∷ [])) (declared_keys (col space n b ∷ [])) (λ _. false) (alone space n b)
alone_is space n b = record {
  whole = (tt, tt);
  keys_are = refl;
  declares = declares_one space n b;
  spaces = λ s. refl;
  ascending = tt;
  repeats = sym (not_twice b (space ∷ n));
}

-- the sorts of one key are those of its space
key_sorts_of : (def : Definition) (names : List NameCol) (space : ℕ) (m n : Name) (b : Bool) (sorts : List ℕ) → keys names ≡ (space ∷ m) ∷ [] → AreKeySorts def names sorts
    → AreKeySorts def (col space n b ∷ []) sorts
key_sorts_of def [] space m n b sorts e h = absurd (cc)
key_sorts_of def (c ∷ []) space m n b sorts e h =
    let one : key_of c ≡ space ∷ m = cc in
    let same : c.space ≡ space = (let d : c.space ∷ c.name ≡ space ∷ m = one in cc) in
    subst (λ s. AreKeySorts def (col s n b ∷ []) sorts) same h
key_sorts_of def (c ∷ d ∷ names) space m n b sorts e h = absurd (cc)

-- ---- the rows of an operator with one name

module _ (sig : Signature) (op : Operator) (space : ℕ) (b : Bool) (position : (n : Name) → positions op.items (n ∷ []) ≡ col space n b ∷ []) where
  row_under : (m n : Name) (r : ℕ) (x : List Term) → OwnRow sig op (m ∷ []) r x → OwnRow sig op (n ∷ []) r x
  row_under m n r x w =
      let other : Key → Term = λ k. w.entity (space ∷ m) in
      record {
        row = w.row;
        chosen = w.chosen;
        terms = w.terms;
        grounding = w.grounding;
        entity = other;
        agree = ap (λ ps. map other (keys ps)) (position n) ∙ sym (ap (λ ps. map w.entity (keys ps)) (position m)) ∙ w.agree;
        row_is = w.row_is
            ∙ ap (λ ts. (substitute w.terms w.row.head ∷ slot_terms op.items (map (substitute w.terms) w.row.columns)) ++ ts)
            (ap (λ ps. map w.entity (in_order (keys ps))) (position m) ∙ sym (ap (λ ps. map other (in_order (keys ps))) (position n)));
      }

  pub rows_under : (m n : Name) (ss : List ℕ) (rel : List (List Term)) → IsRelation sig ss (OwnRow sig op (m ∷ [])) rel → IsRelation sig ss (OwnRow sig op (n ∷ [])) rel
  rows_under m n ss rel is =
      carried sig ss (OwnRow sig op (m ∷ [])) (OwnRow sig op (n ∷ []))
      (λ r columns h. (r, λ x. (row_under m n r x, row_under n m r x)))
      (λ r columns h. (r, λ x. (row_under m n r x, row_under n m r x))) rel is

-- ---- the operator under another name

module _ (def : Definition) (op : Operator) (n : NamedStart) (named : IsNamed def op n) (name : Name) (p : Partial)
    (header : p.header ≡ alone n.space name n.declared) (seen : p.seen ≡ 0) (wanted : p.wanted ≡ n.bare.wanted) (rel : p.rel ≡ n.bare.rel) where
  one_key : keys n.bare.header.names ≡ (n.space ∷ named.some) ∷ []
  one_key = named.begun.step.0.region.keys_are ∙ ap (λ ps. in_order (keys ps)) (named.position named.some)

  bare_once : n.bare.header.twice ≡ false
  bare_once =
      named.begun.step.0.region.repeats ∙ ap (λ ps. has_twice (declared_keys ps)) (named.position named.some)
      ∙ not_twice n.declared (n.space ∷ named.some)

  step : IsOwnStep def op (name ∷ []) p.header p.rel
  step = record {
    region = subst (λ ps. IsHeader (keys ps) (declared_keys ps) (λ _. false) p.header) (sym (named.position name))
        (subst (IsHeader (keys (col n.space name n.declared ∷ [])) (declared_keys (col n.space name n.declared ∷ [])) (λ _. false)) (sym header) (alone_is n.space name n.declared));
    none = λ e. let once : false ≡ true = sym (ap (λ (h : Header). h.twice) header) ∙ e in absurd (true≢false (sym once));
    made = λ e.
        let (ss, is) = named.begun.step.0.made bare_once in
        (ss, subst (IsRelation def.signature ss (OwnRow def.signature op (name ∷ []))) (sym rel) (rows_under def.signature op n.space n.declared named.position named.some name ss n.bare.rel is));
  }

  partial : IsPartial def (kinds.Phylum op.phylum) (slot_kinds def op.items) p
  partial =
      let b = named.begun.partial in
      record {
        header = subst IsOrdered (sym header) (record { keys_rise = (tt, tt); spaces_rise = tt });
        sort = b.sort;
        kind_sort = b.kind_sort;
        seen = b.seen;
        reported = b.reported ∙ named.begun.seen ∙ sym seen;
        wanted = b.wanted;
        wanted_sorts = b.wanted_sorts;
        many = wanted ∙ b.many;
        few = omega (arith, wanted, b.few);
        key_sorts = b.key_sorts;
        keys_sorted = subst (λ (h : Header). AreKeySorts def h.names b.key_sorts) (sym header)
            (key_sorts_of def n.bare.header.names n.space named.some name n.declared b.key_sorts one_key b.keys_sorted);
        sorted = subst (λ rows. AllHaveSorts def.signature rows ((b.sort ∷ b.seen ++ b.wanted) ++ b.key_sorts)) (sym rel) b.sorted;
      }

  pub begun_under : IsOwnBegun def op (name ∷ []) p
  begun_under = record {
    fits = named.begun.fits;
    step = (step, subst (λ rows. PassesLimit rows → ⊥) (sym rel) named.begun.step.1);
    partial = partial;
    seen = seen;
  }
