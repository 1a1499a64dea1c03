-- A text that was read with a filling.
use Rattle.std.proofs.Common.{◌≡◌, ◌≤◌, ◌+◌, inl, inr, Bool, true, false, ℕ, List, [], ◌∷◌, drop, chars, length, slice_get, Option, Some, None, IsUtf8, refl, sym, ap, subst, ◌∙◌, arith}
use Rattle.std.specs.Prelude.{IfNone, IfSome, Vec}
use Rattle.std.specs.Str.{IsValidUpTo}
use Rattle.std.specs.declared.alloc.Global.{Global}
use Rattle.std.proofs.lemmas.List.{drop_all, take_all}
use Rattle.std.proofs.lemmas.Bool.{false≢true, true≢false, eqb-true}
use Rattle.std.proofs.lemmas.Option.{none-some}
use Rattle.psg_terms.proofs.Lists.{drop_there, eqb-refl}
use Rattle.psg_grammar.specs.declared.types.Definition.{Definition}
use Rattle.psg_grammar.specs.declared.types.Kind.{Kind}
use Rattle.psg_grammar.specs.Fragments.{Fragment, hole, ending, cell, operator, with_child, with_name, with_number, with_text, anything, observed}
use Rattle.psg_grammar.specs.Paths.{Path, node_at}
use Rattle.psg_grammar.specs.Sizes.{IsBig, IsDeep}
use Rattle.psg_grammar.specs.WellFormed.{WellFormed, fixed_words}
use Rattle.psg_class.specs.Class.{IsClass}
use Rattle.psg_class.specs.Only.{IsOnly}
use Rattle.psg_class.specs.Texts.{TextTokens, tokens_of}
use Rattle.psg_class.specs.Yields.{Yields}
use Rattle.psg_class.proofs.Law.{only_trees}
use Rattle.psg_lexis.specs.declared.token.Spanned.{Spanned}
use Rattle.psg_lexis.specs.declared.token.LexFault.{LexFault}
use Rattle.psg_lexis.specs.Faults.{HasFault, OrMemory}
use Rattle.psg_lexis.proofs.Laws.{no_fault_with_tokens, only_tokens}
use Rattle.psg_parse.specs.Answers.{IsFault, IsParsed}
use Rattle.psg_parse.specs.declared.fault.Goal.{Goal}
use Rattle.psg_parse.specs.declared.fault.ParseFault.{ParseFault}
use Rattle.psg_parse.specs.declared.fault.ParseFault.TheVariants as faults
use Rattle.psg_program.specs.declared.reading.Program.{Program}
use Rattle.psg_program.specs.Programs.{IsProgramText, goal_of}
use Rattle.psg_ranges.specs.declared.ranges.Range.{Range}
use Rattle.psg_tree.specs.declared.tree.Part.{Part}
use Rattle.psg_tree.specs.declared.tree.Part.TheVariants.{Sub, Name, Number, Text}
use Rattle.psg_tree.specs.Shapes.{list_of, with_parts}
use Rattle.psg_ranges.specs.Forests.{Forest, nodes_of, ranges_in}
use Rattle.psg_completing.specs.declared.around.Word.{Word}
use Rattle.psg_completing.specs.declared.fillings.Filling.{Filling}
use Rattle.psg_completing.specs.declared.fitting.Fitted.{Fitted}
use Rattle.psg_completing.specs.Fillings.{Fits, HasPlaceholder, IsFirst, none_fits, fits, fits_later, filled, mark_byte}
use Rattle.psg_completing.specs.Fitted.{HasNoPlaceholder, IsFitted, IsPlaceholderIn, IsRead, IsReadAs, IsTreeOf, is_hole, is_hole_by, is_lost, is_lost_parse}
use Rattle.psg_pointing.specs.Pointing.{IsPointed}
use Rattle.psg_completing.proofs.Once.{pointed_once}

-- ---- a placeholder

hole_is : (phylum : ℕ) (f : Fragment) → is_hole phylum f ≡ true → f ≡ hole phylum
hole_is phylum (hole p) e = ap hole (eqb-true p phylum e)
hole_is phylum (ending l u) e = absurd (false≢true e)
hole_is phylum (cell l h r) e = absurd (false≢true e)
hole_is phylum (operator o) e = absurd (false≢true e)
hole_is phylum (with_child f t) e = absurd (false≢true e)
hole_is phylum (with_name f n) e = absurd (false≢true e)
hole_is phylum (with_number f n) e = absurd (false≢true e)
hole_is phylum (with_text f t) e = absurd (false≢true e)
hole_is phylum anything e = absurd (false≢true e)
hole_is phylum (observed f) e = absurd (false≢true e)

hole_with : (phylum : ℕ) (f : Fragment) (parts : List Part) → is_hole phylum f ≡ false
    → is_hole phylum (with_parts f parts) ≡ false
hole_with phylum f [] e = e
hole_with phylum f (Sub t ∷ parts) e = hole_with phylum _ parts refl
hole_with phylum f (Name n ∷ parts) e = hole_with phylum _ parts refl
hole_with phylum f (Number n ∷ parts) e = hole_with phylum _ parts refl
hole_with phylum f (Text t ∷ parts) e = hole_with phylum _ parts refl

pub operator_no_hole : (phylum op : ℕ) (parts : List Part) (f : Fragment) → with_parts (operator op) parts ≡ f
    → false ≡ is_hole phylum f
operator_no_hole phylum op parts f e = sym (hole_with phylum (operator op) parts refl) ∙ ap (is_hole phylum) e

list_hole : (phylum l : ℕ) (es : List Fragment) (u : Bool) → is_hole phylum (list_of l es u) ≡ false
list_hole phylum l [] u = refl
list_hole phylum l (e ∷ es) u = refl

pub list_no_hole : (phylum l : ℕ) (es : List Fragment) (u : Bool) (f : Fragment) → list_of l es u ≡ f
    → false ≡ is_hole phylum f
list_no_hole phylum l es u f e = sym (list_hole phylum l es u) ∙ ap (is_hole phylum) e

pub hole_there : (phylum : ℕ) (o : Option Fragment) → is_hole_by phylum o ≡ true → o ≡ Some (hole phylum)
hole_there phylum None e = absurd (false≢true e)
hole_there phylum (Some f) e = ap Some (hole_is phylum f e)

same_number : (n : ℕ) → is_hole n (hole n) ≡ true
same_number n = eqb-refl n

pub no_hole : (phylum : ℕ) (o : Option Fragment) → is_hole_by phylum o ≡ false → o ≡ Some (hole phylum) → ⊥
no_hole phylum o e is = true≢false (sym (same_number phylum) ∙ sym (ap (is_hole_by phylum) is) ∙ e)

abbrev node_by : Fragment → Option Path → Option Fragment
node_by f None = None
node_by f (Some path) = node_at f path

module _ (def : Definition) (kind : Kind) (ts : List Spanned) (f : Fragment) (byte phylum : ℕ) (ranges : List Range)
    (made : (level nesting : ℕ) (y : Yields def f kind level nesting (tokens_of ts))
    → ranges ≡ ranges_in (nodes_of def f kind level nesting (tokens_of ts) y)) (o : Option Path)
    (found : (nodes : Forest) → ranges_in nodes ≡ ranges → IsPointed ts byte nodes o) where
  -- where the byte points
  here : (nesting : ℕ) (y : Yields def f kind 0 nesting (tokens_of ts))
      → IsPointed ts byte (nodes_of def f kind 0 nesting (tokens_of ts) y) o
  here nesting y = found (nodes_of def f kind 0 nesting (tokens_of ts) y) (sym (made 0 nesting y))

  pub placeholder_is : (path : Path) → o ≡ Some path → is_hole_by phylum (node_at f path) ≡ true
      → IsPlaceholderIn def kind ts f byte phylum path
  placeholder_is path e is = record {
    pointed = λ nesting y.
        subst (λ u. IsPointed ts byte (nodes_of def f kind 0 nesting (tokens_of ts) y) u) e (here nesting y);
    there = hole_there phylum (node_at f path) is;
  }

  pub no_placeholder_there : (path : Path) → o ≡ Some path → is_hole_by phylum (node_at f path) ≡ false
      → HasNoPlaceholder def kind ts f byte phylum
  no_placeholder_there path e not other nesting y own there =
      let same = pointed_once ts byte _ (Some path) (Some other)
      (subst (λ u. IsPointed ts byte (nodes_of def f kind 0 nesting (tokens_of ts) y) u) e (here nesting y)) own in
      no_hole phylum (node_at f path) not (ap (node_by f) same ∙ there)

  pub no_node_there : o ≡ None → HasNoPlaceholder def kind ts f byte phylum
  no_node_there e other nesting y own there =
      none-some other (sym e ∙ pointed_once ts byte _ o (Some other) (here nesting y) own)

-- ---- trees of tokens

module _ (def : Definition) (class : IsClass def) (kind : Kind) (ts : List Spanned) where
  only : (f g : Fragment) (n m : ℕ) → Yields def f kind 0 n (tokens_of ts) → Yields def g kind 0 m (tokens_of ts)
      → IsOnly f g n m
  only f g n m y z = only_trees def class kind 0 (tokens_of ts) f g n m y z

  pub not_big : (f : Fragment) → IsParsed def (goal_of kind) ts f → IsBig f → (g : Fragment) → IsTreeOf def kind ts g → ⊥
  not_big f p big g t =
      t.small (subst IsBig (only f g p.nesting t.nesting p.reads t.yields).tree big)

  pub none_read : (fault : ParseFault) → is_lost_parse fault ≡ false → IsFault def (goal_of kind) ts fault → (g : Fragment)
      → IsTreeOf def kind ts g → ⊥
  none_read faults.NoTree e h g t = h g t.nesting t.yields
  none_read faults.Deep e h g t =
      let one = only h.tree g h.nesting t.nesting h.reads t.yields in
      elim h.deep [
        | inl d ↦ t.depth (subst IsDeep one.tree d)
        | inr nests ↦ (let same = one.nesting in let w = t.brackets in omega (arith, same, nests, w))
      ]
  none_read faults.Memory e h g t = absurd (true≢false e)

-- ---- texts

module _ (def : Definition) (class : IsClass def) (kind : Kind) (text : List ℕ) where
  same_tokens : (ts us : List Spanned) → TextTokens def text ts → TextTokens def text us → us ≡ ts
  same_tokens ts us a b = only_tokens (fixed_words def) (chars text) 0 us ts b a

  pub tree_of_text : (ts : List Spanned) → TextTokens def text ts → (f : Fragment) → IsProgramText def kind text f
      → IsTreeOf def kind ts f
  tree_of_text ts are f p = record {
    nesting = p.nesting;
    yields = subst (λ us. Yields def f kind 0 p.nesting (tokens_of us)) (same_tokens ts p.reads.tokens are p.reads.are)
        p.reads.yields;
    formed = p.formed;
    depth = p.depth;
    brackets = p.brackets;
    small = p.small;
  }

  -- a program that was read
  pub read_is : IsUtf8 text → (p : Program) → TextTokens def text p.tokens.items
      → IsTreeOf def kind p.tokens.items p.tree → IsRead def kind text p
  read_is utf8 p are t = record {
    is_text = utf8;
    program = record {
      nesting = t.nesting;
      reads = record { tokens = p.tokens.items; are = are; yields = t.yields };
      formed = t.formed;
      depth = t.depth;
      brackets = t.brackets;
      small = t.small;
    };
    read = record { tokens = are; nesting = t.nesting; yields = t.yields };
  }

  -- no placeholder of the program that was read is at the byte, so none is whatever is read from the text
  pub none_placed : (p : Program) → IsRead def kind text p → (byte phylum : ℕ)
      → HasNoPlaceholder def kind p.tokens.items p.tree byte phylum → (f : Fragment) (path : Path)
      → HasPlaceholder def kind text byte phylum f path → ⊥
  none_placed p is byte phylum none f path h =
      let same : h.tokens ≡ p.tokens.items = same_tokens p.tokens.items h.tokens is.read.tokens h.are in
      let y : Yields def f kind 0 h.nesting (tokens_of p.tokens.items) =
      subst (λ us. Yields def f kind 0 h.nesting (tokens_of us)) same h.yields in
      let one : p.tree ≡ f =
      (only_trees def class kind 0 (tokens_of p.tokens.items) p.tree f is.read.nesting h.nesting is.read.yields y).tree in
      subst (λ us. HasNoPlaceholder def kind us f byte phylum) (sym same)
      (subst (λ g. HasNoPlaceholder def kind p.tokens.items g byte phylum) one none)
      path h.nesting h.yields h.pointed h.there

-- ---- fillings

module _ (def : Definition) (kind : Kind) (own : List ℕ) (w : Word) where
  pub placed_by : (f : Filling) (fit : Fitted) → IsFitted def kind own w f fit
      → HasPlaceholder def kind (filled def own w f) (mark_byte def w f) f.phylum fit.program.tree fit.path
  placed_by f fit is = record {
    is_text = is.read.is_text;
    program = is.read.program;
    tokens = fit.program.tokens.items;
    are = is.read.read.tokens;
    nesting = is.read.read.nesting;
    yields = is.read.read.yields;
    pointed = is.placeholder.pointed is.read.read.nesting is.read.read.yields;
    there = is.placeholder.there;
  }

  pub it_fits : (f : Filling) (fit : Fitted) → IsFitted def kind own w f fit → Fits def kind own w f
  it_fits f fit is = (fit.program.tree, fit.path, placed_by f fit is)

-- whatever is the first of the rest is the first of all
abbrev pub IsLeft : (Filling → Type 0) → List Filling → List Filling → Type 0
IsLeft Fit all rest = (found : Option Filling) → IsFirst Fit rest found → IsFirst Fit all found

pub left_next : (Fit : Filling → Type 0) (all rest : List Filling) (f : Filling) → IsLeft Fit all (f ∷ rest)
    → (Fit f → ⊥) → IsLeft Fit all rest
left_next Fit all rest f left not found h = left found (fits_later not h)

-- ---- what was not read

pub no_tokens_by : (def : Definition) (text : List ℕ) (fault : LexFault) → is_lost fault ≡ false
    → OrMemory (HasFault (fixed_words def) (chars text) 0) fault → (ts : List Spanned) → TextTokens def text ts → ⊥
no_tokens_by def text fault e (inl m) ts are = true≢false (sym (ap is_lost m) ∙ e)
no_tokens_by def text fault e (inr h) ts are = no_fault_with_tokens (fixed_words def) (chars text) 0 ts fault are h

pub tree_is : (def : Definition) (kind : Kind) (ts : List Spanned) (f : Fragment) → IsParsed def (goal_of kind) ts f
    → WellFormed def f kind → (IsBig f → ⊥) → IsTreeOf def kind ts f
tree_is def kind ts f p formed small = record {
  nesting = p.nesting;
  yields = p.reads;
  formed = formed;
  depth = λ deep. absurd (let d = p.depth in omega (arith, deep, d));
  brackets = let b = p.brackets in omega (arith, b);
  small = small;
}

-- what was parsed for the goal
pub parsed_for : (def d : Definition) (kind : Kind) (goal : Goal) (ts : List Spanned) (f : Fragment) → d ≡ def
    → goal ≡ goal_of kind → IsParsed d goal ts f → IsParsed def (goal_of kind) ts f
parsed_for def d kind goal ts f same aim h =
    subst (λ (x : Definition). IsParsed x (goal_of kind) ts f) same (subst (λ (g : Goal). IsParsed d g ts f) aim h)

pub fault_for : (def d : Definition) (kind : Kind) (goal : Goal) (ts : List Spanned) (fault : ParseFault) → d ≡ def
    → goal ≡ goal_of kind → IsFault d goal ts fault → IsFault def (goal_of kind) ts fault
fault_for def d kind goal ts fault same aim h =
    subst (λ (x : Definition). IsFault x (goal_of kind) ts fault) same
    (subst (λ (g : Goal). IsFault d g ts fault) aim h)

pub formed_for : (def d : Definition) (kind : Kind) (goal : Goal) (f : Fragment) → d ≡ def → goal ≡ goal_of kind
    → WellFormed d f goal.kind → WellFormed def f kind
formed_for def d kind goal f same aim h =
    subst (λ (x : Definition). WellFormed x f kind) same (subst (λ (g : Goal). WellFormed d f g.kind) aim h)

pub not_text : (bytes : List ℕ) (count : ℕ) → IsValidUpTo bytes count → IsUtf8 bytes → ⊥
not_text bytes count v utf8 =
    v.longest (length bytes) v.short (subst IsUtf8 (sym (take_all (length bytes) bytes (omega arith))) utf8)

module _ (def : Definition) (class : IsClass def) (kind : Kind) (text : List ℕ) where
  -- the program of the tokens of the text
  pub as_read : (tokens : Vec Spanned Global) → TextTokens def text tokens.items → (o : Option Program)
      → IfSome o (λ p. (p.tokens ≡ tokens) × IsTreeOf def kind tokens.items p.tree)
      → IfSome o (IsReadAs def kind text)
  as_read tokens are None h = tt
  as_read tokens are (Some p) h =
      let same : p.tokens.items ≡ tokens.items = ap (λ (v : Vec Spanned Global). v.items) h.0 in
      let own = subst (TextTokens def text) (sym same) are in
      let t = subst (λ l. IsTreeOf def kind l p.tree) (sym same) h.1 in (
        record {
          nesting = t.nesting;
          reads = record { tokens = p.tokens.items; are = own; yields = t.yields };
          formed = t.formed;
          depth = t.depth;
          brackets = t.brackets;
          small = t.small;
        },
        record { tokens = own; nesting = t.nesting; yields = t.yields },
      )

  pub none_read_as : (ts : List Spanned) → TextTokens def text ts → (o : Option Program)
      → IfNone o ((f : Fragment) → IsTreeOf def kind ts f → ⊥)
      → IfNone o ((f : Fragment) → IsProgramText def kind text f → ⊥)
  none_read_as ts are None h = λ f p. h f (tree_of_text def class kind text ts are f p)
  none_read_as ts are (Some p) h = tt

pub text_read : (def : Definition) (kind : Kind) (bytes text : List ℕ) → text ≡ bytes → IsUtf8 bytes → (o : Option Program)
    → IfSome o (IsReadAs def kind text) → IfSome o (IsRead def kind bytes)
text_read def kind bytes text same utf8 None h = tt
text_read def kind bytes text same utf8 (Some p) h =
    let own = subst (λ t. IsReadAs def kind t p) same h in
    record { is_text = utf8; program = own.0; read = own.1 }

pub none_text_read : (def : Definition) (kind : Kind) (bytes text : List ℕ) → text ≡ bytes → (o : Option Program)
    → IfNone o ((f : Fragment) → IsProgramText def kind text f → ⊥)
    → IfNone o ((f : Fragment) → IsUtf8 bytes → IsProgramText def kind bytes f → ⊥)
none_text_read def kind bytes text same None h = λ f utf8 p.
    h f (subst (λ t. IsProgramText def kind t f) (sym same) p)
none_text_read def kind bytes text same (Some p) h = tt

-- ---- one filling

module _ (def : Definition) (class : IsClass def) (kind : Kind) (own : List ℕ) (w : Word) (f : Filling)
    (text : List ℕ) (byte : ℕ) (same : text ≡ filled def own w f) (at : byte ≡ mark_byte def w f) where
  pub fitted_is : (p : Program) → IsRead def kind text p → (o : Option Fitted)
      → IfSome o (λ fit. (fit.filling ≡ f) × (fit.program ≡ p)
      × IsPlaceholderIn def kind p.tokens.items p.tree byte f.phylum fit.path)
      → IfSome o (IsFitted def kind own w f)
  fitted_is p is None h = tt
  fitted_is p is (Some fit) h = record {
    filling_is = h.0;
    read = subst (λ q. IsRead def kind (filled def own w f) q) (sym h.1) (subst (λ t. IsRead def kind t p) same is);
    placeholder =
        subst (λ (q : Program). IsPlaceholderIn def kind q.tokens.items q.tree (mark_byte def w f) f.phylum fit.path)
        (sym h.1)
        (subst (λ b. IsPlaceholderIn def kind p.tokens.items p.tree b f.phylum fit.path) at h.2);
  }

  pub none_fitted : (p : Program) → IsRead def kind text p → (o : Option Fitted)
      → IfNone o (HasNoPlaceholder def kind p.tokens.items p.tree byte f.phylum)
      → IfNone o (Fits def kind own w f → ⊥)
  none_fitted p is None h = λ it.
      none_placed def class kind text p is byte f.phylum h it.0 it.1
      (subst (λ t. HasPlaceholder def kind t byte f.phylum it.0 it.1) (sym same)
      (subst (λ b. HasPlaceholder def kind (filled def own w f) b f.phylum it.0 it.1) (sym at) it.2))
  none_fitted p is (Some fit) h = tt

  pub none_there : ((g : Fragment) → IsUtf8 text → IsProgramText def kind text g → ⊥) → Fits def kind own w f → ⊥
  none_there h it =
      h it.0 (subst IsUtf8 (sym same) it.2.is_text)
      (subst (λ t. IsProgramText def kind t it.0) (sym same) it.2.program)

-- where a byte points, among the same tokens and ranges
pub found_for : (ts us : List Spanned) (ranges others : List Range) (byte : ℕ) (o : Option Path) → us ≡ ts
    → others ≡ ranges → ((nodes : Forest) → ranges_in nodes ≡ others → IsPointed us byte nodes o)
    → (nodes : Forest) → ranges_in nodes ≡ ranges → IsPointed ts byte nodes o
found_for ts us ranges others byte o same row found nodes e =
    subst (λ l. IsPointed l byte nodes o) same (found nodes (e ∙ sym row))

-- ---- the first filling

pub own_filling : (def : Definition) (kind : Kind) (own : List ℕ) (w : Word) (f : Filling) (fit : Fitted)
    → IsFitted def kind own w f fit → IsFitted def kind own w fit.filling fit
own_filling def kind own w f fit is = subst (λ x. IsFitted def kind own w x fit) (sym is.filling_is) is

module _ (Fit : Filling → Type 0) (row : List Filling) where
  pub left_next_at : (i : ℕ) (f : Filling) → slice_get row i ≡ Some f → IsLeft Fit row (drop i row) → (Fit f → ⊥)
      → IsLeft Fit row (drop (i + 1) row)
  left_next_at i f at left not =
      left_next Fit row (drop (i + 1) row) f (subst (IsLeft Fit row) (drop_there row i f at) left) not

  pub first_here : (all : List Filling) (i : ℕ) (f g : Filling) → slice_get row i ≡ Some f → g ≡ f → Fit f → row ≡ all
      → IsLeft Fit row (drop i row) → IsFirst Fit all (Some g)
  first_here all i f g at same fit is left =
      subst (λ l. IsFirst Fit l (Some g)) is
      (subst (λ x. IsFirst Fit row (Some x)) (sym same)
      (subst (IsLeft Fit row) (drop_there row i f at) left (Some f) (fits fit)))

  pub first_none : (all : List Filling) (i : ℕ) → length row ≤ i → row ≡ all → IsLeft Fit row (drop i row)
      → IsFirst Fit all None
  first_none all i le is left =
      subst (λ l. IsFirst Fit l None) is (subst (IsLeft Fit row) (drop_all i row le) left None none_fits)
