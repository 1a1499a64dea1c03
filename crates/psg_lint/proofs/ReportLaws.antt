-- The report of a text: its stops, and what is found in what is read at last.
use Rattle.std.proofs.Common.{◌≡◌, inl, inr, ℕ, zero, suc, ◌||◌, ◌⊎◌, Bool, true, false, length, List, [], ◌∷◌, ◌++◌, map, take, Option, Some, None, refl, ap, sym, subst, ◌∙◌, true≢false}
use Rattle.std.specs.Prelude.{chars}
use Rattle.std.specs.Str.{IsUtf8, IsValidUpTo}
use Rattle.std.specs.Cmp.{IsStrictWeakOrder, IsTotalOrder}
use Rattle.std.specs.Fn.{Called}
use Rattle.std.specs.List.Sorted.{IsPermutation, IsSortedByClosure, IsStableByClosure}
use Rattle.std.specs.Ordering.{is_lt, nat_cmp, on, ordering_then, then_cmp}
use Rattle.std.specs.declared.cmp.Ordering.{Ordering}
use Rattle.std.specs.declared.cmp.Ordering.TheVariants.{Less, Equal, Greater}
use Rattle.std.proofs.lemmas.Cmp.{nat_cmp_total, on_total, then_total}
use Rattle.std.proofs.lemmas.Fn.{always_returns_same}
use Rattle.std.proofs.lemmas.List.MinMax.{ranks_by}
use denote.Ref.{Bor}
use denote.Param.Members.{Mut}
use Rattle.psg_grammar.specs.Keys.{then_by}
use Rattle.std.specs.List.{AllByRecursion}
use Rattle.std.proofs.lemmas.Option.{none-some, same_Some}
use Rattle.psg_grammar.specs.declared.types.Definition.{Definition}
use Rattle.psg_grammar.specs.declared.types.Kind.{Kind}
use Rattle.psg_grammar.specs.declared.types.Kind.TheVariants as kinds
use Rattle.psg_grammar.specs.Declaring.{is_declaring}
use Rattle.psg_grammar.specs.Fragments.{Fragment, hole, ending, cell, operator, with_child, with_name, with_number}
use Rattle.psg_grammar.specs.Fragments.{with_text, anything, observed}
use Rattle.psg_grammar.specs.Sound.{IsSound}
use Rattle.psg_grammar.specs.WellFormed.{WellFormed, fixed_words}
use Rattle.psg_completions.specs.Conditions.{HasTrueRows}
use Rattle.psg_lexis.specs.Faults.{HasFault, OrMemory}
use Rattle.psg_lexis.specs.declared.token.LexFault.TheVariants as lex_faults
use Rattle.psg_lexis.specs.Tokens.{IsFixedWord}
use Rattle.psg_lexis.specs.declared.token.LexFault.{LexFault}
use Rattle.psg_lexis.specs.declared.token.Spanned.{Spanned}
use Rattle.psg_class.specs.Class.{IsClass}
use Rattle.psg_class.specs.Texts.{TextTokens, tokens_of}
use Rattle.psg_grammar.specs.Sizes.{IsBig}
use Rattle.psg_parse.specs.Answers.{IsFault, IsParsed, Reads}
use Rattle.psg_parse.specs.declared.fault.Goal.{Goal}
use Rattle.psg_parse.specs.declared.fault.ParseFault.{ParseFault}
use Rattle.psg_parse.specs.declared.fault.ParseFault.TheVariants as faults
use Rattle.psg_parse.specs.Stops.{MayEnd}
use Rattle.psg_places.specs.Places.{declares, declares_among}
use Rattle.psg_program.specs.Decoding.{unmarked}
use Rattle.psg_program.specs.Messages.{byte_of, deep_message, lexical_message, no_utf8_message}
use Rattle.psg_program.specs.Programs.{goal_of}
use Rattle.psg_program.proofs.Accepted.{can_end}
use Rattle.psg_ranges.specs.declared.ranges.Range.{Range}
use Rattle.psg_ranges.specs.Forests.{Forest, nodes_of, ranges_in}
use Rattle.psg_specimen.specs.Languages.{IsDeclaringPhylum}
use Rattle.psg_specimen.specs.Refusal.{IsAccepted}
use Rattle.psg_specimen.proofs.TrueRows.{true_rows}
use Rattle.psg_stop.specs.Accepted.{CanEnd}
use Rattle.psg_recover.specs.declared.finding.Finding.{Finding}
use Rattle.psg_recover.specs.Findings.{AreInOrder, error_at, has_error, order, rank}
use Rattle.psg_recover.specs.Grammars.{quiet}
use Rattle.psg_recover.specs.Lost.{is_lost, left_out}
use Rattle.psg_recover.specs.Readers.{IsReadText}
use Rattle.psg_recover.specs.Recovery.{AreStops, HasStops, all_read, last_stop, read_on}
use Rattle.psg_recover.specs.TextPlaces.{IsRead, Read}
use Rattle.psg_recover.proofs.LeftLaws.{leaves_trees}
use Rattle.psg_recover.proofs.StandLaws.{read_stand_ins, yield_stand_ins}
use Rattle.psg_lint.specs.declared.reporting.Linting.{Linting}
use Rattle.psg_eval.specs.SpaceTables.{AreDeclaringSpaces}
use Rattle.psg_grammar.specs.Kinds.{HasKind}
use Rattle.psg_parse.specs.Tables.{IsParseTable}
use Rattle.psg_recover.specs.Reads.{own_spanned}
use Rattle.psg_recover.proofs.QuietSound.{quiet_ends, quiet_of_class}
use Rattle.psg_lint.specs.declared.reporting.Report.{Report}
use Rattle.psg_lint.specs.Linted.{IsLinting}
use Rattle.psg_lint.specs.Reports.{AreFound, AreJudged, IsReport, deep, is_judged, judged, no_text, no_tokens, only_stops}
use Rattle.psg_lint.specs.Shown.{IsReportOf, IsShownReport, IsTextReport}

-- ---- reports

pub report_is : (def : Definition) (kind : Kind) (bytes text : List ℕ) (limited more : Bool) (found : List Finding) (report : Report)
    → report.found.items ≡ found → report.more ≡ more → IsReport def kind bytes text limited found more
    → IsReportOf def kind bytes report
report_is def kind bytes text limited more found report f m h = record {
  text = text;
  limited = limited;
  is = subst (λ b. IsReport def kind bytes text limited report.found.items b) (sym m)
      (subst (λ fs. IsReport def kind bytes text limited fs more) (sym f) h);
}

pub no_text_report : (def : Definition) (kind : Kind) (bytes : List ℕ) (count : ℕ) (report : Report)
    → report.found.items ≡ error_at count no_utf8_message ∷ [] → report.more ≡ false → IsValidUpTo (unmarked bytes) count
    → IsReportOf def kind bytes report
no_text_report def kind bytes count report f m valid =
    report_is def kind bytes (take count (unmarked bytes)) false false (error_at count no_utf8_message ∷ []) report f m (no_text count valid)

pub no_tokens_report : (def : Definition) (kind : Kind) (text : List ℕ) (fault : LexFault) (report : Report)
    → report.found.items ≡ error_at (byte_of fault) (lexical_message fault) ∷ [] → report.more ≡ false
    → HasFault (fixed_words def) (chars text) 0 fault → IsTextReport def kind text report
no_tokens_report def kind text fault report f m h bytes e u =
    report_is def kind bytes (unmarked bytes) false false (error_at (byte_of fault) (lexical_message fault) ∷ []) report f m
    (no_tokens fault (subst IsUtf8 (sym e) u) (subst (λ t. HasFault (fixed_words def) (chars t) 0 fault) (sym e) h))

pub stops_report : (def : Definition) (kind : Kind) (text : List ℕ) (stops : List Finding) (report : Report)
    → HasStops def kind text stops None → AreInOrder stops report.found.items → report.more ≡ false
    → IsTextReport def kind text report
stops_report def kind text stops report h order m bytes e u =
    report_is def kind bytes (unmarked bytes) false false report.found.items report refl m
    (only_stops stops report.found.items (subst IsUtf8 (sym e) u) (subst (λ t. HasStops def kind t stops None) (sym e) h) order)

pub judged_report : (def : Definition) (kind : Kind) (text : List ℕ) (stops found told : List Finding) (tokens : List Spanned)
    (limited more : Bool) (report : Report) → HasStops def kind text stops (Some tokens) → told ≡ stops ++ found
    → AreJudged def kind text (has_error stops) tokens limited found more → AreInOrder told report.found.items
    → report.more ≡ more → IsTextReport def kind text report
judged_report def kind text stops found told tokens limited more report h all are order m bytes e u =
    report_is def kind bytes (unmarked bytes) limited more report.found.items report refl m
    (is_judged stops found report.found.items tokens limited more (subst IsUtf8 (sym e) u)
    (subst (λ t. HasStops def kind t stops (Some tokens)) (sym e) h)
    (subst (λ t. AreJudged def kind t (has_error stops) tokens limited found more) (sym e) are)
    (subst (λ fs. AreInOrder fs report.found.items) all order))

-- a fault that is told is one of the text
pub real_fault : (P : LexFault → Type 0) (fault : LexFault) → (fault ≡ lex_faults.Memory → ⊥) → OrMemory P fault → P fault
real_fault P fault real h = elim h [ inl m ↦ absurd (real m) | inr is ↦ is ]

pub told_fault : (fault own : LexFault) (found : List Finding) → fault ≡ own
    → found ≡ error_at (byte_of own) (lexical_message own) ∷ [] → found ≡ error_at (byte_of fault) (lexical_message fault) ∷ []
told_fault fault own found is e = e ∙ ap (λ (f : LexFault). error_at (byte_of f) (lexical_message f) ∷ []) (sym is)

-- ---- their order

then_is : (a b : Ordering) → ordering_then a b ≡ then_by a b
then_is Less b = refl
then_is Equal b = refl
then_is Greater b = refl

abbrev rank_in : Finding → ℕ
rank_in f = rank f.grade

abbrev byte_in : Finding → ℕ
byte_in f = f.byte

abbrev by_both : Finding → Finding → Ordering
by_both = then_cmp (on byte_in nat_cmp) (on rank_in nat_cmp)

total_order : IsTotalOrder by_both
total_order = then_total (on_total byte_in nat_cmp_total) (on_total rank_in nat_cmp_total)

ranks_both : IsStrictWeakOrder (λ (f g : Finding). is_lt (by_both f g))
ranks_both = ranks_by total_order (λ (f : Finding). f)

below_is : (f g : Finding) → is_lt (by_both f g) ≡ is_lt (order f g)
below_is f g = ap is_lt (then_is (nat_cmp f.byte g.byte) (nat_cmp (rank f.grade) (rank g.grade)))

ranks : IsStrictWeakOrder (λ (f g : Finding). is_lt (order f g))
ranks = record {
  one_way = λ f g h. sym (below_is g f) ∙ ranks_both.one_way f g (below_is f g ∙ h);
  chain = λ f g k a b. sym (below_is f k) ∙ ranks_both.chain f g k (below_is f g ∙ a) (below_is g k ∙ b);
}

-- a sort by a closure that compares so
pub in_order : {F : Type 0} {g : Mut F (Bor Finding × (Bor Finding × Unit {0})) Ordering} {f : F} (before behind : List Finding)
    → IsPermutation before behind → IsSortedByClosure g f behind → IsStableByClosure g f before behind
    → ((a : Bor Finding × (Bor Finding × Unit {0})) (r : Ordering) (f' : F) → Called g f a r f'
    → (r ≡ order a.0.now a.1.0.now) × (f' ≡ f))
    → AreInOrder before behind
in_order {g = g} {f = f} before behind same up stable h =
    let compares = always_returns_same g (λ a r. is_lt r ≡ is_lt (order a.0.now a.1.0.now)) f
    (λ a r f' k. (ap is_lt (h a r f' k).0, (h a r f' k).1)) in record {
      same = same;
      order_is = up (λ (x y : Finding). is_lt (order x y)) ranks compares;
      stable = stable (λ (x y : Finding). is_lt (order x y)) ranks compares;
    }

-- ---- what is read at last

or_true : (a b : Bool) → (a || b) ≡ true → (a ≡ true) ⊎ (b ≡ true)
or_true true b e = inl refl
or_true false b e = inr e

last_ends : (def : Definition) (kind : Kind) (text : List ℕ) (n : ℕ) (ts : List Spanned) (found : List Finding)
    (last : Option (List Spanned)) → AreStops def kind text n ts found last → (tokens : List Spanned) → last ≡ Some tokens
    → MayEnd (quiet def) kind 0 (tokens_of tokens)
last_ends def kind text n ts found last (all_read m us may) tokens e =
    subst (λ (xs : List Spanned). MayEnd (quiet def) kind 0 (tokens_of xs)) (same_Some us tokens e) may
last_ends def kind text n ts found last (last_stop m k us told is ends) tokens e = absurd (none-some tokens e)
last_ends def kind text n ts found last (read_on m k j i p us phylum told is lt best rest) tokens e =
    last_ends def kind text (suc n) _ _ last rest tokens e

pub may_end : (def : Definition) (kind : Kind) (text : List ℕ) (stops : List Finding) (tokens : List Spanned)
    → HasStops def kind text stops (Some tokens) → MayEnd (quiet def) kind 0 (tokens_of tokens)
may_end def kind text stops tokens h = last_ends def kind text 0 _ stops (Some tokens) h.stops tokens refl

among : (def : Definition) (n p : ℕ) → declares_among def n p ≡ true → IsDeclaringPhylum def (kinds.Phylum p)
among def zero p e = absurd (true≢false (sym e))
among def (suc n) p e = elim (or_true (is_declaring def n (kinds.Phylum p)) (declares_among def n p) e) [
  | inl here ↦ (n, here)
  | inr rest ↦ among def n p rest
]

-- the whole is not lost, where its kind declares nothing
pub not_lost : (def : Definition) (kind : Kind) (whole : Fragment) → (IsDeclaringPhylum def kind → ⊥)
    → WellFormed (quiet def) whole kind → is_lost def whole ≡ false
not_lost def kind (hole p) never h = by_test (declares def p) refl where
  by_test : (b : Bool) → declares def p ≡ b → b ≡ false
  by_test true e = absurd (never (subst (IsDeclaringPhylum def) (sym h.0.1) (among def (length def.spaces) p e)))
  by_test false e = refl
not_lost def kind (ending l u) never h = refl
not_lost def kind (cell l e r) never h = refl
not_lost def kind (operator o) never h = refl
not_lost def kind (with_child f t) never h = refl
not_lost def kind (with_name f x) never h = refl
not_lost def kind (with_number f x) never h = refl
not_lost def kind (with_text f x) never h = refl
not_lost def kind anything never h = refl
not_lost def kind (observed f) never h = refl

pub left_formed : (def : Definition) → CanEnd def → (kind : Kind) (text : List ℕ) (stops : List Finding) (tokens : List Spanned)
    (whole : Fragment) → (IsDeclaringPhylum def kind → ⊥) → HasStops def kind text stops (Some tokens)
    → IsParsed (quiet def) (goal_of kind) tokens whole → WellFormed (quiet def) whole kind
    → WellFormed def (left_out def whole) kind
left_formed def can kind text stops tokens whole never h parsed formed =
    leaves_trees def can kind whole formed
    (yield_stand_ins def whole kind 0 parsed.nesting (tokens_of tokens) parsed.reads
    (read_stand_ins def can.sound kind text stops (Some tokens) tokens h refl))
    (not_lost def kind whole never formed)

pub rows_true : (def : Definition) → IsAccepted def → HasTrueRows def
rows_true def h = true_rows def h.met

-- what the ranges are of, where the grammar is that in which nothing declares
pub was_read : (def q : Definition) (kind : Kind) (goal : Goal) (tokens : List Spanned) (whole : Fragment) (ranges : List Range)
    → q ≡ quiet def → goal ≡ goal_of kind → IsParsed q goal tokens whole
    → ((nesting : ℕ) (y : Reads q goal tokens whole nesting)
    → ranges ≡ ranges_in (nodes_of q whole goal.kind goal.least nesting (tokens_of tokens) y))
    → (nodes : Forest) × IsRead def kind tokens whole nodes × (ranges_in nodes ≡ ranges)
was_read def q kind goal tokens whole ranges same is parsed are =
    let Says : Definition → Goal → Type 0 =
    λ d g. IsParsed d g tokens whole → ((nesting : ℕ) (y : Reads d g tokens whole nesting)
    → ranges ≡ ranges_in (nodes_of d whole g.kind g.least nesting (tokens_of tokens) y))
    → (nodes : Forest) × IsRead def kind tokens whole nodes × (ranges_in nodes ≡ ranges) in
    let base : Says (quiet def) (goal_of kind) = λ own all. (
      nodes_of (quiet def) whole kind 0 own.nesting (tokens_of tokens) own.reads,
      record { nesting = own.nesting; yields = own.reads; nodes_are = refl },
      sym (all own.nesting own.reads),
    ) in
    subst (λ d. Says d goal) (sym same) (subst (λ g. Says (quiet def) g) (sym is) base) parsed are

pub parsed_so : (def q : Definition) (kind : Kind) (goal : Goal) (tokens : List Spanned) (whole : Fragment) → q ≡ quiet def
    → goal ≡ goal_of kind → IsParsed q goal tokens whole → IsParsed (quiet def) (goal_of kind) tokens whole
parsed_so def q kind goal tokens whole same is h =
    subst (λ g. IsParsed (quiet def) g tokens whole) is (subst (λ d. IsParsed d goal tokens whole) same h)

pub fault_so : (def q : Definition) (kind : Kind) (goal : Goal) (tokens : List Spanned) (fault : ParseFault) → q ≡ quiet def
    → goal ≡ goal_of kind → IsFault q goal tokens fault → IsFault (quiet def) (goal_of kind) tokens fault
fault_so def q kind goal tokens fault same is h =
    subst (λ g. IsFault (quiet def) g tokens fault) is (subst (λ d. IsFault d goal tokens fault) same h)

pub formed_so : (def q : Definition) (kind : Kind) (goal : Goal) (whole : Fragment) → q ≡ quiet def → goal ≡ goal_of kind
    → WellFormed q whole goal.kind → WellFormed (quiet def) whole kind
formed_so def q kind goal whole same is h =
    subst (λ g. WellFormed (quiet def) whole g.kind) is (subst (λ d. WellFormed d whole goal.kind) same h)

pub some_tree : (def : Definition) (kind : Kind) (text : List ℕ) (stops : List Finding) (tokens : List Spanned) (fault : ParseFault)
    → HasStops def kind text stops (Some tokens) → IsFault (quiet def) (goal_of kind) tokens fault → fault ≡ faults.NoTree → ⊥
some_tree def kind text stops tokens fault h is e =
    let none = subst (IsFault (quiet def) (goal_of kind) tokens) e is in
    let (f, nesting, yields) = may_end def kind text stops tokens h in none f nesting yields

pub too_deep : (def : Definition) (kind : Kind) (text : List ℕ) (stopped : Bool) (tokens : List Spanned) (fault : ParseFault)
    → IsFault (quiet def) (goal_of kind) tokens fault → fault ≡ faults.Deep
    → AreJudged def kind text stopped tokens false (error_at 0 deep_message ∷ []) false
too_deep def kind text stopped tokens fault is e = deep (subst (IsFault (quiet def) (goal_of kind) tokens) e is)

-- ---- the program that is left

pub judged_left : (def own : Definition) (kind : Kind) (text : List ℕ) (stopped limited more : Bool) (tokens : List Spanned)
    (whole tree : Fragment) (nodes : Forest) (told : List Finding) → own ≡ def → IsParsed (quiet def) (goal_of kind) tokens whole
    → IsRead def kind tokens whole nodes → tree ≡ left_out def whole → WellFormed def tree kind → (IsBig tree → ⊥)
    → AreFound own text tree (record { tokens = tokens; whole = whole; nodes = nodes }) stopped limited told more
    → AreJudged def kind text stopped tokens limited told more
judged_left def own kind text stopped limited more tokens whole tree nodes told same parsed read left formed small found =
    let r : Read = record { tokens = tokens; whole = whole; nodes = nodes } in
    judged r limited told more refl parsed read (subst (λ t. WellFormed def t kind) left formed) (subst (λ t. IsBig t → ⊥) left small)
    (subst (λ t. AreFound def text t r stopped limited told more) left
    (subst (λ d. AreFound d text tree r stopped limited told more) same found))

pub ends_of : (l : Linting) → IsLinting l → CanEnd l.language.now
ends_of l h = can_end l.language.now (subst IsSound h.same h.reader.known.sound) h.accepted h.words

pub left_is : (l : Linting) → IsLinting l → (whole tree : Fragment) → tree ≡ left_out l.reader.known.definition.now whole
    → tree ≡ left_out l.language.now whole
left_is l h whole tree e = e ∙ ap (λ d. left_out d whole) h.same

-- the text that is read, and its stops
pub stops_of : (l : Linting) → IsLinting l → (tokens : List Spanned) (stops : List Finding) (last : Option (List Spanned))
    → IsReadText l.language.now l.text.now tokens
    → AreStops l.reader.known.definition.now l.reader.kind l.text.now 0 tokens stops last
    → HasStops l.language.now l.reader.kind l.text.now stops last
stops_of l h tokens stops last read are = record {
  tokens = read.written;
  are = read.are;
  stops = subst (λ ts. AreStops l.language.now l.reader.kind l.text.now 0 ts stops last) read.read
      (subst (λ d. AreStops d l.reader.kind l.text.now 0 tokens stops last) h.same are);
}

-- its last tokens, as they are lent
pub last_row : (def : Definition) (kind : Kind) (text : List ℕ) (told : List Finding) (last : Option (List Spanned))
    (row tokens : List Spanned) → HasStops def kind text told last → last ≡ Some row → tokens ≡ row
    → HasStops def kind text told (Some tokens)
last_row def kind text told last row tokens h e v =
    subst (λ (ts : List Spanned). HasStops def kind text told (Some ts)) (sym v) (subst (HasStops def kind text told) e h)

pub no_row : (def : Definition) (kind : Kind) (text : List ℕ) (told : List Finding) (last : Option (List Spanned))
    → HasStops def kind text told last → last ≡ None → HasStops def kind text told None
no_row def kind text told last h e = subst (HasStops def kind text told) e h

-- what reads a text, with the parts of its language
pub linting_of : (l : Linting) → l.reader.known.definition.now ≡ l.language.now → IsSound l.language.now → IsAccepted l.language.now
    → AllByRecursion IsFixedWord (fixed_words l.language.now)
    → AreDeclaringSpaces l.reader.known.definition.now l.reader.known.spaces.now
    → l.reader.grammar.now.definition ≡ quiet l.reader.known.definition.now
    → IsParseTable l.reader.grammar.now.definition l.reader.grammar.now.table → HasKind l.language.now l.reader.kind
    → (IsDeclaringPhylum l.language.now l.reader.kind → ⊥) → IsLinting l
linting_of l same sound accepted words spaces grammar table kind still =
    let own = l.reader.known.definition.now in
    let back = sym same in
    let ends = subst CanEnd back (can_end l.language.now sound accepted words) in record {
      reader = record {
        known = record { sound = subst IsSound back sound; spaces = spaces };
        grammar = grammar;
        table = table;
        class = quiet_of_class own ends (subst IsClass back accepted.of_class);
        can_end = quiet_ends own ends;
        kind = subst (λ (d : Definition). HasKind d l.reader.kind) back kind;
      };
      same = same;
      quiet = still;
      accepted = accepted;
      words = words;
    }

pub read_text : (def own : Definition) (text : List ℕ) (tokens row : List Spanned) → own ≡ def → TextTokens def text tokens
    → row ≡ map (own_spanned own) tokens → IsReadText def text row
read_text def own text tokens row same are read = record {
  written = tokens;
  are = are;
  read = read ∙ ap (λ (d : Definition). map (own_spanned d) tokens) same;
}

-- ---- its lines

module _ (def : Definition) (kind : Kind) (bytes file : List ℕ) (shown : List ℕ) (report : Report) where
  shown_text : (text : List ℕ) (limited more : Bool) (found : List Finding) → IsReport def kind bytes text limited found more
      → (IsUtf8 (unmarked bytes) → IsShownReport (unmarked bytes) file report shown)
      → ((count : ℕ) → IsValidUpTo (unmarked bytes) count → IsShownReport (take count (unmarked bytes)) file report shown)
      → IsShownReport text file report shown
  shown_text text limited more found (no_text count valid) whole part = part count valid
  shown_text text limited more found (no_tokens fault u h) whole part = whole u
  shown_text text limited more found (only_stops stops sorted u h order) whole part = whole u
  shown_text text limited more found (is_judged stops own sorted tokens l m u h are order) whole part = whole u

  -- they are in the text of the report
  pub shown_so : (r : IsReportOf def kind bytes report) → (IsUtf8 (unmarked bytes) → IsShownReport (unmarked bytes) file report shown)
      → ((count : ℕ) → IsValidUpTo (unmarked bytes) count → IsShownReport (take count (unmarked bytes)) file report shown)
      → IsShownReport r.text file report shown
  shown_so r whole part = shown_text r.text r.limited report.more report.found.items r.is whole part
