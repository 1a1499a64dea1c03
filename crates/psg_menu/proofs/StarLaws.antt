-- The name that stands for all candidates, and what the level at the top says of each of them.
use Rattle.std.proofs.Common.{◌≡◌, ◌↔◌, ℕ, zero, suc, ◌+◌, ◌*◌, ◌<◌, ◌≤◌, ◌==◌, Bool, false, List, [], ◌∷◌, get_or, length, bytes_eq, Option, Some, slice_get, refl, ap, sym, ◌∙◌, subst, IsTrue, arith}
use Rattle.std.proofs.lemmas.Bool.{eqb-false, or_parts}
use Rattle.std.proofs.lemmas.List.{append-nil}
use Rattle.psg_terms.proofs.Lists.{each_at}
use Rattle.std.specs.List.{AllByRecursion}
use Rattle.std.specs.Prelude.{IfOk, Result, Ok, Err, sum_by}
use Rattle.psg_terms.specs.Names.{Name, is_among}
use Rattle.psg_terms.specs.Relations.{IsIn, first, later}
use Rattle.psg_grammar.specs.declared.types.Kind.{Kind}
use Rattle.psg_grammar.specs.declared.types.Kind.TheVariants as kinds
use Rattle.psg_grammar.specs.declared.types.Operator.{Operator}
use Rattle.psg_grammar.specs.declared.types.Definition.{Definition}
use Rattle.psg_grammar.specs.Fragments.{Fragment}
use Rattle.psg_grammar.specs.Open.{IsOpen}
use Rattle.psg_grammar.specs.Paths.{Path}
use Rattle.psg_grammar.specs.Sound.{IsSound}
use Rattle.psg_grammar.specs.Steps.{PassesAt, last_step}
use Rattle.psg_grammar.specs.WellFormed.{IsName}
use Rattle.psg_scope.specs.declared.header.NameCol.{NameCol}
use Rattle.psg_scope.specs.Headers.{keys}
use Rattle.psg_relation.specs.Fewer.{FewerColumns}
use Rattle.psg_relation.proofs.FewerLaws.{fewer}
use Rattle.psg_eval.specs.declared.frame.Frame.{Frame}
use Rattle.psg_eval.specs.declared.question.FocusFault.{FocusFault}
use Rattle.psg_eval.specs.declared.question.FocusFault.TheVariants as questions
use Rattle.psg_eval.specs.declared.summary.EvalFault.{EvalFault}
use Rattle.psg_eval.specs.declared.summary.SummaryParts.{SummaryParts}
use Rattle.psg_eval.specs.Frames.{StandAt}
use Rattle.psg_eval.specs.Questions.{IsAsked}
use Rattle.psg_eval.specs.Summaries.{Answers, AreSummariesOf, IsSummary, IsSummaryOf, StaysWithin, are_names, slot_kinds}
use Rattle.psg_eval.specs.Trees.{IsNode}
use Rattle.psg_renaming.proofs.Law.{no_word}
use Rattle.psg_menu.specs.declared.entries.Entry.{Entry}
use Rattle.psg_menu.specs.declared.sharing.Level.{Level}
use Rattle.psg_menu.specs.Answers.{IsNamesAnswer}
use Rattle.psg_menu.specs.Sharing.{AreApart, FailsOn, IsLevel, IsLevelAnswer, IsNamed, IsUsual, IsWholeAnswer, IsWithin, Reaches, rises_of}
use Rattle.psg_menu.specs.Trials.{AreBlanks, AreNewWords, IsBlank, IsTried}
use Rattle.psg_menu.proofs.Levels.{name_got, no_keys, placed_at}
use Rattle.psg_menu.proofs.NameLaws.{names_fault}
use Rattle.psg_menu.proofs.OpenRows.{open_rows, rows_open}
use Rattle.psg_menu.proofs.SharedWay.{open_as, own_fails, within_as}
use Rattle.psg_menu.proofs.TrialLaws.{asked_if, asked_ok, asked_wide, silent_below}
use Rattle.psg_menu.proofs.Ways.{tried_fails, tried_stands}

-- ---- the name is another one than all candidates

no_names : (cols : List NameCol) → keys cols ≡ [] → cols ≡ []
no_names [] e = refl
no_names (c ∷ cols) e = absurd (cc)

-- the answer for the operator's node with these names, whose slots have these trees
abbrev pub IsAnswered : Definition → ℕ → List Name → List SummaryParts → Result SummaryParts EvalFault → Type 0
IsAnswered def o names below made = (f : Fragment) → IsNode def o names f → AreSummariesOf def f below → Answers def f made

-- what the climb begins with
pub record IsStart (def : Definition) (o : ℕ) (below : List SummaryParts) (star : Name) (candidates : List Name) (kind : Kind) (own : SummaryParts) : Type 0 where
  pub apart : AreApart below star candidates
  pub usual : IsUsual def kind own
  pub reach : Reaches def o below star [] own
  pub within : IsWithin def o below star []

module _ (def : Definition) where
  blank_keys : (kind : Kind) (s : SummaryParts) → IsBlank def kind s → s.header.names ≡ []
  blank_keys (kinds.Phylum p) s h = no_names s.header.names h.of.header.keys_are
  blank_keys (kinds.List l) s h = no_names s.header.names h.of.header.keys_are

  quiet_blanks : (ks : List Kind) (ss : List SummaryParts) → AreBlanks def ks ss → AllByRecursion (λ (s : SummaryParts). s.header.names ≡ []) ss
  quiet_blanks [] [] h = tt
  quiet_blanks [] (s ∷ ss) h = absurd h
  quiet_blanks (k ∷ ks) [] h = absurd h
  quiet_blanks (k ∷ ks) (s ∷ ss) (one, h) = (blank_keys k s one, quiet_blanks ks ss h)

  other_words : (star : Name) (ns : List Name) → AllByRecursion (IsName def) ns → is_among ns star ≡ false → AllByRecursion (λ n. (bytes_eq n star ≡ false) × (bytes_eq n [] ≡ false)) ns
  other_words star [] h e = tt
  other_words star (n ∷ ns) (word, h) e =
      let (one, rest) = or_parts (bytes_eq n star) (is_among ns star) e in
      ((one, no_word def n word), other_words star ns h rest)

  pub star_apart : (op : Operator) (below : List SummaryParts) (star : Name) (candidates words : List Name) → AreBlanks def (slot_kinds def op.items) below → AllByRecursion (IsName def) candidates
      → length words ≡ 1 → star ≡ get_or words 0 star → AreNewWords def candidates words → AreApart below star candidates
  star_apart op below star candidates [] blanks names one is new = absurd (omega (arith, one))
  star_apart op below star candidates (w ∷ words) blanks names one is new =
      let (word, other) = new.each.0 in
      record {
        quiet = quiet_blanks (slot_kinds def op.items) below blanks;
        others = other_words star candidates names (subst (λ n. is_among candidates n ≡ false) (sym is) other);
        some = no_word def star (subst (IsName def) (sym is) word);
      }

  pub only_star : (star : Name) (words : List Name) → length words ≡ 1 → star ≡ get_or words 0 star → words ≡ star ∷ []
  only_star star [] one is = absurd (omega (arith, one))
  only_star star (w ∷ []) one is = ap (λ n. n ∷ []) (sym is)
  only_star star (w ∷ v ∷ words) one is = absurd (omega (arith, one))

  -- ---- its own summary

  module _ (around : List Frame) (o : ℕ) (op : Operator) (found : slice_get def.operators o ≡ Some op) (below : List SummaryParts) (blanks : AreBlanks def (slot_kinds def op.items) below) where
    abbrev pub IsMade : Name → Result SummaryParts EvalFault → Type 0
    IsMade star made = IsAnswered def o (star ∷ []) below made

    pub star_reaches : (star : Name) (made : Result SummaryParts EvalFault) (own : SummaryParts) → IsMade star made → IsAsked made (Ok own) → Reaches def o below star [] own
    star_reaches star made own answer asked u t e named =
        subst (λ x. IsSummaryOf def x own) (sym e) (asked_ok made own (Answers def t) (answer t named.node named.children) asked).0

    pub star_within : (star : Name) (made : Result SummaryParts EvalFault) (own : SummaryParts) → IsMade star made → IsAsked made (Ok own) → IsWithin def o below star []
    star_within star made own answer asked u t e named =
        subst (StaysWithin def) (sym e) (asked_ok made own (Answers def t) (answer t named.node named.children) asked).1

    pub star_usual : (made : Result SummaryParts EvalFault) (own : SummaryParts) → IfOk made (IsSummary def)
        → IfOk made (λ (s : SummaryParts). (p : Operator) → slice_get def.operators o ≡ Some p → s.kind ≡ kinds.Phylum p.phylum)
        → IfOk made (λ (s : SummaryParts). s.seen ≡ sum_by (λ (c : SummaryParts). c.seen) below) → IsAsked made (Ok own) → IsUsual def (kinds.Phylum op.phylum) own
    star_usual made own usual kind seen asked = record {
      usual = asked_if made own (IsSummary def) usual asked;
      of_kind = asked_if made own (λ (s : SummaryParts). (p : Operator) → slice_get def.operators o ≡ Some p → s.kind ≡ kinds.Phylum p.phylum) kind asked op found;
      silent = asked_if made own (λ (s : SummaryParts). s.seen ≡ sum_by (λ (c : SummaryParts). c.seen) below) seen asked ∙ silent_below def around o op found [] below blanks;
    }

    pub star_start : (star : Name) (candidates words : List Name) (made : Result SummaryParts EvalFault) (own : SummaryParts) → length words ≡ 1 → star ≡ get_or words 0 star → AreNewWords def candidates words
        → AllByRecursion (IsName def) candidates → IsAnswered def o words below made → IfOk made (IsSummary def)
        → IfOk made (λ (s : SummaryParts). (p : Operator) → slice_get def.operators o ≡ Some p → s.kind ≡ kinds.Phylum p.phylum)
        → IfOk made (λ (s : SummaryParts). s.seen ≡ sum_by (λ (c : SummaryParts). c.seen) below) → IsAsked made (Ok own) → IsStart def o below star candidates (kinds.Phylum op.phylum) own
    star_start star candidates words made own one at new names answer usual kind seen asked =
        let mine = subst (λ (ns : List Name). IsAnswered def o ns below made) (only_star star words one at) answer in
        record {
          apart = star_apart op below star candidates words blanks names one at new;
          usual = star_usual made own usual kind seen asked;
          reach = star_reaches star made own mine asked;
          within = star_within star made own mine asked;
        }

    module _ (sound : IsSound def) (candidates : List Name) where
      light : FewerColumns def.signature
      light = fewer def.signature sound.signature

      -- the operator's own node passes the limit
      pub star_fault : (star : Name) (made : Result SummaryParts EvalFault) (fault : FocusFault) → AreApart below star candidates → (length candidates == 0) ≡ false → IsMade star made
          → IsAsked made (Err fault) → IsWholeAnswer def o below candidates (rises_of around) (Err fault)
      star_fault star made questions.Memory apart some answer asked = tt
      star_fault star made questions.Wide apart some answer asked = at_first candidates apart some where
        at_first : (ns : List Name) → AreApart below star ns → (length ns == 0) ≡ false → FailsOn def o below ns (rises_of around)
        at_first [] apart some = absurd (eqb-false 0 0 some refl)
        at_first (n ∷ ns) apart some =
            let (other, some_n) = apart.others.0 in
            let fails : (t : Fragment) → IsNamed def o below star t → (k : ℕ) × (k ≤ last_step def t) × PassesAt def t k = λ t named.
            let (step, h) = asked_wide made (Answers def t) (answer t named.node named.children) asked in
            (step, h.there, h.passes) in
            record {
              front = rises_of around;
              done = [];
              split = sym (append-nil (rises_of around));
              failed = record { name = n; there = first; fails = own_fails def sound light n star other some_n apart.some o below (no_keys def sound n star below apart.quiet) fails };
            }

      -- ---- the top

      -- whether the fragment is open with the candidate
      pub candidate_tried : (star : Name) (top : Kind) (level : Level) (i : ℕ) (n : Name) (good : Bool) → AreApart below star candidates → IsLevel def o below star (rises_of around) top candidates level
          → i < length candidates → n ≡ get_or candidates i n
          → ((e : Entry) → slice_get level.entries.items (get_or level.places.items i 0) ≡ Some e → IsTrue good ↔ ((e.own.rel ≡ []) → ⊥)) → IsTried def around o (n ∷ []) (Ok good)
      candidate_tried star top level i n good apart is l at tells =
          let (e, here, stands) = placed_at def o below star (rises_of around) level.entries.items candidates level.places.items i n l at is.placed in
          let mine = each_at (λ (x : Entry). IsUsual def top x.own) level.entries.items is.usual (get_or level.places.items i 0) e here in
          let (other, some_n) = name_got (λ m. (bytes_eq m star ≡ false) × (bytes_eq m [] ≡ false)) candidates i n l at apart.others in
          let quiet = no_keys def sound n star below apart.quiet in
          let judged : (f : Fragment) → IsSummaryOf def f e.own → IsTrue good ↔ IsOpen def f = λ f of. (
            (λ g. rows_open def e.own mine.usual mine.silent f of ((tells e here).0 g)),
            (λ h. (tells e here).1 (open_rows def e.own mine.usual mine.silent f of h)),
          ) in
          tried_stands def around o op found n below blanks good
          (open_as def sound light n star other some_n apart.some o below quiet e.shared (rises_of around) e.own good judged stands)
          (within_as def sound light n star other some_n apart.some o below quiet e.shared (rises_of around) e.own stands)

      pub whole_top : (star : Name) (result : Result Level FocusFault) → AreApart below star candidates → (top : Kind) × IsLevelAnswer def o below star candidates (rises_of around) top result
          → IsWholeAnswer def o below candidates (rises_of around) result
      whole_top star (Ok level) apart (top, is) = (star, top, apart, is)
      whole_top star (Err questions.Wide) apart (top, fails) = fails
      whole_top star (Err questions.Memory) apart h = tt

      in_index : (n : Name) (ns : List Name) → IsIn n ns → (i : ℕ) × (i < length ns) × (n ≡ get_or ns i n)
      in_index n [] i = elim i [ ]
      in_index n (m ∷ ns) first = (0, omega arith, refl)
      in_index n (m ∷ ns) (later j) = let (i, l, e) = in_index n ns j in (suc i, omega (arith, l), e)

      pub whole_fault : (fault : FocusFault) → length (are_names def op.items) ≡ 1 → AllByRecursion (IsName def) candidates → IsWholeAnswer def o below candidates (rises_of around) (Err fault)
          → (f : Fragment) (path : Path) (k : Option ℕ) → StandAt def around path k f → IsNamesAnswer def (IsOpen def) f path k o candidates (Err fault)
      whole_fault questions.Memory one names h f path k stand = tt
      whole_fault questions.Wide one names h f path k stand =
          let (i, l, at) = in_index h.failed.name candidates h.failed.there in
          let tried : IsTried def around o (h.failed.name ∷ []) (Err questions.Wide) = tried_fails def around o op found h.failed.name below blanks h.front h.done h.split h.failed.fails in
          names_fault def around o op found one candidates i h.failed.name l at names questions.Wide tried f path k stand

-- what is said of the entry at the place
pub opens_at : (level : Level) (i : ℕ) (good : Bool) (es : List Entry) (ks : List ℕ) → es ≡ level.entries.items → ks ≡ level.places.items
    → ((e : Entry) → slice_get es (get_or ks i 0) ≡ Some e → IsTrue good ↔ ((e.own.rel ≡ []) → ⊥))
    → (e : Entry) → slice_get level.entries.items (get_or level.places.items i 0) ≡ Some e → IsTrue good ↔ ((e.own.rel ≡ []) → ⊥)
opens_at level i good es ks a b said e here =
    said e (subst (λ x. slice_get x (get_or ks i 0) ≡ Some e) (sym a) (subst (λ y. slice_get level.entries.items (get_or y i 0) ≡ Some e) (sym b) here))

-- ---- ticks

pub star_ticks : (many r : ℕ) → (many == 0) ≡ false → 1 + many * r ≤ many * (1 + r)
star_ticks zero r some = absurd (eqb-false 0 0 some refl)
star_ticks (suc m) r some =
    let a : suc m * (1 + r) ≡ suc m + suc m * r = omega arith in
    omega (arith, a)
