-- No line is an error exactly where the bytes are a program that has a completion.
use Rattle.std.proofs.Common.{◌≡◌, inl, inr, ℕ, zero, suc, ◌<◌, ◌≤◌, ◌||◌, Bool, true, false, cond, List, [], ◌∷◌, ◌++◌, map, drop, chars, Option, Some, None, slice_get, refl, ap, ap₂, sym, subst, ◌∙◌, true≢false, arith}
use Rattle.std.specs.List.{AllByRecursion}
use Rattle.std.proofs.lemmas.Bool.{cases_eq}
use Rattle.std.proofs.lemmas.List.Folds.{list_any-append}
use Rattle.std.proofs.lemmas.List.Sorted.{list_any-IsPermutation}
use Rattle.std.proofs.lemmas.Option.{none-some, same_Some}
use Rattle.psg_terms.specs.Names.{Name as Word}
use Rattle.psg_terms.proofs.Lists.{in_at}
use Rattle.psg_grammar.specs.declared.types.Definition.{Definition}
use Rattle.psg_grammar.specs.declared.types.Kind.{Kind}
use Rattle.psg_grammar.specs.declared.types.Phylum.{Phylum}
use Rattle.psg_grammar.specs.Fragments.{Fragment}
use Rattle.psg_grammar.specs.Marks.{Located}
use Rattle.psg_grammar.specs.Open.{IsOpen}
use Rattle.psg_grammar.specs.Paths.{Path}
use Rattle.psg_grammar.specs.Sizes.{IsBig, IsDeep}
use Rattle.psg_grammar.specs.Sound.{IsSound}
use Rattle.psg_grammar.specs.Steps.{steps_of}
use Rattle.psg_grammar.specs.WellFormed.{fixed_words}
use Rattle.psg_lexis.specs.declared.token.Spanned.{Spanned}
use Rattle.psg_lexis.proofs.Laws.{no_fault_with_tokens, only_tokens}
use Rattle.psg_class.specs.Class.{IsClass}
use Rattle.psg_class.specs.Terminals.{Token, dots, numeral, placeholder, quoted, solo, symbols, word}
use Rattle.psg_class.specs.Texts.{ReadsAs, TextTokens, tokens_of}
use Rattle.psg_class.specs.Yields.{Yields}
use Rattle.psg_class.proofs.Law.{only_trees}
use Rattle.psg_cache.specs.declared.note.NoteFault.{NoteFault}
use Rattle.psg_cache.specs.declared.note.NoteFault.TheVariants as faults
use Rattle.psg_cache.specs.Notes.{IsNoteFault, IsWithin}
use Rattle.psg_completions.specs.Conditions.{HasTrueRows}
use Rattle.psg_completions.proofs.Law.{open_or_completable}
use Rattle.psg_places.specs.declared.place.Place.{Place}
use Rattle.psg_places.specs.Answers.{IsOfTree}
use Rattle.psg_places.specs.Blame.{AreAllAnswers, blamed_in}
use Rattle.psg_places.specs.Places.{places_of}
use Rattle.psg_places.proofs.AnswerLaws.{nothing_blamed, repaired_good}
use Rattle.psg_program.specs.Decoding.{unmarked}
use Rattle.psg_program.specs.Programs.{IsProgramText}
use Rattle.psg_stop.specs.Accepted.{CanEnd}
use Rattle.psg_recover.specs.declared.finding.Finding.{Finding}
use Rattle.psg_recover.specs.Findings.{AreInOrder, has_error, is_error}
use Rattle.psg_recover.specs.Grammars.{plain_phylum, quiet}
use Rattle.psg_recover.specs.Lost.{left_out}
use Rattle.psg_recover.specs.Reads.{is_declaring_name, own_spanned, own_token}
use Rattle.psg_recover.specs.Recovery.{AreStops, IsStopTold, all_read, last_stop, read_on}
use Rattle.psg_recover.specs.TextPlaces.{Read}
use Rattle.psg_recover.proofs.FilledLaws.{IsOwnToken, filled_whole, is_filled}
use Rattle.psg_recover.proofs.LosesLaws.{IsYielded, all_yielded, no_stops, own_same, programs_lose_nothing}
use Rattle.psg_recover.proofs.QuietItems.{map_back}
use Rattle.psg_recover.proofs.QuietSound.{quiet_of_class}
use Rattle.psg_recover.proofs.QuietYields.{yields_there}
use Rattle.psg_recover.proofs.StandLaws.{has_name}
use Rattle.psg_uses.specs.Free.{free_uses}
use Rattle.psg_uses.specs.declared.names.Written.{Written}
use Rattle.psg_lint.specs.OpenPlaces.{AreNoted, IsNoted, none_noted, not_open, noted, open_hole, open_list}
use Rattle.psg_lint.specs.Reports.{AreFound, AreJudged, IsFine, IsFineExactly, IsReport, deep, found_limit, found_open, found_wrong, is_judged, judged}
use Rattle.psg_lint.specs.Reports.{large, no_text, no_tokens, only_stops}
use Rattle.psg_lint.specs.Warnings.{warnings}
use Rattle.psg_lint.specs.Wrongs.{AreTold, AreWrong, IsTold, all_told, blamed, by_itself, hopeless, limit_told, none_wrong, one_blamed, one_kept}
use Rattle.psg_lint.specs.Wrongs.{other_name, told_before, trial_limited, trial_told, without_member}
use Rattle.psg_lint.proofs.LineLaws.{whole_valid}

-- ---- errors of lists

or_none : (a b : Bool) → (a || b) ≡ false → (a ≡ false) × (b ≡ false)
or_none true b e = absurd (true≢false e)
or_none false b e = (refl, e)

errors_of : (xs ys : List Finding) → has_error (xs ++ ys) ≡ false → (has_error xs ≡ false) × (has_error ys ≡ false)
errors_of xs ys e = or_none (has_error xs) (has_error ys) (sym (list_any-append is_error xs ys) ∙ e)

none_joined : (xs ys : List Finding) → has_error xs ≡ false → has_error ys ≡ false → has_error (xs ++ ys) ≡ false
none_joined xs ys a b = list_any-append is_error xs ys ∙ ap₂ (λ p q. p || q) a b

sorted_errors : (found sorted : List Finding) → AreInOrder found sorted → has_error found ≡ has_error sorted
sorted_errors found sorted h = list_any-IsPermutation is_error found sorted h.same

-- ---- limits

limit_error : (def : Definition) (r : Read) (fault : NoteFault) (path : Path) → has_error (limit_told def r fault path ∷ []) ≡ true
limit_error def r faults.Deep path = refl
limit_error def r faults.Big path = refl
limit_error def r (faults.Wide at step) path = refl
limit_error def r faults.Heavy path = refl
limit_error def r faults.Memory path = refl

trial_error : (def : Definition) (r : Read) (fault : NoteFault) (path : Path) → has_error (trial_told def r fault path ∷ []) ≡ true
trial_error def r faults.Deep path = refl
trial_error def r faults.Big path = refl
trial_error def r (faults.Wide at step) path = refl
trial_error def r faults.Heavy path = refl
trial_error def r faults.Memory path = refl

limit_within : (def : Definition) (f : Fragment) (fault : NoteFault) → IsNoteFault def f fault → IsOfTree fault → IsWithin def f → ⊥
limit_within def f faults.Deep is real w = w.shallow is
limit_within def f faults.Big is real w = w.small is.1
limit_within def f (faults.Wide path step) is real w =
    let first = is.3 in
    w.narrow (record { path = path; part = is.2; step = step }, in_at (steps_of def [] f) first.number _ first.found, first.passes)
limit_within def f faults.Heavy is real w = w.light is.3
limit_within def f faults.Memory is real w = real

-- ---- where a list goes on

at_drop : {X : Type 0} (xs : List X) (n : ℕ) (x : X) (rest : List X) → drop n xs ≡ x ∷ rest → (slice_get xs n ≡ Some x) × (drop (suc n) xs ≡ rest)
at_drop [] zero x rest e = absurd (cc)
at_drop [] (suc n) x rest e = absurd (cc)
at_drop (y ∷ ys) zero x rest e = let a : y ≡ x = cc in let b : ys ≡ rest = cc in (ap Some a, b)
at_drop (y ∷ ys) (suc n) x rest e = at_drop ys n x rest e

-- ---- what is told of blamed places

module _ (def : Definition) (text : List ℕ) (f : Fragment) (r : Read) where
  module _ (fresh : ℕ → Word) (kept : List Bool) where
    abbrev NoneBefore : ℕ → Type 0
    NoneBefore n = (m : ℕ) → m < n → slice_get kept m ≡ Some false → ⊥

    -- of the first blamed place something is told
    first_told : (n : ℕ) (place : Place) (own : List Finding) → IsTold def text f r fresh kept n place own → NoneBefore n
        → has_error own ≡ false → ⊥
    first_told n place own (told_before path before) h e = h before.before before.earlier before.blamed
    first_told n place own (without_member at path less is never better) h e = true≢false e
    first_told n place own (other_name path number w message is taken) h e = true≢false e
    first_told n place own (by_itself at message without before other is) h e = true≢false e

    none_told : (n : ℕ) (answers : List Bool) (places : List Place) (found : List Finding) → AreTold def text f r fresh kept n answers places found
        → drop n kept ≡ answers → NoneBefore n → has_error found ≡ false → blamed_in answers ≡ 0
    none_told n answers places found (all_told m ps) e h none = refl
    none_told n answers places found (one_kept {answers = more} {places = ps} place rest) e h none =
        let (at, behind) = at_drop kept n true more e in
        let next : NoneBefore (suc n) = λ m lt lost. elim (cases_eq m n) [
          | inl same ↦ true≢false (same_Some true false (sym at ∙ (ap (slice_get kept) (sym same) ∙ lost)))
          | inr other ↦ h m (omega (arith, lt, other)) lost
        ] in
        let zero_more : blamed_in more ≡ 0 = none_told (suc n) more ps found rest behind next none in
        omega (arith, zero_more)
    none_told n answers places found (one_blamed {answers = more} {places = ps} {own = own} {found = others} place is rest) e h none =
        absurd (first_told n place own is h (errors_of own others none).0)

    blamed_told : (found : List Finding) → AreTold def text f r fresh kept 0 kept (places_of def f) found → AreAllAnswers (IsOpen def) def fresh f kept
        → (IsOpen def f → ⊥) → has_error found ≡ false → ⊥
    blamed_told found told answers never e =
        let none : blamed_in kept ≡ 0 = none_told 0 kept (places_of def f) found told refl (λ m lt lost. omega (arith, lt)) e in
        never (subst (IsOpen def) (nothing_blamed (IsOpen def) def fresh f kept answers none) (repaired_good (IsOpen def) def fresh f kept answers))

  wrong_told : (limited more : Bool) (found : List Finding) → AreWrong def text f r limited found more → (IsOpen def f → ⊥)
      → has_error found ≡ false → ⊥
  wrong_told limited more found (none_wrong is) never e = never is
  wrong_told limited more found (hopeless bad none) never e = true≢false e
  wrong_told limited more found (trial_limited kept path fault bad is back) never e = true≢false (sym (trial_error def r fault path) ∙ e)
  wrong_told limited more found (blamed kept fresh own suspects m bad new answers told rest) never e =
      blamed_told fresh kept own told answers never (errors_of own suspects e).0

  -- ---- what is found

  found_good : (stopped limited more : Bool) (found : List Finding) → AreFound def text f r stopped limited found more → stopped ≡ false
      → has_error found ≡ false → IsWithin def f × IsOpen def f
  found_good stopped limited more found (found_limit fault is real) s e = absurd (true≢false (sym (limit_error def r fault _) ∙ e))
  found_good stopped limited more found (found_wrong l own m within wrong why) s e = absurd (elim why [
    | inl never ↦ wrong_told l m own wrong never (errors_of own (warnings def r (free_uses def f)) e).0
    | inr so ↦ true≢false (sym so ∙ s)
  ])
  found_good stopped limited more found (found_open notes within is same are) s e = (within, is)

  warnings_none : (ws : List Written) → has_error (warnings def r ws) ≡ false
  warnings_none [] = refl
  warnings_none (w ∷ ws) = warnings_none ws

  noted_none : (path : Path) (node : Fragment) (own : List Finding) → IsNoted def f r path node own → has_error own ≡ false
  noted_none path node own (open_hole at p phylum values ops found are menu) = refl
  noted_none path node own (open_list at g ops unfinished menu) = refl
  noted_none path node own (not_open at g finished no_hole) = refl

  notes_none : (nodes : List Located) (found : List Finding) → AreNoted def f r nodes found → has_error found ≡ false
  notes_none nodes found none_noted = refl
  notes_none nodes found (noted {rest = rest} {own = own} {more = more} node is others) =
      none_joined own more (noted_none node.path node.node own is) (notes_none rest more others)

  found_none : (stopped limited more : Bool) (found : List Finding) → AreFound def text f r stopped limited found more → stopped ≡ false
      → IsWithin def f → IsOpen def f → has_error found ≡ false
  found_none stopped limited more found (found_limit fault is real) s within good = absurd (limit_within def f fault is real within)
  found_none stopped limited more found (found_wrong l own m w wrong why) s within good = absurd (elim why [
    | inl never ↦ never good
    | inr so ↦ true≢false (sym so ∙ s)
  ])
  found_none stopped limited more found (found_open notes w is same are) s within good =
      none_joined (warnings def r (free_uses def f)) notes (warnings_none (free_uses def f)) (notes_none _ notes are)

-- ---- stops

module _ (def : Definition) (kind : Kind) (text : List ℕ) where
  stop_told : (ts : List Spanned) (k : ℕ) (told : Finding) (more : List Finding) → IsStopTold def kind text ts k told
      → has_error (told ∷ more) ≡ false → ⊥
  stop_told ts k told more is e = true≢false (subst (λ (x : Finding). has_error (x ∷ more) ≡ false) is.told_is e)

  stops_none : (n : ℕ) (ts : List Spanned) (found : List Finding) (last : Option (List Spanned)) → AreStops def kind text n ts found last
      → has_error found ≡ false → (found ≡ []) × (last ≡ Some ts)
  stops_none n ts found last (all_read m us may) e = (refl, refl)
  stops_none n ts found last (last_stop m k us told is why) e = absurd (stop_told us k told [] is e)
  stops_none n ts found last (read_on {found = more} m k j i p us phylum told is lt best rest) e = absurd (stop_told us k told more is e)

-- ---- the tokens as they are read

module _ (def : Definition) where
  read_tokens : (ts : List Spanned) → tokens_of (map (own_spanned def) ts) ≡ map (own_token def) (tokens_of ts)
  read_tokens [] = refl
  read_tokens (t ∷ ts) = ap (λ (l : List Token). own_token def t.token ∷ l) (read_tokens ts)

  own_is : (t : Token) → IsOwnToken def t → own_token def t ≡ t
  own_is (placeholder name) h = ap (λ b. placeholder (cond b [] name)) h
  own_is (word x) h = refl
  own_is (numeral n) h = refl
  own_is (quoted t) h = refl
  own_is (solo c) h = refl
  own_is (symbols x) h = refl
  own_is dots h = refl

  all_same : (ts : List Token) → AllByRecursion (IsOwnToken def) ts → map (own_token def) ts ≡ ts
  all_same [] h = refl
  all_same (t ∷ ts) h = ap₂ (λ (a : Token) (b : List Token). a ∷ b) (own_is t h.0) (all_same ts h.1)

  module _ (sound : IsSound def) where
    -- no tree has a placeholder without a name
    named_so : (b : Bool) (name : List ℕ) → is_declaring_name def 0 def.phyla name ≡ b → IsYielded (quiet def) (placeholder (cond b [] name))
        → is_declaring_name def 0 def.phyla name ≡ false
    named_so true name e (p, phylum, at, named, holes) =
        let (k, there, same) = map_back plain_phylum def.phyla p phylum at in
        absurd (has_name def sound p k there (sym (ap (λ (j : Phylum). j.name) same) ∙ named))
    named_so false name e h = e

    own_if : (t : Token) → IsYielded (quiet def) (own_token def t) → IsOwnToken def t
    own_if (placeholder name) h = named_so (is_declaring_name def 0 def.phyla name) name refl h
    own_if (word x) h = tt
    own_if (numeral n) h = tt
    own_if (quoted t) h = tt
    own_if (solo c) h = tt
    own_if (symbols x) h = tt
    own_if dots h = tt

    all_own : (ts : List Token) → AllByRecursion (IsYielded (quiet def)) (map (own_token def) ts) → AllByRecursion (IsOwnToken def) ts
    all_own [] h = tt
    all_own (t ∷ ts) h = (own_if t h.0, all_own ts h.1)

  module _ (ends : CanEnd def) (class : IsClass def) (kind : Kind) where
    only : (ts : List Token) (f g : Fragment) (d e : ℕ) → Yields (quiet def) f kind 0 d ts → Yields (quiet def) g kind 0 e ts → (f ≡ g) × (d ≡ e)
    only ts f g d e y z = let one = only_trees (quiet def) (quiet_of_class def ends class) kind 0 ts f g d e y z in (one.tree, one.nesting)

    -- what is read of a text without stops is read of it in the language, too
    reads_so : (text : List ℕ) (whole : Fragment) (nesting : ℕ) (ts : List Spanned) → TextTokens def text ts
        → Yields (quiet def) whole kind 0 nesting (tokens_of (map (own_spanned def) ts)) → ReadsAs def kind 0 text whole nesting
    reads_so text whole nesting ts are yields =
        let row = tokens_of (map (own_spanned def) ts) in
        let seen : AllByRecursion (IsYielded (quiet def)) row = all_yielded (quiet def) whole kind 0 nesting row yields in
        let own : AllByRecursion (IsOwnToken def) (tokens_of ts) =
        all_own ends.sound (tokens_of ts) (subst (AllByRecursion (IsYielded (quiet def))) (read_tokens ts) seen) in
        let same : row ≡ tokens_of ts = read_tokens ts ∙ all_same (tokens_of ts) own in
        let there : Yields (quiet def) whole kind 0 nesting (tokens_of ts) = subst (Yields (quiet def) whole kind 0 nesting) same yields in
        let f = is_filled def ends whole kind nesting (tokens_of ts) there in
        let yielded : Yields def f.tree kind 0 f.depth (tokens_of ts) =
        subst (Yields def f.tree kind 0 f.depth) (filled_whole def (tokens_of ts) f.tokens f.filled own) f.yields in
        let (tree, depth) = only (tokens_of ts) whole f.tree nesting f.depth there (yields_there def f.tree kind 0 f.depth (tokens_of ts) yielded) in
        record {
          tokens = ts;
          are = are;
          yields = subst (λ n. Yields def whole kind 0 n (tokens_of ts)) (sym depth)
              (subst (λ (g : Fragment). Yields def g kind 0 f.depth (tokens_of ts)) (sym tree) yielded);
        }

    -- the text is a program within the limits that has a completion
    record IsFineText (text : List ℕ) : Type 0 where
      pub tree : Fragment
      pub is_read : IsProgramText def kind text tree
      pub within : IsWithin def tree
      pub good : IsOpen def tree

    judged_good : (text : List ℕ) (stopped limited more : Bool) (tokens : List Spanned) (found : List Finding)
        → AreJudged def kind text stopped tokens limited found more → (ts : List Spanned) → TextTokens def text ts
        → tokens ≡ map (own_spanned def) ts → stopped ≡ false → has_error found ≡ false → IsFineText text
    judged_good text stopped limited more tokens found (deep d) ts are row s e = absurd (true≢false e)
    judged_good text stopped limited more tokens found (large whole parsed big) ts are row s e = absurd (true≢false e)
    judged_good text stopped limited more tokens found (judged r l own m is parsed read formed small inner) ts are row s e =
        let n = parsed.nesting in
        let reads : ReadsAs def kind 0 text r.whole n =
        reads_so text r.whole n ts are (subst (λ (us : List Spanned). Yields (quiet def) r.whole kind 0 n (tokens_of us)) row parsed.reads) in
        let left : left_out def r.whole ≡ r.whole = (programs_lose_nothing def ends class kind text r.whole n reads).left in
        let (within, good) = found_good def text (left_out def r.whole) r stopped l m own inner s e in record {
          tree = left_out def r.whole;
          is_read = record {
            nesting = n;
            reads = subst (λ (g : Fragment). ReadsAs def kind 0 text g n) (sym left) reads;
            formed = formed;
            depth = within.shallow;
            brackets = (let le = parsed.brackets in omega (arith, le));
            small = small;
          };
          within = within;
          good = good;
        }

    judged_none : (text : List ℕ) (stopped limited more : Bool) (tokens : List Spanned) (found : List Finding)
        → AreJudged def kind text stopped tokens limited found more → stopped ≡ false → (f : Fragment) (nesting : ℕ)
        → Yields (quiet def) f kind 0 nesting (tokens_of tokens) → left_out def f ≡ f → (IsDeep f → ⊥) → nesting ≤ 400 → (IsBig f → ⊥)
        → IsWithin def f → IsOpen def f → has_error found ≡ false
    judged_none text stopped limited more tokens found (deep d) s f nesting y left shallow few small within good =
        let (tree, nest) = only (tokens_of tokens) d.tree f d.nesting nesting d.reads y in
        absurd (elim d.deep [
          | inl lt ↦ shallow (subst IsDeep tree lt)
          | inr lt ↦ omega (arith, nest, few, lt)
        ])
    judged_none text stopped limited more tokens found (large whole parsed big) s f nesting y left shallow few small within good =
        let (tree, nest) = only (tokens_of tokens) whole f parsed.nesting nesting parsed.reads y in
        absurd (small (subst IsBig (ap (left_out def) tree ∙ left) big))
    judged_none text stopped limited more tokens found (judged r l own m is parsed read formed little inner) s f nesting y left shallow few small within good =
        let (tree, nest) = only (tokens_of tokens) r.whole f parsed.nesting nesting parsed.reads y in
        let same : f ≡ left_out def r.whole = sym (ap (left_out def) tree ∙ left) in
        found_none def text (left_out def r.whole) r stopped l m own inner s (subst (IsWithin def) same within) (subst (IsOpen def) same good)

    -- ---- the report

    module _ (rows : HasTrueRows def) where
      fine_if : (bytes text : List ℕ) (limited more : Bool) (found : List Finding) → IsReport def kind bytes text limited found more
          → has_error found ≡ false → IsFine def kind bytes
      fine_if bytes text limited more found (no_text count valid) e = absurd (true≢false e)
      fine_if bytes text limited more found (no_tokens fault u h) e = absurd (true≢false e)
      fine_if bytes text limited more found (only_stops stops sorted u h order) e =
          let (none, last) = stops_none def kind (unmarked bytes) 0 (map (own_spanned def) h.tokens) stops None h.stops
          (sorted_errors stops sorted order ∙ e) in
          absurd (none-some (map (own_spanned def) h.tokens) last)
      fine_if bytes text limited more found (is_judged stops own sorted tokens l m u h are order) e =
          let (a, b) = errors_of stops own (sorted_errors (stops ++ own) sorted order ∙ e) in
          let (none, last) = stops_none def kind (unmarked bytes) 0 (map (own_spanned def) h.tokens) stops (Some tokens) h.stops a in
          let fine = judged_good (unmarked bytes) (has_error stops) l m tokens own are h.tokens h.are
          (same_Some tokens (map (own_spanned def) h.tokens) last) a b in record {
            tree = fine.tree;
            program = record { is_text = u; is_read = fine.is_read };
            within = fine.within;
            good = (open_or_completable def ends.sound rows fine.tree kind fine.is_read.formed).0 fine.good;
          }

      none_if : (bytes text : List ℕ) (limited more : Bool) (found : List Finding) → IsReport def kind bytes text limited found more
          → IsFine def kind bytes → has_error found ≡ false
      none_if bytes text limited more found (no_text count valid) fine =
          absurd (whole_valid (unmarked bytes) count fine.program.is_text valid)
      none_if bytes text limited more found (no_tokens fault u h) fine =
          let reads = fine.program.is_read.reads in
          absurd (no_fault_with_tokens (fixed_words def) (chars (unmarked bytes)) 0 reads.tokens fault reads.are h)
      none_if bytes text limited more found (only_stops stops sorted u h order) fine =
          let p = fine.program.is_read in
          let loses = programs_lose_nothing def ends class kind (unmarked bytes) fine.tree p.nesting p.reads in
          absurd (none-some loses.tokens (loses.stops stops None h).1)
      none_if bytes text limited more found (is_judged stops own sorted tokens l m u h are order) fine =
          let p = fine.program.is_read in
          let ts = p.reads.tokens in
          let f = fine.tree in
          let one : h.tokens ≡ ts = only_tokens (fixed_words def) (chars (unmarked bytes)) 0 h.tokens ts h.are p.reads.are in
          let same : tokens_of (map (own_spanned def) ts) ≡ tokens_of ts =
          own_same def ends.sound ts (all_yielded def f kind 0 p.nesting (tokens_of ts) p.reads.yields) in
          let there : Yields (quiet def) f kind 0 p.nesting (tokens_of (map (own_spanned def) ts)) =
          subst (Yields (quiet def) f kind 0 p.nesting) (sym same) (yields_there def f kind 0 p.nesting (tokens_of ts) p.reads.yields) in
          let (none, last) = no_stops def kind (unmarked bytes) 0 (map (own_spanned def) ts) stops (Some tokens)
          (subst (λ (us : List Spanned). AreStops def kind (unmarked bytes) 0 (map (own_spanned def) us) stops (Some tokens)) one h.stops)
          (f, p.nesting, there) in
          let row : tokens ≡ map (own_spanned def) ts = same_Some tokens (map (own_spanned def) ts) last in
          let left = (programs_lose_nothing def ends class kind (unmarked bytes) f p.nesting p.reads).left in
          let clean : has_error stops ≡ false = ap has_error none in
          sym (sorted_errors (stops ++ own) sorted order)
          ∙ none_joined stops own clean
          (judged_none (unmarked bytes) (has_error stops) l m tokens own are clean f p.nesting
          (subst (λ (us : List Spanned). Yields (quiet def) f kind 0 p.nesting (tokens_of us)) (sym row) there) left p.depth p.brackets p.small
          fine.within ((open_or_completable def ends.sound rows f kind p.formed).1 fine.good))

pub fine_exactly : (def : Definition) → CanEnd def → IsClass def → HasTrueRows def → IsFineExactly def
fine_exactly def ends class rows kind bytes text limited more found report = (
  fine_if def ends class kind rows bytes text limited more found report,
  none_if def ends class kind rows bytes text limited more found report,
)
