-- What is told of a stop, and the stops one by one.
use Rattle.std.proofs.Common.{◌≡◌, ◌↔◌, ◌⊎◌, inl, inr, ℕ, zero, suc, ◌+◌, ◌-◌, ◌<◌, ◌≤◌, Bool, true, false, cond, List, [], ◌∷◌, ◌++◌, length, map, take, Option, Some, None, slice_get, option_map, refl, ap, sym, ◌∙◌, subst, append_assoc, length-append, true≢false, arith}
use Rattle.std.proofs.lemmas.List.{length-map}
use Rattle.std.proofs.lemmas.Option.{none-some, slice_get-map, slice_get_within}
use Rattle.psg_terms.specs.Names.{Name}
use Rattle.psg_terms.specs.Relations.{IsIn, first, later}
use Rattle.psg_terms.proofs.Lists.{in_cases}
use Rattle.psg_grammar.specs.declared.types.Kind.{Kind}
use Rattle.psg_grammar.specs.declared.types.Phylum.{Phylum}
use Rattle.psg_grammar.specs.declared.types.Definition.{Definition}
use Rattle.psg_lexis.specs.declared.token.Spanned.{Spanned}
use Rattle.psg_class.specs.Terminals.{Terminal, Token, a_hole}
use Rattle.psg_class.specs.Texts.{tokens_of}
use Rattle.psg_parse.specs.Onward.{IsEndable}
use Rattle.psg_parse.specs.Stops.{Begins, IsStop, MayEnd}
use Rattle.psg_parse.specs.declared.fault.Goal.{Goal}
use Rattle.psg_program.specs.Expected.{AreToldBoth, terminals_in_order}
use Rattle.psg_program.specs.Messages.{HasSpan, stop_byte, stop_message}
use Rattle.psg_program.proofs.Told.{both_so}
use Rattle.psg_stop.specs.Accepted.{CanEnd}
use Rattle.psg_stop.specs.declared.wanted.Wanted.{Wanted}
use Rattle.psg_stop.specs.declared.wanted.Wanted.TheVariants as wants
use Rattle.psg_stop.specs.Wanted.{AreWanted, GoesWith, wanted_terminal, wanted_terminals}
use Rattle.psg_stop.proofs.Endable.{endable_by}
use Rattle.psg_recover.specs.declared.candidates.Resumption.{Resumption}
use Rattle.psg_recover.specs.declared.finding.Finding.{Finding}
use Rattle.psg_recover.specs.Candidates.{is_lost_wanted, own_wanted}
use Rattle.psg_recover.specs.Findings.{error_at}
use Rattle.psg_recover.specs.Grammars.{quiet}
use Rattle.psg_recover.specs.Readers.{IsReadText}
use Rattle.psg_recover.specs.Reads.{is_declaring_name, own_spanned}
use Rattle.psg_recover.specs.Recovery.{AreStops, HasNone, IsBest, IsExpected, IsStopTold, all_read, last_stop, most_stops, read_on, resumed_row}
use Rattle.psg_recover.specs.Rows.{IsPassed, IsRow, ends_there, goes_on}

-- ---- the text's tokens as they are read

module _ (def : Definition) (text : List ℕ) (written : List Spanned) (m : ℕ) where
  spanned : (o : Option Spanned) → slice_get written m ≡ o → ((t : Spanned) → slice_get written m ≡ Some t → HasSpan text (Some (own_spanned def t))) → HasSpan text (option_map (own_spanned def) o)
  spanned None e h = tt
  spanned (Some t) e h = h t e

pub read_row : (def : Definition) (kind : Kind) (text : List ℕ) (ts : List Spanned) → IsReadText def text ts → Begins (quiet def) kind 0 [] → IsRow def kind text ts
read_row def kind text ts h trees = record {
  from = 0;
  spans = λ m le.
      subst (λ (l : List Spanned). HasSpan text (slice_get l m)) (sym h.read)
      (subst (HasSpan text) (sym (slice_get-map (own_spanned def) h.written m))
      (spanned def text h.written m (slice_get h.written m) refl (λ t at. (def, h.written, h.are, m, t, at, refl, refl))));
  begins = trees;
}

-- ---- what may come next

module _ (def : Definition) where
  abbrev IsOwn : Terminal → Type 0
  IsOwn t = (name : Name) → t ≡ a_hole name → is_declaring_name def 0 def.phyla name ≡ false

  lost_name : (w : Wanted) → is_lost_wanted def w ≡ true → (name : Name) × (wanted_terminal w ≡ a_hole name) × (is_declaring_name def 0 def.phyla name ≡ true)
  lost_name (wants.Hole name) e = (name, refl, e)
  lost_name (wants.Fixed w) e = absurd (true≢false (sym e))
  lost_name wants.Name e = absurd (true≢false (sym e))
  lost_name wants.Number e = absurd (true≢false (sym e))
  lost_name wants.Text e = absurd (true≢false (sym e))
  lost_name wants.More e = absurd (true≢false (sym e))

  kept_own : (w : Wanted) → is_lost_wanted def w ≡ false → IsOwn (wanted_terminal w)
  kept_own (wants.Hole p) e name same = let g : p ≡ name = cc in subst (λ n. is_declaring_name def 0 def.phyla n ≡ false) g e
  kept_own (wants.Fixed w) e name same = absurd (cc)
  kept_own wants.Name e name same = absurd (cc)
  kept_own wants.Number e name same = absurd (cc)
  kept_own wants.Text e name same = absurd (cc)
  kept_own wants.More e name same = absurd (cc)

  none_more : (ws : List Wanted) → ws ≡ ws ++ []
  none_more [] = refl
  none_more (w ∷ ws) = ap (λ l. w ∷ l) (none_more ws)

  -- one of them, as it is looked at
  pub own_none : (w : Wanted) (old : List Wanted) → is_lost_wanted def w ≡ true → old ≡ old ++ own_wanted def (w ∷ [])
  own_none w old e = none_more old ∙ ap (λ b. old ++ cond b [] (w ∷ [])) (sym e)

  pub own_one : (w : Wanted) (old new : List Wanted) → is_lost_wanted def w ≡ false → new ≡ old ++ w ∷ [] → new ≡ old ++ own_wanted def (w ∷ [])
  own_one w old new e is = is ∙ ap (λ b. old ++ cond b [] (w ∷ [])) (sym e)

  pub own_push : (ws : List Wanted) (w : Wanted) (old new : List Wanted) → old ≡ own_wanted def ws → new ≡ old ++ own_wanted def (w ∷ [])
      → new ≡ own_wanted def (ws ++ w ∷ [])
  own_push ws w old new so_far step = step ∙ ap (λ l. l ++ own_wanted def (w ∷ [])) so_far ∙ sym (joined ws)
    where
      split : (b : Bool) (x : Wanted) (xs ys : List Wanted) → cond b (xs ++ ys) (x ∷ (xs ++ ys)) ≡ cond b xs (x ∷ xs) ++ ys
      split true x xs ys = refl
      split false x xs ys = refl

      joined : (vs : List Wanted) → own_wanted def (vs ++ w ∷ []) ≡ own_wanted def vs ++ own_wanted def (w ∷ [])
      joined [] = refl
      joined (v ∷ vs) =
          ap (λ l. cond (is_lost_wanted def v) l (v ∷ l)) (joined vs)
          ∙ split (is_lost_wanted def v) v (own_wanted def vs) (own_wanted def (w ∷ []))

  in_split : (t : Terminal) (w : Wanted) (ws : List Wanted) (b : Bool) → is_lost_wanted def w ≡ b → (IsIn t (wanted_terminals (own_wanted def ws)) → IsIn t (wanted_terminals ws) × IsOwn t)
      → IsIn t (wanted_terminals (cond b (own_wanted def ws) (w ∷ own_wanted def ws))) → IsIn t (wanted_terminals (w ∷ ws)) × IsOwn t
  in_split t w ws true e under h = let (a, o) = under h in (later a, o)
  in_split t w ws false e under h = elim (in_cases t (wanted_terminal w) (wanted_terminals (own_wanted def ws)) h) [
    | inl s ↦ (subst (λ (x : Terminal). IsIn x (wanted_terminals (w ∷ ws))) (sym s) first, subst IsOwn (sym s) (kept_own w e))
    | inr m ↦ (let (a, o) = under m in (later a, o))
  ]

  in_own : (t : Terminal) (ws : List Wanted) → IsIn t (wanted_terminals (own_wanted def ws)) → IsIn t (wanted_terminals ws) × IsOwn t
  in_own t [] h = elim h [ ]
  in_own t (w ∷ ws) h = in_split t w ws (is_lost_wanted def w) refl (in_own t ws) h

  in_join : (t : Terminal) (w : Wanted) (ws : List Wanted) (b : Bool) → is_lost_wanted def w ≡ b → IsOwn t → (IsIn t (wanted_terminals ws) → IsIn t (wanted_terminals (own_wanted def ws)))
      → (t ≡ wanted_terminal w) ⊎ IsIn t (wanted_terminals ws) → IsIn t (wanted_terminals (cond b (own_wanted def ws) (w ∷ own_wanted def ws)))
  in_join t w ws true e own under (inl s) = let (name, is, d) = lost_name w e in absurd (true≢false (sym d ∙ own name (s ∙ is)))
  in_join t w ws true e own under (inr m) = under m
  in_join t w ws false e own under (inl s) = subst (λ (x : Terminal). IsIn x (wanted_terminals (w ∷ own_wanted def ws))) (sym s) first
  in_join t w ws false e own under (inr m) = later (under m)

  own_back : (t : Terminal) (ws : List Wanted) → IsOwn t → IsIn t (wanted_terminals ws) → IsIn t (wanted_terminals (own_wanted def ws))
  own_back t [] own h = elim h [ ]
  own_back t (w ∷ ws) own h = in_join t w ws (is_lost_wanted def w) refl own (own_back t ws own) (in_cases t (wanted_terminal w) (wanted_terminals ws) h)

  module _ (kind : Kind) where
    told_expected : (ts : List Token) (ws : List Wanted) → AreWanted (quiet def) kind 0 ts (wanted_terminals ws) → (t : Terminal)
        → IsIn t (wanted_terminals (own_wanted def ws)) ↔ IsExpected def kind ts t
    told_expected ts ws wanted t = (
      λ h. let (a, o) = in_own t ws h in record { goes = (wanted t).0 a; own = o },
      λ e. own_back t ws e.own ((wanted t).1 e.goes),
    )

    -- what is told of a stop
    pub stop_told : (text : List ℕ) (ts : List Spanned) → (MayEnd (quiet def) kind 0 (tokens_of ts) → ⊥) → (k : ℕ) → IsStop (quiet def) kind 0 (tokens_of ts) k
        → (all wanted : List Wanted) → AreWanted (quiet def) kind 0 (take k (tokens_of ts)) (wanted_terminals all) → wanted ≡ own_wanted def all
        → (may : Bool) → (may ≡ true) ↔ MayEnd (quiet def) kind 0 (take k (tokens_of ts)) → (words : List (List ℕ))
        → AreToldBoth (λ t. IsIn t (wanted_terminals wanted)) (may ≡ true) (terminals_in_order def) words → (told : Finding)
        → told ≡ error_at (stop_byte ts k) (stop_message text ts k words) → IsStopTold def kind text ts k told
    stop_told text ts none k stop all wanted are own may ends words both told is =
        let b = both_so (told_expected (take k (tokens_of ts)) all are) ends (terminals_in_order def) words
        (subst (λ (ws : List Wanted). AreToldBoth (λ t. IsIn t (wanted_terminals ws)) (may ≡ true) (terminals_in_order def) words) own both) in
        record {
          none = none;
          stop = stop;
          words = b.terminals;
          ends = b.ends;
          are_told = b.are_told;
          is_end_told = b.is_end_told;
          told_is = is ∙ ap (λ ws. error_at (stop_byte ts k) (stop_message text ts k ws)) b.whole;
        }

-- ---- what the search for a stop says, by the grammar that is kept

abbrev pub AreFacts : Definition → Kind → ℕ → List Token → ℕ → Bool → List Terminal → Type 0
AreFacts def kind level ts n may wanted =
    (IsEndable def → Begins def kind level [] → IsStop def kind level ts n)
    × ((may ≡ true) ↔ MayEnd def kind level (take n ts))
    × (IsEndable def → Begins def kind level [] → AreWanted def kind level (take n ts) wanted)

pub facts_moved : (q def : Definition) (goal : Goal) (kind : Kind) (ts : List Token) (n : ℕ) (may : Bool) (wanted : List Terminal) → q ≡ def → goal.kind ≡ kind → goal.least ≡ 0
    → AreFacts q goal.kind goal.least ts n may wanted → AreFacts def kind 0 ts n may wanted
facts_moved q def goal kind ts n may wanted same k l h =
    subst (λ (d : Definition). AreFacts d kind 0 ts n may wanted) same
    (subst (λ (m : ℕ). AreFacts q kind m ts n may wanted) l (subst (λ (j : Kind). AreFacts q j goal.least ts n may wanted) k h))

module _ (def : Definition) (kind : Kind) (can : CanEnd def) (trees : Begins def kind 0 []) (ts : List Token) (n : ℕ) (may : Bool) (wanted : List Terminal) (h : AreFacts def kind 0 ts n may wanted) where
  pub facts_stop : IsStop def kind 0 ts n
  facts_stop = h.0 (endable_by def can) trees

  pub facts_wanted : AreWanted def kind 0 (take n ts) wanted
  facts_wanted = h.2 (endable_by def can) trees

-- ---- the stops one by one

pub stop_inside : (def : Definition) (kind : Kind) (ts : List Spanned) (k : ℕ) → IsStop def kind 0 (tokens_of ts) k → k ≤ length ts
stop_inside def kind ts k stop =
    let many = length-map ts (λ (s : Spanned). s.token) in let inside = stop.inside in omega (arith, many, inside)

-- where reading goes on
pub best_from : (def : Definition) (kind : Kind) (ts : List Spanned) (k j i p : ℕ) (phylum : Phylum) → IsBest def kind (tokens_of ts) k j i p phylum → i ≤ length ts
best_from def kind ts k j i p phylum best =
    let r = best.resumes in let many = length-map ts (λ (s : Spanned). s.token) in
    let a = r.back in let b = r.behind in let c = r.inside in omega (arith, many, a, b, c)

pub best_to : (def : Definition) (kind : Kind) (ts : List Spanned) (k j i p : ℕ) (phylum : Phylum) → IsBest def kind (tokens_of ts) k j i p phylum → j ≤ length ts
best_to def kind ts k j i p phylum best =
    let r = best.resumes in let many = length-map ts (λ (s : Spanned). s.token) in let c = r.inside in omega (arith, many, c)

pub best_phylum : (def : Definition) (kind : Kind) (ts : List Spanned) (k j i p : ℕ) (phylum : Phylum) → IsBest def kind (tokens_of ts) k j i p phylum → p < length def.phyla
best_phylum def kind ts k j i p phylum best = slice_get_within def.phyla p phylum best.resumes.there

module _ (def : Definition) (kind : Kind) (text : List ℕ) where
  -- after the last that is told, or where nothing goes on
  pub passed_last : (n k : ℕ) (ts : List Spanned) (told : Finding) → IsStopTold def kind text ts k told → most_stops ≤ n + 1 → IsPassed def kind text n ts told None
  passed_last n k ts told is many = ends_there k is (inl (let e : most_stops ≤ suc n = omega (arith, many) in e))

  pub passed_none : (n k : ℕ) (ts : List Spanned) (told : Finding) → IsStopTold def kind text ts k told → HasNone def kind (tokens_of ts) k → IsPassed def kind text n ts told None
  passed_none n k ts told is none = ends_there k is (inr none)

  pub passed_on : (n k j i p : ℕ) (ts row : List Spanned) (phylum other : Phylum) (told : Finding) → IsStopTold def kind text ts k told → n + 1 < most_stops
      → IsBest def kind (tokens_of ts) k j i p phylum → IsRow def kind text (resumed_row ts i j phylum) → slice_get def.phyla p ≡ Some other → row ≡ resumed_row ts i j other → IsPassed def kind text n ts told (Some row)
  passed_on n k j i p ts row phylum other told is few best next there row_is =
      let same : other ≡ phylum = let g : Some other ≡ Some phylum = sym there ∙ best.resumes.there in cc in
      subst (λ (r : List Spanned). IsPassed def kind text n ts told (Some r)) (sym (row_is ∙ ap (resumed_row ts i j) same))
      (goes_on k j i p phylum is (let e : suc n < most_stops = omega (arith, few) in e) best next)

  -- what completes the rest
  pub record IsOnward (n : ℕ) (ts : List Spanned) (told : Finding) (next : List Spanned) : Type 0 where
    pub few : n + 1 < most_stops
    pub row : IsRow def kind text next
    pub rest : (found : List Finding) (last : Option (List Spanned)) → AreStops def kind text (n + 1) next found last → AreStops def kind text n ts (told ∷ found) last

  pub passed_next : (n : ℕ) (ts : List Spanned) (told : Finding) (o : Option (List Spanned)) (next : List Spanned) → IsPassed def kind text n ts told o → o ≡ Some next → IsOnward n ts told next
  passed_next n ts told o next (ends_there k is why) e = absurd (none-some next e)
  passed_next n ts told o next (goes_on k j i p phylum is few best row) e =
      let same : resumed_row ts i j phylum ≡ next = cc in
      let one : n + 1 ≡ suc n = omega arith in
      subst (IsOnward n ts told) same (record {
        few = omega (arith, few);
        row = row;
        rest = λ found last h. read_on n k j i p ts phylum told is few best (subst (λ (m : ℕ). AreStops def kind text m (resumed_row ts i j phylum) found last) one h);
      })

  pub passed_end : (n : ℕ) (ts : List Spanned) (told : Finding) (o : Option (List Spanned)) → IsPassed def kind text n ts told o → o ≡ None → AreStops def kind text n ts (told ∷ []) None
  passed_end n ts told o (ends_there k is why) e = last_stop n k ts told is why
  passed_end n ts told o (goes_on k j i p phylum is few best row) e = absurd (none-some (resumed_row ts i j phylum) (sym e))

  -- whatever completes the rest completes the whole
  abbrev pub Completes : List Spanned → List Spanned → List Finding → Type 0
  Completes start row told = (found : List Finding) (last : Option (List Spanned)) → AreStops def kind text (length told) row found last
      → AreStops def kind text 0 start (told ++ found) last

  pub completes_first : (start : List Spanned) (told : List Finding) → told ≡ [] → Completes start start told
  completes_first start told e = subst (Completes start start) (sym e) (λ found last h. h)

  pub completes_next : (start row next : List Spanned) (told new : List Finding) (own : Finding) → Completes start row told → new ≡ told ++ own ∷ [] → IsOnward (length told) row own next
      → Completes start next new
  completes_next start row next told new own whole is on =
      let long : length (told ++ own ∷ []) ≡ length told + 1 = length-append told (own ∷ []) in
      subst (Completes start next) (sym is)
      (λ found last h. subst (λ (l : List Finding). AreStops def kind text 0 start l last) (sym (append_assoc told (own ∷ []) found))
      (whole (own ∷ found) last (on.rest found last (subst (λ (m : ℕ). AreStops def kind text m next found last) long h))))

  pub completes_end : (start row : List Spanned) (told new : List Finding) (own : Finding) → Completes start row told → new ≡ told ++ own ∷ [] → AreStops def kind text (length told) row (own ∷ []) None
      → AreStops def kind text 0 start new None
  completes_end start row told new own whole is h = subst (λ (l : List Finding). AreStops def kind text 0 start l None) (sym is) (whole (own ∷ []) None h)

  pub completes_whole : (start row : List Spanned) (told : List Finding) → Completes start row told → MayEnd (quiet def) kind 0 (tokens_of row) → AreStops def kind text 0 start told (Some row)
  completes_whole start row told whole may = subst (λ (l : List Finding). AreStops def kind text 0 start l (Some row)) (none told) (whole [] (Some row) (all_read (length told) row may))
    where
      none : (xs : List Finding) → xs ++ [] ≡ xs
      none [] = refl
      none (x ∷ xs) = ap (λ l. x ∷ l) (none xs)
