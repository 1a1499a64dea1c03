-- What reading says of the rows of tokens that are tried.
use Rattle.std.proofs.Common.{◌≡◌, ◌↔◌, inl, inr, IsTrue, ℕ, zero, suc, ◌+◌, ◌-◌, ◌<◌, ◌≤◌, ◌==◌, ◌||◌, ◌&&◌, not, Bool, true, false, cond, List, [], ◌∷◌, ◌++◌, length, map, take, drop, get_or, Option, Some, None, slice_get, option_map, refl, ap, sym, ◌∙◌, subst, append_assoc, true≢false, arith}
use Rattle.std.specs.Prelude.{MatchOption}
use Rattle.std.proofs.lemmas.Bool.Decides.{eqb_tells}
use Rattle.std.proofs.lemmas.List.{drop_all, length-map}
use Rattle.std.proofs.lemmas.Option.{slice_get-map}
use Rattle.psg_terms.specs.Relations.{IsIn}
use Rattle.psg_terms.proofs.Lists.{drop_item, slice_get-map_some, slice_get_once, slice_get_some}
use Rattle.psg_grammar.specs.declared.types.Kind.{Kind}
use Rattle.psg_grammar.specs.declared.types.Kind.TheVariants as kinds
use Rattle.psg_grammar.specs.declared.types.ListKind.{ListKind}
use Rattle.psg_grammar.specs.declared.types.Phylum.{Phylum}
use Rattle.psg_grammar.specs.declared.types.Definition.{Definition}
use Rattle.psg_grammar.specs.Kinds.{HasKind}
use Rattle.psg_lexis.specs.declared.token.Spanned.{Spanned}
use Rattle.psg_class.specs.Terminals.{Token, placeholder}
use Rattle.psg_class.specs.Texts.{tokens_of}
use Rattle.psg_parse.specs.Onward.{IsEndable}
use Rattle.psg_parse.specs.Stops.{Begins, IsStop, MayEnd}
use Rattle.psg_parse.specs.declared.fault.Goal.{Goal}
use Rattle.psg_stop.specs.Accepted.{CanEnd}
use Rattle.psg_stop.proofs.Endable.{endable_by, trees_by}
use Rattle.psg_recover.specs.declared.candidates.Candidate.{Candidate}
use Rattle.psg_recover.specs.declared.candidates.Reader.{Reader}
use Rattle.psg_recover.specs.declared.candidates.Resumption.{Resumption}
use Rattle.psg_recover.specs.Candidates.{AreCandidates, GoesOnWith, IsCandidate, IsFirst}
use Rattle.psg_recover.specs.Grammars.{plain_list, plain_phylum, quiet}
use Rattle.psg_recover.specs.Readers.{IsBestAt}
use Rattle.psg_recover.specs.Reads.{stand_in}
use Rattle.psg_recover.specs.Recovery.{GoesOnAt, HasNone, IsBest, all_go_on, may_stand, resumed_row}
use Rattle.psg_recover.proofs.CandidateLaws.{IsNoneUpTo, begins_iff, is_best}
use Rattle.psg_recover.proofs.RowLaws.{take_tokens, tokens_push}

-- ---- how far tokens go, by the grammar that is kept

pub front_whole : (q def : Definition) (goal : Goal) (kind : Kind) (ts : List Token) (b : Bool) → q ≡ def → goal.kind ≡ kind → goal.least ≡ 0
    → (b ≡ true) ↔ MayEnd q goal.kind goal.least ts → (b ≡ true) ↔ MayEnd def kind 0 ts
front_whole q def goal kind ts b same k l h =
    subst (λ (d : Definition). (b ≡ true) ↔ MayEnd d kind 0 ts) same
    (subst (λ (n : ℕ). (b ≡ true) ↔ MayEnd q kind n ts) l (subst (λ (j : Kind). (b ≡ true) ↔ MayEnd q j goal.least ts) k h))

pub front_stop : (q def : Definition) (goal : Goal) (kind : Kind) (ts : List Token) (n : ℕ) → q ≡ def → goal.kind ≡ kind → goal.least ≡ 0
    → CanEnd def → Begins def kind 0 [] → (IsEndable q → Begins q goal.kind goal.least [] → IsStop q goal.kind goal.least ts n) → IsStop def kind 0 ts n
front_stop q def goal kind ts n same k l can trees h =
    subst (λ (d : Definition). IsEndable d → Begins d kind 0 [] → IsStop d kind 0 ts n) same
    (subst (λ (m : ℕ). IsEndable q → Begins q kind m [] → IsStop q kind m ts n) l (subst (λ (j : Kind). IsEndable q → Begins q j goal.least [] → IsStop q j goal.least ts n) k h))
    (endable_by def can) trees

pub begins_test : (def : Definition) (kind : Kind) (ts : List Spanned) (n : ℕ) → IsStop def kind 0 (tokens_of ts) n
    → IsTrue (n == length ts) ↔ Begins def kind 0 (tokens_of ts)
begins_test def kind ts n stop =
    let iff = begins_iff def kind (tokens_of ts) n stop in
    let many : length (tokens_of ts) ≡ length ts = length-map ts (λ (s : Spanned). s.token) in
    elim (eqb_tells n (length ts)) [
      | inl e ↦ (λ t. iff.0 (e.1 ∙ sym many), λ b. e.0)
      | inr e ↦ (λ t. absurd (true≢false (sym t ∙ e.0)), λ b. absurd (e.1 (iff.1 b ∙ many)))
    ]

-- each kind has a tree
pub trees_at : (def : Definition) → CanEnd (quiet def) → (kind : Kind) → HasKind def kind → Begins (quiet def) kind 0 []
trees_at def can (kinds.Phylum p) lt =
    let (phylum, at) = slice_get_some def.phyla p lt in
    (trees_by (quiet def) can).phyla p (plain_phylum phylum) (slice_get-map_some plain_phylum def.phyla p phylum at)
trees_at def can (kinds.List l) lt =
    let (list, at) = slice_get_some def.lists l lt in
    (trees_by (quiet def) can).lists l (plain_list list) (slice_get-map_some plain_list def.lists l list at) 0

-- ---- lists of a phylum

pub lists_no : (p : ℕ) (ls : List ListKind) (i : ℕ) (l : ListKind) (all : Bool) → i < length ls → l ≡ get_or ls i l → (not (l.element == p) || l.unfinished) ≡ false
    → all_go_on p (drop i ls) ≡ all → false ≡ all
lists_no p ls i l all lt at other so_far =
    sym (ap (λ b. b && all_go_on p (drop (i + 1) ls)) other) ∙ ap (all_go_on p) (sym (drop_item ls i l lt at)) ∙ so_far

pub lists_next : (p : ℕ) (ls : List ListKind) (i : ℕ) (l : ListKind) (all : Bool) → i < length ls → l ≡ get_or ls i l → (not (l.element == p) || l.unfinished) ≡ true
    → all_go_on p (drop i ls) ≡ all → all_go_on p (drop (i + 1) ls) ≡ all
lists_next p ls i l all lt at holds so_far =
    sym (ap (λ b. b && all_go_on p (drop (i + 1) ls)) holds) ∙ ap (all_go_on p) (sym (drop_item ls i l lt at)) ∙ so_far

pub lists_end : (p : ℕ) (ls : List ListKind) (i : ℕ) (all : Bool) → length ls ≤ i → all_go_on p (drop i ls) ≡ all → true ≡ all
lists_end p ls i all le so_far = ap (all_go_on p) (sym (drop_all i ls le)) ∙ so_far

-- ---- parts of rows

take_none : (n : ℕ) (xs : List Token) → xs ≡ [] → [] ≡ take n xs
take_none zero xs e = refl
take_none (suc n) xs e = sym (ap (take (suc n)) e)

pub drop_tokens : (n : ℕ) (ts : List Spanned) → tokens_of (drop n ts) ≡ drop n (tokens_of ts)
drop_tokens zero ts = refl
drop_tokens (suc n) [] = refl
drop_tokens (suc n) (t ∷ ts) = drop_tokens n ts

drop_take : (from stop : ℕ) (xs : List Token) → from ≤ stop → drop from (take stop xs) ≡ take (stop - from) (drop from xs)
drop_take zero stop xs le = let e : stop ≡ stop - 0 = omega arith in ap (λ n. take n xs) e
drop_take (suc from) zero xs le = absurd (omega (arith, le))
drop_take (suc from) (suc stop) [] le = take_none (suc stop - suc from) [] refl
drop_take (suc from) (suc stop) (x ∷ xs) le =
    drop_take from stop xs (omega (arith, le)) ∙ (let e : stop - from ≡ suc stop - suc from = omega arith in ap (λ n. take n (drop from xs)) e)

pub part_tokens : (ts part : List Spanned) (from stop : ℕ) → from ≤ stop → part ≡ take (stop - from) (drop from ts)
    → tokens_of part ≡ drop from (take stop (tokens_of ts))
part_tokens ts part from stop le is =
    ap tokens_of is ∙ take_tokens (stop - from) (drop from ts) ∙ ap (take (stop - from)) (drop_tokens from ts) ∙ sym (drop_take from stop (tokens_of ts) le)

-- the row before a placeholder, and it
pub row_tokens : (ts row : List Spanned) (from to : ℕ) (name : List ℕ) → row ≡ take from ts ++ stand_in ts from to name ∷ []
    → tokens_of row ≡ take from (tokens_of ts) ++ placeholder name ∷ []
row_tokens ts row from to name is =
    ap tokens_of is ∙ tokens_push (take from ts) (stand_in ts from to name) ∙ ap (λ (l : List Token). l ++ placeholder name ∷ []) (take_tokens from ts)

pub longer_tokens : (row longer : List Spanned) (next : Spanned) (front : List Token) → longer ≡ row ++ next ∷ [] → tokens_of row ≡ front
    → tokens_of longer ≡ front ++ next.token ∷ []
longer_tokens row longer next front is e =
    ap tokens_of is ∙ tokens_push row next ∙ ap (λ (l : List Token). l ++ next.token ∷ []) e

module _ (def : Definition) (kind : Kind) where
  pub stands_not : (ts : List Token) (k : ℕ) (c : Candidate) → may_stand def c.phylum ≡ false → IsCandidate def kind ts k c → ⊥
  stands_not ts k c never h = true≢false (sym h.stands ∙ never)

  pub part_not : (ts : List Token) (k : ℕ) (c : Candidate) (part : List Token) (b : Bool) → part ≡ drop c.from (take k ts)
      → IsTrue b ↔ Begins (quiet def) (kinds.Phylum c.phylum) 0 part → b ≡ false → IsTrue false ↔ IsCandidate def kind ts k c
  part_not ts k c part b is iff never = (
    λ e. absurd (true≢false (sym e)),
    λ h. absurd (true≢false (sym (iff.1 (subst (Begins (quiet def) (kinds.Phylum c.phylum) 0) (sym is) h.part)) ∙ never)),
  )

  pub candidate_iff : (ts : List Token) (k : ℕ) (c : Candidate) (phylum : Phylum) (part row : List Token) (a b : Bool) → slice_get def.phyla c.phylum ≡ Some phylum
      → may_stand def c.phylum ≡ true → c.from ≤ k → part ≡ drop c.from (take k ts) → IsTrue a ↔ Begins (quiet def) (kinds.Phylum c.phylum) 0 part → a ≡ true
      → row ≡ take c.from ts ++ placeholder phylum.name ∷ [] → IsTrue b ↔ Begins (quiet def) kind 0 row → IsTrue b ↔ IsCandidate def kind ts k c
  candidate_iff ts k c phylum part row a b there stands back part_is part_iff holds row_is iff = (
    λ t. record {
      phylum = phylum;
      there = there;
      stands = stands;
      back = back;
      part = subst (Begins (quiet def) (kinds.Phylum c.phylum) 0) part_is (part_iff.0 holds);
      follows = subst (Begins (quiet def) kind 0) row_is (iff.0 t);
    },
    λ h.
        let same : h.phylum ≡ phylum = slice_get_once def.phyla c.phylum h.phylum phylum h.there there in
        let is : take c.from ts ++ placeholder h.phylum.name ∷ [] ≡ row =
        ap (λ (q : Phylum). take c.from ts ++ placeholder q.name ∷ []) same ∙ sym row_is in
        iff.1 (subst (Begins (quiet def) kind 0) is h.follows),
  )

  pub goes_iff : (ts : List Token) (j : ℕ) (c : Candidate) (phylum : Phylum) (o : Option Token) (b : Bool) → slice_get def.phyla c.phylum ≡ Some phylum → slice_get ts j ≡ o
      → IsTrue b ↔ GoesOnAt def kind (take c.from ts ++ placeholder phylum.name ∷ []) o → IsTrue b ↔ GoesOnWith def kind ts j c
  goes_iff ts j c phylum o b there at iff = (
    λ t. record {
      phylum = phylum;
      there = there;
      goes_on = subst (GoesOnAt def kind (take c.from ts ++ placeholder phylum.name ∷ [])) (sym at) (iff.0 t);
    },
    λ h. iff.1 (subst (λ (q : Phylum). GoesOnAt def kind (take c.from ts ++ placeholder q.name ∷ []) o) (slice_get_once def.phyla c.phylum h.phylum phylum h.there there)
        (subst (GoesOnAt def kind (take c.from ts ++ placeholder h.phylum.name ∷ [])) at h.goes_on)),
  )

  -- with the token at the place, or without one
  pub goes_some : (ts : List Spanned) (j : ℕ) (c : Candidate) (phylum : Phylum) (next : Spanned) (row longer : List Spanned) (b : Bool) → slice_get def.phyla c.phylum ≡ Some phylum
      → slice_get ts j ≡ Some next → row ≡ take c.from ts ++ stand_in ts c.from j phylum.name ∷ [] → longer ≡ row ++ next ∷ []
      → IsTrue b ↔ Begins (quiet def) kind 0 (tokens_of longer) → IsTrue b ↔ GoesOnWith def kind (tokens_of ts) j c
  goes_some ts j c phylum next row longer b there at row_is longer_is iff =
      goes_iff (tokens_of ts) j c phylum (Some next.token) b there (slice_get-map_some (λ (s : Spanned). s.token) ts j next at)
      (subst (λ l. IsTrue b ↔ Begins (quiet def) kind 0 l) (longer_tokens row longer next (take c.from (tokens_of ts) ++ placeholder phylum.name ∷ []) longer_is (row_tokens ts row c.from j phylum.name row_is)) iff)

  pub goes_none : (ts : List Spanned) (j : ℕ) (c : Candidate) (phylum : Phylum) (row : List Spanned) (b : Bool) → slice_get def.phyla c.phylum ≡ Some phylum
      → slice_get ts j ≡ None → row ≡ take c.from ts ++ stand_in ts c.from j phylum.name ∷ []
      → (b ≡ true) ↔ MayEnd (quiet def) kind 0 (tokens_of row) → IsTrue b ↔ GoesOnWith def kind (tokens_of ts) j c
  goes_none ts j c phylum row b there at row_is iff =
      goes_iff (tokens_of ts) j c phylum None b there (slice_get-map (λ (s : Spanned). s.token) ts j ∙ ap (option_map (λ (s : Spanned). s.token)) at)
      (subst (λ l. (b ≡ true) ↔ MayEnd (quiet def) kind 0 l) (row_tokens ts row c.from j phylum.name row_is) iff)

-- ---- a row with the placeholder of a phylum

pub row_is : (ts : List Spanned) (from to : ℕ) (start pushed row : List Spanned) (own : Spanned) (phyla : List Phylum) (p : ℕ) (found phylum : Phylum) → start ≡ []
    → pushed ≡ start ++ take from ts → own ≡ stand_in ts from to found.name → row ≡ pushed ++ own ∷ [] → slice_get phyla p ≡ Some found → slice_get phyla p ≡ Some phylum
    → row ≡ take from ts ++ stand_in ts from to phylum.name ∷ []
row_is ts from to start pushed row own phyla p found phylum empty front is whole at there =
    whole ∙ ap (λ (l : List Spanned). l ++ own ∷ []) (front ∙ ap (λ (l : List Spanned). l ++ take from ts) empty)
    ∙ ap (λ (s : Spanned). take from ts ++ s ∷ []) (is ∙ ap (λ (q : Phylum). stand_in ts from to q.name) (slice_get_once phyla p found phylum at there))

-- ---- what a search answers

none_here : {X : Type 0} (A : Type 0) (B : X → Type 0) (o : Option X) → o ≡ None → MatchOption o A B → A
none_here {X} A B o e h = subst (λ (x : Option X). MatchOption x A B) e h

some_here : {X : Type 0} (A : Type 0) (B : X → Type 0) (o : Option X) (x : X) → o ≡ Some x → MatchOption o A B → B x
some_here {X} A B o x e h = subst (λ (y : Option X). MatchOption y A B) e h

module _ (r : Reader) (ts : List Token) where
  abbrev Never : ℕ → List Candidate → Type 0
  Never to slice = (c : Candidate) → IsIn c slice → GoesOnWith r.known.definition.now r.kind ts to c → ⊥

  abbrev Goes : ℕ → List Candidate → Resumption → Type 0
  Goes to slice at = (at.to ≡ to) × IsFirst (GoesOnWith r.known.definition.now r.kind ts to) slice (record { from = at.from; phylum = at.phylum })

  pub at_none : (to : ℕ) (slice : List Candidate) (o : Option Resumption) → o ≡ None → MatchOption o (Never to slice) (Goes to slice) → Never to slice
  at_none to slice o e h = none_here (Never to slice) (Goes to slice) o e h

  pub at_some : (to : ℕ) (slice : List Candidate) (o : Option Resumption) (at : Resumption) → o ≡ Some at → MatchOption o (Never to slice) (Goes to slice) → Goes to slice at
  at_some to slice o at e h = some_here (Never to slice) (Goes to slice) o at e h

  pub best_none : (k : ℕ) (o : Option Resumption) → o ≡ None → MatchOption o (HasNone r.known.definition.now r.kind ts k) (IsBestAt r ts k) → HasNone r.known.definition.now r.kind ts k
  best_none k o e h = none_here (HasNone r.known.definition.now r.kind ts k) (IsBestAt r ts k) o e h

  pub best_some : (k : ℕ) (o : Option Resumption) (at : Resumption) → o ≡ Some at → MatchOption o (HasNone r.known.definition.now r.kind ts k) (IsBestAt r ts k) → IsBestAt r ts k at
  best_some k o at e h = some_here (HasNone r.known.definition.now r.kind ts k) (IsBestAt r ts k) o at e h

-- where reading goes on first is best
pub resumed_best : (r : Reader) (ts : List Token) (k to : ℕ) (all : List Candidate) → AreCandidates r.known.definition.now r.kind ts k all → (slice : List Candidate) → slice ≡ all → (at : Resumption) → k ≤ to → to ≤ length ts
    → IsNoneUpTo r.known.definition.now r.kind ts k all to → (at.to ≡ to) × IsFirst (GoesOnWith r.known.definition.now r.kind ts to) slice (record { from = at.from; phylum = at.phylum }) → IsBestAt r ts k at
resumed_best r ts k to all are slice same at behind inside none h =
    let own : Candidate = record { from = at.from; phylum = at.phylum } in
    let it : IsFirst (GoesOnWith r.known.definition.now r.kind ts to) all own = subst (λ (xs : List Candidate). IsFirst (GoesOnWith r.known.definition.now r.kind ts to) xs own) same h.1 in
    record {
      phylum = it.holds.phylum;
      best = subst (λ (j : ℕ). IsBest r.known.definition.now r.kind ts k j at.from at.phylum it.holds.phylum) (sym h.0)
          (is_best r.known.definition.now r.kind ts k all are to own behind inside none it);
    }

pub none_for : (r : Reader) (ts : List Spanned) (to : ℕ) (all slice : List Candidate) → slice ≡ all → ((c : Candidate) → IsIn c slice → GoesOnWith r.known.definition.now r.kind (tokens_of ts) to c → ⊥)
    → (c : Candidate) → IsIn c all → GoesOnWith r.known.definition.now r.kind (tokens_of ts) to c → ⊥
none_for r ts to all slice same none c among = none c (subst (IsIn c) (sym same) among)

-- the whole row that is read on
pub whole_row : (ts : List Spanned) (from to : ℕ) (phylum : Phylum) (row whole : List Spanned) → row ≡ take from ts ++ stand_in ts from to phylum.name ∷ [] → whole ≡ row ++ drop to ts
    → whole ≡ resumed_row ts from to phylum
whole_row ts from to phylum row whole front is =
    is ∙ ap (λ (l : List Spanned). l ++ drop to ts) front ∙ append_assoc (take from ts) (stand_in ts from to phylum.name ∷ []) (drop to ts)
