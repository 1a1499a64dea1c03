-- The summaries at a node of the way, one for each candidate, and those of the node above it.
use Rattle.std.proofs.Common.{◌≡◌, ℕ, zero, suc, ◌+◌, ◌<◌, Bool, true, false, List, [], ◌∷◌, ◌++◌, take, get_or, length, bytes_eq, Some, slice_get, refl, ap, sym, ◌∙◌, subst, true≢false, arith}
use Rattle.std.proofs.lemmas.Option.{slice_get_within}
use Rattle.psg_terms.proofs.Lists.{take_item, each_at}
use Rattle.std.specs.List.{list_any, AllByRecursion}
use Rattle.std.specs.Prelude.{Result, Ok, Err}
use Rattle.psg_terms.specs.Names.{Name}
use Rattle.psg_terms.specs.Relations.{IsIn, first, later}
use Rattle.psg_grammar.specs.declared.types.Kind.{Kind}
use Rattle.psg_grammar.specs.declared.types.Definition.{Definition}
use Rattle.psg_grammar.specs.Fragments.{Fragment}
use Rattle.psg_grammar.specs.Sound.{IsSound}
use Rattle.psg_grammar.proofs.SoundParts.{phylum_in}
use Rattle.psg_scope.specs.declared.header.NameCol.{NameCol}
use Rattle.psg_scope.specs.declared.header.Header.{Header}
use Rattle.psg_relation.specs.Fewer.{FewerColumns}
use Rattle.psg_relation.proofs.FewerLaws.{fewer}
use Rattle.psg_eval.specs.declared.question.FocusFault.{FocusFault}
use Rattle.psg_eval.specs.declared.question.FocusFault.TheVariants as questions
use Rattle.psg_eval.specs.declared.summary.EvalFault.{EvalFault}
use Rattle.psg_eval.specs.declared.summary.EvalFault.TheVariants as faults
use Rattle.psg_eval.specs.declared.summary.SummaryParts.{SummaryParts}
use Rattle.psg_eval.specs.Renamed.{IsRenamed}
use Rattle.psg_menu.specs.declared.entries.Entry.{Entry}
use Rattle.psg_menu.specs.declared.sharing.Level.{Level}
use Rattle.psg_menu.specs.Sharing.{Rise, of_node, of_first, of_before, has_key, meets, AreApart, ArePlaced, CanRise, GoesOn, straight, parting, IsLevel, IsLevelAnswer, IsNamed, IsPlacedAt, IsRaised, IsRaisedFrom, IsUsual, Leads, OwnFails, StandsAs}
use Rattle.psg_menu.proofs.FormedTrials.{empty, empty_usual}
use Rattle.psg_menu.proofs.SharedWay.{parted, stands_fail, stands_next}

-- ---- lists

pub name_got : (P : Name → Type 0) (ns : List Name) (i : ℕ) (n : Name) → i < length ns → n ≡ get_or ns i n → AllByRecursion P ns → P n
name_got P [] i n l e h = absurd (omega (arith, l))
name_got P (m ∷ ns) zero n l e h = subst P (sym e) h.0
name_got P (m ∷ ns) (suc i) n l e h = name_got P ns i n (omega (arith, l)) e h.1

name_in : (ns : List Name) (i : ℕ) (n : Name) → i < length ns → n ≡ get_or ns i n → IsIn n ns
name_in [] i n l e = absurd (omega (arith, l))
name_in (m ∷ ns) zero n l e = subst (λ z. IsIn z (m ∷ ns)) (sym e) first
name_in (m ∷ ns) (suc i) n l e = later (name_in ns i n (omega (arith, l)) e)

-- all entries keep their places
abbrev pub Grows : List Entry → List Entry → Type 0
Grows old new = (k : ℕ) (e : Entry) → slice_get old k ≡ Some e → slice_get new k ≡ Some e

-- ---- a place for each candidate

module _ (def : Definition) (o : ℕ) (below : List SummaryParts) (star : Name) (done : List Rise) where
  placed_grow : (old new : List Entry) → Grows old new → (ns : List Name) (ks : List ℕ) → ArePlaced def o below star done old ns ks → ArePlaced def o below star done new ns ks
  placed_grow old new grows [] [] h = tt
  placed_grow old new grows [] (k ∷ ks) h = absurd h
  placed_grow old new grows (n ∷ ns) [] h = absurd h
  placed_grow old new grows (n ∷ ns) (k ∷ ks) ((e, at, stands), h) = ((e, grows k e at, stands), placed_grow old new grows ns ks h)

  placed_more : (entries : List Entry) (ns : List Name) (ks : List ℕ) (n : Name) (k : ℕ) → ArePlaced def o below star done entries ns ks → IsPlacedAt def o below star done entries n k
      → ArePlaced def o below star done entries (ns ++ n ∷ []) (ks ++ k ∷ [])
  placed_more entries [] [] n k h at = (at, tt)
  placed_more entries [] (j ∷ ks) n k h at = absurd h
  placed_more entries (m ∷ ns) [] n k h at = absurd h
  placed_more entries (m ∷ ns) (j ∷ ks) n k (one, h) at = (one, placed_more entries ns ks n k h at)

  pub placed_at : (entries : List Entry) (ns : List Name) (ks : List ℕ) (i : ℕ) (n : Name) → i < length ns → n ≡ get_or ns i n → ArePlaced def o below star done entries ns ks
      → IsPlacedAt def o below star done entries n (get_or ks i 0)
  placed_at entries [] ks i n l e h = absurd (omega (arith, l))
  placed_at entries (m ∷ ns) [] i n l e h = absurd h
  placed_at entries (m ∷ ns) (k ∷ ks) zero n l e (one, h) = subst (λ z. IsPlacedAt def o below star done entries z k) (sym e) one
  placed_at entries (m ∷ ns) (k ∷ ks) (suc i) n l e (one, h) = placed_at entries ns ks i n (omega (arith, l)) e h

  pub placed_length : (entries : List Entry) (ns : List Name) (ks : List ℕ) → ArePlaced def o below star done entries ns ks → length ks ≡ length ns
  placed_length entries [] [] h = refl
  placed_length entries [] (k ∷ ks) h = absurd h
  placed_length entries (n ∷ ns) [] h = absurd h
  placed_length entries (n ∷ ns) (k ∷ ks) (one, h) = ap suc (placed_length entries ns ks h)

  pub place_within : (entries : List Entry) (ns : List Name) (ks : List ℕ) (i : ℕ) → i < length ns → ArePlaced def o below star done entries ns ks → get_or ks i 0 < length entries
  place_within entries [] ks i l h = absurd (omega (arith, l))
  place_within entries (m ∷ ns) [] i l h = absurd h
  place_within entries (m ∷ ns) (k ∷ ks) zero l ((e, at, stands), h) = slice_get_within entries k e at
  place_within entries (m ∷ ns) (k ∷ ks) (suc i) l (one, h) = place_within entries ns ks i (omega (arith, l)) h

-- ---- the candidates one after another

module _ (def : Definition) (rise : Rise) (star : Name) (candidates : List Name) (level : Level) where
  -- the entries above, with a place for each of these candidates
  abbrev pub AreSoFar : List Entry → List Name → List ℕ → Type 0
  AreSoFar entries ns ks = (o : ℕ) (below : List SummaryParts) (done : List Rise) (kind up : Kind) → AreApart below star candidates → CanRise def rise kind up
      → IsLevel def o below star done kind candidates level
      → AllByRecursion (λ (e : Entry). IsUsual def up e.own) entries × ArePlaced def o below star (rise ∷ done) entries ns ks

  pub none_so_far : (entries : List Entry) (ks : List ℕ) → entries ≡ [] → ks ≡ [] → AreSoFar entries (take 0 candidates) ks
  none_so_far entries ks none empty o below done kind up apart can is = (
    subst (AllByRecursion (λ (e : Entry). IsUsual def up e.own)) (sym none) tt,
    subst (ArePlaced def o below star (rise ∷ done) entries []) (sym empty) tt,
  )

  -- what is said of the own entry of a candidate
  abbrev pub IsSaid : ℕ → Name → List Entry → Result ℕ FocusFault → Type 0
  IsSaid i n above result = (old : Entry) → slice_get level.entries.items (get_or level.places.items i 0) ≡ Some old → IsRaisedFrom def rise star n old above result

  pub said_of : (i : ℕ) (n : Name) (above : List Entry) (result : Result ℕ FocusFault) (es : List Entry) (ks : List ℕ) → es ≡ level.entries.items → ks ≡ level.places.items
      → ((old : Entry) → slice_get es (get_or ks i 0) ≡ Some old → IsRaisedFrom def rise star n old above result) → IsSaid i n above result
  said_of i n above result es ks a b said old here =
      said old (subst (λ x. slice_get x (get_or ks i 0) ≡ Some old) (sym a) (subst (λ y. slice_get level.entries.items (get_or y i 0) ≡ Some old) (sym b) here))

module _ (def : Definition) (sound : IsSound def) where
  light : FewerColumns def.signature
  light = fewer def.signature sound.signature

  -- ---- a kind with a summary

  some_above : (rise : Rise) (kind up : Kind) → CanRise def rise kind up → (s : SummaryParts) × IsUsual def kind s → (s : SummaryParts) × IsUsual def up s
  some_above (of_node op names children hot) kind up can (s, is) =
      let (inside, silent, takes, o, found, same) = can s is.usual is.of_kind in
      (empty def o.phylum, record { usual = empty_usual def o.phylum (phylum_in def sound op o found); of_kind = sym same; silent = refl })
  some_above (of_first list rest) kind up can (s, is) =
      let (cells, silent, same) = can s is.usual is.of_kind in
      (rest, record { usual = cells.summaries.1.0; of_kind = cells.rest_kind ∙ sym same; silent = silent })
  some_above (of_before list element) kind up can (s, is) =
      let (cells, silent, same) = can s is.usual is.of_kind in
      (s, record { usual = is.usual; of_kind = cells.rest_kind ∙ sym same; silent = is.silent })

  -- ---- one candidate

  no_key : (h : Header) (n : Name) → h.names ≡ [] → has_key h n ≡ false
  no_key h n e = ap (list_any (λ (c : NameCol). bytes_eq c.name n)) e

  pub no_keys : (n star : Name) (ss : List SummaryParts) → AllByRecursion (λ (s : SummaryParts). s.header.names ≡ []) ss
      → AllByRecursion (λ (s : SummaryParts). (has_key s.header n ≡ false) × (has_key s.header star ≡ false)) ss
  no_keys n star [] h = tt
  no_keys n star (s ∷ ss) (one, h) = ((no_key s.header n one, no_key s.header star one), no_keys n star ss h)

  module _ (o : ℕ) (below : List SummaryParts) (star : Name) (candidates : List Name) (apart : AreApart below star candidates) (done : List Rise) (rise : Rise) where
    module _ (n : Name) (other : bytes_eq n star ≡ false) (some_n : bytes_eq n [] ≡ false) (old : Entry) (silent : old.own.seen ≡ 0)
        (stands : StandsAs def o below star n done old.shared old.own) where
      abbrev After : Bool → Result SummaryParts EvalFault → Type 0
      After b (Ok s) = StandsAs def o below star n (rise ∷ done) b s
      After b (Err (faults.Wide step)) = (u t : Fragment) → Leads def (rise ∷ done) u t → IsNamed def o below n t → OwnFails def u
      After b (Err faults.Memory) = Unit {0}

      after_straight : (result : Result SummaryParts EvalFault) → (old.shared ≡ true → (meets rise n ≡ false) × (meets rise star ≡ false)) → IsRaised def rise old.own result → After old.shared result
      after_straight (Ok s) unmet raised =
          stands_next def sound light n star other some_n apart.some o below (no_keys n star below apart.quiet) old.shared done rise old.own s unmet raised stands
      after_straight (Err (faults.Wide step)) unmet raised =
          stands_fail def sound light n star other some_n apart.some o below (no_keys n star below apart.quiet) old.shared done rise old.own step unmet raised stands
      after_straight (Err faults.Memory) unmet raised = tt

      never : {X : Type 0} → ◌≡◌ {A = Bool} false true → X
      never e = absurd (true≢false (sym e))

      after_parting : (own : SummaryParts) (result : Result SummaryParts EvalFault) → old.shared ≡ true → has_key old.own.header n ≡ false → IsRenamed def star n old.own own → IsRaised def rise own result → After false result
      after_parting own (Ok s) shared fresh made raised =
          stands_next def sound light n star other some_n apart.some o below (no_keys n star below apart.quiet) false done rise own s never raised
          (parted def sound light n star other some_n apart.some o below (no_keys n star below apart.quiet) done old.own own silent fresh made
          (subst (λ b. StandsAs def o below star n done b old.own) shared stands))
      after_parting own (Err (faults.Wide step)) shared fresh made raised =
          stands_fail def sound light n star other some_n apart.some o below (no_keys n star below apart.quiet) false done rise own step never raised
          (parted def sound light n star other some_n apart.some o below (no_keys n star below apart.quiet) done old.own own silent fresh made
          (subst (λ b. StandsAs def o below star n done b old.own) shared stands))
      after_parting own (Err faults.Memory) shared fresh made raised = tt

      after : {b : Bool} {result : Result SummaryParts EvalFault} → GoesOn def rise star n old b result → After b result
      after (straight result unmet raised) = after_straight result unmet raised
      after (parting own result shared fresh made raised) = after_parting own result shared fresh made raised

      placed_next : (above : List Entry) (to : ℕ) → IsRaisedFrom def rise star n old above (Ok to) → IsPlacedAt def o below star (rise ∷ done) above n to
      placed_next above to (b, at, goes) = (b, at, after goes)

      fault_next : (above : List Entry) (up : Kind) (fault : FocusFault) → IsIn n candidates → IsRaisedFrom def rise star n old above (Err fault)
          → IsLevelAnswer def o below star candidates (rise ∷ done) up (Err fault)
      fault_next above up questions.Memory i h = tt
      fault_next above up questions.Wide i (b, step, goes) =
          record { front = []; done = rise ∷ done; split = refl; failed = record { name = n; there = i; fails = after goes } }

  module _ (rise : Rise) (star : Name) (candidates : List Name) (level : Level) where
    module _ (i : ℕ) (n : Name) (l : i < length candidates) (at : n ≡ get_or candidates i n) where
      pub more_so_far : (old new : List Entry) (ks grown : List ℕ) (to : ℕ) → AreSoFar def rise star candidates level old (take i candidates) ks → Grows old new
          → ((kind up : Kind) → CanRise def rise kind up → AllByRecursion (λ (e : Entry). IsUsual def kind e.own) level.entries.items
          → AllByRecursion (λ (e : Entry). IsUsual def up e.own) old → AllByRecursion (λ (e : Entry). IsUsual def up e.own) new)
          → IsSaid def rise star candidates level i n new (Ok to) → grown ≡ ks ++ to ∷ [] → AreSoFar def rise star candidates level new (take (i + 1) candidates) grown
      more_so_far old new ks grown to h grows usual said more o below done kind up apart can is =
          let (all, placed) = h o below done kind up apart can is in
          let (e, here, stands) = placed_at def o below star done level.entries.items candidates level.places.items i n l at is.placed in
          let mine = each_at (λ (x : Entry). IsUsual def kind x.own) level.entries.items is.usual (get_or level.places.items i 0) e here in
          let (other, some_n) = name_got (λ m. (bytes_eq m star ≡ false) × (bytes_eq m [] ≡ false)) candidates i n l at apart.others in
          let next = placed_next o below star candidates apart done rise n other some_n e mine.silent stands new to (said e here) in (
            usual kind up can is.usual all,
            subst (λ ns. ArePlaced def o below star (rise ∷ done) new ns grown) (sym (take_item candidates i n l at))
                (subst (ArePlaced def o below star (rise ∷ done) new (take i candidates ++ n ∷ [])) (sym more)
                (placed_more def o below star (rise ∷ done) new (take i candidates) ks n to (placed_grow def o below star (rise ∷ done) old new grows (take i candidates) ks placed) next)),
          )

      pub said_fault : (new : List Entry) (fault : FocusFault) → IsSaid def rise star candidates level i n new (Err fault) → (o : ℕ) (below : List SummaryParts) (done : List Rise) (kind up : Kind) → AreApart below star candidates
          → CanRise def rise kind up → IsLevel def o below star done kind candidates level → IsLevelAnswer def o below star candidates (rise ∷ done) up (Err fault)
      said_fault new fault said o below done kind up apart can is =
          let (e, here, stands) = placed_at def o below star done level.entries.items candidates level.places.items i n l at is.placed in
          let mine = each_at (λ (x : Entry). IsUsual def kind x.own) level.entries.items is.usual (get_or level.places.items i 0) e here in
          let (other, some_n) = name_got (λ m. (bytes_eq m star ≡ false) × (bytes_eq m [] ≡ false)) candidates i n l at apart.others in
          fault_next o below star candidates apart done rise n other some_n e mine.silent stands new up fault (name_in candidates i n l at) (said e here)

    take_all : (xs : List Name) (i : ℕ) → i ≡ length xs → take i xs ≡ xs
    take_all [] zero e = refl
    take_all [] (suc i) e = absurd (omega (arith, e))
    take_all (x ∷ xs) zero e = absurd (omega (arith, e))
    take_all (x ∷ xs) (suc i) e = ap (λ ys. x ∷ ys) (take_all xs i (omega (arith, e)))

    pub all_so_far : (new : Level) (i : ℕ) → i ≡ length candidates → AreSoFar def rise star candidates level new.entries.items (take i candidates) new.places.items → (o : ℕ) (below : List SummaryParts) (done : List Rise) (kind up : Kind)
        → AreApart below star candidates → CanRise def rise kind up → IsLevel def o below star done kind candidates level → IsLevel def o below star (rise ∷ done) up candidates new
    all_so_far new i end h o below done kind up apart can is =
        let (all, placed) = h o below done kind up apart can is in
        record {
          some = some_above rise kind up can is.some;
          usual = all;
          placed = subst (λ ns. ArePlaced def o below star (rise ∷ done) new.entries.items ns new.places.items) (take_all candidates i end) placed;
        }
