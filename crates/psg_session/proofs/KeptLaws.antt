-- What a keep and a fetch do, from what the files answered.
use Rattle.std.specs.Prelude.{codes}
use Rattle.std.proofs.Common.{◌≡◌, inl, inr, ℕ, ◌<◌, ◌≤◌, ◌+◌, List, [], ◌∷◌, ◌++◌, length, Option, Some, None, IfSome, Ok, Err, option_map, refl, sym, ◌∙◌, ap, ap₂, subst, arith}
use Rattle.std.specs.List.{AllByRecursion}
use Rattle.std.specs.FinMap as map
use Rattle.std.proofs.lemmas.Option.{none-some}
use Rattle.psg_terms.specs.Names.{Name}
use Rattle.psg_world.specs.Files.{Entry, Held, reading, writing, bytes_of as held_bytes, front_of}
use Rattle.psg_grammar.specs.declared.types.Definition.{Definition}
use Rattle.psg_grammar.specs.Sizes.{IsBig}
use Rattle.psg_grammar.specs.Sound.{IsSound}
use Rattle.psg_class.specs.Class.{IsClass}
use Rattle.psg_library.specs.declared.fragment.SavedFragment.{SavedFragment as Saved}
use Rattle.psg_library.specs.declared.fragment.KeptFault.{KeptFault}
use Rattle.psg_library.specs.declared.fragment.KeptFault.TheVariants as faults
use Rattle.psg_library.specs.Keeping.{bytes_of, counted, IsFirstFault, IsKept, MayCount, nothing, OrMemory, tokens, uncounted}
use Rattle.psg_library.proofs.OneReading.{kept_alone, no_fault_too}
use Rattle.psg_script.specs.declared.command.Command.{Command}
use Rattle.psg_script.specs.declared.command.Command.TheVariants.{New, Goto, Refine, Insert, Cut, Remove, Close, Reopen, Over, Range, Show, Screen, Relation, Own, Menu, Names, Free, Undo, Redo, Save, Paste, Keep, Fetch}
use Rattle.psg_session.specs.declared.editor.Editor.{Editor}
use Rattle.psg_session.specs.declared.editor.Outcome.{Outcome}
use Rattle.psg_session.specs.declared.editor.Outcome.TheVariants.{Stays}
use Rattle.psg_session.specs.declared.refusal.Refusal.TheVariants.{NoFragment, ShelfFault, ShelfFull, TooBig}
use Rattle.psg_session.specs.declared.replies.Reply.{Reply as Given}
use Rattle.psg_session.specs.declared.replies.Reply.TheVariants.{Refused}
use Rattle.psg_session.specs.declared.stop.Stop.{Stop}
use Rattle.psg_session.specs.declared.stop.Stop.TheVariants as stops
use Rattle.psg_session.specs.Applied.{HasStopped}
use Rattle.psg_session.specs.Exchanges.{Asked, fetching, gets, keeping, loses_fetch, loses_keep, most_kept_bytes, nobody, Outside, stores}
use Rattle.psg_session.specs.Good.{IsGoodIn}
use Rattle.psg_session.specs.Kept.{Asks, IsUnreadable, MayRead, OfBytes, OfFetched}
use Rattle.psg_session.specs.Outcomes.{IfFound, IsOutcome, shelved}
use Rattle.psg_session.specs.PlainState.{Answer, State, got, lost, not_asked, stored, with_saved}
use Rattle.psg_session.specs.PlainStep.{fetches, keeps, refuses, Steps}
use Rattle.psg_session.specs.Reached.{HasReached, IsFragmentAnswer, IsReaching}
use Rattle.psg_session.specs.Replies.{Reply, answered}
use Rattle.psg_session.specs.Formed.{IsFormedSaved}
use Rattle.psg_session.specs.Sessions.{IsEditor, state_of}
use Rattle.psg_session.specs.Shelf.{others, saved_at, saved_with, IsFull}
use Rattle.psg_session.specs.Stops.{stop_of_kept}
use Rattle.psg_session.specs.Ticks.{HasTicked, HasTickedWith, MayTick}
use Rattle.psg_session.specs.Views.{reply_of}
use Rattle.psg_session.proofs.Shelving.{all_more, all_others}
use Rattle.psg_session.proofs.StepLaws.{some_once}

pub same_outside : {h h' : Option Held} {e e' : List Entry} → h' ≡ h → e' ≡ e
    → ◌≡◌ {A = Outside} (record { held = h'; entries = e' }) (record { held = h; entries = e })
same_outside held entries = ap₂ (λ x y. record { held = x; entries = y }) held entries

-- ---- the count

module _ (def : Definition) (s : State) where
  -- the files gave nothing to be read
  pub ticked_alone : (command : Command) (from to : ℕ) → HasTicked def s command from to
      → HasTickedWith def s not_asked command from to
  ticked_alone command from to h =
      let n : ℕ = h.taken in
      let whole : h.taken ≡ h.taken + 0 = omega arith in
      record {
        taken = h.taken;
        counted = h.counted;
        within = record { taken = h.taken; read = 0; whole = whole; within = h.within; reading = refl };
      }

  counts_nothing : (answer : Answer) (command : Command) (count : ℕ) → MayRead def answer 0 → MayTick def s command 0
      → HasTickedWith def s answer command count count
  counts_nothing answer command count read_by within =
      let same : count ≤ count + 0 = omega arith in
      record {
        taken = 0;
        counted = same;
        within = record { taken = 0; read = 0; whole = refl; within = within; reading = read_by };
      }

  counts_read : (bytes : List ℕ) (file : Name) (from to n : ℕ) → to ≤ from + n → MayCount def bytes 0 n
      → HasTickedWith def s (got bytes) (Fetch file) from to
  counts_read bytes file from to n less read_by =
      let whole : n ≡ 0 + n = omega arith in
      record {
        taken = n;
        counted = less;
        within = record { taken = 0; read = n; whole = whole; within = refl; reading = read_by };
      }

  -- the tokens of what was got were counted
  pub ticked_reading : (bytes : List ℕ) (file : Name) (from to : ℕ) → MayCount def bytes from to
      → HasTickedWith def s (got bytes) (Fetch file) from to
  ticked_reading bytes file from to (uncounted same) =
      let less : to ≤ from + 0 = omega (arith, same) in counts_read bytes file from to 0 less (uncounted refl)
  ticked_reading bytes file from to (counted name kind begins (nothing same)) =
      let less : to ≤ from + 0 = omega (arith, same) in counts_read bytes file from to 0 less (uncounted refl)
  ticked_reading bytes file from to (counted name kind begins (tokens ts are less)) =
      let all : length ts ≤ 0 + length ts = omega arith in
      counts_read bytes file from to (length ts) less (counted name kind begins (tokens ts are all))

-- ---- a keep

module _ (def : Definition) (e : Editor) (name file : Name) (before after : Outside) (count : ℕ) where
  abbrev Keeps : Outcome → Type 0
  Keeps outcome = HasReached def e (Keep name file) before after count count outcome

  pub keep_missing : saved_at e.saved name ≡ None → after ≡ before → Keeps (Stays (Refused NoFragment))
  keep_missing none same = record {
    asked = None;
    asks = λ asked h. none-some h.0 (sym none ∙ h.1);
    answer = not_asked;
    answers = nobody same;
    is_outcome = record { steps = refuses (inl (none, refl)); fit = tt };
    ticked = counts_nothing def (state_of e) not_asked (Keep name file) count refl refl;
  }

  module _ (x : Saved) (there : saved_at e.saved name ≡ Some x) where
    is_saved : saved_at e.saved name ≡ None → ⊥
    is_saved none = none-some x (sym none ∙ there)

    -- a property of the bytes of the name is one of those of the fragment
    of_bytes : (P : List ℕ → Type 0) → OfBytes def (state_of e) name P → P (bytes_of def x)
    of_bytes P (y, found, holds) = subst (λ z. P (bytes_of def z)) (some_once y x (saved_at e.saved name) found there) holds

    pub keep_long : most_kept_bytes < length (bytes_of def x) → after ≡ before → Keeps (Stays (Refused TooBig))
    keep_long long same = record {
      asked = None;
      asks = λ asked h.
          let both = of_bytes (λ bytes. (length bytes ≤ most_kept_bytes) × (asked ≡ keeping file bytes)) h in
          let small = both.0 in
          absurd (omega (arith, long, small));
      answer = not_asked;
      answers = nobody same;
      is_outcome = record { steps = refuses (inr (is_saved, inl ((x, there, long), refl))); fit = tt };
      ticked = counts_nothing def (state_of e) not_asked (Keep name file) count refl refl;
    }

    module _ (small : length (bytes_of def x) ≤ most_kept_bytes) where
      not_long : OfBytes def (state_of e) name (λ bytes. most_kept_bytes < length bytes) → ⊥
      not_long h =
          let long = of_bytes (λ bytes. most_kept_bytes < length bytes) h in
          absurd (omega (arith, long, small))

      pub keep_asks : Asks def (state_of e) (Keep name file) (keeping file (bytes_of def x))
      keep_asks = (x, there, (small, refl))

      stored_not_lost : stored ≡ lost → ⊥
      stored_not_lost same = absurd (cc)

      pub keep_stored : after.held ≡ option_map (λ held. map.insert held file (bytes_of def x)) before.held
          → after.entries ≡ before.entries
          → (reply : Given) → reply_of reply ≡ answered ((codes "kept " ++ name) ∷ []) → Keeps (Stays reply)
      keep_stored held entries reply told = record {
        asked = Some (keeping file (bytes_of def x));
        asks = keep_asks;
        answer = stored;
        answers = stores held entries;
        is_outcome = record {
          steps = subst (λ (r : Reply). Steps def (IsGoodIn def) (state_of e) stored (Keep name file) (state_of e) r)
              (sym told) (keeps (is_saved, (not_long, (stored_not_lost, tt))) refl);
          fit = tt;
        };
        ticked = counts_nothing def (state_of e) stored (Keep name file) count refl refl;
      }

      pub keep_lost : after.held ≡ before.held → after.entries ≡ before.entries ++ writing file ∷ []
          → Keeps (Stays (Refused ShelfFault))
      keep_lost held entries = record {
        asked = Some (keeping file (bytes_of def x));
        asks = keep_asks;
        answer = lost;
        answers = loses_keep held entries;
        is_outcome = record {
          steps = refuses (inr (is_saved, inr (not_long, inl (refl, refl))));
          fit = tt;
        };
        ticked = counts_nothing def (state_of e) lost (Keep name file) count refl refl;
      }

      pub keep_stopped : after ≡ before → HasStopped def (state_of e) (Keep name file) before after count count
      keep_stopped same = record {
        asked = Some (keeping file (bytes_of def x));
        asks = keep_asks;
        files = same;
        answer = not_asked;
        got = refl;
        ticked = counts_nothing def (state_of e) not_asked (Keep name file) count refl refl;
      }

-- memory was wanting before anything was asked
pub stopped_alone : (def : Definition) (s : State) (command : Command) (before after : Outside) (from to : ℕ)
    → after ≡ before → HasTicked def s command from to → HasStopped def s command before after from to
stopped_alone def s command before after from to same h = record {
  asked = None;
  asks = tt;
  files = same;
  answer = not_asked;
  got = refl;
  ticked = ticked_alone def s command from to h;
}

-- ---- a fetch

module _ (def : Definition) (sound : IsSound def) (class : IsClass def) (bytes : List ℕ) where
  -- bytes that have a first fault keep no fragment
  none_kept : (fault : KeptFault) → OrMemory (IsFirstFault def bytes) fault → (fault ≡ faults.Memory → ⊥)
      → (x : Saved) → IsKept def bytes x → ⊥
  none_kept fault (inl memory) never x kept = never memory
  none_kept fault (inr first) never x kept = no_fault_too def sound class bytes x fault kept first

  pub unread : (fault : KeptFault) → OrMemory (IsFirstFault def bytes) fault
      → IsFragmentAnswer def bytes (Err (stop_of_kept fault))
  unread faults.Head h = inl (refl, inr (none_kept faults.Head h (λ e. cc)))
  unread faults.Phylum h = inl (refl, inr (none_kept faults.Phylum h (λ e. cc)))
  unread faults.NoTokens h = inl (refl, inr (none_kept faults.NoTokens h (λ e. cc)))
  unread faults.NoTree h = inl (refl, inr (none_kept faults.NoTree h (λ e. cc)))
  unread faults.Deep h = inl (refl, inr (none_kept faults.Deep h (λ e. cc)))
  unread faults.Memory h = tt

got_not_lost : (bytes : List ℕ) → got bytes ≡ lost → ⊥
got_not_lost bytes same = absurd (cc)

same_got : (bytes other : List ℕ) → got bytes ≡ got other → other ≡ bytes
same_got bytes other same = cc

module _ (def : Definition) (e : Editor) (bytes : List ℕ) (file : Name) where
  readable : length bytes ≤ most_kept_bytes → (x : Saved) → IsKept def bytes x → IsUnreadable def (got bytes) → ⊥
  readable small x kept (other, same, inl long) =
      let one = ap (λ (b : List ℕ). length b) (same_got bytes other same) in absurd (omega (arith, small, long, one))
  readable small x kept (other, same, inr none) =
      none x (subst (λ b. IsKept def b x) (sym (same_got bytes other same)) kept)

  pub fetch_refused : (stop : Stop) → IsFragmentAnswer def bytes (Err stop)
      → IfFound (Err stop) (IsOutcome def e (got bytes) (Fetch file))
  fetch_refused stops.Memory h = tt
  fetch_refused (stops.Refused r) (inl (is, why)) = record {
    steps = refuses (inr (got_not_lost bytes, inl ((bytes, refl, why), sym is)));
    fit = tt;
  }
  fetch_refused (stops.Refused r) (inr (is, small, x, kept, big)) = record {
    steps = refuses (inr (
      got_not_lost bytes,
      inr (readable small x kept, inl ((bytes, x, refl, kept, big), sym is)),
    ));
    fit = tt;
  }

  module _ (sound : IsSound def) (class : IsClass def) (x : Saved) (answer : IsFragmentAnswer def bytes (Ok x)) where
    -- a property of what was fetched is one of the fragment
    of_fetched : (P : Saved → Type 0) → OfFetched def (got bytes) P → P x
    of_fetched P (other, y, same, kept, holds) =
        subst P (kept_alone def sound class bytes y x (subst (λ b. IsKept def b y) (same_got bytes other same) kept) answer.1)
        holds

    not_big : OfFetched def (got bytes) (λ y. IsBig y.tree) → ⊥
    not_big h = answer.2 (of_fetched (λ y. IsBig y.tree) h)

    pub fetch_full : IsFull e.saved x.name → IsOutcome def e (got bytes) (Fetch file) (Stays (Refused ShelfFull))
    fetch_full full = record {
      steps = refuses (inr (
        got_not_lost bytes,
        inr (
          readable answer.0 x answer.1,
          inr (not_big, inl ((bytes, x, refl, answer.1, full), refl)),
        ),
      ));
      fit = tt;
    }

    pub fetch_done : (IsFull e.saved x.name → ⊥) → IsEditor def e
        → (saved : List Saved) → saved ≡ saved_with e.saved x
        → (lines : List (List ℕ)) → lines ≡ (codes "fetched " ++ x.name) ∷ []
        → Steps def (IsGoodIn def) (state_of e) (got bytes) (Fetch file) (shelved (state_of e) saved) (answered lines)
        × AllByRecursion (IsFormedSaved def) saved
    fetch_done room editor saved kept lines told =
        let step : Steps def (IsGoodIn def) (state_of e) (got bytes) (Fetch file) (with_saved (state_of e) x)
        (answered ((codes "fetched " ++ x.name) ∷ [])) =
        fetches bytes x (
          got_not_lost bytes,
          (
            readable answer.0 x answer.1,
            (not_big, ((λ full. room (of_fetched (λ y. IsFull e.saved y.name) full)), tt)),
          ),
        )
        refl answer.1 in (
          subst (λ xs. Steps def (IsGoodIn def) (state_of e) (got bytes) (Fetch file) (shelved (state_of e) xs)
              (answered lines)) (sym kept)
              (subst (λ ls. Steps def (IsGoodIn def) (state_of e) (got bytes) (Fetch file)
              (shelved (state_of e) (saved_with e.saved x)) (answered ls)) (sym told) step),
          subst (AllByRecursion (IsFormedSaved def)) (sym kept)
              (all_more (IsFormedSaved def) (others x.name e.saved) x
              (all_others (IsFormedSaved def) x.name e.saved editor.saved) answer.3),
        )

module _ (def : Definition) (e : Editor) (file : Name) (before after : Outside) (from to : ℕ) where
  pub fetch_lost : after.held ≡ before.held → after.entries ≡ before.entries ++ reading file ∷ [] → to ≡ from
      → HasReached def e (Fetch file) before after from to (Stays (Refused ShelfFault))
  fetch_lost held entries same = record {
    asked = Some (fetching file);
    asks = refl;
    answer = lost;
    answers = loses_fetch held entries;
    is_outcome = record { steps = refuses (inl (refl, refl)); fit = tt };
    ticked = subst (λ n. HasTickedWith def (state_of e) lost (Fetch file) from n) (sym same)
        (counts_nothing def (state_of e) lost (Fetch file) from refl refl);
  }

  module _ (bytes : List ℕ) (same : after ≡ before) (short : length bytes ≤ most_kept_bytes + 1)
      (are : IfSome before.held (λ held. bytes ≡ front_of most_kept_bytes (held_bytes held file)))
      (counts : MayCount def bytes from to) where
    pub fetch_got : (outcome : Outcome) → IsOutcome def e (got bytes) (Fetch file) outcome
        → HasReached def e (Fetch file) before after from to outcome
    fetch_got outcome is = record {
      asked = Some (fetching file);
      asks = refl;
      answer = got bytes;
      answers = gets same short are;
      is_outcome = is;
      ticked = ticked_reading def (state_of e) bytes file from to counts;
    }

    pub fetch_stopped : HasStopped def (state_of e) (Fetch file) before after from to
    fetch_stopped = record {
      asked = Some (fetching file);
      asks = refl;
      files = same;
      answer = got bytes;
      got = (short, are);
      ticked = ticked_reading def (state_of e) bytes file from to counts;
    }

-- ---- the other commands

module _ (def : Definition) (s : State) where
  pub asks_reaching : (command : Command) (asked : Asked) → Asks def s command asked → IsReaching command
  asks_reaching (New name) asked h = h
  asks_reaching (Goto place) asked h = h
  asks_reaching (Refine place name args) asked h = h
  asks_reaching (Insert place k name args) asked h = h
  asks_reaching (Cut place) asked h = h
  asks_reaching (Remove place k) asked h = h
  asks_reaching (Close place) asked h = h
  asks_reaching (Reopen place) asked h = h
  asks_reaching (Over place text) asked h = h
  asks_reaching (Range start end text) asked h = h
  asks_reaching Show asked h = h
  asks_reaching (Screen top left rows cols) asked h = h
  asks_reaching (Relation place) asked h = h
  asks_reaching (Own place) asked h = h
  asks_reaching (Menu place k) asked h = h
  asks_reaching (Names place k name) asked h = h
  asks_reaching Free asked h = h
  asks_reaching Undo asked h = h
  asks_reaching Redo asked h = h
  asks_reaching (Save name place) asked h = h
  asks_reaching (Paste place k name) asked h = h
  asks_reaching (Keep name file) asked h = tt
  asks_reaching (Fetch file) asked h = tt

-- a command that asks nothing took its step
pub reached_alone : (def : Definition) (e : Editor) (command : Command) (before after : Outside) (from to : ℕ)
    (outcome : Outcome) → (IsReaching command → ⊥) → after ≡ before → IsOutcome def e not_asked command outcome
    → HasTicked def (state_of e) command from to → HasReached def e command before after from to outcome
reached_alone def e command before after from to outcome alone same is h = record {
  asked = None;
  asks = λ asked asks. alone (asks_reaching def (state_of e) command asked asks);
  answer = not_asked;
  answers = nobody same;
  is_outcome = is;
  ticked = ticked_alone def (state_of e) command from to h;
}
