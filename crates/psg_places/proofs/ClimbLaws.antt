-- What trials take that are made beside earlier notes.
use Rattle.std.proofs.Common.{◌≡◌, ◌⊎◌, inl, inr, ℕ, suc, ◌+◌, ◌*◌, ◌^◌, ◌<◌, ◌≤◌, Bool, true, false, cond, List, [], ◌∷◌, ◌++◌, length, Option, refl, ap, sym, ◌∙◌, subst, arith}
use Rattle.std.specs.List.{AllByRecursion}
use Rattle.std.proofs.lemmas.List.{append-nil, append_assoc}
use Rattle.std.specs.Prelude.{Result, Ok, Err, IfOk}
use Rattle.psg_terms.specs.Names.{Name}
use Rattle.psg_grammar.specs.declared.types.Definition.{Definition}
use Rattle.psg_grammar.specs.Fragments.{Fragment}
use Rattle.psg_grammar.specs.Sound.{IsSound}
use Rattle.psg_grammar.specs.WellFormed.{WellFormed}
use Rattle.psg_grammar.specs.Work.{work_of}
use Rattle.psg_cache.specs.Annotated.{Annotated}
use Rattle.psg_cache.specs.Diff.{diff_below, diff_of}
use Rattle.psg_cache.specs.Notes.{IsFormed, IsNoteOf}
use Rattle.psg_cache.proofs.DiffLaws.{diff-same}
use Rattle.psg_cache.proofs.LeastLaws.{no_more_than_anew}
use Rattle.psg_places.specs.declared.blaming.Blamed.{Blamed}
use Rattle.psg_places.specs.declared.fault.BlameFault.{BlameFault}
use Rattle.psg_places.specs.Answers.{AreRounds, IsNear, IsNextTree, IsRound, IsSearch, Round, answers_by, beside_work, blamed_by, latest}
use Rattle.psg_places.specs.Answers.{next_tree, rounds_work, trials_work}
use Rattle.psg_places.specs.Blame.{blamed_in, kept_in}
use Rattle.psg_places.specs.NewNames.{IsFront, new_name}
use Rattle.psg_places.specs.Opened.{opened}
use Rattle.psg_places.specs.Places.{place_count}
use Rattle.psg_places.proofs.FormedLaws.{formed}
use Rattle.psg_places.proofs.NewNameLaws.{is_name}
use Rattle.psg_places.proofs.WorkLaws.{one_trial, opened_work}

-- ---- sums

le_both : (a b c : ℕ) → a ≤ b → b ≤ c → a ≤ c
le_both a b c h k = omega (arith, h, k)

le_more : (a b start now : ℕ) → a ≤ b → now ≤ start + a → now ≤ start + b
le_more a b start now h k = omega (arith, h, k)

pub only_start : (d n w start now : ℕ) → now ≤ start + d → now ≤ start + (d + trials_work n w)
only_start d n w start now h = omega (arith, h)

pub after_start : (d n w start mid now : ℕ) → mid ≤ start + d → now ≤ mid + trials_work n w
    → now ≤ start + (d + trials_work n w)
after_start d n w start mid now h k = omega (arith, h, k)

by_none : (d n w start mid now : ℕ) → d ≡ 0 → mid ≤ start + w → now ≤ mid + (d + trials_work (1 + n) w)
    → now ≤ start + trials_work (2 + n) w
by_none d n w start mid now none h k =
    let e = one_trial (1 + n) (2 + n) w (omega arith) in omega (arith, none, h, k, e)

by_most : (d n w start now : ℕ) → d ≤ w → now ≤ start + (d + trials_work (1 + n) w)
    → now ≤ start + trials_work (2 + n) w
by_most d n w start now h k = let e = one_trial (1 + n) (2 + n) w (omega arith) in omega (arith, h, k, e)

-- ---- the first trials

pub start_climb : (def : Definition) (front : Name) (f old : Fragment) (ks : List Bool) (start now : ℕ) → ks ≡ []
    → now ≤ start + diff_of old (opened def (kept_in ks) (new_name front) f)
    → now ≤ start + diff_of old (opened def (kept_in []) (new_name front) f)
start_climb def front f old ks start now e h =
    subst (λ xs. now ≤ start + diff_of old (opened def (kept_in xs) (new_name front) f)) e h

pub same_trials : (xs ys : List Bool) (h w mid now : ℕ) → xs ≡ ys
    → now ≤ mid + trials_work (1 + blamed_in ys * (1 + h)) w → now ≤ mid + trials_work (1 + blamed_in xs * (1 + h)) w
same_trials xs ys h w mid now e le = subst (λ ks. now ≤ mid + trials_work (1 + blamed_in ks * (1 + h)) w) (sym e) le

-- a trial of the tree that is noted takes nothing
none_same : (old new : Fragment) → old ≡ new → diff_of old new ≡ 0
none_same old new e = ap (λ t. diff_of t new) e ∙ diff-same new (diff_below new new)

pub and_same : (n w : ℕ) (old new : Fragment) (start mid now : ℕ) → old ≡ new → mid ≤ start + w
    → now ≤ mid + (diff_of old new + trials_work (1 + n) w) → now ≤ start + trials_work (2 + n) w
and_same n w old new start mid now e h k = by_none (diff_of old new) n w start mid now (none_same old new e) h k

pub ok_same_trials : (r : Result (Option Blamed) BlameFault) (w places start mid now : ℕ) (old new : Fragment)
    → old ≡ new → mid ≤ start + w
    → IfOk r (λ found. (h : ℕ) → places ≤ 2 ^ h
    → now ≤ mid + (diff_of old new + trials_work (1 + blamed_by found * (1 + h)) w))
    → IfOk r (λ found. (h : ℕ) → places ≤ 2 ^ h → now ≤ start + trials_work (2 + blamed_by found * (1 + h)) w)
ok_same_trials (Ok found) w places start mid now old new e one more =
    λ h le. and_same (blamed_by found * (1 + h)) w old new start mid now e one (more h le)
ok_same_trials (Err fault) w places start mid now old new e one more = tt

-- ---- notes

pub near_whole : (def : Definition) (f : Fragment) (n : Annotated) → IsNoteOf def f n → IsNear def f n
near_whole def f n h = record {
  noted = subst (λ t. IsNoteOf def t n) (sym h.tree) h;
  kinds = λ kind well. subst (λ t. WellFormed def t kind) (sym h.tree) well;
}

module _ (def : Definition) (front : Name) (f : Fragment) (sound : IsSound def) (free : IsFront def f front) where
  pub opened_well : (keep : ℕ → Bool) (kind : _) → WellFormed def f kind
      → WellFormed def (opened def keep (new_name front) f) kind
  opened_well keep kind well = formed def sound keep (new_name front) (is_name def f front free) f kind well

  pub near_opened : (keep : ℕ → Bool) (n : Annotated) → IsNoteOf def (opened def keep (new_name front) f) n
      → IsNear def f n
  near_opened keep n h = record {
    noted = subst (λ t. IsNoteOf def t n) (sym h.tree) h;
    kinds = λ kind well. subst (λ t. WellFormed def t kind) (sym h.tree) (opened_well keep kind well);
  }

  module _ (well : IsFormed def f) (old : Fragment) where
    -- a trial takes no more than the whole tree
    climb_most : (keep : ℕ → Bool) → diff_of old (opened def keep (new_name front) f) ≤ work_of f
    climb_most keep =
        le_both _ _ _ (no_more_than_anew def old (opened def keep (new_name front) f) (well.0, opened_well keep well.0 well.1))
        (opened_work def keep (new_name front) f)

    pub climb_ticks : (keep : ℕ → Bool) (start now : ℕ)
        → now ≤ start + diff_of old (opened def keep (new_name front) f) → now ≤ start + work_of f
    climb_ticks keep start now h = le_more _ (work_of f) start now (climb_most keep) h

    pub and_climb : (n start now : ℕ)
        → now ≤ start + (diff_of old (opened def (kept_in []) (new_name front) f) + trials_work (1 + n) (work_of f))
        → now ≤ start + trials_work (2 + n) (work_of f)
    and_climb n start now h = by_most _ n (work_of f) start now (climb_most (kept_in [])) h

    pub ok_climb_trials : (r : Result (Option Blamed) BlameFault) (places start now : ℕ)
        → IfOk r (λ found. (h : ℕ) → places ≤ 2 ^ h
        → now ≤ start + (diff_of old (opened def (kept_in []) (new_name front) f)
        + trials_work (1 + blamed_by found * (1 + h)) (work_of f)))
        → IfOk r (λ found. (h : ℕ) → places ≤ 2 ^ h
        → now ≤ start + trials_work (2 + blamed_by found * (1 + h)) (work_of f))
    ok_climb_trials (Ok found) places start now more =
        λ h le. and_climb (blamed_by found * (1 + h)) start now (more h le)
    ok_climb_trials (Err fault) places start now more = tt

-- ---- rounds

both_sums : (a b start mid now : ℕ) → mid ≤ start + a → now ≤ mid + b → now ≤ start + (a + b)
both_sums a b start mid now h k = omega (arith, h, k)

module _ (def : Definition) (front : Name) (f : Fragment) where
  -- what a round takes, in which the tree of all the next places is made beside the old one
  abbrev pub IsOneRound : List Bool → ℕ → Fragment → Fragment → ℕ → ℕ → Type 0
  IsOneRound kept h old all start now = (r : Round) × IsRound def front f kept h r × (all ≡ r.all)
      × (now ≤ start + (diff_of old r.all + beside_work r.all r.fewer))

  pub round_fewer : (kept : List Bool) (left h : ℕ) (old all : Fragment) (start mid now : ℕ)
      → length kept + left ≡ place_count def f → all ≡ next_tree def front kept left f
      → mid ≤ start + diff_of old (next_tree def front kept left f)
      → (trees : List Fragment) × (length trees ≤ h) × AllByRecursion (IsNextTree def front f kept) trees
      × (now ≤ mid + beside_work all trees)
      → IsOneRound kept h old all start now
  round_fewer kept left h old all start mid now whole is climb (trees, many, each, more) = (
    record { all = all; fewer = trees },
    record {
      kept = kept;
      later = [];
      first = sym (append-nil kept);
      left = left;
      whole = whole;
      all = is;
      fewer = each;
      few = many;
    },
    refl,
    both_sums (diff_of old all) (beside_work all trees) start mid now
        (subst (λ t. mid ≤ start + diff_of old t) (sym is) climb) more,
  )

  pub round_all : (kept : List Bool) (left h : ℕ) (old all : Fragment) (start now : ℕ)
      → length kept + left ≡ place_count def f → all ≡ next_tree def front kept left f
      → now ≤ start + diff_of old (next_tree def front kept left f) → IsOneRound kept h old all start now
  round_all kept left h old all start now whole is climb =
      round_fewer kept left h old all start now now whole is climb ([], omega arith, tt, omega arith)

  -- the rounds that led to some answers lead to more answers
  further_round : (kept more next : List Bool) (h : ℕ) (r : Round) → next ≡ kept ++ more → IsRound def front f kept h r
      → IsRound def front f next h r
  further_round kept more next h r e k = record {
    kept = k.kept;
    later = k.later ++ more;
    first = e ∙ ap (λ xs. xs ++ more) k.first ∙ append_assoc k.kept k.later more;
    left = k.left;
    whole = k.whole;
    all = k.all;
    fewer = k.fewer;
    few = k.few;
  }

  further : (kept more next : List Bool) (h : ℕ) (rs : List Round) → next ≡ kept ++ more
      → AllByRecursion (IsRound def front f kept h) rs → AllByRecursion (IsRound def front f next h) rs
  further kept more next h [] e k = tt
  further kept more next h (r ∷ rs) e k = (further_round kept more next h r e k.0, further kept more next h rs e k.1)

  -- after some rounds, of which each blames a place but for the last one
  pub record IsRounding (old base : Fragment) (kept : List Bool) (h places blamed start now : ℕ) : Type 0 where
    pub rounds : List Round
    pub last : base ≡ latest old rounds
    pub count : (length rounds ≤ blamed) ⊎ ((length kept ≡ places) × (length rounds ≤ 1 + blamed))
    pub each : AllByRecursion (IsRound def front f kept h) rounds
    pub taken : now ≤ start + rounds_work old rounds

  pub rounding_first : (old base : Fragment) (h places start : ℕ) → base ≡ old
      → IsRounding old base [] h places 0 start start
  rounding_first old base h places start e = record {
    rounds = [];
    last = e;
    count = inl (omega arith);
    each = tt;
    taken = omega arith;
  }

  one_more_round : (n len places blamed next_len next : ℕ) (b : Bool)
      → (n ≤ blamed) ⊎ ((len ≡ places) × (n ≤ 1 + blamed)) → len < places → (b ≡ false → next_len ≡ places)
      → next ≡ blamed + cond b 1 0 → (suc n ≤ next) ⊎ ((next_len ≡ places) × (suc n ≤ 1 + next))
  one_more_round n len places blamed next_len next b (inr (all, le)) lt ends is = absurd (omega (arith, all, lt))
  one_more_round n len places blamed next_len next true (inl le) lt ends is = inl (omega (arith, le, is))
  one_more_round n len places blamed next_len next false (inl le) lt ends is = inr (ends refl, omega (arith, le, is))

  pub rounding_next : (old base all : Fragment) (kept more longer : List Bool) (h places blamed start now later next : ℕ)
      (b : Bool) → longer ≡ kept ++ more → IsRounding old base kept h places blamed start now → length kept < places
      → (b ≡ false → length longer ≡ places) → next ≡ blamed + cond b 1 0 → IsOneRound kept h base all now later
      → IsRounding old all longer h places next start later
  rounding_next old base all kept more longer h places blamed start now later next b on k lt ends is (r, one, same, taken) = record {
    rounds = r ∷ k.rounds;
    last = same;
    count = one_more_round (length k.rounds) (length kept) places blamed (length longer) next b k.count lt ends is;
    each = (further_round kept more longer h r on one, further kept more longer h k.rounds on k.each);
    taken =
        both_sums (rounds_work old k.rounds) (diff_of (latest old k.rounds) r.all + beside_work r.all r.fewer) start now later
        k.taken (subst (λ t. later ≤ now + (diff_of t r.all + beside_work r.all r.fewer)) k.last taken);
  }

  at_most : (n len places blamed : ℕ) → (n ≤ blamed) ⊎ ((len ≡ places) × (n ≤ 1 + blamed)) → n ≤ 1 + blamed
  at_most n len places blamed (inl le) = omega (arith, le)
  at_most n len places blamed (inr (e, le)) = le

  pub rounding_end : (old base : Fragment) (kept : List Bool) (h places blamed start now : ℕ) → blamed ≡ blamed_in kept
      → IsRounding old base kept h places blamed start now → AreRounds def front f old kept h start now
  rounding_end old base kept h places blamed start now e k = record {
    rounds = k.rounds;
    count =
        subst (λ n. length k.rounds ≤ 1 + n) e (at_most (length k.rounds) (length kept) places blamed k.count);
    each = k.each;
    taken = k.taken;
  }

  pub no_rounds : (old : Fragment) (kept : List Bool) (h start : ℕ) → AreRounds def front f old kept h start start
  no_rounds old kept h start = record { rounds = []; count = omega arith; each = tt; taken = omega arith }

  pub same_rounds : (old : Fragment) (h start now : ℕ) (xs ys : List Bool) → xs ≡ ys
      → AreRounds def front f old ys h start now → AreRounds def front f old xs h start now
  same_rounds old h start now xs ys e k = subst (λ ks. AreRounds def front f old ks h start now) (sym e) k

  -- ---- a search

  abbrev nothing : Fragment
  nothing = opened def (kept_in []) (new_name front) f

  -- what the search takes after the first note
  abbrev pub IsSearched : Fragment → List Bool → ℕ → ℕ → ℕ → Type 0
  IsSearched old kept h start now = (middle : ℕ)
      × (middle ≤ start + diff_of old (opened def (kept_in []) (new_name front) f))
      × AreRounds def front f old kept h middle now

  after_none : (d w start mid middle : ℕ) → d ≡ 0 → mid ≤ start + w → middle ≤ mid + d → middle ≤ start + w
  after_none d w start mid middle none h k = omega (arith, none, h, k)

  search_anew : (old : Fragment) (kept : List Bool) (h start mid now : ℕ) → old ≡ nothing
      → mid ≤ start + work_of nothing → IsSearched old kept h mid now
      → IsSearch def f work_of (λ (t : Fragment). t) kept h start now
  search_anew old kept h start mid now same anew (middle, climb, rounds) = record {
    names = front;
    middle = middle;
    nothing = after_none (diff_of old nothing) (work_of nothing) start mid middle (none_same old nothing same) anew climb;
    rounds = subst (λ t. AreRounds def front f t kept h middle now) same rounds;
  }

  search_noted : (old : Fragment) (kept : List Bool) (h start now : ℕ) → old ≡ f → IsSearched old kept h start now
      → IsSearch def f (diff_of f) (λ (t : Fragment). f) kept h start now
  search_noted old kept h start now same (middle, climb, rounds) = record {
    names = front;
    middle = middle;
    nothing = subst (λ t. middle ≤ start + diff_of t nothing) same climb;
    rounds = subst (λ t. AreRounds def front f t kept h middle now) same rounds;
  }

  pub ok_search_anew : (r : Result (Option Blamed) BlameFault) (old : Fragment) (places start mid now : ℕ) → old ≡ nothing
      → mid ≤ start + work_of nothing
      → IfOk r (λ found. (h : ℕ) → places ≤ 2 ^ h → IsSearched old (answers_by found) h mid now)
      → IfOk r (λ found. (h : ℕ) → places ≤ 2 ^ h
      → IsSearch def f work_of (λ (t : Fragment). t) (answers_by found) h start now)
  ok_search_anew (Ok found) old places start mid now same anew k =
      λ h le. search_anew old (answers_by found) h start mid now same anew (k h le)
  ok_search_anew (Err fault) old places start mid now same anew k = tt

  pub ok_search_noted : (r : Result (Option Blamed) BlameFault) (old : Fragment) (places start now : ℕ) → old ≡ f
      → IfOk r (λ found. (h : ℕ) → places ≤ 2 ^ h → IsSearched old (answers_by found) h start now)
      → IfOk r (λ found. (h : ℕ) → places ≤ 2 ^ h
      → IsSearch def f (diff_of f) (λ (t : Fragment). f) (answers_by found) h start now)
  ok_search_noted (Ok found) old places start now same k =
      λ h le. search_noted old (answers_by found) h start now same (k h le)
  ok_search_noted (Err fault) old places start now same k = tt
