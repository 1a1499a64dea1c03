-- How far tokens begin a tree, by the state in which the parser stops.
use Rattle.std.proofs.Common.{◌≡◌, ◌↔◌, ℕ, ◌+◌, true, false, List, [], ◌∷◌, ◌++◌, Some, None, length, take, slice_get, refl, sym, ap, ◌∙◌, subst, true≢false, arith, append_assoc, append-nil}
use Rattle.psg_grammar.specs.declared.types.Definition.{Definition}
use Rattle.psg_grammar.specs.Fragments.{Fragment}
use Rattle.psg_lexis.specs.declared.token.Spanned.{Spanned}
use Rattle.psg_class.specs.Class.{IsClass}
use Rattle.psg_class.specs.Machine.{Frame as Plain}
use Rattle.psg_class.specs.Terminals.{Token, terminal_of, next_terminal}
use Rattle.psg_class.specs.Texts.{tokens_of}
use Rattle.psg_class.specs.Yields.{Yields}
use Rattle.psg_parse.specs.declared.fault.Goal.{Goal}
use Rattle.psg_parse.specs.declared.standing.Grown.{Grown}
use Rattle.psg_parse.specs.declared.state.State.{State}
use Rattle.psg_parse.specs.declared.state.Step.{Step}
use Rattle.psg_parse.specs.declared.state.Step.TheVariants as steps
use Rattle.psg_parse.specs.Onward.{Aim, IsEndable}
use Rattle.psg_parse.specs.States.{IsState, SeesSame, Steps}
use Rattle.psg_parse.specs.Stops.{Begins, IsStop, MayEnd, StopsAt}
use Rattle.psg_parse.proofs.Endings.{begun_ends, begun_yields, state_end}
use Rattle.psg_parse.proofs.Taken.{Got, GivesOnly, no_tree, no_tree_after, tokens_length}

-- ---- the front of a list

joined_length : (xs ys : List Token) → length (xs ++ ys) ≡ length xs + length ys
joined_length [] ys = omega arith
joined_length (x ∷ xs) ys = let e : length (xs ++ ys) ≡ length xs + length ys = joined_length xs ys in omega (arith, e)

front_is : (xs ys : List Token) → take (length xs) (xs ++ ys) ≡ xs
front_is [] ys = refl
front_is (x ∷ xs) ys = ap (λ z. x ∷ z) (front_is xs ys)

next_is : (xs ys : List Token) → slice_get (xs ++ ys) (length xs) ≡ slice_get ys 0
next_is [] ys = refl
next_is (x ∷ xs) ys = next_is xs ys

head_seen : (def : Definition) (ys : List Token) (t : Token) → slice_get ys 0 ≡ Some t → next_terminal def ys ≡ Some (terminal_of def t)
head_seen def [] t e = let x : None ≡ Some t = e in cc
head_seen def (y ∷ ys) t e = let x : Some y ≡ Some t = e in let z : y ≡ t = cc in ap (λ w. Some (terminal_of def w)) z

module _ (def : Definition) (goal : Goal) (ts : List Spanned) (c : IsClass def) where
  -- what was taken begins a tree
  got_begins : (s : State) (g : Got def goal ts s) → IsEndable def → Begins def goal.kind goal.least [] → Begins def goal.kind goal.least g.taken
  got_begins s g all b =
      let end = state_end def all.name g.aim g.st (g.moves.ends all (begun_ends def goal.kind goal.least b)) in
      record { more = end.more; tree = end.tree; nesting = end.nesting; yields = begun_yields def goal.kind goal.least (g.taken ++ end.more) end.tree end.nesting (g.moves.back end.more end.tree end.nesting end.ends) }

  counted : (s : State) (g : Got def goal ts s) (k : ℕ) → k + length s.rest.now ≡ length ts → k ≡ length g.taken
  counted s g k e =
      let a : length (tokens_of ts) ≡ length g.taken + length (tokens_of s.rest.now) = ap length g.are ∙ joined_length g.taken (tokens_of s.rest.now) in
      let b : length (tokens_of ts) ≡ length ts = tokens_length ts in
      let d : length (tokens_of s.rest.now) ≡ length s.rest.now = tokens_length s.rest.now in
      omega (arith, e, a, b, d)

  stops_there : (s : State) (g : Got def goal ts s) → ((us : List Token) → SeesSame def (tokens_of s.rest.now) us → (f : Fragment) (n : ℕ) → Yields def f goal.kind goal.least n (g.taken ++ us) → ⊥)
      → (t u : Token) → slice_get (g.taken ++ tokens_of s.rest.now) (length g.taken) ≡ Some t → terminal_of def u ≡ terminal_of def t → Begins def goal.kind goal.least (g.taken ++ u ∷ []) → ⊥
  stops_there s g none t u e same b =
      let seen : next_terminal def (tokens_of s.rest.now) ≡ Some (terminal_of def t) = head_seen def (tokens_of s.rest.now) t (sym (next_is g.taken (tokens_of s.rest.now)) ∙ e) in
      none (u ∷ b.more) (ap Some same ∙ sym seen) b.tree b.nesting (subst (Yields def b.tree goal.kind goal.least b.nesting) (append_assoc g.taken (u ∷ []) b.more) b.yields)

  -- no tree goes on with the token after what was taken
  pub stops_at : (s : State) (g : Got def goal ts s) (step : Step) → step ≡ steps.NoTree → ((aim : Aim) (st : List Plain) → IsState s aim st → Steps def aim st (tokens_of s.rest.now) step)
      → (k : ℕ) → k + length s.rest.now ≡ length ts → StopsAt def goal.kind goal.least (tokens_of ts) k
  stops_at s g step is h k e =
      let there : k ≡ length g.taken = counted s g k e in
      let here : StopsAt def goal.kind goal.least (g.taken ++ tokens_of s.rest.now) (length g.taken) =
      λ t u x y z. stops_there s g (no_tree_after def goal ts c s g step is h) t u x y (subst (λ w. Begins def goal.kind goal.least (w ++ u ∷ [])) (front_is g.taken (tokens_of s.rest.now)) z) in
      subst (λ z. StopsAt def goal.kind goal.least z k) (sym g.are) (subst (StopsAt def goal.kind goal.least (g.taken ++ tokens_of s.rest.now)) (sym there) here)

  -- the stop at what was taken
  pub stop_is : (s : State) (g : Got def goal ts s) (step : Step) → step ≡ steps.NoTree → ((aim : Aim) (st : List Plain) → IsState s aim st → Steps def aim st (tokens_of s.rest.now) step)
      → (k : ℕ) → k + length s.rest.now ≡ length ts → IsEndable def → Begins def goal.kind goal.least [] → IsStop def goal.kind goal.least (tokens_of ts) k
  stop_is s g step is h k e all b =
      let there : k ≡ length g.taken = counted s g k e in
      let whole : IsStop def goal.kind goal.least (g.taken ++ tokens_of s.rest.now) (length g.taken) = record {
        inside = (let a : length (g.taken ++ tokens_of s.rest.now) ≡ length g.taken + length (tokens_of s.rest.now) = joined_length g.taken (tokens_of s.rest.now) in omega (arith, a));
        front = subst (Begins def goal.kind goal.least) (sym (front_is g.taken (tokens_of s.rest.now))) (got_begins s g all b);
        stops = subst (StopsAt def goal.kind goal.least (g.taken ++ tokens_of s.rest.now)) there (subst (λ z. StopsAt def goal.kind goal.least z k) g.are (stops_at s g step is h k e));
      } in
      subst (λ z. IsStop def goal.kind goal.least z k) (sym g.are) (subst (IsStop def goal.kind goal.least (g.taken ++ tokens_of s.rest.now)) (sym there) whole)

  -- there is no token after all
  past : (xs : List Token) (t : Token) → slice_get xs (length xs) ≡ Some t → ⊥
  past [] t e = let x : None ≡ Some t = e in cc
  past (x ∷ xs) t e = past xs t e

  pub whole_stops : StopsAt def goal.kind goal.least (tokens_of ts) (length ts)
  whole_stops t u e x b = past (tokens_of ts) t (subst (λ k. slice_get (tokens_of ts) k ≡ Some t) (sym (tokens_length ts)) e)

  -- the end of a whole tree is its stop
  pub whole_is : (tree : Grown) → GivesOnly def goal ts tree → IsStop def goal.kind goal.least (tokens_of ts) (length ts)
  whole_is tree (f, n, is, same) =
      let y : Yields def f goal.kind goal.least n (tokens_of ts) = (same f n).1 (refl, refl) in
      subst (IsStop def goal.kind goal.least (tokens_of ts)) (tokens_length ts) (record {
        inside = omega arith;
        front = subst (Begins def goal.kind goal.least) (sym (take_whole (tokens_of ts))) (record { more = []; tree = f; nesting = n; yields = subst (Yields def f goal.kind goal.least n) (sym (append-nil (tokens_of ts))) y });
        stops = λ t u e x b. past (tokens_of ts) t e;
      }) where
        take_whole : (xs : List Token) → take (length xs) xs ≡ xs
        take_whole [] = refl
        take_whole (x ∷ xs) = ap (λ z. x ∷ z) (take_whole xs)

  pub ends_whole : (tree : Grown) → GivesOnly def goal ts tree → (true ≡ true) ↔ MayEnd def goal.kind goal.least (tokens_of ts)
  ends_whole tree (f, n, is, same) = (λ e. (f, n, (same f n).1 (refl, refl)), λ y. refl)

  pub ends_not : (s : State) (g : Got def goal ts s) (step : Step) → step ≡ steps.NoTree → ((aim : Aim) (st : List Plain) → IsState s aim st → Steps def aim st (tokens_of s.rest.now) step)
      → (false ≡ true) ↔ MayEnd def goal.kind goal.least (tokens_of ts)
  ends_not s g step is h = (λ e. absurd (true≢false (sym e)), λ (f, n, y). absurd (no_tree def goal ts c s g step is h f n y))
