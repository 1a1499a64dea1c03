-- Steps after one another.
use Rattle.std.proofs.Common.{◌≡◌, ◌↔◌, ℕ, suc, ◌+◌, List, [], ◌∷◌, ◌++◌, length, arith, refl, sym, ap, ◌∙◌, subst, append_assoc}
use Rattle.psg_terms.proofs.Lists.{iff_then}
use Rattle.psg_grammar.specs.Fragments.{Fragment}
use Rattle.psg_grammar.specs.declared.types.Definition.{Definition}
use Rattle.psg_class.specs.Machine.{Frame as Plain}
use Rattle.psg_class.specs.Terminals.{Token}
use Rattle.psg_class.specs.Texts.{tokens_of}
use Rattle.psg_parse.specs.declared.state.State.{State}
use Rattle.psg_parse.specs.declared.state.Step.{Step}
use Rattle.psg_parse.specs.declared.state.Step.TheVariants as steps
use Rattle.psg_parse.specs.Onward.{Aim, MayLeave}
use Rattle.psg_parse.specs.States.{Goes, GoesOn, IsState, LeftBy, Leads, Moves, SeesSame, Steps}

nothing_in_front : (taken rest ts : List Token) → ts ≡ taken ++ rest → length rest ≡ length ts → taken ≡ []
nothing_in_front [] rest ts e h = refl
nothing_in_front (t ∷ taken) rest ts e h =
    let more : length ts ≡ suc (length (taken ++ rest)) = ap length e in
    let least : length (taken ++ rest) ≡ length taken + length rest = lengths taken rest in
    absurd (omega (arith, h, more, least)) where
      lengths : (xs ys : List Token) → length (xs ++ ys) ≡ length xs + length ys
      lengths [] ys = omega arith
      lengths (x ∷ xs) ys = let e : length (xs ++ ys) ≡ length xs + length ys = lengths xs ys in omega (arith, e)

module _ (def : Definition) (from : Aim) (below : List Plain) where
  -- where nothing is done
  pub stays : (rest : List Token) → Moves def from below [] rest from below
  stays rest = record { same = λ us e F D. (λ y. y, λ y. y); back = λ us F D y. y; ends = λ k h. h }

  sees_on : (taken rest us : List Token) → SeesSame def rest us → SeesSame def (taken ++ rest) (taken ++ us)
  sees_on [] rest us e = e
  sees_on (t ∷ taken) rest us e = refl

  moves_on : (one two rest : List Token) (to last : Aim) (on over : List Plain) → Moves def from below one (two ++ rest) to on → Moves def to on two rest last over
      → Moves def from below (one ++ two) rest last over
  moves_on one two rest to last on over m n = record {
    same = λ us e F D. subst (λ z. LeftBy def from below z F D ↔ LeftBy def last over us F D) (sym (append_assoc one two us))
        (iff_then (m.same (two ++ us) (sees_on two rest us e) F D) (n.same us e F D));
    back = λ us F D y. subst (λ z. MayLeave def from below z F D) (sym (append_assoc one two us)) (m.back (two ++ us) F D (n.back us F D y));
    ends = λ k h. n.ends k (m.ends k h);
  }

  pub goes_via : (taken ts : List Token) (to : Aim) (on : List Plain) → Moves def from below taken ts to on → (s : State) → GoesOn def to on ts s → GoesOn def from below (taken ++ ts) s
  goes_via taken ts to on m s g = record {
    aim = g.aim;
    st = g.st;
    stands = g.stands;
    taken = taken ++ g.taken;
    are = ap (λ z. taken ++ z) g.are ∙ sym (append_assoc taken g.taken (tokens_of s.rest.now));
    moves = moves_on taken g.taken (tokens_of s.rest.now) to g.aim on g.st (subst (λ z. Moves def from below taken z to on) g.are m) g.moves;
  }

  -- a step from a state that these tokens lead to
  pub leads_via : (all taken ts : List Token) (to : Aim) (on : List Plain) → all ≡ taken ++ ts → Moves def from below taken ts to on → (s : Step) → Goes def to on ts s → Leads def from below all s
  leads_via all taken ts to on e m (steps.Go s) g = subst (λ z. GoesOn def from below z s) (sym e) (goes_via taken ts to on m s g)
  leads_via all taken ts to on e m (steps.Done t) g = absurd g
  leads_via all taken ts to on e m steps.NoTree g = absurd g

  module _ (ts : List Token) (s : State) (g : GoesOn def from below ts s) where
    -- a step that leads on from where the parser is leads on from where it began
    pub goes_further : (next : State) → ((aim : Aim) (st : List Plain) → IsState s aim st → Steps def aim st (tokens_of s.rest.now) (steps.Go next)) → GoesOn def from below ts next
    goes_further next h = subst (λ z. GoesOn def from below z next) (sym g.are) (goes_via g.taken (tokens_of s.rest.now) g.aim g.st g.moves next (h g.aim g.st g.stands))

    pub done_further : (tree : _) → ((aim : Aim) (st : List Plain) → IsState s aim st → Steps def aim st (tokens_of s.rest.now) (steps.Done tree)) → Leads def from below ts (steps.Done tree)
    done_further tree h =
        let (f, n, is, e) = h g.aim g.st g.stands in
        (f, n, is, λ F D. iff_then (subst (λ z. LeftBy def from below z F D ↔ LeftBy def g.aim g.st (tokens_of s.rest.now) F D) (sym g.are) (g.moves.same (tokens_of s.rest.now) refl F D)) (e F D))

    -- where no tree is left, none is from where it began, whatever is there in place of the tokens after the next one
    pub none_further : ((aim : Aim) (st : List Plain) → IsState s aim st → Steps def aim st (tokens_of s.rest.now) steps.NoTree)
        → (us : List Token) → SeesSame def (tokens_of s.rest.now) us → (F : Fragment) (D : ℕ) → LeftBy def from below (g.taken ++ us) F D → ⊥
    none_further h us e F D y = h g.aim g.st g.stands us e F D ((g.moves.same us e F D).0 y)

    -- the same where no token was taken
    pub none_here : length (tokens_of s.rest.now) ≡ length ts → ((aim : Aim) (st : List Plain) → IsState s aim st → Steps def aim st (tokens_of s.rest.now) steps.NoTree) → Leads def from below ts steps.NoTree
    none_here same h us e F D y =
        let none : g.taken ≡ [] = nothing_in_front g.taken (tokens_of s.rest.now) ts g.are same in
        let are : ts ≡ tokens_of s.rest.now = g.are ∙ ap (λ z. z ++ tokens_of s.rest.now) none in
        none_further h us (subst (λ z. SeesSame def z us) are e) F D (subst (λ z. LeftBy def from below (z ++ us) F D) (sym none) y)

    -- a step where no token was taken
    pub led_on : length (tokens_of s.rest.now) ≡ length ts → (step : Step) → ((aim : Aim) (st : List Plain) → IsState s aim st → Steps def aim st (tokens_of s.rest.now) step) → Leads def from below ts step
    led_on same (steps.Go next) h = goes_further next h
    led_on same (steps.Done tree) h = done_further tree h
    led_on same steps.NoTree h = none_here same h
