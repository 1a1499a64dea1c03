-- The parser from its beginning to its end.
use Rattle.std.proofs.Common.{◌≡◌, ◌<◌, ◌≤◌, ◌+◌, ◌-◌, inl, inr, ℕ, suc, List, [], ◌∷◌, ◌++◌, Some, slice_get, length, refl, sym, ap, ◌∙◌, subst, arith}
use Rattle.std.specs.List.{AllByRecursion}
use Rattle.psg_grammar.specs.declared.types.Kind.{Kind}
use Rattle.psg_grammar.specs.declared.types.Kind.TheVariants as kinds
use Rattle.psg_grammar.specs.declared.types.Definition.{Definition}
use Rattle.psg_grammar.specs.Fragments.{Fragment}
use Rattle.psg_grammar.specs.WellFormed.{WellFormed}
use Rattle.psg_lexis.specs.declared.token.Spanned.{Spanned}
use Rattle.psg_class.specs.Class.{IsClass}
use Rattle.psg_class.specs.Terminals.{Token}
use Rattle.psg_class.specs.Yields.{Yields}
use Rattle.psg_class.proofs.ClassFacts.{facts}
use Rattle.psg_class.specs.Machine.{Frame as Plain}
use Rattle.psg_class.proofs.Machine.{begins_tree, begins_list}
use Rattle.psg_parse.specs.declared.fault.Goal.{Goal}
use Rattle.psg_parse.specs.declared.fault.ParseFault.{ParseFault}
use Rattle.psg_parse.specs.declared.standing.Grown.{Grown}
use Rattle.psg_parse.specs.declared.state.State.{State}
use Rattle.psg_parse.specs.declared.state.Step.{Step}
use Rattle.psg_parse.specs.declared.state.Step.TheVariants as steps
use Rattle.psg_parse.specs.Answers.{Reads, IsParsed, HasDeep, IsFault}
use Rattle.psg_class.specs.Texts.{tokens_of}
use Rattle.psg_parse.specs.Standing.{IsTree}
use Rattle.psg_parse.specs.States.{Aim, GoesOn, IsBegun, IsState, LeftBy, Same, SeesSame, Steps, aim_of}
use Rattle.psg_class.specs.Only.{IsValue}
use Rattle.psg_parse.specs.Within.{IsWithin, IsBeyond}
use Rattle.psg_parse.specs.Work.{Advances, state_work}
use Rattle.psg_class.proofs.FormedLaws.{yields_are_trees}
use Rattle.psg_parse.proofs.Leading.{done_further, goes_further, none_further, stays}
use Rattle.psg_terms.proofs.Lists.{iff_then}

pub values_of : (ts : List Spanned) → ((k : ℕ) (s : Spanned) → slice_get ts k ≡ Some s → IsValue s.token) → AllByRecursion IsValue (tokens_of ts)
values_of [] h = tt
values_of (t ∷ ts) h = (h 0 t refl, values_of ts (λ k s e. h (suc k) s e))

module _ (def : Definition) where
  begins_so : IsClass def → (kind : Kind) (least : ℕ) (ts : List Token) → Same (λ F D. Yields def F kind least D ts) (LeftBy def (aim_of kind least) [] ts)
  begins_so c (kinds.Phylum p) least ts F D = begins_tree def (facts def c) F D p least ts
  begins_so c (kinds.List l) least ts F D = begins_list def (facts def c) F D l least ts

  module _ (goal : Goal) (ts : List Spanned) where
    -- the parser got here from the beginning of the tokens
    abbrev pub Got : State → Type 0
    Got s = GoesOn def (aim_of goal.kind goal.least) [] (tokens_of ts) s

    pub begun : (s : State) → IsBegun goal ts s → Got s
    begun s b = record {
      aim = aim_of goal.kind goal.least;
      st = [];
      stands = b.stands;
      taken = [];
      are = ap tokens_of (sym b.rest);
      moves = stays def (aim_of goal.kind goal.least) [] (tokens_of s.rest.now);
    }

    -- the last step gives the only tree
    abbrev pub GivesOnly : Grown → Type 0
    GivesOnly tree = (f : Fragment) × (n : ℕ) × IsTree tree f n × Same (Reads def goal ts) (λ F D. (F ≡ f) × (D ≡ n))

    pub gives_only : IsClass def → (s : State) → Got s → (step : Step) (tree : Grown) → step ≡ steps.Done tree → ((aim : Aim) (st : List Plain) → IsState s aim st → Steps def aim st (tokens_of s.rest.now) step) → GivesOnly tree
    gives_only c s g step tree is h =
        let (f, n, it, e) = done_further def (aim_of goal.kind goal.least) [] (tokens_of ts) s g tree (λ aim st x. subst (Steps def aim st (tokens_of s.rest.now)) is (h aim st x)) in
        (f, n, it, λ F D. iff_then (begins_so c goal.kind goal.least (tokens_of ts) F D) (e F D))

    pub got_on : (s next : State) → Got s → (step : Step) → step ≡ steps.Go next → ((aim : Aim) (st : List Plain) → IsState s aim st → Steps def aim st (tokens_of s.rest.now) step) → Got next
    got_on s next g step is h = goes_further def (aim_of goal.kind goal.least) [] (tokens_of ts) s g next (λ aim st x. subst (Steps def aim st (tokens_of s.rest.now)) is (h aim st x))

    -- where no tree is left, none yields what was taken and then tokens of which the next one is seen as this one
    pub no_tree_after : IsClass def → (s : State) (g : Got s) (step : Step) → step ≡ steps.NoTree → ((aim : Aim) (st : List Plain) → IsState s aim st → Steps def aim st (tokens_of s.rest.now) step)
        → (us : List Token) → SeesSame def (tokens_of s.rest.now) us → (f : Fragment) (n : ℕ) → Yields def f goal.kind goal.least n (g.taken ++ us) → ⊥
    no_tree_after c s g step is h us e f n y =
        none_further def (aim_of goal.kind goal.least) [] (tokens_of ts) s g (λ aim st x. subst (Steps def aim st (tokens_of s.rest.now)) is (h aim st x)) us e f n
        ((begins_so c goal.kind goal.least (g.taken ++ us) f n).0 y)

    pub no_tree : IsClass def → (s : State) → Got s → (step : Step) → step ≡ steps.NoTree → ((aim : Aim) (st : List Plain) → IsState s aim st → Steps def aim st (tokens_of s.rest.now) step)
        → (f : Fragment) (n : ℕ) → Reads def goal ts f n → ⊥
    no_tree c s g step is h f n y = no_tree_after c s g step is h (tokens_of s.rest.now) refl f n (subst (Yields def f goal.kind goal.least n) g.are y)

    pub parsed : (tree : Grown) (t : Fragment) → GivesOnly tree → ((f : Fragment) (n : ℕ) → IsTree tree f n → IsWithin goal f n t) → IsParsed def goal ts t
    parsed tree t (f, n, is, same) h =
        let w = h f n is in
        let reads : Reads def goal ts f n = (same f n).1 (refl, refl) in
        subst (IsParsed def goal ts) (sym w.same) (record { nesting = n; reads = reads; depth = w.depth; brackets = w.brackets })

    pub formed : (t : Fragment) → AllByRecursion IsValue (tokens_of ts) → IsParsed def goal ts t → WellFormed def t goal.kind
    formed t v p = yields_are_trees def goal.kind goal.least p.nesting t (tokens_of ts) v p.reads

    pub refused : (tree : Grown) (fault : ParseFault) → GivesOnly tree → ((f : Fragment) (n : ℕ) → IsTree tree f n → IsBeyond goal f n fault) → IsFault def goal ts fault
    refused tree fault (f, n, is, same) h =
        let b = h f n is in
        let deep : HasDeep def goal ts = record { tree = f; nesting = n; reads = (same f n).1 (refl, refl); deep = b.deep } in
        subst (IsFault def goal ts) (sym b.is) deep

pub tokens_length : (ts : List Spanned) → length (tokens_of ts) ≡ length ts
tokens_length [] = refl
tokens_length (t ∷ ts) = ap suc (tokens_length ts)

pub as_many : (ts us : List Spanned) → length ts ≡ length us → length (tokens_of ts) ≡ length (tokens_of us)
as_many ts us e = tokens_length ts ∙ e ∙ sym (tokens_length us)

-- a step that took no token left as many
pub none_taken : (tokens work : ℕ) (s : State) → Advances tokens work (steps.Go s) → tokens ≤ length s.rest.now → (length s.rest.now ≡ tokens) × (state_work s < work)
none_taken tokens work s (inl lt) h = absurd (omega (arith, lt, h))
none_taken tokens work s (inr e) h = e

pub ticked : (steps new first tokens left rest : ℕ) → steps + left ≡ first + tokens → rest < left → new ≡ steps + (left - rest) → new + rest ≡ first + tokens
ticked steps new first tokens left rest e lt is = omega (arith, e, lt, is)
