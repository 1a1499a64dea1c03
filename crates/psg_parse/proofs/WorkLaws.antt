-- The work of stacks, and steps that fall.
use Rattle.std.proofs.Common.{◌≡◌, ℕ, suc, ◌<◌, ◌≤◌, ◌+◌, inl, inr, arith, List, [], ◌∷◌, ◌++◌, length, ap, ◌∙◌}
use Rattle.psg_parse.specs.declared.state.Frame.{Frame}
use Rattle.psg_parse.specs.declared.state.Step.{Step}
use Rattle.psg_parse.specs.declared.state.Step.TheVariants as steps
use Rattle.psg_parse.specs.Work.{frame_work, stack_work, Falls, Advances}

pushed_on : (frames : List Frame) (frame : Frame) → stack_work (frames ++ frame ∷ []) ≡ stack_work frames + frame_work frame
pushed_on [] frame = omega arith
pushed_on (f ∷ rest) frame = let e : stack_work (rest ++ frame ∷ []) ≡ stack_work rest + frame_work frame = pushed_on rest frame in omega (arith, e)

pub pushed_work : (new old : List Frame) (frame : Frame) → new ≡ old ++ frame ∷ [] → stack_work new ≡ stack_work old + frame_work frame
pushed_work new old frame e = ap stack_work e ∙ pushed_on old frame

pub popped_work : (all rest : List Frame) (frame shown : Frame) → all ≡ rest ++ frame ∷ [] → frame ≡ shown → stack_work all ≡ stack_work rest + frame_work shown
popped_work all rest frame shown e is = pushed_work all rest frame e ∙ ap (λ f. stack_work rest + frame_work f) is

-- a list behind its first element is shorter
pub shorter : {X : Type 0} (all : List X) (x : X) (rest : List X) → all ≡ x ∷ rest → length rest < length all
shorter all x rest e = let same : length all ≡ suc (length rest) = ap length e in omega (arith, same)

pub falls_later : (fewer tokens less work : ℕ) (s : Step) → fewer < tokens → Falls fewer less s → Falls tokens work s
falls_later fewer tokens less work (steps.Go s) h (inl lt) = inl (omega (arith, h, lt))
falls_later fewer tokens less work (steps.Go s) h (inr (e, lt)) = inl (omega (arith, h, e))
falls_later fewer tokens less work (steps.Done t) h f = f
falls_later fewer tokens less work steps.NoTree h f = tt

pub falls_more : (tokens less work : ℕ) (s : Step) → less ≤ work → Falls tokens less s → Falls tokens work s
falls_more tokens less work (steps.Go s) h (inl lt) = inl lt
falls_more tokens less work (steps.Go s) h (inr (e, lt)) = inr (e, omega (arith, h, lt))
falls_more tokens less work (steps.Done t) h f = f
falls_more tokens less work steps.NoTree h f = tt

pub falls_advances : (tokens less work : ℕ) (s : Step) → less ≤ work → Falls tokens less s → Advances tokens work s
falls_advances tokens less work (steps.Go s) h f = falls_more tokens less work (steps.Go s) h f
falls_advances tokens less work (steps.Done t) h f = absurd f
falls_advances tokens less work steps.NoTree h f = tt

pub advances_more : (tokens less work : ℕ) (s : Step) → less ≤ work → Advances tokens less s → Advances tokens work s
advances_more tokens less work (steps.Go s) h f = falls_more tokens less work (steps.Go s) h f
advances_more tokens less work (steps.Done t) h f = f
advances_more tokens less work steps.NoTree h f = tt
