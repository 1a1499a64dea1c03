-- How much the parser has to do. A step takes a token, or it leaves less to be done before the next token is taken.
use Rattle.std.specs.Prelude.{ℕ, ◌≡◌, ◌<◌, ◌+◌, ◌*◌, ◌⊎◌, List, [], ◌∷◌, length}
use Rattle.psg_parse.specs.declared.state.Frame.{Frame}
use Rattle.psg_parse.specs.declared.state.Frame.TheVariants as frames
use Rattle.psg_parse.specs.declared.state.Mode.{Mode}
use Rattle.psg_parse.specs.declared.state.Mode.TheVariants as modes
use Rattle.psg_parse.specs.declared.state.State.{State}
use Rattle.psg_parse.specs.declared.state.Step.{Step}
use Rattle.psg_parse.specs.declared.state.Step.TheVariants as steps

-- more than the steps that follow without a token once the frame is taken from the stack
abbrev pub frame_work : Frame → ℕ
frame_work (frames.Grow p m level) = 2
frame_work (frames.Parts o built more) = 4 * length more.now + 2
frame_work frames.Close = 1
frame_work (frames.List l listed) = 1

abbrev pub stack_work : List Frame → ℕ
stack_work [] = 0
stack_work (frame ∷ rest) = frame_work frame + stack_work rest

abbrev pub mode_work : Mode → ℕ
mode_work (modes.Start p m) = 0
mode_work (modes.List l) = 2
mode_work (modes.Grow p m tree level) = 1
mode_work (modes.Parts o built more) = 4 * length more.now + 1
mode_work (modes.Give tree) = 0

abbrev pub state_work : State → ℕ
state_work s = mode_work s.mode + stack_work s.stack.items

-- The step goes on with fewer tokens than these, or with as many and less work than this; or there is no tree.
abbrev pub Falls : ℕ → ℕ → Step → Type 0
Falls tokens work (steps.Go s) = (length s.rest.now < tokens) ⊎ ((length s.rest.now ≡ tokens) × (state_work s < work))
Falls tokens work (steps.Done tree) = ⊥
Falls tokens work steps.NoTree = Unit {0}

-- the same, or the tree is there and no token is left
abbrev pub Advances : ℕ → ℕ → Step → Type 0
Advances tokens work (steps.Go s) = Falls tokens work (steps.Go s)
Advances tokens work (steps.Done tree) = tokens ≡ 0
Advances tokens work steps.NoTree = Unit {0}

-- the step took a token, or is the last one
abbrev pub Takes : ℕ → Step → Type 0
Takes tokens (steps.Go s) = length s.rest.now < tokens
Takes tokens (steps.Done tree) = tokens ≡ 0
Takes tokens steps.NoTree = Unit {0}
