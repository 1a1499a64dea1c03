-- What is left to do in a state of the parser. The program's frames hold no tree past the limits, so each represents a
-- plain frame, which has one.
use Rattle.std.specs.Prelude.{ℕ, ◌≡◌, ◌↔◌, false, List, [], ◌∷◌, ◌++◌}
use Rattle.psg_grammar.specs.declared.types.Definition.{Definition}
use Rattle.psg_grammar.specs.Fragments.{Fragment}
use Rattle.psg_lexis.specs.declared.token.Token.{Token}
use Rattle.psg_class.specs.Places.{solid}
use Rattle.psg_class.specs.Terminals.{next_terminal}
use Rattle.psg_class.specs.Runs.{start, grow, parts, list}
use Rattle.psg_class.specs.Machine.{Frame as Plain, then_grow, then_parts, then_close, then_list, Ends, Completes}
use Rattle.psg_class.specs.Texts.{tokens_of}
use Rattle.psg_parse.specs.Onward.{IsEndable, CanEndState, MayLeave}
pub use Rattle.psg_parse.specs.Onward.{Aim, running, giving}
use Rattle.psg_parse.specs.Standing.{IsTree, IsPartly, AreElements}
use Rattle.psg_grammar.specs.declared.types.Kind.{Kind}
use Rattle.psg_grammar.specs.declared.types.Kind.TheVariants as kinds
use Rattle.psg_lexis.specs.declared.token.Spanned.{Spanned}
use Rattle.psg_parse.specs.declared.fault.Goal.{Goal}
use Rattle.psg_parse.specs.declared.state.Frame.{Frame}
use Rattle.psg_parse.specs.declared.state.Frame.TheVariants as frames
use Rattle.psg_parse.specs.declared.state.Mode.{Mode}
use Rattle.psg_parse.specs.declared.state.Mode.TheVariants as modes
use Rattle.psg_parse.specs.declared.state.State.{State}
use Rattle.psg_parse.specs.declared.state.Step.{Step}
use Rattle.psg_parse.specs.declared.state.Step.TheVariants as steps

-- ---- plain states

-- the trees, with their nesting, that may be the result from here on
abbrev pub LeftBy : Definition → Aim → List Plain → List Token → Fragment → ℕ → Type 0
LeftBy def (running task) st ts F D = Completes def task st ts F D
LeftBy def (giving f n) st ts F D = Ends def st f n ts F D

-- ---- what the program's states represent

-- the frame represents the plain one
abbrev pub IsFrame : Frame → Plain → Type 0
IsFrame (frames.Grow p m level) plain = plain ≡ then_grow p m level
IsFrame (frames.Parts o built more) plain =
    (f : Fragment) × (n : ℕ) × IsPartly built f n × (plain ≡ then_parts o.now f n (solid more.now))
IsFrame frames.Close plain = plain ≡ then_close
IsFrame (frames.List l listed) plain =
    (before : List Fragment) × (n : ℕ) × AreElements listed before n × (plain ≡ then_list l before n)

-- the frames, the last one on top, represent plain ones on top of these
abbrev pub IsStackOn : List Plain → List Frame → List Plain → Type 0
IsStackOn below [] st = st ≡ below
IsStackOn below (frame ∷ rest) st = (plain : Plain) × IsFrame frame plain × IsStackOn (plain ∷ below) rest st

abbrev pub IsStack : List Frame → List Plain → Type 0
IsStack stack st = IsStackOn [] stack st

-- the mode represents the aim
abbrev pub IsMode : Mode → Aim → Type 0
IsMode (modes.Start p m) aim = aim ≡ running (start p m)
IsMode (modes.List l) aim = aim ≡ running (list l)
IsMode (modes.Grow p m tree level) aim =
    (f : Fragment) × (n : ℕ) × IsTree tree f n × (aim ≡ running (grow p m f n level))
IsMode (modes.Parts o built more) aim =
    (f : Fragment) × (n : ℕ) × IsPartly built f n × (aim ≡ running (parts o.now false f n (solid more.now)))
IsMode (modes.Give tree) aim = (f : Fragment) × (n : ℕ) × IsTree tree f n × (aim ≡ giving f n)

pub record IsState (s : State) (aim : Aim) (st : List Plain) : Type 0 where
  pub mode : IsMode s.mode aim
  pub stack : IsStack s.stack.items st

-- ---- steps

-- these and those results are the same
abbrev pub Same : (Fragment → ℕ → Type 0) → (Fragment → ℕ → Type 0) → Type 0
Same Before After = (F : Fragment) (D : ℕ) → Before F D ↔ After F D

-- the parser sees the same at the next token, or the end at both
abbrev pub SeesSame : Definition → List Token → List Token → Type 0
SeesSame def ts us = next_terminal def us ≡ next_terminal def ts

-- From one state to another one these tokens are taken, and the next token may have been looked at. Whatever is there
-- in place of the tokens after the next one, the same trees are left; and whatever ends the later state ends the
-- earlier one too.
pub record Moves (def : Definition) (aim : Aim) (st : List Plain) (taken rest : List Token) (to : Aim)
    (on : List Plain) : Type 0 where
  pub same : (us : List Token) → SeesSame def rest us → Same (LeftBy def aim st (taken ++ us)) (LeftBy def to on us)
  pub back : (us : List Token) (F : Fragment) (D : ℕ) → MayLeave def to on us F D
      → MayLeave def aim st (taken ++ us) F D
  pub ends : IsEndable def → CanEndState def aim st → CanEndState def to on

-- from these tokens on, the state leads to that one
pub record GoesOn (def : Definition) (from : Aim) (below : List Plain) (ts : List Token) (s : State) : Type 0 where
  pub aim : Aim
  pub st : List Plain
  pub stands : IsState s aim st
  pub taken : List Token
  pub are : ts ≡ taken ++ tokens_of s.rest.now
  pub moves : Moves def from below taken (tokens_of s.rest.now) aim st

-- The result of a step leaves the same trees. Where there is no tree, there is none whatever is there in place of the
-- tokens after the next one.
abbrev pub Leads : Definition → Aim → List Plain → List Token → Step → Type 0
Leads def from below ts (steps.Go s) = GoesOn def from below ts s
Leads def from below ts (steps.Done tree) =
    (f : Fragment) × (n : ℕ) × IsTree tree f n × Same (LeftBy def from below ts) (λ F D. (F ≡ f) × (D ≡ n))
Leads def from below ts steps.NoTree =
    (us : List Token) → SeesSame def ts us → (F : Fragment) (D : ℕ) → LeftBy def from below us F D → ⊥

-- a step from a state of the aim, at these tokens
abbrev pub Steps : Definition → Aim → List Plain → List Token → Step → Type 0
Steps def aim st ts step = Leads def aim st ts step

-- what is said there, of a step that is not the last one
abbrev pub Goes : Definition → Aim → List Plain → List Token → Step → Type 0
Goes def aim st ts (steps.Go s) = GoesOn def aim st ts s
Goes def aim st ts (steps.Done tree) = ⊥
Goes def aim st ts steps.NoTree = ⊥

-- ---- the beginning

-- the aim at the beginning. A list has no level.
abbrev pub aim_of : Kind → ℕ → Aim
aim_of (kinds.Phylum p) least = running (start p least)
aim_of (kinds.List l) least = running (list l)

pub record IsBegun (goal : Goal) (ts : List Spanned) (s : State) : Type 0 where
  pub stands : IsState s (aim_of goal.kind goal.least) []
  pub rest : s.rest.now ≡ ts
