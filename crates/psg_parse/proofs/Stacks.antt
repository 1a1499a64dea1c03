-- Frames that are put on a stack and taken from it.
use Rattle.std.proofs.Common.{◌≡◌, suc, length, arith, Some, None, List, [], ◌∷◌, ◌++◌, refl, ap, sym, ◌∙◌, subst}
use Rattle.psg_grammar.specs.declared.types.Definition.{Definition}
use Rattle.psg_lexis.specs.declared.token.Spanned.{Spanned}
use Rattle.psg_class.specs.Terminals.{Terminal, terminal_of, next_terminal}
use Rattle.psg_class.specs.Texts.{tokens_of}
use Rattle.psg_class.specs.Machine.{Frame as Plain}
use Rattle.psg_parse.specs.declared.state.Frame.{Frame}
use Rattle.psg_parse.specs.States.{IsFrame, IsStackOn, IsStack}

push_on : (below : List Plain) (frames : List Frame) (st : List Plain) (frame : Frame) (plain : Plain) → IsFrame frame plain → IsStackOn below frames st → IsStackOn below (frames ++ frame ∷ []) (plain ∷ st)
push_on below [] st frame plain is h = (plain, is, ap (λ x. plain ∷ x) h)
push_on below (q ∷ rest) st frame plain is (p, isq, more) = (p, isq, push_on (p ∷ below) rest st frame plain is more)

pub pushed : (frames : List Frame) (st : List Plain) (frame : Frame) (plain : Plain) → IsFrame frame plain → IsStack frames st → IsStack (frames ++ frame ∷ []) (plain ∷ st)
pushed frames st frame plain is h = push_on [] frames st frame plain is h

pop_on : (below : List Plain) (rest : List Frame) (frame : Frame) (st : List Plain) → IsStackOn below (rest ++ frame ∷ []) st
    → (plain : Plain) × (left : List Plain) × (st ≡ plain ∷ left) × IsFrame frame plain × IsStackOn below rest left
pop_on below [] frame st (p, is, e) = (p, below, e, is, refl)
pop_on below (q ∷ rest) frame st (p, isq, more) = let (plain, left, e, is, s) = pop_on (p ∷ below) rest frame st more in (plain, left, e, is, (p, isq, s))

pub popped : (rest : List Frame) (frame : Frame) (st : List Plain) → IsStack (rest ++ frame ∷ []) st → (plain : Plain) × (left : List Plain) × (st ≡ plain ∷ left) × IsFrame frame plain × IsStack rest left
popped rest frame st h = pop_on [] rest frame st h

-- the same where the frame is known
pub top : (all rest : List Frame) (frame shown : Frame) (st : List Plain) → all ≡ rest ++ frame ∷ [] → frame ≡ shown → IsStack all st
    → (plain : Plain) × (left : List Plain) × (st ≡ plain ∷ left) × IsFrame shown plain × IsStack rest left
top all rest frame shown st e is h = popped rest shown st (subst (λ x. IsStack x st) (e ∙ ap (λ x. rest ++ x ∷ []) is) h)

-- ---- the next token

pub nothing_next : (def : Definition) (rest : List Spanned) (t : Terminal) → length rest ≡ 0 → next_terminal def (tokens_of rest) ≡ Some t → ⊥
nothing_next def [] t e h = let x : None ≡ Some t = h in cc
nothing_next def (s ∷ rest) t e h = let x : suc (length rest) ≡ 0 = e in omega arith

pub other_next : (def : Definition) (rest : List Spanned) (s : Spanned) (others : List Spanned) (t : Terminal) → rest ≡ s ∷ others → (terminal_of def s.token ≡ t → ⊥) → next_terminal def (tokens_of rest) ≡ Some t → ⊥
other_next def rest s others t is h e = h (let x : Some (terminal_of def s.token) ≡ Some t = ap (λ r. next_terminal def (tokens_of r)) (sym is) ∙ e in cc)
