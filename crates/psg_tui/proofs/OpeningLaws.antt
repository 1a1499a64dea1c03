-- What is opened when an editor begins.
use Rattle.std.proofs.Common.{◌≡◌, ℕ, Option, Some, None, List, false, refl, sym, ap, ◌∙◌, subst}
use Rattle.std.proofs.lemmas.Option.{none-some}
use Rattle.psg_terms.specs.Names.{Name, has_twice}
use Rattle.psg_asking.specs.Told.{refusal_in}
use Rattle.psg_grammar.specs.declared.types.Definition.{Definition}
use Rattle.psg_grammar.specs.declared.types.Kind.{Kind}
use Rattle.psg_grammar.specs.Fragments.{Fragment}
use Rattle.psg_grammar.specs.Insertion.{blank}
use Rattle.psg_grammar.specs.Kinds.{HasKind, kind_name_of}
use Rattle.psg_grammar.specs.Sound.{IsSound, kind_names}
use Rattle.psg_grammar.proofs.NamePlaces.{only_kind}
use Rattle.psg_script.specs.declared.command.Command.{Command}
use Rattle.psg_script.specs.declared.command.Command.TheVariants.{New, Over}
use Rattle.psg_script.specs.declared.command.Where.TheVariants.{At}
use Rattle.psg_session.specs.Applied.{HasApplied}
use Rattle.psg_session.specs.Exchanges.{Outside}
use Rattle.psg_session.specs.PlainState.{Answer, Opened, State}
use Rattle.psg_session.specs.PlainStep.{Steps, refuses, opens, changes}
use Rattle.psg_session.specs.Replies.{Reply}
use Rattle.psg_session.specs.declared.session.Parts.{Parts}
use Rattle.psg_session.specs.Sessions.{state_of}
use Rattle.psg_session.specs.declared.refusal.Refusal.{Refusal}
use Rattle.psg_tui.specs.Pressing.{IsOpened}
use Rattle.psg_tui.proofs.ReplyLaws.{kept_opened}

module _ (def : Definition) (IsGood : Fragment → Type 0) (s : State) (answer : Answer) where
  -- a new program of the kind of this name is opened
  new_step : {name : Name} {t : State} {reply : Reply} → Steps def IsGood s answer (New name) t reply
      → refusal_in reply ≡ None → (kind : Kind) → has_twice (kind_names def) ≡ false
      → kind_name_of def kind ≡ Some name → (tree : Fragment) × IsOpened t kind tree
  new_step (refuses is) none kind once own = absurd (none-some _ (sym none))
  new_step (opens {name = name} k mark taken named is_mark) none kind once own = (
    blank def k,
    ap (λ (x : Kind). Some (record { kind = x; tree = blank def k })) (only_kind def once k kind name named own),
  )
  new_step (changes old mark taken opened makes is_mark) none kind once own = elim makes [ ]

pub new_opened : (p q : Parts) (def d : Definition) (name n : Name) (before after : Outside) (from to : ℕ) (reply : Reply)
    (said : Option Refusal) (kind : Kind) → p.language ≡ def
    → HasApplied p.language (state_of p.editor) (state_of q.editor) (New name) before after from to reply → said ≡ None
    → said ≡ refusal_in reply → d ≡ def → IsSound def → kind_name_of d kind ≡ Some n → name ≡ n
    → (tree : Fragment) × IsOpened (state_of q.editor) kind tree
new_opened p q def d name n before after from to reply said kind language applied none is same sound named copy =
    new_step p.language _ (state_of p.editor) applied.answer applied.steps (sym is ∙ none) kind
    (subst (λ x. has_twice (kind_names x) ≡ false) (sym language) sound.kind_names)
    (subst (λ x. kind_name_of x kind ≡ Some name) (same ∙ sym language) (named ∙ ap Some (sym copy)))

-- a text that is put over the whole program leaves a program of its kind
pub over_opened : (def : Definition) (s t : State) (path : List ℕ) (text : List ℕ) (before after : Outside) (from to : ℕ)
    (reply : Reply) → HasApplied def s t (Over (At path) text) before after from to reply
    → (kind : Kind) (tree : Fragment) → IsOpened s kind tree → (grown : Fragment) × IsOpened t kind grown
over_opened def s t path text before after from to reply applied kind tree at =
    kept_opened def _ s applied.answer kind tree at applied.steps refl

-- the kind is one of the definition, by whichever name that has
pub kind_of : (def d : Definition) (kind : Kind) → d ≡ def → HasKind def kind → HasKind d kind
kind_of def d kind same has = subst (λ x. HasKind x kind) (sym same) has
