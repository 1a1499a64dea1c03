-- A question asks nothing of the files, and leaves the program as it is.
use Rattle.std.proofs.Common.{◌≡◌, ℕ, true, Option, Some, None, refl, sym, subst}
use Rattle.std.proofs.lemmas.Bool.{false≢true}
use Rattle.std.proofs.lemmas.Option.{none-some}
use Rattle.psg_grammar.specs.declared.types.Definition.{Definition}
use Rattle.psg_grammar.specs.declared.types.Kind.{Kind}
use Rattle.psg_grammar.specs.Fragments.{Fragment}
use Rattle.psg_grammar.specs.Legal.{IsCompletable}
use Rattle.psg_script.specs.declared.command.Command.{Command}
use Rattle.psg_script.specs.declared.command.Command.TheVariants as commands
use Rattle.psg_session.specs.Applied.{HasApplied, IsAskedBy}
use Rattle.psg_session.specs.Exchanges.{Asked, IsAnswered, Outside, gets, loses_fetch, loses_keep, nobody, stores}
use Rattle.psg_session.specs.PlainState.{Answer, State, not_asked}
use Rattle.psg_session.specs.PlainStep.{Steps, changes, offers, refuses, relates, suggests}
use Rattle.psg_session.specs.Replies.{Reply}
use Rattle.psg_asking.specs.Programs.{IsReply, is_question, opened_with}

-- the command that asks nothing of the files
abbrev pub AsksNothing : Definition → State → Command → Type 0
AsksNothing def s command = (asked : Option Asked) → IsAskedBy def s command asked → asked ≡ None

menu_asks : (def : Definition) (s : State) (place : _) (k : _) (asked : Option Asked)
    → IsAskedBy def s (commands.Menu place k) asked → asked ≡ None
menu_asks def s place k None h = refl
menu_asks def s place k (Some a) h = absurd h

names_asks : (def : Definition) (s : State) (place : _) (k : _) (op : _) (asked : Option Asked)
    → IsAskedBy def s (commands.Names place k op) asked → asked ≡ None
names_asks def s place k op None h = refl
names_asks def s place k op (Some a) h = absurd h

relation_asks : (def : Definition) (s : State) (place : _) (asked : Option Asked)
    → IsAskedBy def s (commands.Relation place) asked → asked ≡ None
relation_asks def s place None h = refl
relation_asks def s place (Some a) h = absurd h

pub asks_nothing : (def : Definition) (s : State) (command : Command) → is_question command ≡ true
    → AsksNothing def s command
asks_nothing def s (commands.Menu place k) q asked h = menu_asks def s place k asked h
asks_nothing def s (commands.Names place k op) q asked h = names_asks def s place k op asked h
asks_nothing def s (commands.Relation place) q asked h = relation_asks def s place asked h
asks_nothing def s _ q asked h = absurd (false≢true q)

pub by_nobody : (before after : Outside) (asked : Option Asked) (answer : Answer) → asked ≡ None
    → IsAnswered before after asked answer → (after ≡ before) × (answer ≡ not_asked)
by_nobody before after asked answer none (nobody e) = (e, refl)
by_nobody before after asked answer none (stores e f) = absurd (none-some _ (sym none))
by_nobody before after asked answer none (loses_keep e f) = absurd (none-some _ (sym none))
by_nobody before after asked answer none (gets e f g) = absurd (none-some _ (sym none))
by_nobody before after asked answer none (loses_fetch e f) = absurd (none-some _ (sym none))

module _ (def : Definition) (s : State) (answer : Answer) where
  menu_stays : (place : _) (k : _) (t : State) (reply : Reply)
      → Steps def (IsCompletable def) s answer (commands.Menu place k) t reply → t ≡ s
  menu_stays place k t reply (refuses h) = refl
  menu_stays place k t reply (changes old mark taken opened makes is_mark) = elim makes [ ]
  menu_stays place k t reply (offers old node p ops names taken opened at wanted menu named) = refl

  names_stays : (place : _) (k : _) (op : _) (t : State) (reply : Reply)
      → Steps def (IsCompletable def) s answer (commands.Names place k op) t reply → t ≡ s
  names_stays place k op t reply (refuses h) = refl
  names_stays place k op t reply (changes old mark taken opened makes is_mark) = elim makes [ ]
  names_stays place k op t reply (suggests old o names taken opened named menu) = refl

  relation_stays : (place : _) (t : State) (reply : Reply)
      → Steps def (IsCompletable def) s answer (commands.Relation place) t reply → t ≡ s
  relation_stays place t reply (refuses h) = refl
  relation_stays place t reply (changes old mark taken opened makes is_mark) = elim makes [ ]
  relation_stays place t reply (relates old rows taken opened rel) = refl

  stays : (command : Command) → is_question command ≡ true → (t : State) (reply : Reply)
      → Steps def (IsCompletable def) s answer command t reply → t ≡ s
  stays (commands.Menu place k) q t reply h = menu_stays place k t reply h
  stays (commands.Names place k op) q t reply h = names_stays place k op t reply h
  stays (commands.Relation place) q t reply h = relation_stays place t reply h
  stays _ q t reply h = absurd (false≢true q)

module _ (def : Definition) (kind : Kind) (tree : Fragment) (t : State) (command : Command) (before after : Outside)
    (from to : ℕ) (reply : Reply) (q : is_question command ≡ true)
    (is : HasApplied def (opened_with kind tree) t command before after from to reply) where
  answered_by : (after ≡ before) × (is.answer ≡ not_asked)
  answered_by =
      by_nobody before after is.asked is.answer (asks_nothing def (opened_with kind tree) command q is.asked is.asks)
      is.answers

  pub question_files : after ≡ before
  question_files = answered_by.0

  pub question_reply : IsReply def kind tree command reply
  question_reply =
      let s = opened_with kind tree in
      subst (λ (a : Answer). Steps def (IsCompletable def) s a command s reply) answered_by.1
      (subst (λ (u : State). Steps def (IsCompletable def) s is.answer command u reply)
      (stays def s is.answer command q t reply is.steps) is.steps)
