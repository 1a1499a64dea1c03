use Rattle.std.proofs.Common.{◌≡◌, ◌∷◌, ◌++◌, [], List, map, sym, ap, ◌∙◌, subst}
use Rattle.std.specs.Prelude.{String, string_bytes}
use Rattle.std.specs.declared.alloc.Global.{Global}
use Rattle.psg_scope.specs.declared.header.NameCol.{NameCol}
use Rattle.psg_scope.specs.declared.header.Header.{Header}
use Rattle.psg_eval.specs.declared.summary.SummaryParts.{SummaryParts}
use Rattle.psg_script.specs.declared.command.Command.TheVariants.{Free}
use Rattle.psg_session.specs.Answers.{names_line}
use Rattle.psg_session.specs.Replies.{answered}
use Rattle.psg_session.specs.declared.refusal.Refusal.TheVariants.{NothingOpened}
use Rattle.psg_session.specs.declared.replies.Reply.TheVariants.{Answered, Refused}
use Rattle.psg_session.specs.Views.{names_without}
use Rattle.psg_session.proofs.Options.{only_none}
use Rattle.psg_session.proofs.Asking.{Answers, free_unopened, free_opened, stayed}
use Rattle.psg_session.proofs.questions.free.Goals as goal

pub returns-in_default : goal.returns-in_default
returns-in_default c =
    stayed c.args.language.now.definition c.args.editor.now Free (Refused NothingOpened)
    (free_unopened c.args.language.now.definition c.args.editor.now
    (only_none c.args.editor.now.opened c.in_default.not-Some))

pub returns : goal.returns
returns c =
    let line : String Global = c.in_ok-line.line in
    let lines : c.push.new.self.items ≡ line ∷ [] =
    c.in_ok-push.ensures.items ∙ ap (λ (l : List (String Global)). l ++ line ∷ []) c.new-lines.ensures.items in
    let columns = c.as_slice.ensures ∙ ap (λ (h : Header). h.names)
    (c.header.ensures ∙ ap (λ (k : SummaryParts). k.header) c.root.ensures) in
    stayed c.args.language.now.definition c.args.editor.now Free (Answered c.push.new.self)
    (subst (λ l. Answers c.args.language.now.definition c.args.editor.now Free (answered l))
    (sym (ap (map string_bytes) lines))
    (free_opened c.args.language.now.definition c.args.editor.now c.in-Some.held c.in-Some.is c.requires.editor
    (string_bytes line)
    (c.in_ok-line.ensures ∙ ap (λ (cols : List NameCol). names_line (names_without c.args.language.now.definition cols)) columns)))
