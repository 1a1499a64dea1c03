use Rattle.std.proofs.Common.{◌≤◌, ◌+◌, ℕ, Option, IsUtf8, sym, ◌∙◌, ap, subst}
use Rattle.std.proofs.lemmas.Result.{err_from_is_err_and}
use Rattle.psg_cache.specs.Annotated.{tree_in}
use Rattle.psg_grammar.specs.Paths.{Path}
use Rattle.psg_grammar.specs.Printable.{IsPrintable}
use Rattle.psg_grammar.specs.Sizes.{depth_of}
use Rattle.psg_grammar.specs.WellFormed.{WellFormed}
use Rattle.psg_grammar.specs.declared.limits.TheConstants.{MOST_DEPTH}
use Rattle.psg_textedit.specs.Regions.{IsReading, IsTyped}
use Rattle.psg_textedit.specs.Typing.{IsForNode, typing_of}
use Rattle.psg_unparse.specs.Spans.{printed_of}
use Rattle.psg_session.specs.Sessions.{plain}
use Rattle.psg_session.proofs.RangeTexts.{new_utf8, no_change}
use Rattle.psg_session.proofs.ranged.read_change.Goals as goal

pub type_over-requires-clause-reader : goal.type_over-requires-clause-reader
type_over-requires-clause-reader g c = record {
  sound = c.requires.language.sound;
  class = c.requires.language.accepted.of_class;
  tokens = c.requires.language.tokens;
  words = c.requires.language.words;
  table = c.requires.language.table;
}

pub type_over-requires-clause-formed : goal.type_over-requires-clause-formed
type_over-requires-clause-formed g c =
    subst (λ f. WellFormed c.args.language.now.definition f c.args.held.now.kind) (sym c.tree-tree.ensures) c.requires.formed

pub type_over-requires-clause-printable : goal.type_over-requires-clause-printable
type_over-requires-clause-printable g c = subst IsPrintable (sym c.tree-tree.ensures) c.requires.printable

pub type_over-requires-clause-shallow : goal.type_over-requires-clause-shallow
type_over-requires-clause-shallow g c =
    subst (λ f. depth_of f ≤ MOST_DEPTH) (sym c.tree-tree.ensures) c.requires.shallow

pub type_over-requires-clause-printed : goal.type_over-requires-clause-printed
type_over-requires-clause-printed g c =
    c.requires.printed ∙ ap (printed_of c.args.language.now.definition) (sym c.tree-tree.ensures)

pub returns-in_err-change-clause-answer : goal.returns-in_err-change-clause-answer
returns-in_err-change-clause-answer g c =
    let p = err_from_is_err_and c.from_residual.result c.from_residual.ensures.1 in
    rw (p.1, p.2)
    (no_change c.args.language.now.definition (typing_of c.args.typed.now) (plain c.args.held.now) c.tree-tree.result.now _
    c.tree-tree.ensures c.in_err-change.ensures.fault
    (new_utf8 c.args.language.now.definition c.requires.language.sound c.requires.language.tokens
    c.requires.language.accepted.of_class (tree_in c.args.held.now.note) c.args.held.now.kind c.requires.printable
    c.requires.formed (typing_of c.args.typed.now)
    (subst IsUtf8 c.as_bytes-new.ensures.value c.as_bytes-new.ensures.utf8)))

pub returns-in_err-change-clause-ticks : goal.returns-in_err-change-clause-ticks
returns-in_err-change-clause-ticks g c =
    subst (λ f. (found : Option Path) (n : ℕ)
    → IsReading c.args.language.now.definition f (typing_of c.args.typed.now) found n
    → c.type_over.new.steps ≤ c.args.steps.now + n) c.tree-tree.ensures c.in_err-change.ensures.ticks

pub returns-clause-answer : goal.returns-clause-answer
returns-clause-answer g c =
    let typed : IsTyped c.args.language.now.definition (tree_in c.args.held.now.note) (typing_of c.args.typed.now)
    c.args.held.now.kind c.in_ok-change.change.path c.in_ok-change.change.tree =
    subst (λ f. IsTyped c.args.language.now.definition f (typing_of c.args.typed.now) c.args.held.now.kind
    c.in_ok-change.change.path c.in_ok-change.change.tree) c.tree-tree.ensures c.in_ok-change.ensures.typed in
    record {
      typed = typed;
      fits = subst (λ f. IsForNode c.args.language.now.definition f c.in_ok-change.change.path c.in_ok-change.change.tree)
          c.tree-tree.ensures c.in_ok-change.ensures.fits;
      utf8 = new_utf8 c.args.language.now.definition c.requires.language.sound c.requires.language.tokens
          c.requires.language.accepted.of_class (tree_in c.args.held.now.note) c.args.held.now.kind c.requires.printable
          c.requires.formed (typing_of c.args.typed.now)
          (subst IsUtf8 c.as_bytes-new.ensures.value c.as_bytes-new.ensures.utf8) typed.inside;
    }

pub returns-clause-ticks : goal.returns-clause-ticks
returns-clause-ticks g c =
    subst (λ f. (found : Option Path) (n : ℕ)
    → IsReading c.args.language.now.definition f (typing_of c.args.typed.now) found n
    → c.type_over.new.steps ≤ c.args.steps.now + n) c.tree-tree.ensures c.in_ok-change.ensures.ticks
