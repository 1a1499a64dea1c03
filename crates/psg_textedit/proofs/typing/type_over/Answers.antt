use Rattle.std.proofs.Common.{Global, Vec, ◌<◌, length, slice_get, ◌≡◌, ◌∙◌, List, Some, IsUtf8, sym, subst, ap}
use Rattle.std.proofs.lemmas.Option.{slice_get_within}
use Rattle.std.proofs.lemmas.Result.{err_from_is_err_and}
use Rattle.psg_terms.proofs.Lists.{IfSome_at, slice_get_item}
use Rattle.psg_class.specs.Texts.{HasNoTokens, TextTokens}
use Rattle.psg_lexis.specs.declared.token.Spanned.{Spanned}
use Rattle.psg_unparse.specs.Layout.{text_of}
use Rattle.psg_unparse.specs.declared.spans.Printed.{Printed}
use Rattle.psg_unparse.specs.declared.spans.Span.{Span}
use Rattle.psg_textedit.specs.Regions.{edited, IsInside, IsOutside}
use Rattle.psg_textedit.proofs.TypedNode.{text_utf8}
use Rattle.psg_textedit.specs.Lines.{AreLines, lines_with}
use Rattle.psg_textedit.specs.Typing.{definition_of, typing_of}
use Rattle.psg_textedit.proofs.Faults.{spoilt}
use Rattle.psg_textedit.proofs.NodeReads.{none_in}
use Rattle.psg_textedit.proofs.Roots.{begins_reading, first_encloses, first_path, job_here, reading_ticks, some_spans}
use Rattle.psg_textedit.proofs.Widening.{not_outside}
use Rattle.psg_textedit.proofs.typing.type_over.Goals as goal

pub returns-then-not-is_inside-clause-fault : goal.returns-then-not-is_inside-clause-fault
returns-then-not-is_inside-clause-fault g c =
    subst (IsOutside (typing_of c.args.typed.now)) (c.as_str-text.ensures ∙ ap (λ (p : Printed). p.text) c.requires.printed) (c.is_inside.ensures.outside c.if-not-is_inside.true)

pub lines_of-lines-requires : goal.lines_of-lines-requires
lines_of-lines-requires g c =
    record { inside = c.is_inside.ensures.inside c.if-not-is_inside.false }

pub find_fault-requires-clause-reader : goal.find_fault-requires-clause-reader
find_fault-requires-clause-reader g c = c.requires.reader

pub find_fault-requires-clause-inside : goal.find_fault-requires-clause-inside
find_fault-requires-clause-inside g c = c.is_inside.ensures.inside c.if-not-is_inside.false

pub find_fault-requires-clause-none : goal.find_fault-requires-clause-none
find_fault-requires-clause-none g c =
    spoilt (definition_of c.args.reader.now) (typing_of c.args.typed.now) c.as_str-text.result.now
    (subst IsUtf8 (sym (c.as_str-text.ensures ∙ ap (λ (p : Printed). p.text) c.requires.printed))
    (text_utf8 (definition_of c.args.reader.now) c.requires.reader.sound c.requires.reader.tokens c.requires.reader.class
    c.args.tree.now c.args.kind c.requires.printable c.requires.formed))
    (c.is_inside.ensures.inside c.if-not-is_inside.false)
    (subst IsUtf8 c.as_bytes-new.ensures.value c.as_bytes-new.ensures.utf8)
    c.lines_of-lines.result.before.now c.lines_of-lines.result.behind.now c.lines_of-lines.ensures
    c.as_str-new.result.now (c.as_str-new.ensures.value ∙ c.in_ok-made.ensures)
    (none_in (HasNoTokens (definition_of c.args.reader.now) c.as_str-new.result.now) c.in_ok-tokens.field-0 c.in_default.is c.in_ok-tokens.ensures.none)

pub returns-in_err-find_fault-clause-fault : goal.returns-in_err-find_fault-clause-fault
returns-in_err-find_fault-clause-fault g c =
    let p = err_from_is_err_and c.from_residual-in_err-find_fault.result c.from_residual-in_err-find_fault.ensures.1 in rw (p.1, p.2) tt

pub returns-in_err-made-clause-fault : goal.returns-in_err-made-clause-fault
returns-in_err-made-clause-fault g c =
    let p = err_from_is_err_and c.from_residual.result c.from_residual.ensures.1 in rw (p.1, p.2) tt

pub returns-in_err-tokens-clause-fault : goal.returns-in_err-tokens-clause-fault
returns-in_err-tokens-clause-fault g c =
    let p = err_from_is_err_and c.from_residual-in_err-tokens.result c.from_residual-in_err-tokens.ensures.1 in rw (p.1, p.2) tt

pub returns-in_default-clause-fault : goal.returns-in_default-clause-fault
returns-in_default-clause-fault g c = (
  not_outside (typing_of c.args.typed.now) (text_of (definition_of c.args.reader.now) c.args.tree.now) (subst (IsInside (typing_of c.args.typed.now)) (c.as_str-text.ensures ∙ ap (λ (p : Printed). p.text) c.requires.printed) (c.is_inside.ensures.inside c.if-not-is_inside.false)),
  subst (λ text. HasNoTokens (definition_of c.args.reader.now) (edited (typing_of c.args.typed.now) text))
      (c.as_str-text.ensures ∙ ap (λ (p : Printed). p.text) c.requires.printed) c.in_ok-find_fault.ensures,
)

pub innermost-best-requires-clause-some : goal.innermost-best-requires-clause-some
innermost-best-requires-clause-some g c =
    subst (λ (xs : List Span). 0 < length xs) (sym (c.as_slice-spans.ensures ∙ ap (λ (p : Printed). p.spans) c.requires.printed)) (some_spans (definition_of c.args.reader.now) c.args.tree.now c.args.kind c.requires.formed)

pub innermost-best-requires-clause-whole : goal.innermost-best-requires-clause-whole
innermost-best-requires-clause-whole g c =
    λ s got. first_encloses (definition_of c.args.reader.now) c.args.tree.now c.args.kind c.requires.formed (typing_of c.args.typed.now) (subst (IsInside (typing_of c.args.typed.now)) (c.as_str-text.ensures ∙ ap (λ (p : Printed). p.text) c.requires.printed) (c.is_inside.ensures.inside c.if-not-is_inside.false)) s
    (subst (λ xs. slice_get xs 0 ≡ Some s) (c.as_slice-spans.ensures ∙ ap (λ (p : Printed). p.spans) c.requires.printed) got)

pub bounds-spans-best : goal.bounds-spans-best
bounds-spans-best g c =
    slice_get_within c.as_slice-spans.result.now c.innermost-best.result c.innermost-best.ensures.span c.innermost-best.ensures.found

pub widen-requires-clause-job : goal.widen-requires-clause-job
widen-requires-clause-job g c =
    record {
      reader = c.requires.reader;
      formed = c.requires.formed;
      printable = c.requires.printable;
      shallow = c.requires.shallow;
      printed = c.requires.printed;
      inside = (subst (IsInside (typing_of c.args.typed.now)) (c.as_str-text.ensures ∙ ap (λ (p : Printed). p.text) c.requires.printed) (c.is_inside.ensures.inside c.if-not-is_inside.false));
      new = subst IsUtf8 c.as_bytes-new.ensures.value c.as_bytes-new.ensures.utf8;
      lines = subst (λ text. AreLines (typing_of c.args.typed.now) text c.lines_of-lines.result.before.now c.lines_of-lines.result.behind.now)
          (c.as_str-text.ensures ∙ ap (λ (p : Printed). p.text) c.requires.printed) c.lines_of-lines.ensures;
      bytes = ap length (c.as_str-new.ensures.value ∙ c.in_ok-made.ensures);
      all = subst (λ ts. TextTokens (definition_of c.args.reader.now)
          (lines_with (typing_of c.args.typed.now) c.lines_of-lines.result.before.now c.lines_of-lines.result.behind.now) ts)
          (sym c.as_slice-all.ensures.value)
          (subst (λ bs. TextTokens (definition_of c.args.reader.now) bs c.in-Some.tokens.items) (c.as_str-new.ensures.value ∙ c.in_ok-made.ensures)
          (IfSome_at (λ (v : Vec Spanned Global). TextTokens (definition_of c.args.reader.now) c.as_str-new.result.now v.items) c.in_ok-tokens.field-0 c.in-Some.tokens c.in-Some.is
          c.in_ok-tokens.ensures.some));
    }

pub widen-requires-clause-here : goal.widen-requires-clause-here
unfolding widen-requires-clause-job
widen-requires-clause-here g c =
    job_here _ (widen-requires-clause-job g c) c.as_slice-spans.result.now (c.as_slice-spans.ensures ∙ ap (λ (p : Printed). p.spans) c.requires.printed) c.innermost-best.result c.innermost-best.ensures
    c.steps-first.result.now (first_path (definition_of c.args.reader.now) c.args.tree.now (typing_of c.args.typed.now) (subst (IsInside (typing_of c.args.typed.now)) (c.as_str-text.ensures ∙ ap (λ (p : Printed). p.text) c.requires.printed) (c.is_inside.ensures.inside c.if-not-is_inside.false))
    c.as_slice-spans.result.now (c.as_slice-spans.ensures ∙ ap (λ (p : Printed). p.spans) c.requires.printed) c.innermost-best.result c.innermost-best.ensures
    c.index-spans-best.result (slice_get_item c.as_slice-spans.result.now c.innermost-best.result c.index-spans-best.result
    (slice_get_within c.as_slice-spans.result.now c.innermost-best.result c.innermost-best.ensures.span c.innermost-best.ensures.found)
    c.index-spans-best.is) c.steps-first.result.now
    (c.steps-first.ensures ∙ ap (λ (s : Span). s.path) (sym c.index-spans-best.is)))

pub returns-in_err-change-clause-fault : goal.returns-in_err-change-clause-fault
returns-in_err-change-clause-fault g c =
    let p = err_from_is_err_and c.from_residual-in_err-change.result c.from_residual-in_err-change.ensures.1 in
    rw (p.1, p.2) c.in_err-change.ensures.fault

pub returns-in_err-change-clause-ticks : goal.returns-in_err-change-clause-ticks
returns-in_err-change-clause-ticks g c =
    reading_ticks (definition_of c.args.reader.now) c.args.tree.now (typing_of c.args.typed.now) (subst (IsInside (typing_of c.args.typed.now)) (c.as_str-text.ensures ∙ ap (λ (p : Printed). p.text) c.requires.printed) (c.is_inside.ensures.inside c.if-not-is_inside.false))
    c.as_slice-spans.result.now (c.as_slice-spans.ensures ∙ ap (λ (p : Printed). p.spans) c.requires.printed) c.innermost-best.result c.innermost-best.ensures
    c.steps-first.result.now (first_path (definition_of c.args.reader.now) c.args.tree.now (typing_of c.args.typed.now) (subst (IsInside (typing_of c.args.typed.now)) (c.as_str-text.ensures ∙ ap (λ (p : Printed). p.text) c.requires.printed) (c.is_inside.ensures.inside c.if-not-is_inside.false))
    c.as_slice-spans.result.now (c.as_slice-spans.ensures ∙ ap (λ (p : Printed). p.spans) c.requires.printed) c.innermost-best.result c.innermost-best.ensures
    c.index-spans-best.result (slice_get_item c.as_slice-spans.result.now c.innermost-best.result c.index-spans-best.result
    (slice_get_within c.as_slice-spans.result.now c.innermost-best.result c.innermost-best.ensures.span c.innermost-best.ensures.found)
    c.index-spans-best.is) c.steps-first.result.now
    (c.steps-first.ensures ∙ ap (λ (s : Span). s.path) (sym c.index-spans-best.is))) c.args.steps.now c.widen.new.steps c.in_err-change.ensures.ticks

pub returns-in_err-change-clause-unread : goal.returns-in_err-change-clause-unread
returns-in_err-change-clause-unread g c =
    let p = err_from_is_err_and c.from_residual-in_err-change.result c.from_residual-in_err-change.ensures.1 in
    rw (p.1, p.2) (λ e. absurd (c.in_err-change.ensures.tokens e))

pub returns-clause-path : goal.returns-clause-path
returns-clause-path g c =
    let (n, w) = c.in_ok-change.ensures.path in (
      n,
      begins_reading (definition_of c.args.reader.now) c.args.tree.now (typing_of c.args.typed.now) (subst (IsInside (typing_of c.args.typed.now)) (c.as_str-text.ensures ∙ ap (λ (p : Printed). p.text) c.requires.printed) (c.is_inside.ensures.inside c.if-not-is_inside.false))
          c.as_slice-spans.result.now (c.as_slice-spans.ensures ∙ ap (λ (p : Printed). p.spans) c.requires.printed) c.innermost-best.result c.innermost-best.ensures
          c.steps-first.result.now (first_path (definition_of c.args.reader.now) c.args.tree.now (typing_of c.args.typed.now) (subst (IsInside (typing_of c.args.typed.now)) (c.as_str-text.ensures ∙ ap (λ (p : Printed). p.text) c.requires.printed) (c.is_inside.ensures.inside c.if-not-is_inside.false))
          c.as_slice-spans.result.now (c.as_slice-spans.ensures ∙ ap (λ (p : Printed). p.spans) c.requires.printed) c.innermost-best.result c.innermost-best.ensures
          c.index-spans-best.result (slice_get_item c.as_slice-spans.result.now c.innermost-best.result c.index-spans-best.result
          (slice_get_within c.as_slice-spans.result.now c.innermost-best.result c.innermost-best.ensures.span c.innermost-best.ensures.found)
          c.index-spans-best.is) c.steps-first.result.now
          (c.steps-first.ensures ∙ ap (λ (s : Span). s.path) (sym c.index-spans-best.is))) (Some c.in_ok-change.change.path) n w,
    )

pub returns-clause-ticks : goal.returns-clause-ticks
returns-clause-ticks g c =
    reading_ticks (definition_of c.args.reader.now) c.args.tree.now (typing_of c.args.typed.now) (subst (IsInside (typing_of c.args.typed.now)) (c.as_str-text.ensures ∙ ap (λ (p : Printed). p.text) c.requires.printed) (c.is_inside.ensures.inside c.if-not-is_inside.false))
    c.as_slice-spans.result.now (c.as_slice-spans.ensures ∙ ap (λ (p : Printed). p.spans) c.requires.printed) c.innermost-best.result c.innermost-best.ensures
    c.steps-first.result.now (first_path (definition_of c.args.reader.now) c.args.tree.now (typing_of c.args.typed.now) (subst (IsInside (typing_of c.args.typed.now)) (c.as_str-text.ensures ∙ ap (λ (p : Printed). p.text) c.requires.printed) (c.is_inside.ensures.inside c.if-not-is_inside.false))
    c.as_slice-spans.result.now (c.as_slice-spans.ensures ∙ ap (λ (p : Printed). p.spans) c.requires.printed) c.innermost-best.result c.innermost-best.ensures
    c.index-spans-best.result (slice_get_item c.as_slice-spans.result.now c.innermost-best.result c.index-spans-best.result
    (slice_get_within c.as_slice-spans.result.now c.innermost-best.result c.innermost-best.ensures.span c.innermost-best.ensures.found)
    c.index-spans-best.is) c.steps-first.result.now
    (c.steps-first.ensures ∙ ap (λ (s : Span). s.path) (sym c.index-spans-best.is))) c.args.steps.now c.widen.new.steps c.in_ok-change.ensures.ticks
