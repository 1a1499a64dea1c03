use Rattle.std.proofs.Common.{ℕ, List, inl, inr}
use Rattle.psg_grammar.specs.Sound.{AreSpaceNames}
use Rattle.psg_grammar.specs.declared.types.Space.{Space}
use Rattle.psg_deflines.specs.Versions.{IsVersion}
use Rattle.std.proofs.Common.{subst, string_bytes, ◌<◌, ◌^◌, length, ◌∙◌, arith}
use Rattle.std.proofs.lemmas.List.{take_all}
use Rattle.std.proofs.lemmas.Str.{IsUtf8-string_bytes}
use Rattle.psg_defread.proofs.JoinTexts.{IsLaid, laid-start, laid-next}
use Rattle.psg_defread.proofs.JoinWhole.{read-again, layout, text-is}
use Rattle.psg_defread.proofs.writing.definition_text.Goals as goal

version-is : (version : ℕ) (spaces : List Space) → AreSpaceNames version spaces → IsVersion version
version-is version spaces (inl h) = inl h.0
version-is version spaces (inr h) = inr h.0

pub loop-i-init : goal.loop-i-init
loop-i-init c =
    laid-start c.args.definition.now.version (string_bytes c.in_ok-text.text)
    (c.in_ok-text.ensures.ok ∙ c.head.ensures (version-is c.args.definition.now.version c.args.definition.now.spaces c.requires.spaces))

pub loop-i-preserved : goal.loop-i-preserved
loop-i-preserved c =
    let own = c.in_ok-push_line.ensures in
    laid-next c.args.definition.now.version c.as_slice-lines.result.now c.loop-i.i c.index-lines-i.result own.0 (string_bytes c.loop-i.text)
    (string_bytes c.push_line.new.text) c.loop-i-test.true c.index-lines-i.is own.1 own.2 own.3 c.loop-i.invariant

pub returns-clause-inverse : goal.returns-clause-inverse
returns-clause-inverse c =
    let text = string_bytes c.loop-i.text in
    let all = take_all c.loop-i.i c.as_slice-lines.result.now (omega (arith, c.loop-i-test.false)) in
    let laid = subst (λ ls. IsLaid c.args.definition.now.version ls text) (all ∙ c.as_slice-lines.ensures.value ∙ c.in_ok-written.ensures)
    c.loop-i.invariant in
    let short : length text < 2 ^ 63 =
    omega (arith, c.loop-i.text.bytes.ok.0, c.loop-i.text.bytes.ok.1, c.loop-i.text.bytes.small) in
    read-again c.one_line.ensures text c.args.definition.now c.requires (IsUtf8-string_bytes c.loop-i.text) short laid

pub returns-clause-layout : goal.returns-clause-layout
returns-clause-layout c =
    let text = string_bytes c.loop-i.text in
    let all = take_all c.loop-i.i c.as_slice-lines.result.now (omega (arith, c.loop-i-test.false)) in
    let laid = subst (λ ls. IsLaid c.args.definition.now.version ls text) (all ∙ c.as_slice-lines.ensures.value ∙ c.in_ok-written.ensures)
    c.loop-i.invariant in
    let short : length text < 2 ^ 63 =
    omega (arith, c.loop-i.text.bytes.ok.0, c.loop-i.text.bytes.ok.1, c.loop-i.text.bytes.small) in
    layout c.one_line.ensures text c.args.definition.now c.requires short laid

pub returns-clause-text : goal.returns-clause-text
returns-clause-text c =
    let text = string_bytes c.loop-i.text in
    let all = take_all c.loop-i.i c.as_slice-lines.result.now (omega (arith, c.loop-i-test.false)) in
    let laid = subst (λ ls. IsLaid c.args.definition.now.version ls text) (all ∙ c.as_slice-lines.ensures.value ∙ c.in_ok-written.ensures)
    c.loop-i.invariant in
    text-is c.one_line.ensures text c.args.definition.now c.requires laid
