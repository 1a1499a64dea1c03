use Rattle.std.proofs.Common.{◌∙◌, [], length, arith, sym, ap, subst}
use Rattle.std.specs.Str.Lines.{lines as lines_of}
use Rattle.std.specs.List.{AllByRecursion}
use Rattle.psg_deflines.specs.Entries.{IsPlain, behind_head, written}
use Rattle.psg_defcheck.specs.Faults.{ArePassed}
use Rattle.psg_defcheck.specs.Checks.{IsCheckFault}
use Rattle.psg_defnumber.specs.Numbers.{IsNumbered}
use Rattle.psg_defread.proofs.Counting.{few_entries, head_version}
use Rattle.psg_defread.proofs.Faultless.{faultless, form_passed, meaning_passed, memory_passed, checked_lines, one_read}
use Rattle.psg_defread.proofs.reading.read_definition.Goals as goal

pub returns-in_err-found-clause-err : goal.returns-in_err-found-clause-err
returns-in_err-found-clause-err c =
    form_passed c.args.bytes.now _ c.in_err-found.field-0.0 c.from_residual.ensures.1 c.in_err-found.ensures.err

pub of-requires-clause-few : goal.of-requires-clause-few
of-requires-clause-few c =
    let read = c.in_ok-found.ensures.ok in
    let few = few_entries c.in_ok-found.found.version c.args.bytes.now c.in_ok-found.found.entries.items read.spelled.spelled.head read.spelled.spelled.each in
    omega (arith, few.0, ap length c.as_slice-entries.ensures.value, c.requires)

pub numbered-requires-clause-few : goal.numbered-requires-clause-few
numbered-requires-clause-few c =
    let read = c.in_ok-found.ensures.ok in
    let few = few_entries c.in_ok-found.found.version c.args.bytes.now c.in_ok-found.found.entries.items read.spelled.spelled.head read.spelled.spelled.each in
    record {
      texts = behind_head (lines_of c.args.bytes.now);
      entries = c.in_ok-found.found.entries.items;
      each = read.spelled.spelled.each;
      lines = sym (checked_lines c.in_ok-checked.ensures.ok c.as_slice-entries.ensures.value);
      few = omega (arith, few.1, c.requires);
    }

pub numbered-requires-clause-plain : goal.numbered-requires-clause-plain
numbered-requires-clause-plain c =
    subst (AllByRecursion (IsPlain c.in_ok-found.found.version)) (ap written (sym c.as_slice-entries.ensures.value) ∙ sym c.in_ok-checked.ensures.ok) c.in_ok-found.ensures.ok.plain

pub returns-clause-faultless : goal.returns-clause-faultless
returns-clause-faultless c =
    faultless c.args.bytes.now c.in_ok-found.found.version c.in_ok-found.found.entries.items c.in_ok-found.ensures.ok c.in_ok-found.ensures.only c.in_ok-found.ensures.faultless
    (subst (λ ls. ArePassed ls [] ls) (checked_lines c.in_ok-checked.ensures.ok c.as_slice-entries.ensures.value) c.in_ok-checked.ensures.passed)

pub returns-clause-sound : goal.returns-clause-sound
returns-clause-sound c =
    let read = c.in_ok-found.ensures.ok in
    let few = few_entries c.in_ok-found.found.version c.args.bytes.now c.in_ok-found.found.entries.items read.spelled.spelled.head read.spelled.spelled.each in
    let lines = checked_lines c.in_ok-checked.ensures.ok c.as_slice-entries.ensures.value in
    c.numbered_is_sound.ensures c.in_ok-found.found.version (behind_head (lines_of c.args.bytes.now)) c.in_ok-found.found.entries.items c.in_ok-definition.definition (head_version c.in_ok-found.found.version (lines_of c.args.bytes.now) read.spelled.spelled.head) (omega (arith, few.1, c.requires)) read.spelled.spelled.each read.spelled.spelled.of_version
    (subst (λ ls. IsNumbered c.in_ok-found.found.version ls c.in_ok-definition.definition) lines c.in_ok-definition.ensures.numbered) c.in_ok-definition.ensures.signature

pub returns-clause-only : goal.returns-clause-only
returns-clause-only c =
    let lines = checked_lines c.in_ok-checked.ensures.ok c.as_slice-entries.ensures.value in
    one_read c.args.bytes.now c.in_ok-found.found.version c.in_ok-found.found.entries.items c.in_ok-definition.definition
    c.in_ok-found.ensures.only (subst (λ ls. IsNumbered c.in_ok-found.found.version ls c.in_ok-definition.definition) lines c.in_ok-definition.ensures.numbered)
    c.one_numbering.ensures

pub of-requires-clause-plain : goal.of-requires-clause-plain
of-requires-clause-plain c = (
  c.in_ok-found.found.version,
  subst (λ es. AllByRecursion (IsPlain c.in_ok-found.found.version) (written es)) (sym c.as_slice-entries.ensures.value) c.in_ok-found.ensures.ok.plain,
)

pub returns-in_err-checked-clause-err : goal.returns-in_err-checked-clause-err
returns-in_err-checked-clause-err c =
    meaning_passed c.args.bytes.now c.in_ok-found.found.version c.in_ok-found.found.entries.items _ c.in_err-checked.field-0.0 c.in_ok-found.ensures.ok c.from_residual-in_err-checked.ensures.1
    (subst (λ es. IsCheckFault es c.in_err-checked.field-0.0) c.as_slice-entries.ensures.value c.in_err-checked.ensures.err)

pub returns-clause-words : goal.returns-clause-words
returns-clause-words c =
    let lines = checked_lines c.in_ok-checked.ensures.ok c.as_slice-entries.ensures.value in
    c.words_are_tokens.ensures c.in_ok-found.found.version c.in_ok-found.found.entries.items c.in_ok-definition.definition c.in_ok-found.ensures.ok.plain
    (subst (λ ls. IsNumbered c.in_ok-found.found.version ls c.in_ok-definition.definition) lines c.in_ok-definition.ensures.numbered)

pub returns-in_err-definition-clause-err : goal.returns-in_err-definition-clause-err
returns-in_err-definition-clause-err c = memory_passed c.args.bytes.now _ c.from_residual-in_err-definition.ensures.1
