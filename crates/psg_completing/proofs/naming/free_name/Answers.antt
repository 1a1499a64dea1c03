use Rattle.std.proofs.Common.{◌++◌, ap, subst, sym, ◌∙◌, arith}
use Rattle.std.specs.Prelude.{chars, string_bytes}
use Rattle.std.proofs.lemmas.Str.{encode_ascii}
use Rattle.psg_terms.specs.Names.{is_among}
use Rattle.psg_terms.specs.Words.{IsWord}
use Rattle.psg_completing.proofs.SampleNames.{fewer_left, first_name, last_name, next_name, word_so_far}
use Rattle.psg_completing.proofs.naming.free_name.Goals as goal

pub strokes-init : goal.strokes-init
strokes-init c = first_name c.args.lexis.now (string_bytes c.in_ok-name.name) c.in_ok-name.ensures.ok

pub is_fixed-requires : goal.is_fixed-requires
is_fixed-requires c =
    subst (λ x. IsWord (chars x)) (sym c.as_str.ensures.value)
    (word_so_far c.args.lexis.now (string_bytes c.strokes.name) c.strokes.invariant)

pub strokes-preserved : goal.strokes-preserved
strokes-preserved c =
    next_name c.args.lexis.now (string_bytes c.strokes.name) (string_bytes c.push.new.self) c.strokes.invariant
    (ap (is_among c.args.lexis.now) (sym c.as_str.ensures.value) ∙ sym c.is_fixed.ensures ∙ c.strokes-test.true)
    (c.in_ok-push.ensures.bytes ∙ ap (λ l. string_bytes c.strokes.name ++ l) (encode_ascii 95 (omega arith)))

pub strokes-smaller : goal.strokes-smaller
strokes-smaller c =
    fewer_left c.args.lexis.now (string_bytes c.strokes.name) (string_bytes c.push.new.self)
    (ap (is_among c.args.lexis.now) (sym c.as_str.ensures.value) ∙ sym c.is_fixed.ensures ∙ c.strokes-test.true)
    (c.in_ok-push.ensures.bytes ∙ ap (λ l. string_bytes c.strokes.name ++ l) (encode_ascii 95 (omega arith)))

pub returns : goal.returns
returns c =
    last_name c.args.lexis.now (string_bytes c.strokes.name) c.strokes.invariant
    (ap (is_among c.args.lexis.now) (sym c.as_str.ensures.value) ∙ sym c.is_fixed.ensures ∙ c.strokes-test.false)
