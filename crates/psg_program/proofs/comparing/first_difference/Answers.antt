use denote.Ref.{Bor}
use Rattle.std.proofs.Common.{◌≡◌, ◌+◌, ◌<◌, ◌≤◌, List, ℕ, not, ◌∷◌, length, sym, ap, ◌∙◌, arith}
use Rattle.std.proofs.lemmas.Bool.{not-false, true≢false}
use Rattle.std.proofs.lemmas.Slice.Eq.{bytes_eq-Decides}
use Rattle.std.specs.Str.{IsUtf8}
use Rattle.psg_terms.proofs.Lists.{IfSome_at}
use Rattle.psg_program.specs.Compared.{pieces_in}
use Rattle.psg_program.proofs.SamePieces.{both_more, bytes_more, ends_behind, none_before, other_piece, some_piece}
use Rattle.psg_program.proofs.comparing.first_difference.Goals as goal

pub lines-init : goal.lines-init
lines-init c = (c.utf8.wanted, omega arith, none_before c.args.bytes.now c.args.wanted.now)

pub returns-then-ne : goal.returns-then-ne
returns-then-ne c =
    other_piece c.args.bytes.now c.args.wanted.now c.lines.rest.now c.lines.left.now c.lines.line c.lines.invariant.2
    c.first_piece-own.result.line.now (pieces_in c.first_piece-own.result.rest) (pieces_in c.first_line-text.result.rest)
    c.first_piece-own.ensures.pieces c.first_line-text.result.line.now c.first_line-text.ensures.pieces
    (λ e. true≢false (sym c.if-ne.true ∙ (c.ne.ensures
    ∙ ap not ((bytes_eq-Decides c.first_piece-own.result.line.now c.as_bytes.result.now).1 (e ∙ sym c.as_bytes.ensures.value)))))

pub returns-in-None : goal.returns-in-None
returns-in-None c =
    let same : c.first_piece-own.result.line.now ≡ c.first_line-text.result.line.now =
    (bytes_eq-Decides c.first_piece-own.result.line.now c.as_bytes.result.now).0 (not-false _ (sym c.ne.ensures ∙ c.if-ne.false))
    ∙ c.as_bytes.ensures.value in
    ends_behind c.args.bytes.now c.args.wanted.now c.lines.rest.now c.lines.left.now c.lines.line c.lines.invariant.2
    c.first_piece-own.result.line.now (pieces_in c.first_piece-own.result.rest) (pieces_in c.first_line-text.result.rest)
    c.first_piece-own.ensures.pieces (c.first_line-text.ensures.pieces ∙ ap (λ l. l ∷ pieces_in c.first_line-text.result.rest) (sym same))
    (ap pieces_in c.in-None.is) c.behind.result c.behind.ensures

pub returns-in-None-rest : goal.returns-in-None-rest
returns-in-None-rest c =
    let same : c.first_piece-own.result.line.now ≡ c.first_line-text.result.line.now =
    (bytes_eq-Decides c.first_piece-own.result.line.now c.as_bytes.result.now).0 (not-false _ (sym c.ne.ensures ∙ c.if-ne.false))
    ∙ c.as_bytes.ensures.value in
    let some = some_piece c.in-Some.after.now in
    bytes_more c.args.bytes.now c.args.wanted.now c.lines.rest.now c.lines.left.now c.lines.line c.lines.invariant.2
    c.first_piece-own.result.line.now (pieces_in c.first_piece-own.result.rest) (pieces_in c.first_line-text.result.rest)
    c.first_piece-own.ensures.pieces (c.first_line-text.ensures.pieces ∙ ap (λ l. l ∷ pieces_in c.first_line-text.result.rest) (sym same))
    some.0 some.1.0 (ap pieces_in c.in-Some.is ∙ some.1.1) (ap pieces_in c.in-None-rest.is)

pub lines-preserved : goal.lines-preserved
lines-preserved c =
    let same : c.first_piece-own.result.line.now ≡ c.first_line-text.result.line.now =
    (bytes_eq-Decides c.first_piece-own.result.line.now c.as_bytes.result.now).0 (not-false _ (sym c.ne.ensures ∙ c.if-ne.false))
    ∙ c.as_bytes.ensures.value in
    let less : length c.in-Some.after.now < length c.lines.rest.now =
    IfSome_at (λ (r : Bor (List ℕ)). length r.now < length c.lines.rest.now) c.first_piece-own.result.rest c.in-Some.after c.in-Some.is
    c.first_piece-own.ensures.shorter in
    let bound : c.lines.line + length c.lines.rest.now ≤ 1 + length c.args.bytes.now = c.lines.invariant.1 in (
      IfSome_at (λ (r : Bor (List ℕ)). IsUtf8 r.now) c.first_line-text.result.rest c.in-Some-rest.more c.in-Some-rest.is
          c.first_line-text.ensures.utf8,
      omega (arith, less, bound),
      both_more c.args.bytes.now c.args.wanted.now c.lines.rest.now c.lines.left.now c.lines.line c.lines.invariant.2
          c.first_piece-own.result.line.now (pieces_in c.first_piece-own.result.rest) (pieces_in c.first_line-text.result.rest)
          c.first_piece-own.ensures.pieces
          (c.first_line-text.ensures.pieces ∙ ap (λ l. l ∷ pieces_in c.first_line-text.result.rest) (sym same))
          c.in-Some.after.now c.in-Some-rest.more.now (ap pieces_in c.in-Some.is) (ap pieces_in c.in-Some-rest.is),
    )
