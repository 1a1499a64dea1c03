use Rattle.std.proofs.Common.{◌≡◌, ◌+◌, ◌-◌, ◌≤◌, [], ◌∷◌, ◌++◌, length, sym, ◌∙◌, subst, arith}
use Rattle.std.proofs.lemmas.Result.{err_from_is_err_and}
use Rattle.psg_lexis.proofs.Laws.{only_tokens, no_fault_with_tokens, fault_with_tokens, fault_with_fault}
use Rattle.psg_lexis.proofs.Walk.{HasWalked, past_blank, walk_blank, walk_token, walk_fault, all_walked, token_boundary, left_utf8, left_length}
use Rattle.psg_lexis.proofs.lexer.lex.Goals as goal

pub loop-first-preserved-then-is_blank : goal.loop-first-preserved-then-is_blank
loop-first-preserved-then-is_blank c =
    let first = c.in-Some.ensures.first in
    let blank = sym c.is_blank.ensures ∙ c.if-is_blank.true in
    let one : length c.loop-first.rest.now ≡ 1 + length c.in-Some.after.now = past_blank _ _ _ first blank in
    let within : length c.loop-first.rest.now ≤ length c.args.text.now = c.loop-first.invariant.1 in (
      first.utf8,
      omega (arith, one),
      subst (λ n. HasWalked c.args.lexis.now c.args.text.now c.loop-first.tokens.items n c.in-Some.after.now) (omega (arith, one, within))
          (walk_blank _ _ _ _ _ _ _ c.loop-first.invariant.2 first blank),
    )

pub returns-in_err-token-clause-err : goal.returns-in_err-token-clause-err
returns-in_err-token-clause-err c =
    let p = err_from_is_err_and c.from_residual.result c.from_residual.ensures.1 in
    rw (p.1, p.2) (walk_fault _ _ _ _ _ _ c.loop-first.invariant.2 c.in_err-token.ensures.err)

pub split_at-requires : goal.split_at-requires
split_at-requires c = token_boundary _ _ c.loop-first.invariant.0 _ _ c.in_ok-token.ensures.ok

pub loop-first-smaller : goal.loop-first-smaller
loop-first-smaller c =
    let left = left_length _ _ c.loop-first.invariant.0 _ _ c.in_ok-token.ensures.ok _ c.split_at.ensures.back in
    omega (arith, left.0, left.1)

pub loop-first-preserved : goal.loop-first-preserved
loop-first-preserved c =
    let left = left_length _ _ c.loop-first.invariant.0 _ _ c.in_ok-token.ensures.ok _ c.split_at.ensures.back in
    let within : length c.loop-first.rest.now ≤ length c.args.text.now = c.loop-first.invariant.1 in
    let same : c.in_ok-token.token.end ≡ length c.args.text.now - length c.split_at.result.1.now =
    omega (arith, left.0, left.1, within) in
    let pushed : c.push.new.self.items ≡ c.loop-first.tokens.items ++ c.in_ok-token.token ∷ [] =
    c.in_ok-push.ensures.items in (
      left_utf8 _ _ c.loop-first.invariant.0 _ _ c.in_ok-token.ensures.ok _ c.split_at.ensures.back,
      omega (arith, left.0, within),
      subst (λ n. HasWalked c.args.lexis.now c.args.text.now c.push.new.self.items n c.split_at.result.1.now) same
          (subst (λ ts. HasWalked c.args.lexis.now c.args.text.now ts c.in_ok-token.token.end c.split_at.result.1.now) (sym pushed)
          (walk_token _ _ _ _ _ _ _ c.loop-first.invariant.0 c.loop-first.invariant.2 c.in_ok-token.ensures.ok c.split_at.ensures.back)),
    )

pub returns-clause-ok : goal.returns-clause-ok
returns-clause-ok c = all_walked _ _ _ _ _ c.loop-first.invariant.2 c.in_default.ensures.none

pub returns-clause-whole : goal.returns-clause-whole
returns-clause-whole c =
    λ ts h. only_tokens _ _ _ _ _ (all_walked _ _ _ _ _ c.loop-first.invariant.2 c.in_default.ensures.none) h

pub returns-clause-broken : goal.returns-clause-broken
returns-clause-broken c =
    λ f h. no_fault_with_tokens _ _ _ _ f (all_walked _ _ _ _ _ c.loop-first.invariant.2 c.in_default.ensures.none) h

pub returns-in_err-token-clause-whole : goal.returns-in_err-token-clause-whole
returns-in_err-token-clause-whole c =
    let p = err_from_is_err_and c.from_residual.result c.from_residual.ensures.1 in
    λ ts h. rw (p.1, p.2) (fault_with_tokens _ _ _ _ _ h (walk_fault _ _ _ _ _ _ c.loop-first.invariant.2 c.in_err-token.ensures.err))

pub returns-in_err-token-clause-broken : goal.returns-in_err-token-clause-broken
returns-in_err-token-clause-broken c =
    let p = err_from_is_err_and c.from_residual.result c.from_residual.ensures.1 in
    λ f h. rw (p.1, p.2) (fault_with_fault _ _ _ _ f h (walk_fault _ _ _ _ _ _ c.loop-first.invariant.2 c.in_err-token.ensures.err))
