use Rattle.std.proofs.Common.{ℕ, ◌≡◌, ap, refl, arith, ◌∙◌, drop, subst}
use Rattle.std.proofs.lemmas.Option.{MatchOption-at_some, MatchOption-at_none}
use Rattle.psg_deflines.specs.Parts.{texts}
use Rattle.psg_deflines.specs.TermWalks.{HasNoTerm, IsTermFound}
use Rattle.psg_deflines.specs.TailReads.{HaveNoColumns, AreColumnsFound, HasNothingBehind, IsBehindFound}
use Rattle.psg_deflines.proofs.TermFound.{texts-length, texts-drop}
use Rattle.psg_deflines.proofs.PartReads.{Slices}
use Rattle.psg_deflines.proofs.TailLaws.{tail-no_columns, tail-no_end, tail-found}
use Rattle.psg_deflines.proofs.tails.line_tail.Goals as goal

pub split_at-requires : goal.split_at-requires
split_at-requires c =
    let h = MatchOption-at_some (HasNoTerm (texts c.args.parts.now)) (IsTermFound (texts c.args.parts.now)) c.in-Some.head c.in-Some.is c.in_ok-head.ensures in
    omega (arith, h.fits, texts-length c.args.parts.now)

pub returns-in_default-2 : goal.returns-in_default-2
returns-in_default-2 c =
    let h = MatchOption-at_some (HasNoTerm (texts c.args.parts.now)) (IsTermFound (texts c.args.parts.now)) c.in-Some.head c.in-Some.is c.in_ok-head.ensures in
    tail-no_columns c.args.most (texts c.args.parts.now) c.in-Some.head h
    (subst (HaveNoColumns c.args.most) (ap texts c.split_at.ensures.back ∙ texts-drop c.args.parts.now c.in-Some.head.taken) (MatchOption-at_none (HaveNoColumns c.args.most _) (AreColumnsFound c.args.most _) c.in_default-2.is c.in_ok-read.ensures))

pub split_at-requires-2 : goal.split_at-requires-2
split_at-requires-2 c =
    let cols = MatchOption-at_some (HaveNoColumns c.args.most _) (AreColumnsFound c.args.most _) c.in-Some-2.read c.in-Some-2.is c.in_ok-read.ensures in
    omega (arith, cols.fits, texts-length c.split_at.result.1.now)

left-texts : (ts ss us : Slices) (n m : ℕ) → ss ≡ drop n ts → us ≡ drop m ss → texts us ≡ drop m (drop n (texts ts))
left-texts ts ss us n m e f = ap texts f ∙ texts-drop ss m ∙ ap (drop m) (ap texts e ∙ texts-drop ts n)

pub returns-in_default-3 : goal.returns-in_default-3
returns-in_default-3 c =
    let h = MatchOption-at_some (HasNoTerm (texts c.args.parts.now)) (IsTermFound (texts c.args.parts.now)) c.in-Some.head c.in-Some.is c.in_ok-head.ensures in
    let cols = subst (λ xs. AreColumnsFound c.args.most xs c.in-Some-2.read) (ap texts c.split_at.ensures.back ∙ texts-drop c.args.parts.now c.in-Some.head.taken)
    (MatchOption-at_some (HaveNoColumns c.args.most _) (AreColumnsFound c.args.most _) c.in-Some-2.read c.in-Some-2.is c.in_ok-read.ensures) in
    tail-no_end c.args.most (texts c.args.parts.now) c.in-Some.head h c.in-Some-2.read cols
    (subst HasNothingBehind (left-texts c.args.parts.now c.split_at.result.1.now c.split_at-2.result.1.now c.in-Some.head.taken c.in-Some-2.read.taken c.split_at.ensures.back c.split_at-2.ensures.back)
    (MatchOption-at_none (HasNothingBehind _) (IsBehindFound _) c.in_default-3.is c.in_ok-behind.ensures))

pub returns : goal.returns
returns c =
    let h = MatchOption-at_some (HasNoTerm (texts c.args.parts.now)) (IsTermFound (texts c.args.parts.now)) c.in-Some.head c.in-Some.is c.in_ok-head.ensures in
    let cols = subst (λ xs. AreColumnsFound c.args.most xs c.in-Some-2.read) (ap texts c.split_at.ensures.back ∙ texts-drop c.args.parts.now c.in-Some.head.taken)
    (MatchOption-at_some (HaveNoColumns c.args.most _) (AreColumnsFound c.args.most _) c.in-Some-2.read c.in-Some-2.is c.in_ok-read.ensures) in
    tail-found c.args.most (texts c.args.parts.now) c.in-Some.head h c.in-Some-2.read cols _
    (subst (λ xs. IsBehindFound xs c.in-Some-3.behind) (left-texts c.args.parts.now c.split_at.result.1.now c.split_at-2.result.1.now c.in-Some.head.taken c.in-Some-2.read.taken c.split_at.ensures.back c.split_at-2.ensures.back)
    (MatchOption-at_some (HasNothingBehind _) (IsBehindFound _) c.in-Some-3.behind c.in-Some-3.is c.in_ok-behind.ensures)) refl refl refl
