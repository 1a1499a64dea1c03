use Rattle.std.proofs.Common.{◌≡◌, ℕ, ◌-◌, ◌<◌, arith, ap, refl, sym, ◌∙◌, get_or, take, drop, length, subst}
use Rattle.std.proofs.lemmas.Bool.{eqb-true}
use Rattle.std.proofs.lemmas.Option.{MatchOption-at_some, MatchOption-at_none}
use Rattle.psg_terms.specs.Names.{Name}
use Rattle.psg_grammar.specs.Sound.{IsKindName, IsOwnName}
use Rattle.psg_deflines.specs.Parts.{texts}
use Rattle.psg_deflines.specs.FormReads.{AreItemParts, HasNoItems}
use Rattle.psg_deflines.specs.Only.{IsOnly}
use Rattle.psg_deflines.proofs.Lists.{not-empty}
use Rattle.psg_deflines.proofs.PartReads.{Slices, no-slice}
use Rattle.psg_deflines.proofs.TermFound.{texts-length, texts-drop}
use Rattle.psg_deflines.proofs.FormLaws.{op-long, op-no_header, op-no_items, op-empty, op-only}
use Rattle.psg_deflines.proofs.forms.line_operator.Goals as goal

left : (ts ss : Slices) (n : ℕ) → ss ≡ drop n (take (length ts - 3) (drop 3 ts)) → texts ss ≡ drop n (texts (take (length ts - 3) (drop 3 ts)))
left ts ss n e = ap texts e ∙ texts-drop (take (length ts - 3) (drop 3 ts)) n

pub returns-in_default : goal.returns-in_default
returns-in_default c = λ line h. omega (arith, op-long c.args.parts.now line h)

pub returns-in_default-header : goal.returns-in_default-header
returns-in_default-header c = op-no_header c.args.parts.now c.in-len3-up.len_at_least c.in_default-header.ensures

pub split_at-requires : goal.split_at-requires
split_at-requires c = omega (arith, c.in-Some.ensures.fits, texts-length (take (length c.args.parts.now - 3) (drop 3 c.args.parts.now)))

pub returns-then-is_empty : goal.returns-then-is_empty
returns-then-is_empty c =
    op-empty c.args.parts.now c.in-len3-up.len_at_least c.in-Some.header.scope c.in-Some.header.level c.in-Some.header.taken c.in-Some.ensures
    (ap length (sym (left c.args.parts.now c.split_at.result.1.now c.in-Some.header.taken c.split_at.ensures.back)) ∙ texts-length c.split_at.result.1.now ∙ eqb-true _ 0 (sym c.if-is_empty.ensures))

pub returns-in_default-4 : goal.returns-in_default-4
returns-in_default-4 c =
    op-no_items c.args.parts.now c.in-len3-up.len_at_least c.in-Some.header.scope c.in-Some.header.level c.in-Some.header.taken c.in-Some.ensures
    (subst HasNoItems (left c.args.parts.now c.split_at.result.1.now c.in-Some.header.taken c.split_at.ensures.back)
    (MatchOption-at_none (HasNoItems (texts c.split_at.result.1.now)) (λ v. IsOnly (AreItemParts (texts c.split_at.result.1.now)) v.items) c.in_default-4.is c.in_ok-items.ensures))

pub returns : goal.returns
returns c =
    let p = λ (n : ℕ). (get_or c.args.parts.now n no-slice).now in
    let same = left c.args.parts.now c.split_at.result.1.now c.in-Some.header.taken c.split_at.ensures.back in
    op-only c.args.parts.now c.in-len3-up.len_at_least c.in-Some-2.name c.in-Some-3.phylum c.in-Some.header.scope c.in-Some.header.level c.in-Some.header.taken _
    (MatchOption-at_some (IsOwnName (p 0) → ⊥) (λ (t : Name). (t ≡ p 0) × IsOwnName (p 0)) c.in-Some-2.name c.in-Some-2.is c.in_ok-name.ensures) (c.if-not-is.ensures.0 refl)
    (MatchOption-at_some (IsKindName (p 2) → ⊥) (λ (t : Name). (t ≡ p 2) × IsKindName (p 2)) c.in-Some-3.phylum c.in-Some-3.is c.in_ok-phylum.ensures)
    c.in-Some.ensures (subst (λ xs. 0 < length xs) same (omega (arith, texts-length c.split_at.result.1.now, not-empty c.split_at.result.1.now c.if-is_empty.ensures)))
    (subst (IsOnly (AreItemParts (drop c.in-Some.header.taken (texts (take (length c.args.parts.now - 3) (drop 3 c.args.parts.now)))))) (sym c.of.ensures)
    (subst (λ xs. IsOnly (AreItemParts xs) c.in-Some-4.items.items) same
    (MatchOption-at_some (HasNoItems (texts c.split_at.result.1.now)) (λ v. IsOnly (AreItemParts (texts c.split_at.result.1.now)) v.items) c.in-Some-4.items c.in-Some-4.is c.in_ok-items.ensures)))
