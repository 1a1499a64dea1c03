use Rattle.std.proofs.Common.{◌≡◌, ℕ, List, get_or, refl, arith}
use Rattle.std.proofs.lemmas.Bool.{false≢true}
use Rattle.std.proofs.lemmas.Option.{MatchOption-at_some, MatchOption-at_none}
use Rattle.psg_terms.specs.Names.{Name}
use Rattle.psg_grammar.specs.Sound.{IsKindName}
use Rattle.psg_deflines.proofs.PartReads.{Slices, no-slice}
use Rattle.psg_deflines.proofs.ConstructorLaws.{at-kind, at-mark, at-comma, at-close, at-end}
use Rattle.psg_deflines.proofs.constructors.names_to_bracket.Goals as goal

abbrev part : Slices → ℕ → List ℕ
part ts n = (get_or ts n no-slice).now

pub returns-in_default : goal.returns-in_default
returns-in_default c =
    let p = part c.args.parts.now c.names.taken in
    at-kind c.args.parts.now c.names.taken no-slice c.names.names.items c.names.invariant.1 (omega arith) (MatchOption-at_none (IsKindName p → ⊥) (λ (t : Name). (t ≡ p) × IsKindName p) c.in_default.is c.in_ok-name.ensures)

pub returns-then-is : goal.returns-then-is
returns-then-is c =
    let p = part c.args.parts.now c.names.taken in
    let name = MatchOption-at_some (IsKindName p → ⊥) (λ (t : Name). (t ≡ p) × IsKindName p) c.in-Some.name c.in-Some.is c.in_ok-name.ensures in
    at-close c.args.parts.now c.names.taken no-slice c.names.names.items c.names.invariant.1 (omega arith) c.push.new.self.items c.in-Some.name c.in_ok-push.ensures.items name.0 name.1 (c.if-is.ensures.0 refl)

pub returns-then-not-is : goal.returns-then-not-is
returns-then-not-is c =
    at-mark c.args.parts.now c.names.taken no-slice c.names.names.items c.names.invariant.1 (omega arith) (λ e. false≢true (c.if-is.ensures.1 e)) (λ e. false≢true (c.if-not-is.ensures.1 e))

pub names-preserved : goal.names-preserved
names-preserved c =
    let p = part c.args.parts.now c.names.taken in
    let name = MatchOption-at_some (IsKindName p → ⊥) (λ (t : Name). (t ≡ p) × IsKindName p) c.in-Some.name c.in-Some.is c.in_ok-name.ensures in
    (omega arith, at-comma c.args.parts.now c.names.taken no-slice c.names.names.items c.names.invariant.1 (omega arith) c.push.new.self.items c.in-Some.name c.in_ok-push.ensures.items name.0 name.1 (c.if-not-is.ensures.0 refl))

pub returns : goal.returns
returns c = at-end c.args.parts.now c.names.taken no-slice c.names.names.items c.names.invariant.1 (omega arith)
