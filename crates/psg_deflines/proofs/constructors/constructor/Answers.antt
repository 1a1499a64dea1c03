use Rattle.std.proofs.Common.{◌≡◌, ◌+◌, ◌≤◌, ap, arith, rules, length}
use Rattle.std.proofs.lemmas.Option.{MatchOption-at_some, MatchOption-at_none}
use Rattle.psg_grammar.specs.Sound.{IsOwnName}
use Rattle.psg_deflines.specs.Parts.{texts}
use Rattle.psg_deflines.specs.FormReads.{HasNoNames, AreNamesRead}
use Rattle.psg_deflines.specs.declared.constructors.NamesRead.{NamesRead}
use Rattle.psg_deflines.proofs.TermFound.{texts-length}
use Rattle.psg_deflines.proofs.ConstructorLaws.{con-args, con-no_args, opened-two}
use Rattle.psg_deflines.proofs.constructors.constructor.Goals as goal

pub returns-in_default-3 : goal.returns-in_default-3
returns-in_default-3 c =
    let two = opened-two c.args.parts.now c.in-Some.rest.now c.in-Some.first.now c.in-Some.ensures.cases.0 c.if-not-is_opened.ensures in
    con-no_args (texts c.args.parts.now) _ c.in-Some.first.now.now two.0 (MatchOption-at_none (HasNoNames _) (λ (r : NamesRead). AreNamesRead _ r.names.items r.taken) c.in_default-3.is c.in_ok-read.ensures)

pub overflow_add-result : goal.overflow_add-result
overflow_add-result c =
    let two = opened-two c.args.parts.now c.in-Some.rest.now c.in-Some.first.now c.in-Some.ensures.cases.0 c.if-not-is_opened.ensures in
    let read = MatchOption-at_some (HasNoNames _) (λ (r : NamesRead). AreNamesRead _ r.names.items r.taken) c.in-Some-3.read c.in-Some-3.is c.in_ok-read.ensures in
    let small : c.in-Some-3.read.taken + 2 ≤ length c.args.parts.now = omega (arith, read.fits, ap length two.0, texts-length c.args.parts.now) in
    search (rules, small)

pub returns : goal.returns
returns c =
    let two = opened-two c.args.parts.now c.in-Some.rest.now c.in-Some.first.now c.in-Some.ensures.cases.0 c.if-not-is_opened.ensures in
    let read = MatchOption-at_some (HasNoNames _) (λ (r : NamesRead). AreNamesRead _ r.names.items r.taken) c.in-Some-3.read c.in-Some-3.is c.in_ok-read.ensures in
    let name = MatchOption-at_some (IsOwnName c.in-Some.first.now.now → ⊥) (λ t. (t ≡ c.in-Some.first.now.now) × IsOwnName c.in-Some.first.now.now) c.in-Some-2.name c.in-Some-2.is c.in_ok-name.ensures in
    con-args (texts c.args.parts.now) _ _ c.in-Some.first.now.now c.in-Some-3.read.names.items c.in-Some-3.read.taken two.0 name.0 name.1 c.of-args-2.ensures read
