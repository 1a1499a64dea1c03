use Rattle.std.proofs.Common.{rules, ◌≡◌, ◌∙◌, ◌<◌, List, length, ap, sym, subst, arith}
use Rattle.std.specs.Prelude.{Ok, Err}
use Rattle.psg_terms.specs.Names.{Name}
use Rattle.psg_grammar.specs.declared.types.Kind.TheVariants as kinds
use Rattle.psg_menu.specs.Sharing.{IsWholeAnswer, rises_of}
use Rattle.psg_menu.specs.Trials.{AreNewWords}
use Rattle.psg_menu.proofs.NewTrees.{new_takes}
use Rattle.psg_menu.proofs.StarLaws.{IsAnswered, only_star, star_apart, star_fault, star_start, whole_top}
use Rattle.psg_menu.proofs.naming.climbed.Goals as goal

pub bounds-names-0 : goal.bounds-names-0
bounds-names-0 g c =
    let one = c.in_ok-words.ensures.many in
    subst (λ (ns : List Name). 0 < length ns) (sym c.as_slice-names.ensures.value) (omega (arith, one))

pub eval_op-made-requires-clause-takes : goal.eval_op-made-requires-clause-takes
eval_op-made-requires-clause-takes g c =
    let (o, found, many, blanks, can) = c.requires.operator in
    let one = ap (λ (ns : List Name). length ns) c.as_slice-names.ensures.value ∙ c.in_ok-words.ensures.many in
    new_takes c.args.definition.now c.args.op o c.as_slice-names.result.now c.args.below.now found (many ∙ sym one) blanks

pub returns-in_err-own-clause-level : goal.returns-in_err-own-clause-level
returns-in_err-own-clause-level g c =
    let def = c.args.definition.now in
    let (o, found, many, blanks, can) = c.requires.operator in
    let words = c.as_slice-names.result.now in
    let one = ap (λ (ns : List Name). length ns) c.as_slice-names.ensures.value ∙ c.in_ok-words.ensures.many in
    let new : AreNewWords def c.args.candidates.now words = subst (AreNewWords def c.args.candidates.now) (sym c.as_slice-names.ensures.value) c.in_ok-words.ensures.new in
    let star : Name = c.index-names-0.result in
    let at = c.index-names-0.is in
    let apart = star_apart def o c.args.below.now star c.args.candidates.now words blanks c.requires.names one at new in
    let made = subst (λ (ns : List Name). IsAnswered def c.args.op ns c.args.below.now c.eval_op-made.result) (only_star def star words one at) c.eval_op-made.ensures.answer in
    let fault = c.in_err-own.field-0.0 in
    let d : c.from_residual-in_err-own.result ≡ Err fault = search rules in
    subst (IsWholeAnswer def c.args.op c.args.below.now c.args.candidates.now (rises_of c.args.frames.now)) (sym d)
    (star_fault def c.args.frames.now c.args.op o found c.args.below.now blanks c.requires.sound c.args.candidates.now star c.eval_op-made.result fault apart c.requires.some made c.in_err-own.ensures)

pub climbed_together-requires-clause-own : goal.climbed_together-requires-clause-own
climbed_together-requires-clause-own g c =
    let def = c.args.definition.now in
    let (o, found, many, blanks, can) = c.requires.operator in
    let words = c.as_slice-names.result.now in
    let one = ap (λ (ns : List Name). length ns) c.as_slice-names.ensures.value ∙ c.in_ok-words.ensures.many in
    let new : AreNewWords def c.args.candidates.now words = subst (AreNewWords def c.args.candidates.now) (sym c.as_slice-names.ensures.value) c.in_ok-words.ensures.new in
    let h = star_start def c.args.frames.now c.args.op o found c.args.below.now blanks c.index-names-0.result c.args.candidates.now words c.eval_op-made.result c.in_ok-own.own one c.index-names-0.is new
    c.requires.names c.eval_op-made.ensures.answer c.eval_op-made.ensures.summary c.eval_op-made.ensures.kind c.eval_op-made.ensures.seen c.in_ok-own.ensures in
    (c.args.op, c.args.below.now, kinds.Phylum o.phylum, h.apart, can, h.usual, h.reach, h.within)

pub returns-in_err-level-clause-level : goal.returns-in_err-level-clause-level
returns-in_err-level-clause-level g c =
    let def = c.args.definition.now in
    let (o, found, many, blanks, can) = c.requires.operator in
    let words = c.as_slice-names.result.now in
    let one = ap (λ (ns : List Name). length ns) c.as_slice-names.ensures.value ∙ c.in_ok-words.ensures.many in
    let new : AreNewWords def c.args.candidates.now words = subst (AreNewWords def c.args.candidates.now) (sym c.as_slice-names.ensures.value) c.in_ok-words.ensures.new in
    let star : Name = c.index-names-0.result in
    let h = star_start def c.args.frames.now c.args.op o found c.args.below.now blanks star c.args.candidates.now words c.eval_op-made.result c.in_ok-own.own one c.index-names-0.is new
    c.requires.names c.eval_op-made.ensures.answer c.eval_op-made.ensures.summary c.eval_op-made.ensures.kind c.eval_op-made.ensures.seen c.in_ok-own.ensures in
    let fault = c.in_err-level.field-0.0 in
    let d : c.from_residual-in_err-level.result ≡ Err fault = search rules in
    subst (IsWholeAnswer def c.args.op c.args.below.now c.args.candidates.now (rises_of c.args.frames.now)) (sym d)
    (whole_top def c.args.frames.now c.args.op o found c.args.below.now blanks c.requires.sound c.args.candidates.now star (Err fault) h.apart
    (c.in_err-level.ensures.level c.args.op c.args.below.now (kinds.Phylum o.phylum) h.apart can h.usual h.reach h.within))

pub returns-clause-level : goal.returns-clause-level
returns-clause-level g c =
    let def = c.args.definition.now in
    let (o, found, many, blanks, can) = c.requires.operator in
    let words = c.as_slice-names.result.now in
    let one = ap (λ (ns : List Name). length ns) c.as_slice-names.ensures.value ∙ c.in_ok-words.ensures.many in
    let new : AreNewWords def c.args.candidates.now words = subst (AreNewWords def c.args.candidates.now) (sym c.as_slice-names.ensures.value) c.in_ok-words.ensures.new in
    let star : Name = c.index-names-0.result in
    let h = star_start def c.args.frames.now c.args.op o found c.args.below.now blanks star c.args.candidates.now words c.eval_op-made.result c.in_ok-own.own one c.index-names-0.is new
    c.requires.names c.eval_op-made.ensures.answer c.eval_op-made.ensures.summary c.eval_op-made.ensures.kind c.eval_op-made.ensures.seen c.in_ok-own.ensures in
    whole_top def c.args.frames.now c.args.op o found c.args.below.now blanks c.requires.sound c.args.candidates.now star (Ok c.in_ok-level.level) h.apart
    (c.in_ok-level.ensures.level c.args.op c.args.below.now (kinds.Phylum o.phylum) h.apart can h.usual h.reach h.within)
