use Rattle.std.proofs.Common.{inl, ◌+◌, ◌≤◌, ◌<◌, ◌^◌, ◌∙◌, [], ap, sym, subst, arith}
use Rattle.psg_cache.specs.Notes.{IsNoteOf}
use Rattle.psg_grammar.specs.WellFormed.{WellFormed}
use Rattle.psg_grammar.specs.Work.{work_of}
use Rattle.psg_places.specs.declared.fault.BlameFault.TheVariants.{Memory}
use Rattle.psg_places.specs.Answers.{IsBlameFault}
use Rattle.psg_places.specs.Blame.{kept_in}
use Rattle.psg_places.specs.NewNames.{new_name}
use Rattle.psg_places.specs.Opened.{opened}
use Rattle.psg_places.proofs.AnswerLaws.{limit_fault, passed, tried_fault}
use Rattle.psg_places.proofs.ClimbLaws.{near_opened, opened_well}
use Rattle.psg_places.proofs.WorkLaws.{opened_work}
use Rattle.psg_places.proofs.trial.nothing_noted.Goals as goal

pub returns-in_err-opened-clause-fault : goal.returns-in_err-opened-clause-fault
returns-in_err-opened-clause-fault g c =
    passed (IsBlameFault c.args.definition.now c.args.tree.now) _ Memory c.from_residual.ensures.1 tt

pub build-requires-clause-formed : goal.build-requires-clause-formed
build-requires-clause-formed g c =
    let def = c.args.definition.now in
    let tree = c.args.tree.now in
    let (kind, well) = c.requires.formed in (
      kind,
      subst (λ t. WellFormed def t kind) (sym c.in_ok-opened.ensures.tree)
          (opened_well def c.args.front.now tree c.requires.sound c.requires.front (kept_in []) kind well),
    )

pub returns-in-Ok-clause-note : goal.returns-in-Ok-clause-note
returns-in-Ok-clause-note g c =
    subst (λ t. IsNoteOf c.args.definition.now t c.in-Ok.note) c.in_ok-opened.ensures.tree c.in-Ok.ensures.note

pub returns-in-Ok-clause-near : goal.returns-in-Ok-clause-near
returns-in-Ok-clause-near g c =
    let def = c.args.definition.now in
    near_opened def c.args.front.now c.args.tree.now c.requires.sound c.requires.front (kept_in []) c.in-Ok.note
    (subst (λ t. IsNoteOf def t c.in-Ok.note) c.in_ok-opened.ensures.tree c.in-Ok.ensures.note)

pub returns-in-Ok-clause-ticks : goal.returns-in-Ok-clause-ticks
returns-in-Ok-clause-ticks g c =
    let less = opened_work c.args.definition.now (kept_in []) (new_name c.args.front.now) c.args.tree.now in
    let same = ap work_of c.in_ok-opened.ensures.tree in
    omega (arith, c.build.ensures.bounded, less, same)

pub returns-in-Err-clause-ticks : goal.returns-in-Err-clause-ticks
returns-in-Err-clause-ticks g c =
    let less = opened_work c.args.definition.now (kept_in []) (new_name c.args.front.now) c.args.tree.now in
    let same = ap work_of c.in_ok-opened.ensures.tree in
    omega (arith, c.build.ensures.bounded, less, same)

pub returns-in-Err-clause-fault : goal.returns-in-Err-clause-fault
returns-in-Err-clause-fault g c =
    let def = c.args.definition.now in
    let front = c.args.front.now in
    let tree = c.args.tree.now in
    let none = c.new-none.result.items in
    let is = c.in_ok-opened.ensures.tree ∙ ap (λ xs. opened def (kept_in xs) (new_name front) tree) (sym c.new-none.ensures.items) in
    limit_fault def front none tree c.requires.front (inl c.new-none.ensures.items) c.limit.result
    (tried_fault def front none tree c.limit.result c.in-Err.fault c.in_ok-opened.opened.tree c.limit.ensures
    (subst (λ n. n < 2 ^ 64) c.in_ok-opened.ensures.count c.held-places.ensures.small) is c.in-Err.ensures.fault)

pub returns-in-Ok-clause-anew : goal.returns-in-Ok-clause-anew
returns-in-Ok-clause-anew g c =
    subst (λ t. c.build.new.steps ≤ c.args.steps.now + work_of t) c.in_ok-opened.ensures.tree c.build.ensures.bounded

pub returns-in-Err-clause-anew : goal.returns-in-Err-clause-anew
returns-in-Err-clause-anew g c =
    subst (λ t. c.build.new.steps ≤ c.args.steps.now + work_of t) c.in_ok-opened.ensures.tree c.build.ensures.bounded
