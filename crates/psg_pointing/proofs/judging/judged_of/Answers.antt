use Rattle.std.proofs.Common.{refl, subst, sym}
use Rattle.psg_cache.specs.Completed.{IsByCompletions}
use Rattle.psg_cache.specs.Notes.{IsNoteOf}
use Rattle.psg_class.specs.Class.{IsClass}
use Rattle.psg_pointing.specs.Judging.{IsLimited, judged, limited}
use Rattle.psg_pointing.proofs.Judgements.{judged_by, made_for}
use Rattle.psg_pointing.proofs.Walks.{none_in, some_in}
use Rattle.psg_pointing.proofs.judging.judged_of.Goals as goal

pub noted-requires : goal.noted-requires
noted-requires g c = (c.args.kind, c.requires)

pub repair_if-requires : goal.repair_if-requires
repair_if-requires g c = (c.args.kind, c.requires)

pub ranges_of-requires : goal.ranges_of-requires
ranges_of-requires g c = record {
  class = subst IsClass (sym c.definition-definition.ensures.same) c.definition-definition.ensures.accepted.of_class;
}

pub returns-in-Some-clause-known : goal.returns-in-Some-clause-known
returns-in-Some-clause-known g c = λ own utf8 text read.
    let language = c.args.language.now in
    let tree = c.args.program.tree in
    judged _
    (judged_by language c.args.kind own utf8 _ c.is_good-good.result c.is_good-good.ensures.rows refl read.tokens tree
    (record {
      program = text;
      nesting = read.nesting;
      yields = read.yields;
      ranges = made_for language c.args.kind tree _ c.definition-definition.result.now c.args.program.tokens.items
          c.as_slice.result.now c.definition-definition.ensures.same c.as_slice.ensures.value
          c.in_ok-ranges-in-Some.ensures 0 read.nesting read.yields;
      noted = some_in (IsNoteOf language tree) c.in_ok-found.found c.in-Some.note c.in-Some.is
          c.in_ok-found.ensures.note;
      good = some_in (IsByCompletions language tree) c.in_ok-found.found c.in-Some.note c.in-Some.is
          c.in_ok-found.ensures.good;
      answer = c.in_ok-repair-in-Some.ensures;
    }))

pub returns-in-Some-clause-same : goal.returns-in-Some-clause-same
returns-in-Some-clause-same g c = (
  (some_in (IsNoteOf c.args.language.now c.args.program.tree) c.in_ok-found.found c.in-Some.note c.in-Some.is
      c.in_ok-found.ensures.note).tree,
  refl,
)

pub returns-clause-known : goal.returns-clause-known
returns-clause-known g c = λ own utf8 text read.
    limited (
      c.args.program.tree,
      text,
      none_in (IsLimited c.args.language.now c.args.program.tree) c.in_ok-found.found
          c.in-None.is c.in_ok-found.ensures.none,
    )
