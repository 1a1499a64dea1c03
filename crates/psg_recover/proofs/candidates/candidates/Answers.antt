use Rattle.std.proofs.Common.{◌≡◌, ◌+◌, ◌-◌, List, length, arith, subst, sym}
use Rattle.psg_class.specs.Texts.{tokens_of}
use Rattle.psg_recover.specs.declared.candidates.Candidate.{Candidate}
use Rattle.psg_recover.specs.Candidates.{AreCandidatesTo}
use Rattle.psg_recover.proofs.CandidateLaws.{candidates_all, candidates_earlier, candidates_none}
use Rattle.psg_recover.proofs.candidates.candidates.Goals as goal

pub add_candidates-requires : goal.add_candidates-requires
add_candidates-requires c =
    let def = c.args.reader.known.definition.now in
    record {
      reader = c.requires.reader;
      stop = c.requires.stop;
      from = omega arith;
      found = subst (λ (xs : List Candidate). AreCandidatesTo def c.args.reader.kind (tokens_of c.args.tokens.now) c.args.stop c.args.stop 0 xs) (sym c.new-found.ensures.items)
          (candidates_none def c.args.reader.kind (tokens_of c.args.tokens.now) c.args.stop);
    }

pub loop-less-init : goal.loop-less-init
loop-less-init c =
    let def = c.args.reader.known.definition.now in
    let e : c.args.stop ≡ c.args.stop - 0 = omega arith in
    subst (λ n. AreCandidatesTo def c.args.reader.kind (tokens_of c.args.tokens.now) c.args.stop n (length def.phyla) c.add_candidates.new.found.items) e c.in_ok-add_candidates.ensures

pub add_candidates-requires-in-loop-less : goal.add_candidates-requires-in-loop-less
add_candidates-requires-in-loop-less c =
    let def = c.args.reader.known.definition.now in
    let from = c.args.stop - c.loop-less.less - 1 in
    let e : c.args.stop - c.loop-less.less ≡ from + 1 = omega arith in
    record {
      reader = c.requires.reader;
      stop = c.requires.stop;
      from = omega arith;
      found = candidates_earlier def c.args.reader.kind (tokens_of c.args.tokens.now) c.args.stop from c.loop-less.found.items
          (subst (λ n. AreCandidatesTo def c.args.reader.kind (tokens_of c.args.tokens.now) c.args.stop n (length def.phyla) c.loop-less.found.items) e c.loop-less.invariant);
    }

pub loop-less-preserved : goal.loop-less-preserved
loop-less-preserved c =
    let def = c.args.reader.known.definition.now in
    let e : c.args.stop - c.loop-less.less - 1 ≡ c.args.stop - (c.loop-less.less + 1) = omega arith in
    subst (λ n. AreCandidatesTo def c.args.reader.kind (tokens_of c.args.tokens.now) c.args.stop n (length def.phyla) c.add_candidates-in-loop-less.new.found.items) e c.in_ok-add_candidates-2.ensures

pub returns : goal.returns
returns c =
    let def = c.args.reader.known.definition.now in
    let e : c.args.stop - c.loop-less.less ≡ 0 = omega arith in
    candidates_all def c.args.reader.kind (tokens_of c.args.tokens.now) c.args.stop c.loop-less.found.items
    (subst (λ n. AreCandidatesTo def c.args.reader.kind (tokens_of c.args.tokens.now) c.args.stop n (length def.phyla) c.loop-less.found.items) e c.loop-less.invariant)
