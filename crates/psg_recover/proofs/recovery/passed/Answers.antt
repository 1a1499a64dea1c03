use Rattle.psg_class.specs.Texts.{tokens_of}
use Rattle.std.proofs.Common.{◌≡◌, List, ◌≤◌, ◌<◌, ◌+◌, ◌++◌, ◌∷◌, [], ◌∙◌, ap, arith, length, length-append, sym}
use Rattle.psg_recover.proofs.ReaderLaws.{best_none, best_some}
use Rattle.psg_recover.proofs.RowLaws.{row_next}
use Rattle.psg_recover.proofs.ToldLaws.{best_from, best_phylum, best_to, passed_last, passed_none, passed_on, stop_inside}
use Rattle.psg_recover.specs.Grammars.{quiet}
use Rattle.psg_recover.specs.Recovery.{most_stops}
use Rattle.psg_recover.specs.declared.finding.Finding.{Finding}
use Rattle.psg_recover.proofs.recovery.passed.Goals as goal

pub resumed-requires : goal.resumed-requires
resumed-requires c = record {
  reader = c.requires.reader;
  stop = stop_inside (quiet c.args.reader.known.definition.now) c.args.reader.kind c.args.tokens.now c.in_ok-own.own.stop c.in_ok-own.ensures.stop;
}

pub replaced-requires : goal.replaced-requires
replaced-requires c =
    let def = c.args.reader.known.definition.now in
    let at = c.in-Some.at in
    let b = best_some c.args.reader (tokens_of c.args.tokens.now) c.in_ok-own.own.stop c.in_ok-found.found at c.in-Some.is c.in_ok-found.ensures in
    record {
      from = best_from def c.args.reader.kind c.args.tokens.now c.in_ok-own.own.stop at.to at.from at.phylum b.phylum b.best;
      to = best_to def c.args.reader.kind c.args.tokens.now c.in_ok-own.own.stop at.to at.from at.phylum b.phylum b.best;
      phylum = best_phylum def c.args.reader.kind c.args.tokens.now c.in_ok-own.own.stop at.to at.from at.phylum b.phylum b.best;
    }

pub returns-then-count-ge-MOST_STOPS : goal.returns-then-count-ge-MOST_STOPS
returns-then-count-ge-MOST_STOPS c =
    let own = c.in_ok-own.own in
    let n = length c.args.told.now.items in
    let grown : length c.push.new.self.items ≡ n + 1 =
    ap (λ (l : List Finding). length l) c.in_ok-push.ensures.items ∙ length-append c.args.told.now.items (own.finding ∷ []) in
    let all = c.push.new.self.ok.0 in
    let many : most_stops ≤ n + 1 = omega (arith, grown, all, c.len-count.ensures) in
    (own.finding, c.in_ok-push.ensures.items, passed_last c.args.reader.known.definition.now c.args.reader.kind c.args.text.now n own.stop c.args.tokens.now own.finding c.in_ok-own.ensures many)

pub returns-in_ok-next-in-Some : goal.returns-in_ok-next-in-Some
returns-in_ok-next-in-Some c =
    let def = c.args.reader.known.definition.now in
    let kind = c.args.reader.kind in
    let ts = c.args.tokens.now in
    let own = c.in_ok-own.own in
    let n = length c.args.told.now.items in
    let at = c.in-Some.at in
    let grown : length c.push.new.self.items ≡ n + 1 =
    ap (λ (l : List Finding). length l) c.in_ok-push.ensures.items ∙ length-append c.args.told.now.items (own.finding ∷ []) in
    let all = c.push.new.self.ok.0 in
    let few : n + 1 < most_stops = omega (arith, grown, all, c.len-count.ensures) in
    let b = best_some c.args.reader (tokens_of c.args.tokens.now) c.in_ok-own.own.stop c.in_ok-found.found at c.in-Some.is c.in_ok-found.ensures in
    let r = c.in_ok-next-in-Some.ensures in (
      own.finding,
      c.in_ok-push.ensures.items,
      passed_on def kind c.args.text.now n own.stop at.to at.from at.phylum ts c.in_ok-next-in-Some.next.items b.phylum r.phylum own.finding c.in_ok-own.ensures few b.best
          (row_next def kind c.args.text.now ts c.requires.row own.stop c.in_ok-own.ensures.stop at.to at.from at.phylum b.phylum b.best) r.there r.row_is,
    )

pub returns-in-None : goal.returns-in-None
returns-in-None c =
    let own = c.in_ok-own.own in
    let n = length c.args.told.now.items in (
      own.finding,
      c.in_ok-push.ensures.items,
      passed_none c.args.reader.known.definition.now c.args.reader.kind c.args.text.now n own.stop c.args.tokens.now own.finding c.in_ok-own.ensures
          (best_none c.args.reader (tokens_of c.args.tokens.now) own.stop c.in_ok-found.found c.in-None.is c.in_ok-found.ensures),
    )
