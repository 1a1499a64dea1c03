use Rattle.std.proofs.Common.{[], refl, sym, subst, arith}
use Rattle.std.specs.List.{AllByRecursion}
use Rattle.psg_eval.specs.Summaries.{IsSummary}
use Rattle.psg_cache.specs.Renoting.{AreOfCells}
use Rattle.psg_cache.specs.Walks.{IsListFault}
use Rattle.psg_cache.proofs.ListLaws.{cells_list_fault, end_fault, end_taken, list_topped}
use Rattle.psg_cache.proofs.Passing.{passed}
use Rattle.psg_cache.proofs.listing.top_list.Goals as goal

pub returns-in_err-end-clause-err : goal.returns-in_err-end-clause-err
returns-in_err-end-clause-err g c =
    let def = c.args.language.definition.now in
    let path = c.args.path.now in
    let elements = c.args.elements.now in
    passed (IsListFault def path c.args.list c.args.unfinished elements) _ c.in_err-end.field-0.0
    c.from_residual.ensures.1
    (end_fault def path c.args.list c.args.unfinished c.eval_end-ended.result c.in_err-end.field-0.0 elements
    c.eval_end-ended.ensures.answer c.in_err-end.ensures.err)

pub cells-requires-clause-takes : goal.cells-requires-clause-takes
cells-requires-clause-takes g c =
    end_taken c.args.language.definition.now c.args.list c.args.unfinished c.args.elements.now c.eval_end-ended.result
    c.in_ok-end.end c.requires.takes c.eval_end-ended.ensures.answer c.eval_end-ended.ensures.summary
    c.in_ok-end.ensures.ok

pub returns-in_err-news-clause-err : goal.returns-in_err-news-clause-err
returns-in_err-news-clause-err g c =
    let def = c.args.language.definition.now in
    let path = c.args.path.now in
    let elements = c.args.elements.now in
    passed (IsListFault def path c.args.list c.args.unfinished elements) _ c.in_err-news.field-0.0
    c.from_residual-in_err-news.ensures.1
    (cells_list_fault def path c.args.list c.args.unfinished elements c.eval_end-ended.result c.in_ok-end.end
    c.in_err-news.field-0.0 c.eval_end-ended.ensures.answer c.in_ok-end.ensures.ok c.in_err-news.ensures.err)

pub returns-clause-ok : goal.returns-clause-ok
returns-clause-ok g c =
    list_topped c.args.language.definition.now c.args.list c.args.unfinished c.args.elements.now
    c.eval_end-ended.result c.in_ok-end.end c.in_ok-news.news.items _ _ []
    c.eval_end-ended.ensures.answer c.eval_end-ended.ensures.summary c.in_ok-end.ensures.ok
    c.in_ok-news.ensures.ok c.in_ok-news.ensures.usual refl c.in_ok-all.ensures

pub cells-requires-clause-olds : goal.cells-requires-clause-olds
cells-requires-clause-olds g c =
    let none = c.new-none.ensures.items in
    (0, subst (AreOfCells c.args.language.definition.now c.args.list [] c.in_ok-end.end) (sym none) tt)

pub cells-requires-clause-old_usual : goal.cells-requires-clause-old_usual
cells-requires-clause-old_usual g c =
    let none = c.new-none.ensures.items in
    subst (AllByRecursion (IsSummary c.args.language.definition.now)) (sym none) tt

pub returns-clause-ticks : goal.returns-clause-ticks
returns-clause-ticks g c =
    let made = c.in_ok-news.ensures.ticks c.new-none.ensures.items in
    omega (arith, made, c.eval_end-ended.ensures.ticks)
