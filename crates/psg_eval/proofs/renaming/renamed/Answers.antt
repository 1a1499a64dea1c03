use Rattle.std.proofs.Common.{◌≡◌, ◌∷◌, ◌++◌, List, ℕ, ap, sym, ◌∙◌, subst}
use Rattle.psg_terms.specs.Relations.{IsRelation}
use Rattle.psg_relation.specs.Fewer.{KeptOnce}
use Rattle.psg_relation.specs.Choices.{AllHaveSorts, AllWithin, IsProjected, picked}
use Rattle.psg_scope.specs.Headers.{keys}
use Rattle.psg_eval.specs.declared.summary.SummaryParts.{SummaryParts}
use Rattle.psg_eval.specs.Renamed.{IsRenamed}
use Rattle.psg_eval.specs.Summaries.{IsSummary}
use Rattle.psg_eval.proofs.MovedColumns.{columns_once, columns_within, is_renamed, lefts_many, renamed_usual, rights_many, union_of, walk_of}
use Rattle.psg_eval.proofs.MovedOrder.{moved_ordered, other_ordered}
use Rattle.psg_eval.proofs.PlaceLists.{all_places}
use Rattle.psg_eval.proofs.renaming.renamed.Goals as goal

pub join-requires-clause-left : goal.join-requires-clause-left
join-requires-clause-left c =
    let def = c.args.definition.now in
    let from = c.args.from.now in
    let to = c.args.to.now in
    let k = c.known-known.result.now in
    let sum : IsSummary def k = subst (IsSummary def) (sym c.known-known.ensures) c.requires.summary in
    moved_ordered from to k.header c.in_ok-parts.parts.moved c.in_ok-parts.ensures.moved sum.header

pub join-requires-clause-right : goal.join-requires-clause-right
join-requires-clause-right c =
    let def = c.args.definition.now in
    let from = c.args.from.now in
    let to = c.args.to.now in
    let k = c.known-known.result.now in
    let sum : IsSummary def k = subst (IsSummary def) (sym c.known-known.ensures) c.requires.summary in
    other_ordered from to k.header c.in_ok-parts.parts.others c.in_ok-parts.ensures.others sum.header

pub joined_columns-requires-clause-lefts : goal.joined_columns-requires-clause-lefts
joined_columns-requires-clause-lefts c =
    let def = c.args.definition.now in
    let from = c.args.from.now in
    let to = c.args.to.now in
    let k = c.known-known.result.now in
    let sum : IsSummary def k = subst (IsSummary def) (sym c.known-known.ensures) c.requires.summary in
    let parts = c.in_ok-parts.parts in
    let made = c.in_ok-parts.ensures in
    let a = c.as_slice-moved.ensures.value ∙ made.moved_columns in
    let b = c.as_slice-others.ensures.value ∙ made.other_columns in
    let lefts = c.as_slice-moved.result.now in
    let rights = c.as_slice-others.result.now in
    lefts_many from to k lefts rights parts.moved parts.others a b made.moved made.others c.in_ok-joined.joined.header.names c.in_ok-joined.joined.left c.in_ok-joined.ensures.left

pub joined_columns-requires-clause-all : goal.joined_columns-requires-clause-all
joined_columns-requires-clause-all c =
    let def = c.args.definition.now in
    let k = c.known-known.result.now in
    let sum : IsSummary def k = subst (IsSummary def) (sym c.known-known.ensures) c.requires.summary in
    let parts = c.in_ok-parts.parts in
    let joined = c.in_ok-joined.joined in
    let made = c.in_ok-joined.ensures in
    all_places parts.moved parts.others joined.header joined.left joined.right made.ordered made.union made.left made.right
    (moved_ordered c.args.from.now c.args.to.now k.header parts.moved c.in_ok-parts.ensures.moved sum.header)
    (other_ordered c.args.from.now c.args.to.now k.header parts.others c.in_ok-parts.ensures.others sum.header)

pub joined_columns-requires-clause-rights : goal.joined_columns-requires-clause-rights
joined_columns-requires-clause-rights c =
    let def = c.args.definition.now in
    let from = c.args.from.now in
    let to = c.args.to.now in
    let k = c.known-known.result.now in
    let sum : IsSummary def k = subst (IsSummary def) (sym c.known-known.ensures) c.requires.summary in
    let parts = c.in_ok-parts.parts in
    let made = c.in_ok-parts.ensures in
    let a = c.as_slice-moved.ensures.value ∙ made.moved_columns in
    let b = c.as_slice-others.ensures.value ∙ made.other_columns in
    let lefts = c.as_slice-moved.result.now in
    let rights = c.as_slice-others.result.now in
    rights_many from to k lefts rights parts.moved parts.others a b made.moved made.others c.in_ok-joined.joined.header.names c.in_ok-joined.joined.right c.in_ok-joined.ensures.right

pub kept_rows-requires-clause-sorts : goal.kept_rows-requires-clause-sorts
kept_rows-requires-clause-sorts c =
    let def = c.args.definition.now in
    let from = c.args.from.now in
    let to = c.args.to.now in
    let k = c.known-known.result.now in
    let sum : IsSummary def k = subst (IsSummary def) (sym c.known-known.ensures) c.requires.summary in
    ((sum.sort ∷ sum.seen) ++ sum.key_sorts, sum.sorted)

pub kept_rows-requires-clause-within : goal.kept_rows-requires-clause-within
kept_rows-requires-clause-within c =
    let def = c.args.definition.now in
    let from = c.args.from.now in
    let to = c.args.to.now in
    let k = c.known-known.result.now in
    let sum : IsSummary def k = subst (IsSummary def) (sym c.known-known.ensures) c.requires.summary in
    let parts = c.in_ok-parts.parts in
    let made = c.in_ok-parts.ensures in
    let a = c.as_slice-moved.ensures.value ∙ made.moved_columns in
    let b = c.as_slice-others.ensures.value ∙ made.other_columns in
    let lefts = c.as_slice-moved.result.now in
    let rights = c.as_slice-others.result.now in
    let h = c.in_ok-joined.joined.header in
    let pairs = c.in_ok-placed.placed.pairs.items in
    let columns = c.in_ok-placed.placed.columns.items in
    let silent : k.seen ≡ 0 = ap (λ (x : SummaryParts). x.seen) c.known-known.ensures ∙ c.requires.silent in
    let w = walk_of from to k lefts rights parts.moved parts.others a b made.moved made.others (keys h.names) pairs columns
    (c.in_ok-placed.ensures (keys parts.moved.names) (keys parts.others.names) c.in_ok-joined.ensures.left c.in_ok-joined.ensures.right) in
    let kept : c.as_slice-2.result.now ≡ 0 ∷ columns = c.as_slice-2.ensures.value ∙ c.in_ok-keep.ensures ∙ ap (λ l. 0 ∷ l) c.as_slice.ensures.value in
    subst (AllWithin k.rel) (sym kept) (columns_within def k from to sum silent h pairs columns w)

pub kept_rows-requires-clause-once : goal.kept_rows-requires-clause-once
kept_rows-requires-clause-once c =
    let def = c.args.definition.now in
    let from = c.args.from.now in
    let to = c.args.to.now in
    let k = c.known-known.result.now in
    let sum : IsSummary def k = subst (IsSummary def) (sym c.known-known.ensures) c.requires.summary in
    let parts = c.in_ok-parts.parts in
    let made = c.in_ok-parts.ensures in
    let a = c.as_slice-moved.ensures.value ∙ made.moved_columns in
    let b = c.as_slice-others.ensures.value ∙ made.other_columns in
    let lefts = c.as_slice-moved.result.now in
    let rights = c.as_slice-others.result.now in
    let h = c.in_ok-joined.joined.header in
    let pairs = c.in_ok-placed.placed.pairs.items in
    let columns = c.in_ok-placed.placed.columns.items in
    let silent : k.seen ≡ 0 = ap (λ (x : SummaryParts). x.seen) c.known-known.ensures ∙ c.requires.silent in
    let w = walk_of from to k lefts rights parts.moved parts.others a b made.moved made.others (keys h.names) pairs columns
    (c.in_ok-placed.ensures (keys parts.moved.names) (keys parts.others.names) c.in_ok-joined.ensures.left c.in_ok-joined.ensures.right) in
    let kept : c.as_slice-2.result.now ≡ 0 ∷ columns = c.as_slice-2.ensures.value ∙ c.in_ok-keep.ensures ∙ ap (λ l. 0 ∷ l) c.as_slice.ensures.value in
    subst KeptOnce (sym kept) (columns_once def k from to sum silent h pairs columns w c.in_ok-joined.ensures.ordered)

pub returns-clause-renamed : goal.returns-clause-renamed
returns-clause-renamed c =
    let def = c.args.definition.now in
    let from = c.args.from.now in
    let to = c.args.to.now in
    let k = c.known-known.result.now in
    let sum : IsSummary def k = subst (IsSummary def) (sym c.known-known.ensures) c.requires.summary in
    let parts = c.in_ok-parts.parts in
    let made = c.in_ok-parts.ensures in
    let a = c.as_slice-moved.ensures.value ∙ made.moved_columns in
    let b = c.as_slice-others.ensures.value ∙ made.other_columns in
    let lefts = c.as_slice-moved.result.now in
    let rights = c.as_slice-others.result.now in
    let h = c.in_ok-joined.joined.header in
    let pairs = c.in_ok-placed.placed.pairs.items in
    let columns = c.in_ok-placed.placed.columns.items in
    let silent : k.seen ≡ 0 = ap (λ (x : SummaryParts). x.seen) c.known-known.ensures ∙ c.requires.silent in
    let w = walk_of from to k lefts rights parts.moved parts.others a b made.moved made.others (keys h.names) pairs columns
    (c.in_ok-placed.ensures (keys parts.moved.names) (keys parts.others.names) c.in_ok-joined.ensures.left c.in_ok-joined.ensures.right) in
    let kept : c.as_slice-2.result.now ≡ 0 ∷ columns = c.as_slice-2.ensures.value ∙ c.in_ok-keep.ensures ∙ ap (λ l. 0 ∷ l) c.as_slice.ensures.value in
    let rows = c.in_ok-rel.rel in
    let Made : List ℕ → Type 0 = λ keep. (ss : List ℕ) → AllHaveSorts def.signature k.rel ss → IsRelation def.signature (picked ss keep) (IsProjected def.signature k.rel keep) rows in
    let all : Made (0 ∷ columns) = subst Made kept c.in_ok-rel.ensures in
    let new = c.in_ok-made.made in
    let is = c.in_ok-made.ensures in
    let union = union_of from to k lefts rights parts.moved parts.others a b made.moved made.others h c.in_ok-joined.ensures.union in
    subst (λ (x : SummaryParts). IsRenamed def from to x new) c.known-known.ensures
    (is_renamed def k from to sum silent h pairs columns w union c.in_ok-joined.ensures.ordered rows all new (ap (λ (x : SummaryParts). x.kind) is) (ap (λ (x : SummaryParts). x.header) is) (ap (λ (x : SummaryParts). x.seen) is) (ap (λ (x : SummaryParts). x.rel) is))

pub returns-clause-summary : goal.returns-clause-summary
returns-clause-summary c =
    let def = c.args.definition.now in
    let from = c.args.from.now in
    let to = c.args.to.now in
    let k = c.known-known.result.now in
    let sum : IsSummary def k = subst (IsSummary def) (sym c.known-known.ensures) c.requires.summary in
    let parts = c.in_ok-parts.parts in
    let made = c.in_ok-parts.ensures in
    let a = c.as_slice-moved.ensures.value ∙ made.moved_columns in
    let b = c.as_slice-others.ensures.value ∙ made.other_columns in
    let lefts = c.as_slice-moved.result.now in
    let rights = c.as_slice-others.result.now in
    let h = c.in_ok-joined.joined.header in
    let pairs = c.in_ok-placed.placed.pairs.items in
    let columns = c.in_ok-placed.placed.columns.items in
    let silent : k.seen ≡ 0 = ap (λ (x : SummaryParts). x.seen) c.known-known.ensures ∙ c.requires.silent in
    let w = walk_of from to k lefts rights parts.moved parts.others a b made.moved made.others (keys h.names) pairs columns
    (c.in_ok-placed.ensures (keys parts.moved.names) (keys parts.others.names) c.in_ok-joined.ensures.left c.in_ok-joined.ensures.right) in
    let kept : c.as_slice-2.result.now ≡ 0 ∷ columns = c.as_slice-2.ensures.value ∙ c.in_ok-keep.ensures ∙ ap (λ l. 0 ∷ l) c.as_slice.ensures.value in
    let rows = c.in_ok-rel.rel in
    let Made : List ℕ → Type 0 = λ keep. (ss : List ℕ) → AllHaveSorts def.signature k.rel ss → IsRelation def.signature (picked ss keep) (IsProjected def.signature k.rel keep) rows in
    let all : Made (0 ∷ columns) = subst Made kept c.in_ok-rel.ensures in
    let new = c.in_ok-made.made in
    let is = c.in_ok-made.ensures in
    renamed_usual def k from to sum silent h pairs columns w c.in_ok-joined.ensures.ordered rows all new (ap (λ (x : SummaryParts). x.kind) is) (ap (λ (x : SummaryParts). x.header) is) (ap (λ (x : SummaryParts). x.seen) is) (ap (λ (x : SummaryParts). x.rel) is)
