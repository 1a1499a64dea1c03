use Rattle.std.proofs.Common.{◌≡◌, ◌∷◌, List, ◌+◌, ◌∙◌, [], ap, arith, length, length-append, subst, sym, true≢false}
use Rattle.psg_lexis.specs.declared.token.Spanned.{Spanned}
use Rattle.psg_class.specs.Texts.{tokens_of}
use Rattle.psg_parse.specs.Stops.{MayEnd}
use Rattle.psg_recover.specs.declared.finding.Finding.{Finding}
use Rattle.psg_recover.specs.Grammars.{quiet}
use Rattle.psg_recover.specs.Rows.{IsPassed, IsRow}
use Rattle.psg_recover.specs.Readers.{tokens_in}
use Rattle.psg_recover.proofs.ReaderLaws.{trees_at}
use Rattle.psg_recover.proofs.ToldLaws.{completes_end, completes_first, completes_next, completes_whole, passed_end, passed_next, read_row}
use Rattle.psg_recover.proofs.recovery.all_stops.Goals as goal

pub loop-row-init : goal.loop-row-init
loop-row-init c =
    let r = c.requires.reader in
    let def = c.args.reader.known.definition.now in
    let kind = c.args.reader.kind in (
      read_row def kind c.args.text.now c.args.tokens.items c.requires.text (trees_at def r.can_end kind r.kind),
      completes_first def kind c.args.text.now c.args.tokens.items c.new-told.result.items c.new-told.ensures.items,
    )

pub front-requires : goal.front-requires
front-requires c =
    let r = c.requires.reader in
    record { reader = r; trees = trees_at c.args.reader.known.definition.now r.can_end c.args.reader.kind r.kind }

pub returns-then-front : goal.returns-then-front
returns-then-front c =
    completes_whole c.args.reader.known.definition.now c.args.reader.kind c.args.text.now c.args.tokens.items c.loop-row.row.items c.loop-row.told.items
    c.loop-row.invariant.1 (subst (λ (l : List Spanned). MayEnd (quiet c.args.reader.known.definition.now) c.args.reader.kind 0 (tokens_of l)) c.as_slice.ensures.value (c.in_ok-front.ensures.whole.0 c.if-front.true))

pub passed-requires : goal.passed-requires
passed-requires c =
    let def = c.args.reader.known.definition.now in
    let kind = c.args.reader.kind in
    let same = c.as_slice-in-loop-row.ensures.value in
    record {
      reader = c.requires.reader;
      row = subst (λ (l : List Spanned). IsRow def kind c.args.text.now l) (sym same) c.loop-row.invariant.0;
      stops = λ may. true≢false
          (sym (c.in_ok-front.ensures.whole.1 (subst (λ (l : List Spanned). MayEnd (quiet def) kind 0 (tokens_of l)) (same ∙ sym c.as_slice.ensures.value) may)) ∙ c.if-front.false);
    }

pub loop-row-preserved : goal.loop-row-preserved
loop-row-preserved c =
    let def = c.args.reader.known.definition.now in
    let kind = c.args.reader.kind in
    let text = c.args.text.now in
    let told = c.loop-row.told.items in
    let h = c.in_ok-after.ensures in
    let way = subst (λ (l : List Spanned). IsPassed c.args.reader.known.definition.now c.args.reader.kind c.args.text.now (length told) l h.0 (tokens_in c.in_ok-after.after)) c.as_slice-in-loop-row.ensures.value h.2 in
    let next = c.in-Some.next.items in
    let on = passed_next def kind text (length told) c.loop-row.row.items h.0 (tokens_in c.in_ok-after.after) next way (ap tokens_in c.in-Some.is) in
    (on.row, completes_next def kind text c.args.tokens.items c.loop-row.row.items next told c.passed.new.told.items h.0 c.loop-row.invariant.1 h.1 on)

pub loop-row-smaller : goal.loop-row-smaller
loop-row-smaller c =
    let told = c.loop-row.told.items in
    let h = c.in_ok-after.ensures in
    let way = subst (λ (l : List Spanned). IsPassed c.args.reader.known.definition.now c.args.reader.kind c.args.text.now (length told) l h.0 (tokens_in c.in_ok-after.after)) c.as_slice-in-loop-row.ensures.value h.2 in
    let on = passed_next c.args.reader.known.definition.now c.args.reader.kind c.args.text.now (length told) c.loop-row.row.items h.0 (tokens_in c.in_ok-after.after) c.in-Some.next.items way
    (ap tokens_in c.in-Some.is) in
    let few = on.few in
    let grown : length c.passed.new.told.items ≡ length told + 1 = ap (λ (l : List Finding). length l) h.1 ∙ length-append told (h.0 ∷ []) in
    omega (arith, few, grown)

pub returns-in-None : goal.returns-in-None
returns-in-None c =
    let def = c.args.reader.known.definition.now in
    let kind = c.args.reader.kind in
    let text = c.args.text.now in
    let told = c.loop-row.told.items in
    let h = c.in_ok-after.ensures in
    let way = subst (λ (l : List Spanned). IsPassed c.args.reader.known.definition.now c.args.reader.kind c.args.text.now (length told) l h.0 (tokens_in c.in_ok-after.after)) c.as_slice-in-loop-row.ensures.value h.2 in
    completes_end def kind text c.args.tokens.items c.loop-row.row.items told c.passed.new.told.items h.0 c.loop-row.invariant.1 h.1
    (passed_end def kind text (length told) c.loop-row.row.items h.0 (tokens_in c.in_ok-after.after) way (ap tokens_in c.in-None.is))
