use Rattle.std.proofs.Common.{◌+◌, inl, inr}
use Rattle.psg_class.specs.Sources.{NoLink, OneCell, If, Either, ListFact, ListLink}
use Rattle.psg_class.proofs.Drafts.{adds_as, adds_both}
use Rattle.psg_class.proofs.sources.note_list.Goals as goal

pub returns : goal.returns
returns c =
    let rows = c.args.rows.now in
    let k = c.args.list.now in
    let n = c.args.number in
    let a = If k.unfinished (rows.phyla + n) (rows.phyla + 3) in
    let b = OneCell (rows.kinds + k.element) c.args.separator in
    let x = OneCell (rows.phyla + n) k.element in
    let y = OneCell (rows.kinds + k.element) (rows.kinds + (rows.phyla + n)) in
    adds_as (Either (Either (Either a b) NoLink) NoLink) (Either (Either (Either NoLink NoLink) x) y) (ListFact rows n k.element k.unfinished c.args.separator) (ListLink rows n k.element) c.args.draft.now c.link-2.new.self
    (λ r m f. elim f [ inl g ↦ (elim g [ inl h ↦ h | inr h ↦ absurd h ]) | inr g ↦ absurd g ])
    (λ r m f. inl (inl f))
    (λ t m l. elim l [ inl g ↦ (elim g [ inl h ↦ (elim h [ inl i ↦ absurd i | inr i ↦ absurd i ]) | inr h ↦ inl h ]) | inr g ↦ inr g ])
    (λ t m l. elim l [ inl g ↦ inl (inr g) | inr g ↦ inr g ])
    (adds_both (Either (Either a b) NoLink) (Either (Either NoLink NoLink) x) NoLink y c.args.draft.now c.link.new.self c.link-2.new.self
    (adds_both (Either a b) (Either NoLink NoLink) NoLink x c.args.draft.now c.put.new.self c.link.new.self
    (adds_both a NoLink b NoLink c.args.draft.now c.put_if.new.self c.put.new.self c.put_if.ensures c.put.ensures) c.in_ok-link.ensures) c.in_ok-link-2.ensures)
