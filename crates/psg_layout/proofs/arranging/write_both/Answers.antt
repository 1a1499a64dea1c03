use Rattle.std.proofs.Common.{[], false, true, map, refl, ap, subst, sym, ◌∙◌}
use Rattle.std.specs.Prelude.{slice_get}
use Rattle.psg_unparse.specs.Spaced.{text_in}
use Rattle.psg_layout.specs.Sheets.{AreUtf8, extents}
use Rattle.psg_layout.specs.Walking.{flats_of, IsCopy, IsWalk, new_walk, node_walk}
use Rattle.psg_layout.proofs.AgreeLaws.{shaped}
use Rattle.psg_layout.proofs.WholeLaws.{arranging, copies, copies_are, no_more, plain, reading, reading_puts, second_puts, spans_are}
use Rattle.psg_layout.proofs.arranging.write_both.Goals as goal

pub returns-clause-spans : goal.returns-clause-spans
returns-clause-spans c =
    let d = c.args.definition.now in
    let l = c.args.layout.now in
    let n = c.args.cols in
    let t = c.args.tree.now in
    let s = shaped d t [] c.requires.formed.0 c.requires.formed.1.0 in
    let read : IsWalk c.in_ok-plain.plain (reading d l n t s) =
    c.in_ok-plain.ensures (record { layout = l; copies = [] }) (record { rules = c.in_ok-rules.ensures; none = λ i e. refl; some = λ i m e. absurd (cc) }) in
    spans_are d l n t s c.in_ok-plain.plain.nodes.items read.nodes

pub returns-clause-text : goal.returns-clause-text
returns-clause-text c =
    let d = c.args.definition.now in
    let l = c.args.layout.now in
    let n = c.args.cols in
    let t = c.args.tree.now in
    let s = shaped d t [] c.requires.formed.0 c.requires.formed.1.0 in
    let read : IsWalk c.in_ok-plain.plain (reading d l n t s) =
    c.in_ok-plain.ensures (record { layout = l; copies = [] }) (record { rules = c.in_ok-rules.ensures; none = λ i e. refl; some = λ i m e. absurd (cc) }) in
    let puts = reading_puts d l n t s in
    let valid : AreUtf8 (plain d l n t s) = subst AreUtf8 puts read.ink.valid in
    let nodes = c.as_slice.ensures.value ∙ read.nodes in
    let text = c.as_str.ensures.value ∙ read.ink.bytes ∙ ap text_in puts in
    let tokens = c.as_slice-2.ensures.value ∙ read.ink.tokens ∙ ap (extents 0) puts in
    let w : IsWalk c.in_ok-made.made (arranging d l n t s) =
    subst (λ fs. IsWalk c.in_ok-made.made (node_walk d l n fs (copies d l n t s) true false new_walk t)) (ap flats_of nodes)
    (c.in_ok-made.ensures (record { layout = l; copies = copies d l n t s })
    (record {
      rules = c.in_ok-rules.ensures;
      none = λ i e. no_more d l n t s valid i (sym (ap (λ z. slice_get z i) nodes) ∙ e);
      some = λ i m e.
          let f = copies_are d l n t s valid i m (sym (ap (λ z. slice_get z i) nodes) ∙ e) in
          (f.0, f.1, subst (λ x. IsCopy x c.as_slice-2.result.now m f.0) (sym text) (subst (λ x. IsCopy (text_in (plain d l n t s)) x m f.0) (sym tokens) f.2));
    })) in
    w.ink.bytes ∙ ap text_in (second_puts d l n t s)

pub returns-clause-tokens : goal.returns-clause-tokens
returns-clause-tokens c =
    let d = c.args.definition.now in
    let l = c.args.layout.now in
    let n = c.args.cols in
    let t = c.args.tree.now in
    let s = shaped d t [] c.requires.formed.0 c.requires.formed.1.0 in
    let read : IsWalk c.in_ok-plain.plain (reading d l n t s) =
    c.in_ok-plain.ensures (record { layout = l; copies = [] }) (record { rules = c.in_ok-rules.ensures; none = λ i e. refl; some = λ i m e. absurd (cc) }) in
    let puts = reading_puts d l n t s in
    let valid : AreUtf8 (plain d l n t s) = subst AreUtf8 puts read.ink.valid in
    let nodes = c.as_slice.ensures.value ∙ read.nodes in
    let text = c.as_str.ensures.value ∙ read.ink.bytes ∙ ap text_in puts in
    let tokens = c.as_slice-2.ensures.value ∙ read.ink.tokens ∙ ap (extents 0) puts in
    let w : IsWalk c.in_ok-made.made (arranging d l n t s) =
    subst (λ fs. IsWalk c.in_ok-made.made (node_walk d l n fs (copies d l n t s) true false new_walk t)) (ap flats_of nodes)
    (c.in_ok-made.ensures (record { layout = l; copies = copies d l n t s })
    (record {
      rules = c.in_ok-rules.ensures;
      none = λ i e. no_more d l n t s valid i (sym (ap (λ z. slice_get z i) nodes) ∙ e);
      some = λ i m e.
          let f = copies_are d l n t s valid i m (sym (ap (λ z. slice_get z i) nodes) ∙ e) in
          (f.0, f.1, subst (λ x. IsCopy x c.as_slice-2.result.now m f.0) (sym text) (subst (λ x. IsCopy (text_in (plain d l n t s)) x m f.0) (sym tokens) f.2));
    })) in
    w.ink.tokens ∙ ap (extents 0) (second_puts d l n t s)
