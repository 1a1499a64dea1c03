-- What is found of a node in the plain text.
use Rattle.std.proofs.Common.{◌≡◌, ℕ, ◌&&◌, not, Bool, true, false, List, [], ◌∷◌, Option, Some, None, refl, ap, ap₂, sym, ◌∙◌}
use Rattle.std.specs.Prelude.{is_some, slice_get, unwrap_or}
use Rattle.std.specs.Option.{option_map}
use Rattle.std.proofs.lemmas.Option.{slice_get-map}
use Rattle.psg_grammar.specs.Fragments.{Fragment, top_operator}
use Rattle.psg_tree.specs.Shapes.{list_of}
use Rattle.psg_layout.specs.declared.deciding.Plan.{Plan}
use Rattle.psg_layout.specs.declared.nodes.Flat.{Flat}
use Rattle.psg_layout.specs.declared.nodes.Node.{Node}
use Rattle.psg_layout.specs.declared.sheet.Own.{Own}
use Rattle.psg_layout.specs.Sheets.{Copy, gap_bytes, IsOwn}
use Rattle.psg_layout.specs.Arranged.{is_group}
use Rattle.psg_layout.specs.Walking.{Walk, chosen, copy_by, FindsOwn, fits_in, flat_in, flats_by, HasOwn, is_copied, is_mark, is_own, IsCopy, IsOwnAt, Known, line_ahead, no_tokens}

pub no_top : (l : ℕ) (es : List Fragment) (u : Bool) → None ≡ top_operator (list_of l es u)
no_top l [] u = refl
no_top l (e ∷ es) u = refl

module _ (plan : Plan) (place : ℕ) where
  flat_here : (n : Node) → slice_get plan.plain.now place ≡ Some n → flat_in (flats_by plan) place ≡ n.flat
  flat_here n e =
      ap (λ (o : Option Flat). unwrap_or o no_tokens)
      (slice_get-map (λ (m : Node). m.flat) plan.plain.now place ∙ ap (option_map (λ (m : Node). m.flat)) e)

  pub own_found : (n : Node) (width : ℕ) (found : Option Own) → slice_get plan.plain.now place ≡ Some n → n.flat.width ≡ Some width → is_mark n.flat.head ≡ true
      → ((c : Copy) → IsCopy plan.text.now plan.tokens.now n c → n.flat.width ≡ Some width → is_mark n.flat.head ≡ true → HasOwn found c n.flat.lead)
      → FindsOwn plan place found
  own_found n width None at w m h = λ k r b. let f = r.some place n at in absurd (h f.0 f.2 w m)
  own_found n width (Some own) at w m h = λ k r.
      let f = r.some place n at in
      let g = h f.0 f.2 w m in
      let flat : flat_in (flats_by plan) place ≡ n.flat = flat_here n at in
      record {
        copy = f.0;
        found = f.1;
        own_is = g.0;
        lead_is = g.1 ∙ sym (ap (λ (z : Flat). z.lead) flat);
        one_line = ap is_own flat ∙ ap₂ (λ a b. a && b) m (ap is_some w);
      }

  -- the node is copied that is a group and fits
  pub copied_found : (flat : Bool) (own : Own) (k : Known) (w : Walk) (o : Option ℕ) → flat ≡ false → w.place ≡ place → IsOwnAt plan place own k
      → (is_group k.layout o && fits_in plan.cols (line_ahead w.ink (flat_in (flats_by plan) place)) (flat_in (flats_by plan) place).width) ≡ true
      → (x : Copy) × (copy_by plan k flat w o ≡ Some x) × IsOwn own x × (gap_bytes own.lead ≡ gap_bytes (flat_in (flats_by plan) place).lead)
  copied_found flat own k w o f e a g = (
    a.copy,
    ap (λ q. chosen (is_copied k.layout plan.cols flat w.ink (flat_in (flats_by plan) q) o) (slice_get k.copies q)) e
        ∙ ap₂ chosen (ap₂ (λ x y. not x && y) f (ap₂ (λ x y. x && y) a.one_line g)) a.found,
    a.own_is,
    ap gap_bytes a.lead_is,
  )
