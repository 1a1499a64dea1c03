-- Both walks over a whole tree.
use Rattle.std.proofs.Common.{◌≡◌, inl, inr, ℕ, zero, suc, true, false, List, [], ◌∷◌, ◌++◌, length, map, take, drop, Some, None, refl, ap, ap₂, sym, subst, ◌∙◌, append-nil, append_assoc, length-append, arith}
use Rattle.std.specs.Prelude.{slice_get}
use Rattle.std.specs.List.{AllByRecursion}
use Rattle.psg_grammar.specs.declared.types.Definition.{Definition}
use Rattle.psg_grammar.specs.Fragments.{Fragment}
use Rattle.psg_unparse.specs.Rows.{Piece, row}
use Rattle.psg_unparse.specs.Spaced.{Put, text_in}
use Rattle.psg_unparse.specs.Spots.{Placed, top_spot, placed_in, placed_from, placed_below}
use Rattle.psg_unparse.specs.declared.spans.Span.{Span}
use Rattle.psg_unparse.specs.declared.spans.Printed.{Printed}
use Rattle.psg_unparse.proofs.Rows.{cut_in}
use Rattle.psg_layout.specs.declared.layout.Layout.{Layout}
use Rattle.psg_layout.specs.declared.nodes.Flat.{Flat}
use Rattle.psg_layout.specs.declared.nodes.Node.{Node}
use Rattle.psg_layout.specs.PutSpans.{tokens_in, own_puts, span_in}
use Rattle.psg_layout.specs.Pages.{Page, new_page}
use Rattle.psg_layout.specs.Sheets.{AreUtf8, Copy, extents}
use Rattle.psg_layout.specs.Arranged.{met, arranged, arranged_in, arranged_puts}
use Rattle.psg_layout.specs.Walking.{Walk, comes, flat_in, flats_of, new_walk, opened, closed, span_by, below, node_walk, IsCopy}
use Rattle.psg_layout.proofs.GrowLaws.{grows}
use Rattle.psg_layout.proofs.PlainLaws.{plain_puts, plain_puts-append, count_plain, plain_page}
use Rattle.psg_layout.proofs.GoesLaws.{goes}
use Rattle.psg_layout.proofs.NodeLaws.{IsMet, flat_of_puts, node_in, closed_nodes, nodes_are, places, from-below, take_at, drop_at}
use Rattle.psg_layout.proofs.CopyLaws.{IsRightCopy}
use Rattle.psg_layout.proofs.AgreeLaws.{IsShaped, IsRightFlat, AreAhead, agree, or_agrees, closed_agrees, decided_is}
use Rattle.psg_layout.proofs.FlatLaws.{some_is, lead_kept, fits_kept, own_kept, width_kept, head_kept}
use Rattle.psg_layout.proofs.PartLaws.{own_valid, part_ordered, part_starts, part_ends, part_within, part_extents}
use Rattle.psg_layout.proofs.SpanLaws.{own_bytes}

module _ (def : Definition) (layout : Layout) (cols : ℕ) where
  -- ---- what is kept of the nodes of the plain text is right

  right_flat : (whole : List Piece) (p : Placed) → p.spot.before ++ (row def p.node ++ p.spot.behind) ≡ whole
      → IsRightFlat def layout cols (flat_of_puts (take (tokens_in p.spot.before) (plain_puts [] whole)) (own_puts def (plain_puts [] whole) p)) p
  right_flat whole p e =
      let before : List Piece = p.spot.before in
      let own : List Piece = row def p.node in
      let split : plain_puts [] whole ≡ plain_puts [] before ++ plain_puts before (own ++ p.spot.behind) =
      ap (plain_puts []) (sym e) ∙ plain_puts-append [] before (own ++ p.spot.behind) in
      let front : take (tokens_in before) (plain_puts [] whole) ≡ plain_puts [] before =
      ap (take (tokens_in before)) split ∙ take_at (plain_puts [] before) (plain_puts before (own ++ p.spot.behind)) (tokens_in before) (sym (count_plain [] before)) in
      let behind : drop (tokens_in before) (plain_puts [] whole) ≡ plain_puts before own ++ plain_puts (before ++ own) p.spot.behind =
      ap (drop (tokens_in before)) split ∙ drop_at (plain_puts [] before) (plain_puts before (own ++ p.spot.behind)) (tokens_in before) (sym (count_plain [] before))
      ∙ plain_puts-append before own p.spot.behind in
      let mine : own_puts def (plain_puts [] whole) p ≡ plain_puts before own =
      ap (take (tokens_in own)) behind ∙ take_at (plain_puts before own) (plain_puts (before ++ own) p.spot.behind) (tokens_in own) (sym (count_plain before own)) in
      let kept : IsRightFlat def layout cols (flat_of_puts (plain_puts [] before) (plain_puts before own)) p = record {
        some = some_is (plain_puts [] before) before own;
        lead_is = lead_kept (plain_puts [] before) before own;
        fits_is = λ line. fits_kept cols line (plain_puts [] before) before own;
        own_is = own_kept (plain_puts [] before) before own;
      } in
      subst (λ ps. IsRightFlat def layout cols (flat_of_puts ps (own_puts def (plain_puts [] whole) p)) p) (sym front)
      (subst (λ ps. IsRightFlat def layout cols (flat_of_puts (plain_puts [] before) ps) p) (sym mine) kept)

  -- the node in the plain text
  abbrev pub copy_in : Placed → Copy
  copy_in p = record { puts = plain_puts p.spot.before (row def p.node); after = p.spot.before ++ row def p.node; count = length (placed_from def p.spot p.node) }

  right_copy : (p : Placed) → IsRightCopy def (copy_in p) p
  right_copy p = record { puts = refl; after = refl; count = refl }

  -- ---- they are read in order

  seam : (pre : List Flat) (x : Flat) (more : List Flat) → flat_in (pre ++ x ∷ more) (length pre) ≡ x
  seam [] x more = refl
  seam (y ∷ pre) x more = seam pre x more

  copy_seam : (pre : List Copy) (x : Copy) (more : List Copy) → slice_get (pre ++ x ∷ more) (length pre) ≡ Some x
  copy_seam [] x more = refl
  copy_seam (y ∷ pre) x more = copy_seam pre x more

  ahead_of : (g : Placed → Flat) (flats pre : List Flat) (copies before : List Copy) (ps : List Placed) → AllByRecursion (λ p. IsRightFlat def layout cols (g p) p) ps
      → flats ≡ pre ++ map g ps → copies ≡ before ++ map copy_in ps → length pre ≡ length before → AreAhead def layout cols flats copies (length pre) ps
  ahead_of g flats pre copies before [] a e f l = tt
  ahead_of g flats pre copies before (p ∷ ps) a e f l =
      let longer : length (pre ++ g p ∷ []) ≡ suc (length pre) = let k = length-append pre (g p ∷ []) in omega (arith, k) in
      let same : length (pre ++ g p ∷ []) ≡ length (before ++ copy_in p ∷ []) =
      let k = length-append pre (g p ∷ []) in let m = length-append before (copy_in p ∷ []) in omega (arith, k, m, l) in
      let own : slice_get copies (length pre) ≡ Some (copy_in p) = ap₂ slice_get f l ∙ copy_seam before (copy_in p) (map copy_in ps) in (
        record {
          flat = subst (λ z. IsRightFlat def layout cols z p) (sym (ap (λ z. flat_in z (length pre)) e ∙ seam pre (g p) (map g ps))) a.0;
          copy = λ c at. let h : Some (copy_in p) ≡ Some c = sym own ∙ at in let k : copy_in p ≡ c = cc in subst (λ z. IsRightCopy def z p) k (right_copy p);
        },
        subst (λ n. AreAhead def layout cols flats copies n ps) longer
            (ahead_of g flats (pre ++ g p ∷ []) copies (before ++ copy_in p ∷ []) ps a.1 (e ∙ sym (append_assoc pre (g p ∷ []) (map g ps)))
            (f ∙ sym (append_assoc before (copy_in p ∷ []) (map copy_in ps))) same),
      )

  flats_map : (h : Placed → Node) (ps : List Placed) → flats_of (map h ps) ≡ map (λ p. (h p).flat) ps
  flats_map h [] = refl
  flats_map h (p ∷ ps) = ap (λ z. (h p).flat ∷ z) (flats_map h ps)

  all_right : (whole : List Piece) (ps : List Placed) → AllByRecursion (λ (p : Placed). p.spot.before ++ (row def p.node ++ p.spot.behind) ≡ whole) ps
      → AllByRecursion (λ p. IsRightFlat def layout cols (node_in def false (plain_puts [] whole) [] p).flat p) ps
  all_right whole [] a = tt
  all_right whole (p ∷ ps) a = (right_flat whole p a.0, all_right whole ps a.1)

  -- ---- the nodes are copied as they are in the plain text

  module _ (whole : List Piece) (valid : AreUtf8 (plain_puts [] whole)) where
    abbrev final : List Put
    final = plain_puts [] whole

    copy_right : (p : Placed) → p.spot.before ++ (row def p.node ++ p.spot.behind) ≡ whole
        → IsCopy (text_in final) (extents 0 final) (node_in def false final [] p) (copy_in p)
    copy_right p e =
        let before : List Piece = p.spot.before in
        let own : List Piece = row def p.node in
        let n : ℕ = tokens_in before in
        let m : ℕ = tokens_in own in
        let split : final ≡ plain_puts [] before ++ plain_puts before (own ++ p.spot.behind) =
        ap (plain_puts []) (sym e) ∙ plain_puts-append [] before (own ++ p.spot.behind) in
        let front : take n final ≡ plain_puts [] before =
        ap (take n) split ∙ take_at (plain_puts [] before) (plain_puts before (own ++ p.spot.behind)) n (sym (count_plain [] before)) in
        let back : drop n final ≡ plain_puts before own ++ plain_puts (before ++ own) p.spot.behind =
        ap (drop n) split ∙ drop_at (plain_puts [] before) (plain_puts before (own ++ p.spot.behind)) n (sym (count_plain [] before))
        ∙ plain_puts-append before own p.spot.behind in
        let mine : take m (drop n final) ≡ plain_puts before own =
        ap (take m) back ∙ take_at (plain_puts before own) (plain_puts (before ++ own) p.spot.behind) m (sym (count_plain before own)) in
        let long : length (take n final) ≡ n = ap length front ∙ count_plain [] before in
        let own_long : length (take m (drop n final)) ≡ m = ap length mine ∙ count_plain before own in
        let c : Copy = record { puts = take m (drop n final); after = before ++ own; count = length (placed_from def p.spot p.node) } in
        let made : IsCopy (text_in final) (extents 0 final) (node_in def false final [] p) c = record {
          in_order = part_ordered final valid n m long own_long;
          starts = part_starts final valid n m long own_long;
          ends = part_ends final valid n m long own_long;
          bytes = own_bytes n m final;
          within = part_within final valid n m long own_long;
          extents_are = part_extents final valid n m long own_long;
          width = width_kept (take n final) (take m (drop n final));
          head = head_kept (take n final) (take m (drop n final));
          after = refl;
          count = refl;
          valid = own_valid final valid n m long own_long;
        } in
        subst (λ q. IsCopy (text_in final) (extents 0 final) (node_in def false final [] p) (record { puts = q; after = before ++ own; count = length (placed_from def p.spot p.node) })) mine made

    copies_found : (ps : List Placed) → AllByRecursion (λ (p : Placed). p.spot.before ++ (row def p.node ++ p.spot.behind) ≡ whole) ps → (i : ℕ) (n : Node)
        → slice_get (map (node_in def false final []) ps) i ≡ Some n
        → (c : Copy) × (slice_get (map copy_in ps) i ≡ Some c) × IsCopy (text_in final) (extents 0 final) n c
    copies_found [] a i n e = absurd (let f : None ≡ Some n = e in cc)
    copies_found (p ∷ ps) a zero n e =
        let f : Some (node_in def false final [] p) ≡ Some n = e in
        let g : node_in def false final [] p ≡ n = cc in
        (copy_in p, refl, subst (λ z. IsCopy (text_in final) (extents 0 final) z (copy_in p)) g (copy_right p a.0))
    copies_found (p ∷ ps) a (suc i) n e = copies_found ps a.1 i n e

    no_copies : (ps : List Placed) (i : ℕ) → slice_get (map (node_in def false final []) ps) i ≡ None → slice_get (map copy_in ps) i ≡ None
    no_copies [] i e = refl
    no_copies (p ∷ ps) zero e = absurd (let f : Some (node_in def false final [] p) ≡ None = e in cc)
    no_copies (p ∷ ps) (suc i) e = no_copies ps i e

  -- ---- the first walk

  module _ (t : Fragment) (shaped : IsShaped t) where
    abbrev pub plain : List Put
    plain = plain_puts [] (row def t)

    top_met : IsMet false [] (opened new_walk) [] []
    top_met = record { before_is = refl; count = refl; path_is = refl }

    abbrev first : Walk
    first = below def layout cols [] [] false (comes true 0) 0 (opened new_walk) t

    abbrev pub reading : Walk
    reading = node_walk def layout cols [] [] false true new_walk t

    pub reading_puts : reading.ink.page.puts ≡ plain
    reading_puts =
        ap (λ (p : Page). p.puts)
        (agree def layout cols [] [] false t (comes true 0) (met true) 0 (opened new_walk) top_spot shaped refl
        (inr (decided_is def layout cols [] [] false true 0 (opened new_walk) top_spot t refl (inl refl))) refl (inl refl)).page
        ∙ (plain_page def layout cols t (met true) new_page (inr refl) (record { broken = refl; puts = refl })).puts
        ∙ ap (plain_puts []) (grows def layout cols t (met true) new_page).before

    first_nodes : reading.nodes ≡ map (node_in def false plain []) (placed_in def t)
    first_nodes =
        let e : plain ≡ first.ink.page.puts ++ [] = sym (append-nil first.ink.page.puts ∙ reading_puts) in
        closed_nodes def false plain [] new_walk first None top_spot t [] top_met (goes def layout cols [] false t (comes true 0) 0 (opened new_walk)) e
        (places def false plain [] layout cols [] t (comes true 0) 0 (opened new_walk) top_spot)
        (nodes_are def false plain [] layout cols [] t (comes true 0) 0 (opened new_walk) top_spot [] top_met e)

    abbrev pub kept : List Flat
    kept = flats_of reading.nodes

    abbrev pub copies : List Copy
    copies = map copy_in (placed_in def t)

    pub copies_are : AreUtf8 plain → (i : ℕ) (n : Node) → slice_get reading.nodes i ≡ Some n
        → (c : Copy) × (slice_get copies i ≡ Some c) × IsCopy (text_in plain) (extents 0 plain) n c
    copies_are v i n e = copies_found (row def t) v (placed_in def t) (cut_in def t) i n (sym (ap (λ z. slice_get z i) first_nodes) ∙ e)

    pub no_more : AreUtf8 plain → (i : ℕ) → slice_get reading.nodes i ≡ None → slice_get copies i ≡ None
    no_more v i e = no_copies (row def t) v (placed_in def t) i (sym (ap (λ z. slice_get z i) first_nodes) ∙ e)

    all_ahead : AreAhead def layout cols kept copies 0 (placed_in def t)
    all_ahead =
        ahead_of (λ p. (node_in def false plain [] p).flat) kept [] copies [] (placed_in def t) (all_right (row def t) (placed_in def t) (cut_in def t))
        (ap flats_of first_nodes ∙ flats_map (node_in def false plain []) (placed_in def t)) refl refl

    -- ---- the second walk

    abbrev second : Walk
    second = below def layout cols kept copies true (comes false 0) 0 (opened new_walk) t

    abbrev pub arranging : Walk
    arranging = node_walk def layout cols kept copies true false new_walk t

    pub second_puts : arranging.ink.page.puts ≡ arranged_puts def layout cols t
    second_puts =
        let h : AreAhead def layout cols kept copies 0 (record { spot = top_spot; node = t } ∷ placed_below def top_spot 0 t) =
        subst (AreAhead def layout cols kept copies 0) (from-below def false [] [] top_spot t) all_ahead in
        let inner = agree def layout cols kept copies true t (comes false 0) (met false) 0 (opened new_walk) top_spot shaped refl
        (inr (decided_is def layout cols kept copies true false 0 (opened new_walk) top_spot t refl (inr h.0.flat))) refl (inr h.1) in
        let whole = or_agrees def layout cols kept copies true false new_walk (closed 0 0 None second) top_spot t refl (inr h.0)
        (closed_agrees def layout cols kept copies true top_spot t 0 0 None second (arranged def layout cols (met false) new_page t) inner) in
        ap (λ (p : Page). p.puts) whole.page

    spans_map : (ps : List Put) (qs : List Placed) → map (span_by ps) (map (node_in def false plain []) qs) ≡ map (span_in def ps) qs
    spans_map ps [] = refl
    spans_map ps (q ∷ qs) = ap (λ z. span_in def ps q ∷ z) (spans_map ps qs)

    -- the nodes of the plain text, with the bytes that they have in the arranged one
    pub spans_are : (nodes : List Node) → nodes ≡ reading.nodes
        → map (span_by (arranged_puts def layout cols t)) nodes ≡ map (span_in def (arranged_puts def layout cols t)) (placed_in def t)
    spans_are nodes e =
        ap (map (span_by (arranged_puts def layout cols t))) (e ∙ first_nodes) ∙ spans_map (arranged_puts def layout cols t) (placed_in def t)
