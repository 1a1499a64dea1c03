-- The chosen path leads to a node, or to the `...` of an unfinished list, after each key.
use Rattle.std.proofs.Common.{◌≡◌, ℕ, zero, suc, ◌-◌, ◌==◌, ◌&&◌, Bool, true, false, cond, List, [], ◌∷◌, length, Option, Some, None}
use Rattle.std.proofs.Common.{slice_get, refl, ap, sym, ◌∙◌, subst}
use Rattle.std.specs.Prelude.{Err, Ok}
use Rattle.std.specs.List.{AllByRecursion}
use Rattle.std.proofs.lemmas.Option.{none-some, same_Some}
use Rattle.psg_terms.specs.Names.{Name}
use Rattle.psg_terms.proofs.Lists.{each_in}
use Rattle.psg_grammar.specs.declared.types.Definition.{Definition}
use Rattle.psg_grammar.specs.declared.types.Kind.{Kind}
use Rattle.psg_grammar.specs.Fragments.{Fragment}
use Rattle.psg_grammar.specs.Legal.{IsCompletable}
use Rattle.psg_grammar.specs.Paths.{Path}
use Rattle.psg_grammar.specs.WellFormed.{WellFormed}
use Rattle.psg_face.specs.Moves.{as_far, leads, parent_of, to_child, to_next, to_previous}
use Rattle.psg_face.specs.Opens.{first_after, first_below, first_of, first_with, is_before, last_before, last_with, next_open}
use Rattle.psg_face.specs.Opens.{open_below, opens, previous_open}
use Rattle.psg_face.proofs.LeadLaws.{child_leads, far_leads, next_leads, parent_leads, previous_leads}
use Rattle.psg_keys.specs.declared.key.Key.{Key}
use Rattle.psg_keys.specs.declared.key.Key.TheVariants as keys
use Rattle.psg_keys.specs.Lines.{TypedLines, lines_after}
use Rattle.psg_keys.specs.Reading.{Spelled}
use Rattle.psg_keymap.specs.declared.face.Mode.{Mode}
use Rattle.psg_keymap.specs.declared.face.Mode.TheVariants as modes
use Rattle.psg_keymap.specs.declared.leaves.Leaf.{Leaf}
use Rattle.psg_keymap.specs.declared.spots.Spot.{Spot}
use Rattle.psg_keymap.specs.declared.table.Due.{Due}
use Rattle.psg_keymap.specs.Faces.{Face, Why, in_mode, no_key, picked_offer, quiet}
use Rattle.psg_keymap.specs.Faces as faces
use Rattle.psg_keymap.specs.Leaves.{args_with}
use Rattle.psg_keymap.specs.Repairs.{place_path}
use Rattle.psg_keymap.specs.Table.{is_undo}
use Rattle.psg_modes.specs.Turning.{browsed, browsed_control, browsed_letter, chosen_key, completed, ending, first_picked}
use Rattle.psg_modes.specs.Turning.{is_nothing, leaf_at, led, left_in, left_line, left_page, line_key, named_key, narrowed, narrowed_line}
use Rattle.psg_modes.specs.Turning.{opened_node, paged_key, paging, saying, typed_key, with_args, with_leaf, with_narrowed}
use Rattle.psg_modes.specs.Turning.{with_typed}
use Rattle.psg_modes.specs.Wrong.{is_forward}
use Rattle.psg_places.specs.declared.place.Place.{Place}
use Rattle.psg_asking.specs.Asked.{Read}
use Rattle.psg_script.specs.declared.command.Command.{Command}
use Rattle.psg_session.specs.declared.refusal.Refusal.TheVariants as refusals
use Rattle.psg_session.specs.Refusals.{number_of}
use Rattle.psg_session.specs.Applied.{HasApplied, IsRefusal}
use Rattle.psg_session.specs.Exchanges.{Outside}
use Rattle.psg_session.specs.PlainState.{Answer, Opened, State}
use Rattle.psg_session.specs.PlainStep.{Steps, refuses, opens as opened_new, changes, undoes, redoes, saves, keeps, fetches, shows, goes, screens, owns, relates, frees, offers as menus, suggests}
use Rattle.psg_session.specs.Replies.{Reply, refused, answered}
use Rattle.psg_tui.specs.Pressing.{Browses, Chooses, Desk, Does, IsNextWrong, IsOpened, IsWritten, Leaves, Replaces, Saves, is_down}
use Rattle.psg_tui.specs.Pressing.{Turns, TurnsIn, Writes, WritesIf, WritesTo, chosen_after, command_face}
use Rattle.psg_tui.specs.Pressing.{offered, related, versions_after, with_face}
use Rattle.psg_tui.specs.Pressing as keyed
use Rattle.psg_tui.proofs.LeadingLaws.{Leads, culprits_lead, opens_lead, repair_leads}
use Rattle.psg_tui.proofs.NextLaws.{next_in}
use Rattle.psg_unparse.proofs.Listed.{IsProper}
use Rattle.psg_unparse.specs.Spans.{printed_of}
use Rattle.psg_unparse.specs.Splicing.{leads_along}
use Rattle.psg_tui.proofs.PagingLaws.{AllLead, page_leads}

-- ---- the chosen path stays

cond_chosen : (test : Bool) (x y : Face) (p : Path) → x.chosen ≡ p → y.chosen ≡ p → (cond test x y).chosen ≡ p
cond_chosen true x y p a b = a
cond_chosen false x y p a b = b

typed_chosen : (f : Face) (o : Option TypedLines) → (with_typed f o).chosen ≡ f.chosen
typed_chosen f None = refl
typed_chosen f (Some lines) = refl

narrowed_chosen : (f : Face) (o : Option TypedLines) → (with_narrowed f o).chosen ≡ f.chosen
narrowed_chosen f None = refl
narrowed_chosen f (Some lines) = refl

left_chosen : (f : Face) (mode : Mode) → (left_in f mode).chosen ≡ f.chosen
left_chosen f modes.Typing = refl
left_chosen f modes.Browsing = refl
left_chosen f modes.Choosing = refl
left_chosen f modes.Naming = refl
left_chosen f modes.Saving = refl
left_chosen f modes.Replacing = refl
left_chosen f modes.Paging = refl
left_chosen f modes.Leaving = refl

line_chosen : (f : Face) (key : Key) → (line_key f key).chosen ≡ f.chosen
line_chosen f keys.Escape = left_chosen f f.mode
line_chosen f (keys.Control c) =
    cond_chosen (c == 99) (left_line f) (typed_key f (keys.Control c)) f.chosen (left_chosen f f.mode)
    (typed_chosen f (lines_after f.lines (keys.Control c)))
line_chosen f key = typed_chosen f (lines_after f.lines key)

narrow_chosen : (f : Face) (key : Key) → (narrowed f key).chosen ≡ f.chosen
narrow_chosen f keys.Escape = left_chosen f f.mode
narrow_chosen f (keys.Control c) =
    cond_chosen (c == 99) (first_picked (left_line f)) (narrowed_line f (keys.Control c)) f.chosen
    (left_chosen f f.mode) (narrowed_chosen f (lines_after f.lines (keys.Control c)))
narrow_chosen f key = narrowed_chosen f (lines_after f.lines key)

chosen_chosen : (f : Face) (key : Key) → (chosen_key f key).chosen ≡ f.chosen
chosen_chosen f keys.Up = refl
chosen_chosen f keys.Left = refl
chosen_chosen f keys.BackTab = refl
chosen_chosen f keys.Down = refl
chosen_chosen f keys.Right = refl
chosen_chosen f keys.Tab = refl
chosen_chosen f key = narrow_chosen f key

completed_chosen : (f : Face) (o : Option (List ℕ)) → (completed f o).chosen ≡ f.chosen
completed_chosen f None = refl
completed_chosen f (Some name) = refl

leaf_chosen : (f : Face) (o : Option Leaf) → (with_leaf f o).chosen ≡ f.chosen
leaf_chosen f None = refl
leaf_chosen f (Some l) =
    cond_chosen (is_nothing f (args_with f l)) f (with_args f (args_with f l)) f.chosen refl refl

named_chosen : (def : Definition) (f : Face) (key : Key) → (named_key def f key).chosen ≡ f.chosen
named_chosen def f keys.Up = refl
named_chosen def f keys.BackTab = refl
named_chosen def f keys.Down = refl
named_chosen def f keys.Tab = completed_chosen f (picked_offer f)
named_chosen def f keys.Enter = leaf_chosen f (leaf_at def f)
named_chosen def f key = narrow_chosen f key

paged_chosen : (f : Face) (key : Key) → (paged_key f key).chosen ≡ f.chosen
paged_chosen f keys.Up = refl
paged_chosen f keys.Left = refl
paged_chosen f keys.Down = refl
paged_chosen f keys.Right = refl
paged_chosen f keys.PageUp = refl
paged_chosen f keys.PageDown = refl
paged_chosen f _ = refl

ending_chosen : (changed : Bool) (f : Face) → (ending changed f).chosen ≡ f.chosen
ending_chosen true f = refl
ending_chosen false f = refl

module _ (def : Definition) (tree : Fragment) (changed : Bool) (page : List (List ℕ)) where
  letter_chosen : (f : Face) (c : ℕ) → (browsed_letter def tree changed page f c).chosen ≡ f.chosen
  letter_chosen f c =
      cond_chosen (c == 101) (opened_node def tree f) _ f.chosen refl
      (cond_chosen (c == 111) (in_mode modes.Typing f) _ f.chosen refl
      (cond_chosen (c == 63) (paging page f) _ f.chosen refl
      (cond_chosen (c == 113) (ending changed f) (saying no_key f) f.chosen (ending_chosen changed f) refl)))

  control_chosen : (f : Face) (c : ℕ) → (browsed_control changed f c).chosen ≡ f.chosen
  control_chosen f c =
      cond_chosen (c == 99) (ending changed f) _ f.chosen (ending_chosen changed f)
      (cond_chosen (c == 108) (saying quiet f) (saying no_key f) f.chosen refl refl)

  browsed_chosen : (f : Face) (key : Key) (bytes : List ℕ) → (browsed def tree changed page f key bytes).chosen ≡ f.chosen
  browsed_chosen f keys.Enter bytes = refl
  browsed_chosen f (keys.Char c) bytes = letter_chosen f c
  browsed_chosen f keys.PasteBegins bytes = refl
  browsed_chosen f keys.PasteEnds bytes = refl
  browsed_chosen f (keys.Control c) bytes = control_chosen f c
  browsed_chosen f keys.Unknown bytes = refl
  browsed_chosen f _ bytes = refl

offered_chosen : (f : Face) (spot : Spot) (told : Option Read) → (offered f spot told).chosen ≡ f.chosen
offered_chosen f spot None = refl
offered_chosen f spot (Some (Err refusal)) = refl
offered_chosen f spot (Some (Ok words)) = refl

related_chosen : (front : List (List ℕ)) (f : Face) (told : Option Read) → (related front f told).chosen ≡ f.chosen
related_chosen front f None = refl
related_chosen front f (Some (Err refusal)) = refl
related_chosen front f (Some (Ok lines)) = refl

-- ---- open places

abbrev OptionLeads : Fragment → Option Path → Type 0
OptionLeads f None = Unit {0}
OptionLeads f (Some q) = Leads f q

option_cond : (f : Fragment) (test : Bool) (a b : Option Path) → OptionLeads f a → OptionLeads f b
    → OptionLeads f (cond test a b)
option_cond f true a b x y = x
option_cond f false a b x y = y

first_leads : (f : Fragment) (test : Path → Bool) (ps : List Path) → AllByRecursion (Leads f) ps
    → OptionLeads f (first_with test ps)
first_leads f test [] a = tt
first_leads f test (p ∷ ps) a = option_cond f (test p) (Some p) (first_with test ps) a.0 (first_leads f test ps a.1)

last_leads : (f : Fragment) (test : Path → Bool) (last : Option Path) (ps : List Path) → OptionLeads f last
    → AllByRecursion (Leads f) ps → OptionLeads f (last_with test last ps)
last_leads f test last [] l a = l
last_leads f test last (p ∷ ps) l a =
    last_leads f test (cond (test p) (Some p) last) ps (option_cond f (test p) (Some p) last a.0 l) a.1

got_leads : (f : Fragment) (ps : List Path) (k : ℕ) → AllByRecursion (Leads f) ps → OptionLeads f (slice_get ps k)
got_leads f [] k a = tt
got_leads f (p ∷ ps) zero a = a.0
got_leads f (p ∷ ps) (suc k) a = got_leads f ps k a.1

one_leads : (f : Fragment) (a b : Option Path) (path : Path) → OptionLeads f a → OptionLeads f b → Leads f path
    → Leads f (first_of a b path)
one_leads f (Some q) b path x y z = x
one_leads f None (Some q) path x y z = y
one_leads f None None path x y z = z

module _ (f : Fragment) (proper : IsProper f) where
  next_open_leads : (path : Path) → Leads f path → Leads f (next_open f path)
  next_open_leads path h =
      one_leads f (first_after path (opens f)) (slice_get (opens f) 0) path
      (first_leads f (λ other. is_before path other) (opens f) (opens_lead f proper))
      (got_leads f (opens f) 0 (opens_lead f proper)) h

  previous_open_leads : (path : Path) → Leads f path → Leads f (previous_open f path)
  previous_open_leads path h =
      one_leads f (last_before path (opens f)) (slice_get (opens f) (length (opens f) - 1)) path
      (last_leads f (λ other. is_before other path) None (opens f) tt (opens_lead f proper))
      (got_leads f (opens f) (length (opens f) - 1) (opens_lead f proper)) h

  below_leads : (path : Path) → Leads f path → Leads f (open_below f path)
  below_leads path h =
      one_leads f (first_below path (opens f)) (Some (next_open f path)) path
      (first_leads f (λ other. leads_along path other) (opens f) (opens_lead f proper)) (next_open_leads path h) h

  after_leads : (path : Path) (grown : Option Path) → Leads f (chosen_after f path grown)
  after_leads path None = far_leads f path
  after_leads path (Some grown) = below_leads (as_far f grown) (far_leads f grown)

  by_some : (q path : Path) → Some q ≡ Some path → Leads f q → Leads f path
  by_some q path e h = subst (Leads f) (same_Some q path e) h

  led_leads : (chosen : Path) (key : Key) (path : Path) → led f chosen key ≡ Some path → Leads f chosen → Leads f path
  led_leads chosen keys.Up path e h = by_some (parent_of chosen) path e (parent_leads f chosen h)
  led_leads chosen keys.Down path e h = by_some (to_child f chosen) path e (child_leads f chosen h)
  led_leads chosen keys.Left path e h = by_some (to_previous chosen) path e (previous_leads f chosen h)
  led_leads chosen keys.Right path e h = by_some (to_next f chosen) path e (next_leads f chosen h)
  led_leads chosen keys.Tab path e h = by_some (next_open f chosen) path e (next_open_leads chosen h)
  led_leads chosen keys.BackTab path e h = by_some (previous_open f chosen) path e (previous_open_leads chosen h)
  led_leads chosen keys.Home path e h = by_some [] path e refl
  led_leads chosen _ path e h = absurd (none-some path e)

-- ---- keys that are no command

same_leads : (f : Fragment) (p q : Path) → q ≡ p → Leads f p → Leads f q
same_leads f p q e h = subst (Leads f) (sym e) h

module _ (def : Definition) (kind : Kind) (tree : Fragment) (page : List (List ℕ)) (proper : IsProper tree) (spans : AllLead tree (printed_of def tree).spans) where
  next_wrong_leads : (path : Path) (forward : Bool) (found : Path) (why : Why)
      → IsNextWrong def kind tree page path forward found why → Leads tree found
  next_wrong_leads path forward found why (keyed.blamed r is place i e) =
      each_in (λ (p : Place). Leads tree (place_path p)) place r.places.items (repair_leads def tree r proper is) i
  next_wrong_leads path forward found why (keyed.culprit paths q m u e) =
      each_in (Leads tree) q paths (culprits_lead (IsCompletable def) tree paths proper m)
      (next_in paths path forward q e)

  written_chosen : (d : Desk) (name : Name) (before after : Outside) (e : Desk)
      → IsWritten def kind tree page d name before after e → e.face.chosen ≡ d.face.chosen
  written_chosen d name before after e (keyed.done a b) = refl
  written_chosen d name before after e (keyed.failed a b) = refl

  to_chosen : (d : Desk) (file : Option Name) (before after : Outside) (e : Desk)
      → WritesTo def kind tree page d file before after e → e.face.chosen ≡ d.face.chosen
  to_chosen d None before after e w = ap (λ (x : Desk). x.face.chosen) w.0
  to_chosen d (Some name) before after e w = written_chosen d name before after e w

  if_chosen : (writes : Bool) (d : Desk) (before after : Outside) (e : Desk)
      → WritesIf def kind tree page writes d before after e → e.face.chosen ≡ d.face.chosen
  if_chosen false d before after e w = ap (λ (x : Desk). x.face.chosen) w.0
  if_chosen true d before after e w = to_chosen d d.file before after e w

  writes_chosen : (d : Desk) (before after : Outside) (e : Desk) → Writes def kind tree page d before after e
      → e.face.chosen ≡ d.face.chosen
  writes_chosen d before after e w = if_chosen d.writes d before after e w

  browse_leads : (d : Desk) (before after : Outside) (stroke : Spelled) (e : Desk)
      → Browses def kind tree page d before after stroke e → Leads tree d.face.chosen → Leads tree e.face.chosen
  browse_leads d before after stroke e (keyed.moves {path = path} is same) h =
      led_leads tree proper d.face.chosen stroke.key path is h
  browse_leads d before after stroke e (keyed.pages is same) h =
      page_leads tree (printed_of def tree) spans d.face (is_down stroke.key) h
  browse_leads d before after stroke e (keyed.offers {spot = spot} told is asked same) h =
      same_leads tree d.face.chosen _ (offered_chosen d.face spot told) h
  browse_leads d before after stroke e (keyed.goes_wrong {path = path} {why = why} is wrong next same) h =
      next_wrong_leads d.face.chosen (is_forward stroke.key) path why next
  browse_leads d before after stroke e (keyed.stays r is wrong repair none same) h = h
  browse_leads d before after stroke e (keyed.is_right is right same) h = h
  browse_leads d before after stroke e (keyed.relates front told is asked same) h =
      same_leads tree d.face.chosen _ (related_chosen front d.face told) h
  browse_leads d before after stroke e (keyed.writes is w) h =
      same_leads tree d.face.chosen _ (writes_chosen d before after e w) h
  browse_leads d before after stroke e (keyed.others own no_led no_spot same) h =
      same_leads tree d.face.chosen _ (browsed_chosen def tree _ page d.face stroke.key stroke.bytes) h

  chooses_chosen : (f : Face) (key : Key) (g : Face) → Chooses def kind tree page f key g → g.chosen ≡ f.chosen
  chooses_chosen f key g (keyed.takes told is asked) = refl
  chooses_chosen f key g (keyed.takes_none is) = refl
  chooses_chosen f key g (keyed.picks other) = chosen_chosen f key

  saves_chosen : (d : Desk) (before after : Outside) (key : Key) (e : Desk)
      → Saves def kind tree page d before after key e → e.face.chosen ≡ d.face.chosen
  saves_chosen d before after key e (keyed.types other same) = line_chosen d.face key
  saves_chosen d before after key e (keyed.leaves empty same) = refl
  saves_chosen d before after key e (keyed.asks same there) = refl
  saves_chosen d before after key e (keyed.saves {middle = middle} there w) = written_chosen d _ middle after e w

  replaces_chosen : (d : Desk) (before after : Outside) (key : Key) (e : Desk)
      → Replaces def kind tree page d before after key e → e.face.chosen ≡ d.face.chosen
  replaces_chosen d before after key e (keyed.writes_over w) = written_chosen d _ before after e w
  replaces_chosen d before after key e (keyed.goes_back other same) = refl

  leaves_chosen : (d : Desk) (before after : Outside) (key : Key) (e : Desk)
      → Leaves def kind tree page d before after key e → e.face.chosen ≡ d.face.chosen
  leaves_chosen d before after key e (keyed.ends same) = refl
  leaves_chosen d before after key e (keyed.breaks same) = refl
  leaves_chosen d before after key e (keyed.writes_first w) = writes_chosen d before after e w
  leaves_chosen d before after key e (keyed.stays a b c same) = refl

  face_chosen : (d : Desk) (f : Face) (e : Desk) → e ≡ with_face d f → f.chosen ≡ d.face.chosen
      → e.face.chosen ≡ d.face.chosen
  face_chosen d f e is same = ap (λ (x : Desk). x.face.chosen) is ∙ same

  module _ (d : Desk) (before after : Outside) (stroke : Spelled) (e : Desk) (h : Leads tree d.face.chosen) where
    in_leads : (mode : Mode) → TurnsIn def kind tree page mode d before after stroke e → Leads tree e.face.chosen
    in_leads modes.Browsing t = browse_leads d before after stroke e t h
    in_leads modes.Typing t = same_leads tree _ _ (face_chosen d _ e t.0 (line_chosen d.face stroke.key)) h
    in_leads modes.Choosing t =
        same_leads tree _ _ (face_chosen d t.0 e t.2 (chooses_chosen d.face stroke.key t.0 t.1)) h
    in_leads modes.Naming t = same_leads tree _ _ (face_chosen d _ e t.0 (named_chosen def d.face stroke.key)) h
    in_leads modes.Saving t = same_leads tree _ _ (saves_chosen d before after stroke.key e t) h
    in_leads modes.Replacing t = same_leads tree _ _ (replaces_chosen d before after stroke.key e t) h
    in_leads modes.Paging t = same_leads tree _ _ (face_chosen d _ e t.0 (paged_chosen d.face stroke.key)) h
    in_leads modes.Leaving t = same_leads tree _ _ (leaves_chosen d before after stroke.key e t) h

    turn_leads : (key : Key) → Turns def kind tree page d before after stroke key e → Leads tree e.face.chosen
    turn_leads (keys.Size rows cols) t = same_leads tree _ _ (face_chosen d _ e t.0 refl) h
    turn_leads keys.Unknown t = same_leads tree _ _ (face_chosen d _ e t.0 refl) h
    turn_leads _ t = in_leads d.face.mode t

-- ---- commands

module _ (def : Definition) (IsGood : Fragment → Type 0) (s : State) (answer : Answer) where
  refused_stays : {command : Command} {t : State} {reply : Reply} → Steps def IsGood s answer command t reply
      → IsRefusal reply → t ≡ s
  refused_stays (refuses is) h = refl
  refused_stays (opened_new k mark taken named is_mark) h = absurd h
  refused_stays (changes old mark taken opened makes is_mark) h = absurd h
  refused_stays (undoes old grown rest mark taken opened is is_mark) h = absurd h
  refused_stays (redoes old grown rest mark taken opened is is_mark) h = absurd h
  refused_stays (saves old node k taken opened is of) h = absurd h
  refused_stays (keeps taken is) h = absurd h
  refused_stays (fetches bytes x taken is kept) h = absurd h
  refused_stays (shows old mark taken opened is_mark) h = absurd h
  refused_stays (goes old p k name taken opened written of named) h = absurd h
  refused_stays (screens old taken opened) h = absurd h
  refused_stays (owns old node rows taken opened is rel) h = absurd h
  refused_stays (relates old rows taken opened shown) h = absurd h
  refused_stays (frees old taken opened) h = absurd h
  refused_stays (menus old node p ops names taken opened is wanted menu all) h = absurd h
  refused_stays (suggests old o names taken opened op menu) h = absurd h

opened_same : (s t : State) (kind : Kind) (old new : Fragment) → IsOpened s kind old → IsOpened t kind new → t ≡ s
    → new ≡ old
opened_same s t kind old new a b e =
    ap (λ (o : Opened). o.tree) (same_Some _ _ (sym b ∙ ap (λ (x : State). x.opened) e ∙ a))

module _ (def : Definition) (kind : Kind) (page : List (List ℕ)) (d e : Desk) (s t : State) (old new : Fragment) (stroke : Spelled) (before after : Outside) (at : IsOpened s kind old) (ends : IsOpened t kind new) (proper : IsProper old) (grown_proper : IsProper new) (spans : AllLead old (printed_of def old).spans) (h : Leads old d.face.chosen) where
  unchanged : (x : Desk) → t ≡ s → x.face.chosen ≡ d.face.chosen → Leads new x.face.chosen
  unchanged x stays same =
      subst (λ (f : Fragment). Leads f x.face.chosen) (sym (opened_same s t kind old new at ends stays))
      (same_leads old d.face.chosen x.face.chosen same h)

  replied : (due : Due) (from to : ℕ) (reply : Reply) → HasApplied def s t due.command before after from to reply
      → e ≡ record (with_face d (command_face new d.face due reply)) { versions = versions_after due.command reply d.versions }
      → Leads new e.face.chosen
  replied due from to (refused refusal) applied is =
      unchanged e (refused_stays def (IsCompletable def) s applied.answer applied.steps tt)
      (ap (λ (x : Desk). x.face.chosen) is)
  replied due from to (answered lines) applied is =
      same_leads new _ _ (ap (λ (x : Desk). x.face.chosen) is) (after_leads new grown_proper d.face.chosen due.grown)

  by_undo : (due : Due) (first_one : Bool) → cond first_one
      ((t ≡ s) × (e ≡ with_face d (saying (faces.refused (number_of refusals.NothingEarlier)) d.face)) × (after ≡ before))
      ((from to : ℕ) × (reply : Reply) × HasApplied def s t due.command before after from to reply
      × (e ≡ record (with_face d (command_face new d.face due reply)) { versions = versions_after due.command reply d.versions }))
      → Leads new e.face.chosen
  by_undo due true x = unchanged e x.0 (ap (λ (y : Desk). y.face.chosen) x.1)
  by_undo due false x = replied due x.0 x.1 x.2 x.3 x.4

  pub faced_so : (due : Option Due) → Does def kind page d e s t old new stroke before after due
      → Leads new e.face.chosen
  faced_so None x =
      subst (λ (f : Fragment). Leads f e.face.chosen) (sym (opened_same s t kind old new at ends x.0))
      (turn_leads def kind old page proper spans d before after stroke e h stroke.key x.1)
  faced_so (Some due) x = by_undo due (is_undo due.command && (d.versions == 0)) x
