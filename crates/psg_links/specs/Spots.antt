-- Where the names of a text are, by the tokens and the nodes of its tree.
use Rattle.std.specs.Prelude.{ℕ, ◌≡◌, ◌&&◌, nat_le, Bool, true, false, cond, List, [], ◌∷◌, ◌++◌, Option, Some, None}
use Rattle.std.specs.Prelude.{option_to_list, slice_get, MatchOption}
use Rattle.psg_grammar.specs.declared.types.Definition.{Definition}
use Rattle.psg_grammar.specs.declared.types.Kind.{Kind}
use Rattle.psg_lexis.specs.declared.token.Spanned.{Spanned}
use Rattle.psg_class.specs.Texts.{TextTokens, tokens_of}
use Rattle.psg_class.specs.Yields.{Yields}
use Rattle.psg_ranges.specs.declared.ranges.Range.{Range}
use Rattle.psg_ranges.specs.Forests.{Forest, at_path, first_range, nodes_of, ranges_in}
use Rattle.psg_program.specs.Decoding.{unmarked}
use Rattle.psg_program.specs.Programs.{IsProgram}
use Rattle.psg_uses.specs.declared.names.Written.{Written}
use Rattle.psg_links.specs.declared.link.Link.{Link}
use Rattle.psg_links.specs.declared.page.Page.{Page}
use Rattle.psg_links.specs.declared.spot.Spot.{Spot}
use Rattle.psg_links.specs.declared.linked.Linked.{Linked}
use Rattle.psg_links.specs.Links.{is_together, links_of}

-- The page is a reading of the bytes: their program, with its tokens, the ranges of its nodes and the links of its
-- names. Bytes count after a byte order mark.
pub record IsPage (def : Definition) (kind : Kind) (bytes : List ℕ) (p : Page) : Type 0 where
  pub program : IsProgram def kind bytes p.tree
  pub tokens : TextTokens def (unmarked bytes) p.tokens.items
  pub nesting : ℕ
  pub yields : Yields def p.tree kind 0 nesting (tokens_of p.tokens.items)
  pub nodes : p.ranges.nodes ≡ ranges_in (nodes_of def p.tree kind 0 nesting (tokens_of p.tokens.items) yields)
  pub links : p.links.items ≡ links_of def p.tree

abbrev pub spot_with : Bool → Option Spanned → Option Spot
spot_with declares None = None
spot_with declares (Some t) = Some (record { start = t.start; end = t.end; declares = declares })

abbrev pub token_at : List Spanned → Option ℕ → Option Spanned
token_at tokens None = None
token_at tokens (Some n) = slice_get tokens n

-- the number of the token that is the name of the number of the node
abbrev pub name_token : Option Range → ℕ → Option ℕ
name_token None k = None
name_token (Some r) k = slice_get r.names k

module _ (tokens : List Spanned) (nodes : Forest) where
  -- where the name is
  abbrev pub spot_of : Bool → Written → Option Spot
  spot_of declares w = spot_with declares (token_at tokens (name_token (first_range (at_path nodes w.path)) w.number))

  abbrev pub link_spot : Link → Option Spot
  link_spot l = spot_of l.declares l.name

  abbrev pub declared_spot : Option Written → Option Spot
  declared_spot None = None
  declared_spot (Some d) = spot_of true d

-- the byte is in the token, or at one of its ends
abbrev pub covers : ℕ → Option Spot → Bool
covers byte None = false
covers byte (Some s) = nat_le s.start byte && nat_le byte s.end

module _ (tokens : List Spanned) (nodes : Forest) where
  -- the name at the byte
  abbrev pub link_at : ℕ → List Link → Option Link
  link_at byte [] = None
  link_at byte (l ∷ ls) = cond (covers byte (link_spot tokens nodes l)) (Some l) (link_at byte ls)

  -- it is the name at the byte, and the spot is where it is
  pub record IsCovering (byte : ℕ) (links : List Link) (l : Link) (s : Spot) : Type 0 where
    pub link : link_at byte links ≡ Some l
    pub spot : link_spot tokens nodes l ≡ Some s

  -- where the names are that are together with it
  abbrev pub spots_of : Link → List Link → List Spot
  spots_of w [] = []
  spots_of w (l ∷ ls) = cond (is_together w l) (option_to_list (link_spot tokens nodes l)) [] ++ spots_of w ls

  -- what is said of a name: where it is, where its declaration is, and where the names are that are together with it
  pub record Describes (links : List Link) (l : Link) (a : Linked) : Type 0 where
    pub own : link_spot tokens nodes l ≡ Some a.own
    pub declaration : a.declaration ≡ declared_spot tokens nodes l.declaration
    pub together : a.together.items ≡ spots_of l links

  -- of the name at the byte, if there is one
  abbrev pub IsLinkedAt : List Link → ℕ → Option Linked → Type 0
  IsLinkedAt links byte a = MatchOption a (link_at byte links ≡ None)
      (λ one. (l : Link) × (link_at byte links ≡ Some l) × Describes links l one)
