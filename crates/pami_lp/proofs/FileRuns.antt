-- The bounds of the grammar, run over their items, give what they give; and so does a whole file.
use Rattle.std.proofs.Common.{◌≡◌, ℕ, Bool, true, false, true≢false, cond, List, [], ◌∷◌, Option, None, Some, Result, Ok, refl, sym, ◌∙◌}
use Rattle.pami_frac.specs.declared.list.Bounds.{Bounds}
use Rattle.pami_frac.specs.Answers.{then as chain}
use Rattle.pami_model.specs.declared.fault.FileKind.{FileKind}
use Rattle.pami_model.specs.Draft.{Draft, empty_draft}
use Rattle.pami_lp_text.specs.declared.kind.Relation.{Relation}
use Rattle.pami_lp_text.specs.declared.kind.Relation.TheVariants as relations
use Rattle.pami_lp_text.specs.declared.kind.Class.{Class}
use Rattle.pami_lp_text.specs.declared.kind.Class.TheVariants as classes
use Rattle.pami_lp.specs.declared.kind.Place.TheVariants as places
use Rattle.pami_lp.specs.declared.kind.Role.TheVariants as roles
use Rattle.pami_lp.specs.declared.kind.Move.{Move}
use Rattle.pami_lp.specs.Moves.{to}
use Rattle.pami_lp.specs.Values.{read_side, turned, unbounded}
use Rattle.pami_lp.specs.Rules.{Bounded, bounded, set_bound, set_free, stand}
use Rattle.pami_lp.specs.Acts.{set_side}
use Rattle.pami_lp.specs.Run.{done, start}
use Rattle.pami_lp.specs.Grammar.{Item, item, mark, head, Turn, Plus, Minus, signs, Size, Number, Infinity, size, Value, value, Way, Below, Above, way, rows, Bound, Set, From, Between, Freed, bound, bounds, ending, File, file, agrees, IsClosedFile}
use Rattle.pami_lp.specs.Meaning.{negated, text_of, right_side, left_side, take_rows, take_goal, take_label, take_bound_of, take_bound, take_bounds, take_section, draft_of}
use Rattle.pami_lp.proofs.Items.{go, runs, one, three_by, chain_then, chain_same, state, onward, resting, bounding, with_sides, Stays, signs_run}
use Rattle.pami_lp.proofs.RowRuns.{rows_run}
use Rattle.pami_lp.proofs.GoalRuns.{objective}

bound_stays : Stays places.BoundSigned
bound_stays Plus n k c rest = refl
bound_stays Minus n k c rest = refl

bound_right_stays : (r : Relation) → Stays (places.BoundValue r)
bound_right_stays r Plus n k c rest = refl
bound_right_stays r Minus n k c rest = refl

-- between bounds, and behind the last column
abbrev settled : Bounded → Option ℕ → List Item → Result Draft FileKind
settled s column rest = onward places.BoundHead (bounding s column) rest

value_right : (v : Value) (r : Relation) (j : ℕ) (s : Bounded) (rest : List Item)
    → onward (places.BoundValue r) (bounding s (Some j)) (value v rest) ≡ chain (right_side r v unbounded) (λ sides. settled (set_bound r j sides s) (Some j) rest)
value_right v r j s rest = signs_run (places.BoundValue r) (bound_right_stays r) v.turns false None (bounding s (Some j)) _ ∙ by v.size
  where
    by : (z : Size) → runs (state (places.BoundValue r) (negated false v.turns) None (bounding s (Some j))) (size z ∷ rest) ≡ chain (read_side (text_of z) (negated false v.turns) r unbounded) (λ sides. settled (set_bound r j sides s) (Some j) rest)
    by (Number text) = one (read_side text (negated false v.turns) r unbounded) (λ sides. record (state (places.BoundValue r) false None (bounding (set_bound r j sides s) (Some j))) { sides = unbounded }) (λ s. Ok (record s { place = places.BoundHead })) (λ s. runs s rest)
    by (Infinity text) = one (read_side text (negated false v.turns) r unbounded) (λ sides. record (state (places.BoundValue r) false None (bounding (set_bound r j sides s) (Some j))) { sides = unbounded }) (λ s. Ok (record s { place = places.BoundHead })) (λ s. runs s rest)

size_BoundSigned : (z : Size) (n : Bool) (r : Relation) (s : Bounded) (column : Option ℕ) (rest : List Item)
    → runs (state places.BoundSigned n None (bounding s column)) (size z ∷ mark (classes.Relation r) ∷ rest) ≡ chain (read_side (text_of z) n (turned r) unbounded) (λ sides. onward (places.BoundName r) (with_sides sides (bounding s column)) rest)
size_BoundSigned (Number text) n r s column rest = one (read_side text n (turned r) unbounded) (λ sides. record (state places.BoundSigned n None (bounding s column)) { sides = sides; negative = false }) (λ s. Ok (record s { place = places.BoundLeft })) (λ s. runs s (mark (classes.Relation r) ∷ rest))
size_BoundSigned (Infinity text) n r s column rest = one (read_side text n (turned r) unbounded) (λ sides. record (state places.BoundSigned n None (bounding s column)) { sides = sides; negative = false }) (λ s. Ok (record s { place = places.BoundLeft })) (λ s. runs s (mark (classes.Relation r) ∷ rest))

size_BoundHead : (z : Size) (n : Bool) (r : Relation) (s : Bounded) (column : Option ℕ) (rest : List Item)
    → runs (state places.BoundHead n None (bounding s column)) (size z ∷ mark (classes.Relation r) ∷ rest) ≡ chain (read_side (text_of z) n (turned r) unbounded) (λ sides. onward (places.BoundName r) (with_sides sides (bounding s column)) rest)
size_BoundHead (Number text) n r s column rest = one (read_side text n (turned r) unbounded) (λ sides. record (state places.BoundHead n None (bounding s column)) { sides = sides; negative = false }) (λ s. Ok (record s { place = places.BoundLeft })) (λ s. runs s (mark (classes.Relation r) ∷ rest))
size_BoundHead (Infinity text) n r s column rest = one (read_side text n (turned r) unbounded) (λ sides. record (state places.BoundHead n None (bounding s column)) { sides = sides; negative = false }) (λ s. Ok (record s { place = places.BoundLeft })) (λ s. runs s (mark (classes.Relation r) ∷ rest))

value_left : (v : Value) (r : Relation) (s : Bounded) (column : Option ℕ) (rest : List Item)
    → settled s column (value v (mark (classes.Relation r) ∷ rest)) ≡ chain (left_side v r unbounded) (λ sides. onward (places.BoundName r) (with_sides sides (bounding s column)) rest)
value_left v r s column rest = by v.turns
  where
    by : (ts : List Turn) → settled s column (signs ts (size v.size ∷ mark (classes.Relation r) ∷ rest)) ≡ chain (read_side (text_of v.size) (negated false ts) (turned r) unbounded) (λ sides. onward (places.BoundName r) (with_sides sides (bounding s column)) rest)
    by [] = size_BoundHead v.size false r s column rest
    by (Plus ∷ ts) = signs_run places.BoundSigned bound_stays ts false None (bounding s column) _ ∙ size_BoundSigned v.size (negated false ts) r s column rest
    by (Minus ∷ ts) = signs_run places.BoundSigned bound_stays ts true None (bounding s column) _ ∙ size_BoundSigned v.size (negated true ts) r s column rest

-- the name behind a left value, where a bound goes on and where it doesn't
abbrev behind_name : Bool → Relation → Bounded → ℕ → List Item → Result Draft FileKind
behind_name b r s j rest = cond b (onward places.BoundAgain (bounding s (Some j)) rest) (settled s (Some j) rest)

abbrev named_to : Bool → Relation → Option Move
named_to b r = cond b (to (roles.BoundName r) places.BoundAgain) (to (roles.BoundName r) places.BoundHead)

name_left : (name : List ℕ) (r : Relation) (sides : Bounds) (s : Bounded) (column : Option ℕ) (rest : List Item)
    → onward (places.BoundName r) (with_sides sides (bounding s column)) (item classes.Name name ∷ rest) ≡ chain (take_bound_of name (turned r) sides s) (λ p. behind_name (agrees r (head rest)) r p.0 p.1 rest)
name_left name r sides s column rest = by (agrees r (head rest))
  where
    by : (b : Bool) → go (done (named_to b r) (state (places.BoundName r) false None (with_sides sides (bounding s column))) classes.Name name) (λ s. runs s rest)
        ≡ chain (take_bound_of name (turned r) sides s) (λ p. behind_name b r p.0 p.1 rest)
    by true =
        three_by (stand s.draft name) (λ p. record (state (places.BoundName r) false None (with_sides sides (bounding s column))) { draft = p.0; column = Some p.1 }) (λ x. Ok (set_side (turned r) x)) (λ x. Ok (record x { place = places.BoundAgain })) (λ x. runs x rest)
        ∙ sym (chain_then (stand s.draft name) (λ p. Ok (set_bound (turned r) p.1 sides (bounded p.0 s.lowered), p.1)) (λ p. behind_name true r p.0 p.1 rest))
    by false =
        three_by (stand s.draft name) (λ p. record (state (places.BoundName r) false None (with_sides sides (bounding s column))) { draft = p.0; column = Some p.1 }) (λ x. Ok (set_side (turned r) x)) (λ x. Ok (record x { place = places.BoundHead })) (λ x. runs x rest)
        ∙ sym (chain_then (stand s.draft name) (λ p. Ok (set_bound (turned r) p.1 sides (bounded p.0 s.lowered), p.1)) (λ p. behind_name false r p.0 p.1 rest))

column_named : (name : List ℕ) (s : Bounded) (column : Option ℕ) (rest : List Item) → settled s column (item classes.Name name ∷ rest) ≡ chain (stand s.draft name) (λ p. onward places.BoundColumn (bounding (bounded p.0 s.lowered) (Some p.1)) rest)
column_named name s column rest =
    one (stand s.draft name) (λ p. record (state places.BoundHead false None (bounding s column)) { draft = p.0; column = Some p.1 }) (λ x. Ok (record x { place = places.BoundColumn })) (λ x. runs x rest)

-- what stands behind a bound doesn't go on with it
abbrev is_relation : Class → Bool
is_relation (classes.Relation q) = true
is_relation k = false

no_relation : (c : Class) (r : Relation) → is_relation c ≡ false → agrees r c ≡ false
no_relation (classes.Relation q) r h = absurd (true≢false h)
no_relation k relations.AtMost h = refl
no_relation k relations.AtLeast h = refl
no_relation k relations.Equal h = refl

again : (w : Way) (s : Bounded) (j : ℕ) (rest : List Item) → behind_name (agrees (way w) (classes.Relation (way w))) (way w) s j (mark (classes.Relation (way w)) ∷ rest) ≡ onward (places.BoundValue (way w)) (bounding s (Some j)) rest
again Below s j rest = refl
again Above s j rest = refl

once : (r : Relation) (s : Bounded) (j : ℕ) (rest : List Item) → is_relation (head rest) ≡ false → behind_name (agrees r (head rest)) r s j rest ≡ settled s (Some j) rest
once r s j rest h = let e : agrees r (head rest) ≡ false = no_relation (head rest) r h in rw e refl

module _ (rest : List Item) (h : is_relation (head rest) ≡ false) (f : Bounded → Result Draft FileKind) (g : (t : Bounded) (j : Option ℕ) → settled t j rest ≡ f t) where
  set_then : (v : Value) (r : Relation) (j : ℕ) (s : Bounded) → onward (places.BoundValue r) (bounding s (Some j)) (value v rest) ≡ chain (chain (right_side r v unbounded) (λ sides. Ok (set_bound r j sides s))) f
  set_then v r j s =
      value_right v r j s rest ∙ chain_same (right_side r v unbounded) _ _ (λ sides. g (set_bound r j sides s) (Some j))
      ∙ sym (chain_then (right_side r v unbounded) (λ sides. Ok (set_bound r j sides s)) f)

  bound_run : (b : Bound) (s : Bounded) (column : Option ℕ) → settled s column (bound b rest) ≡ chain (take_bound b s) f
  bound_run (Set name r v) s column =
      column_named name s column (mark (classes.Relation r) ∷ value v rest)
      ∙ chain_same (stand s.draft name) _ _ (λ p. set_then v r p.1 (bounded p.0 s.lowered))
      ∙ sym (chain_then (stand s.draft name) (λ p. chain (right_side r v unbounded) (λ sides. Ok (set_bound r p.1 sides (bounded p.0 s.lowered)))) f)
  bound_run (From v r name) s column =
      value_left v r s column (item classes.Name name ∷ rest)
      ∙ chain_same (left_side v r unbounded) _ _ (λ sides.
      name_left name r sides s column rest
      ∙ chain_same (take_bound_of name (turned r) sides s) _ _ (λ p. once r p.0 p.1 rest h ∙ g p.0 (Some p.1))
      ∙ sym (chain_then (take_bound_of name (turned r) sides s) (λ p. Ok p.0) f))
      ∙ sym (chain_then (left_side v r unbounded) (λ sides. chain (take_bound_of name (turned r) sides s) (λ p. Ok p.0)) f)
  bound_run (Between v w name u) s column =
      value_left v (way w) s column (item classes.Name name ∷ mark (classes.Relation (way w)) ∷ value u rest)
      ∙ chain_same (left_side v (way w) unbounded) _ _ (λ sides.
      name_left name (way w) sides s column (mark (classes.Relation (way w)) ∷ value u rest)
      ∙ chain_same (take_bound_of name (turned (way w)) sides s) _ _ (λ p. again w p.0 p.1 (value u rest) ∙ set_then u (way w) p.1 p.0)
      ∙ sym (chain_then (take_bound_of name (turned (way w)) sides s) (λ p. chain (right_side (way w) u unbounded) (λ sides. Ok (set_bound (way w) p.1 sides p.0))) f))
      ∙ sym (chain_then (left_side v (way w) unbounded) (λ sides. chain (take_bound_of name (turned (way w)) sides s) (λ p. chain (right_side (way w) u unbounded) (λ sides. Ok (set_bound (way w) p.1 sides p.0)))) f)
  bound_run (Freed name) s column =
      column_named name s column (mark classes.Free ∷ rest)
      ∙ chain_same (stand s.draft name) _ _ (λ p. g (set_free p.1 (bounded p.0 s.lowered)) (Some p.1))
      ∙ sym (chain_then (stand s.draft name) (λ p. Ok (set_free p.1 (bounded p.0 s.lowered))) f)

value_head : (ts : List Turn) (z : Size) (rest : List Item) → is_relation (head (signs ts (size z ∷ rest))) ≡ false
value_head [] (Number text) rest = refl
value_head [] (Infinity text) rest = refl
value_head (Plus ∷ ts) z rest = refl
value_head (Minus ∷ ts) z rest = refl

bounds_head : (bs : List Bound) (rest : List Item) → is_relation (head (bounds bs (mark classes.End ∷ rest))) ≡ false
bounds_head [] rest = refl
bounds_head (Set name r v ∷ bs) rest = refl
bounds_head (From v r name ∷ bs) rest = value_head v.turns v.size _
bounds_head (Between v w name u ∷ bs) rest = value_head v.turns v.size _
bounds_head (Freed name ∷ bs) rest = refl

bounds_run : (bs : List Bound) (s : Bounded) (column : Option ℕ) (rest : List Item) → settled s column (bounds bs (mark classes.End ∷ rest)) ≡ chain (take_bounds bs s) (λ s. Ok s.draft)
bounds_run [] s column rest = refl
bounds_run (b ∷ bs) s column rest =
    bound_run (bounds bs (mark classes.End ∷ rest)) (bounds_head bs rest) (λ t. chain (take_bounds bs t) (λ s. Ok s.draft)) (λ t j. bounds_run bs t j rest) b s column
    ∙ sym (chain_then (take_bound b s) (λ t. take_bounds bs t) (λ s. Ok s.draft))

-- ---- files

section_run : (bs : Option (List Bound)) (d : Draft) (rest : List Item) → onward places.RowHead (resting d) (ending bs rest) ≡ take_section bs d
section_run None d rest = refl
section_run (Some bs) d rest = bounds_run bs (bounded d []) None rest

-- a file of the grammar gives, token by token, what it gives
pub file_run : (f : File) (rest : List Item) → IsClosedFile f rest → runs start (file f rest) ≡ draft_of f
file_run f rest h =
    objective f.label f.goal f.second (resting (record empty_draft { sense = f.sense })) (rows f.rows (ending f.bounds rest))
    ∙ chain_same (take_label f.label (record empty_draft { sense = f.sense })) _ _ (λ d. chain_same (take_goal f.goal d) _ _ (λ e.
    rows_run f.rows e (ending f.bounds rest) h ∙ chain_same (take_rows f.rows e) _ _ (λ t. section_run f.bounds t rest)))
