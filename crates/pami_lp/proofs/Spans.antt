-- A file gives each column the bounds that the bounds of its name set, one after another.
use Rattle.std.proofs.Common.{◌≡◌, ◌<◌, ◌≤◌, ◌||◌, inl, inr, ℕ, Bool, true, false, cond, nat_eq, List, [], ◌∷◌, ◌++◌, length, filter, fold, Option, None, Some, Ok, eq-eqb, refl, sym, ap, subst, ◌∙◌, arith}
use Rattle.std.specs.List.{list_any}
use Rattle.std.specs.Str.{bytes_eq}
use Rattle.std.proofs.lemmas.Bool.{ne_eqb}
use Rattle.pami_frac.specs.Answers.{then as chain}
use Rattle.pami_frac.specs.declared.list.Bounds.{Bounds}
use Rattle.pami_model.specs.declared.list.Column.{Column}
use Rattle.pami_model.specs.Draft.{Draft, changed, column_at, column_with_bounds, place_of}
use Rattle.pami_model.specs.Rules.{names_of_columns}
use Rattle.pami_lp_text.specs.declared.kind.Relation.{Relation}
use Rattle.pami_lp_text.specs.declared.kind.Relation.TheVariants as relations
use Rattle.pami_lp.specs.Gather.{Span, bound_effect, bound_name, column_named, sides_by, span_of, span_set, states}
use Rattle.pami_lp.specs.Grammar.{Bound, Set, From, Between, Freed, way}
use Rattle.pami_lp.specs.Meaning.{left_side, right_side, take_bound, take_bound_of, take_bounds}
use Rattle.pami_lp.specs.Rules.{Bounded, bounded, bounds_set, lowered_set, set_bound, set_free, stand, with_bounds, with_lowered}
use Rattle.pami_lp.specs.Values.{turned, unbounded}
use Rattle.pami_lp.proofs.Chains.{on}
use Rattle.pami_lp.proofs.Columns.{IsPlaced, changed-names, column_here, length_names, look_changed, stood}
use Rattle.pami_lp.proofs.Names.{place_apart, place_within, same}
use Rattle.pami_lp.proofs.Stepped.{ok_same}

-- ---- which columns have a lower bound of their own

abbrev pub among : List ℕ → Option ℕ → Bool
among lowered None = false
among lowered (Some j) = list_any (nat_eq j) lowered

abbrev pub stated : Bounded → List ℕ → Bool
stated s m = among s.lowered (place_of m (names_of_columns s.draft.columns))

any_push : (p : ℕ → Bool) (xs : List ℕ) (y : ℕ) → list_any p (xs ++ y ∷ []) ≡ (list_any p xs || p y)
any_push p [] y = by (p y)
  where
    by : (b : Bool) → (b || false) ≡ (false || b)
    by true = refl
    by false = refl
any_push p (x ∷ xs) y = by (p x) (any_push p xs y)
  where
    by : (b : Bool) → list_any p (xs ++ y ∷ []) ≡ (list_any p xs || p y) → (b || list_any p (xs ++ y ∷ [])) ≡ ((b || list_any p xs) || p y)
    by true e = refl
    by false e = e

or_true : (b : Bool) → (b || true) ≡ true
or_true true = refl
or_true false = refl

or_false : (b : Bool) → (b || false) ≡ b
or_false true = refl
or_false false = refl

-- a number more, and what it says of the others
lowered_here : (j : ℕ) (lowered : List ℕ) → list_any (nat_eq j) (with_lowered j lowered) ≡ true
lowered_here j lowered = by (list_any (nat_eq j) lowered) refl
  where
    by : (b : Bool) → list_any (nat_eq j) lowered ≡ b → list_any (nat_eq j) (cond b lowered (lowered ++ j ∷ [])) ≡ true
    by true e = e
    by false e = any_push (nat_eq j) lowered j ∙ ap (λ (b : Bool). list_any (nat_eq j) lowered || b) (eq-eqb j j refl) ∙ or_true (list_any (nat_eq j) lowered)

lowered_other : (j k : ℕ) (lowered : List ℕ) → nat_eq k j ≡ false → list_any (nat_eq k) (with_lowered j lowered) ≡ list_any (nat_eq k) lowered
lowered_other j k lowered h = by (list_any (nat_eq j) lowered)
  where
    by : (b : Bool) → list_any (nat_eq k) (cond b lowered (lowered ++ j ∷ [])) ≡ list_any (nat_eq k) lowered
    by true = refl
    by false = any_push (nat_eq k) lowered j ∙ ap (λ (b : Bool). list_any (nat_eq k) lowered || b) h ∙ or_false (list_any (nat_eq k) lowered)

-- ---- what a bound makes of the spans

pub record Low (s : Bounded) : Type 0 where
  pub at : (k : ℕ) → length s.draft.columns ≤ k → list_any (nat_eq k) s.lowered ≡ false

pub record SpanIs (s : Bounded) (m : List ℕ) (x : Span) : Type 0 where
  pub bounds : (column_named s.draft.columns m).bounds ≡ x.bounds
  pub stated : stated s m ≡ x.stated

-- of the spans, that of this name changes so
record Moves (s t : Bounded) (n : List ℕ) (f : Span → Span) : Type 0 where
  low : Low t
  spans : (m : List ℕ) (x : Span) → SpanIs s m x → SpanIs t m (cond (bytes_eq m n) (f x) x)

moves_both : (s t u : Bounded) (n : List ℕ) (f g : Span → Span) → Moves s t n f → Moves t u n g → Moves s u n (λ x. g (f x))
moves_both s t u n f g a b = record { low = b.low; spans = λ m x h. by m x (bytes_eq m n) refl (b.spans m (cond (bytes_eq m n) (f x) x) (a.spans m x h)) }
  where
    by : (m : List ℕ) (x : Span) (c : Bool) → bytes_eq m n ≡ c
        → SpanIs u m (cond (bytes_eq m n) (g (cond (bytes_eq m n) (f x) x)) (cond (bytes_eq m n) (f x) x)) → SpanIs u m (cond (bytes_eq m n) (g (f x)) x)
    by m x true e h =
        subst (λ (c : Bool). SpanIs u m (cond c (g (f x)) x)) (sym e) (subst (λ (c : Bool). SpanIs u m (cond c (g (cond c (f x) x)) (cond c (f x) x))) e h)
    by m x false e h =
        subst (λ (c : Bool). SpanIs u m (cond c (g (f x)) x)) (sym e) (subst (λ (c : Bool). SpanIs u m (cond c (g (cond c (f x) x)) (cond c (f x) x))) e h)

-- a name stands
stand_moves : (s : Bounded) (n : List ℕ) (p : Draft × ℕ) → Low s → stand s.draft n ≡ Ok p → Moves s (bounded p.0 s.lowered) n (λ x. x)
stand_moves s n p low h =
    let o = stood s.draft n p h in
    record {
      low = record { at = λ k le. low.at k (omega (arith, le, o.longer)) };
      spans = λ m x k. same_span m x (record { bounds = ap (λ (c : Column). c.bounds) (o.looks m) ∙ k.bounds; stated = kept m (o.places m) ∙ k.stated });
    }
  where
    same_span : (m : List ℕ) (x : Span) → SpanIs (bounded p.0 s.lowered) m x → SpanIs (bounded p.0 s.lowered) m (cond (bytes_eq m n) x x)
    same_span m x k = go (bytes_eq m n)
      where
        go : (b : Bool) → SpanIs (bounded p.0 s.lowered) m (cond b x x)
        go true = k
        go false = k

    -- a name behind the others has no lower bound of its own
    kept : (m : List ℕ) → IsPlaced s.draft.columns p.0.columns m → stated (bounded p.0 s.lowered) m ≡ stated s m
    kept m (inl e) = ap (λ (o : Option ℕ). among s.lowered o) e
    kept m (inr e) =
        ap (λ (o : Option ℕ). among s.lowered o) e.1 ∙ low.at (length s.draft.columns) (omega arith) ∙ ap (λ (o : Option ℕ). among s.lowered o) (sym e.0)

-- ---- a side is set

-- the numbers behind a change of those with a lower bound: the number itself, and the others
record Lowers (old new : List ℕ) (j : ℕ) (was now : Bool) : Type 0 where
  here : list_any (nat_eq j) old ≡ was → list_any (nat_eq j) new ≡ now
  other : (k : ℕ) → nat_eq k j ≡ false → list_any (nat_eq k) new ≡ list_any (nat_eq k) old

lowers : (r : Relation) (j : ℕ) (old : List ℕ) (was : Bool) → Lowers old (lowered_set r j old) j was (states r was)
lowers relations.AtMost j old was = record { here = λ e. e; other = λ k e. refl }
lowers relations.AtLeast j old was = record { here = λ e. lowered_here j old; other = λ k e. lowered_other j k old e }
lowers relations.Equal j old was = record { here = λ e. lowered_here j old; other = λ k e. lowered_other j k old e }

module _ (s : Bounded) (n : List ℕ) (j : ℕ) (place : place_of n (names_of_columns s.draft.columns) ≡ Some j) (b : Bounds) (new : List ℕ) (f : Span → Span)
    (is_bounds : (x : Span) → SpanIs s n x → b ≡ (f x).bounds) (low : Low s)
    (changes : (x : Span) → SpanIs s n x → Lowers s.lowered new j x.stated (f x).stated)
    (others : (k : ℕ) → nat_eq k j ≡ false → list_any (nat_eq k) new ≡ list_any (nat_eq k) s.lowered) where
  abbrev after : Bounded
  after = bounded (with_bounds j b s.draft) new

  names : names_of_columns (changed j (column_with_bounds b) s.draft.columns) ≡ names_of_columns s.draft.columns
  names = changed-names s.draft.columns j (column_with_bounds b) (λ c. refl)

  counted : length (changed j (column_with_bounds b) s.draft.columns) ≡ length s.draft.columns
  counted = sym (length_names (changed j (column_with_bounds b) s.draft.columns)) ∙ ap length names ∙ length_names s.draft.columns

  still_low : Low (bounded (with_bounds j b s.draft) new)
  still_low = record { at = λ k le. others k (apart k le) ∙ low.at k (omega (arith, le, counted)) }
    where
      within : j < length s.draft.columns
      within =
          let w : j < length (names_of_columns s.draft.columns) =
          place_within n (names_of_columns s.draft.columns) j place in omega (arith, w, length_names s.draft.columns)

      apart : (k : ℕ) → length (changed j (column_with_bounds b) s.draft.columns) ≤ k → nat_eq k j ≡ false
      apart k le = ne_eqb k j (λ e. absurd (omega (arith, le, counted, within, e)))

  set_moves : Moves s (bounded (with_bounds j b s.draft) new) n f
  set_moves = record { low = still_low; spans = λ m x h. by m x (bytes_eq m n) refl h }
    where
      at : (m : List ℕ) (c : Bool) → bytes_eq m n ≡ c
          → (column_named (changed j (column_with_bounds b) s.draft.columns) m).bounds
          ≡ (cond c (column_with_bounds b (column_named s.draft.columns m)) (column_named s.draft.columns m)).bounds
      at m c e =
          ap (λ (x : Column). x.bounds) (look_changed s.draft.columns n j (column_with_bounds b) (λ c. refl) place m)
          ∙ ap (λ (c : Bool). (cond c (column_with_bounds b (column_named s.draft.columns m)) (column_named s.draft.columns m)).bounds) e

      away : (m : List ℕ) → bytes_eq m n ≡ false → (o : Option ℕ) → place_of m (names_of_columns s.draft.columns) ≡ o → among new o ≡ among s.lowered o
      away m e None g = refl
      away m e (Some k) g = others k (place_apart m n (names_of_columns s.draft.columns) j k e place g)

      by : (m : List ℕ) (x : Span) (c : Bool) → bytes_eq m n ≡ c → SpanIs s m x → SpanIs (bounded (with_bounds j b s.draft) new) m (cond (bytes_eq m n) (f x) x)
      by m x true e h =
          let here : SpanIs s n x = subst (λ (z : List ℕ). SpanIs s z x) (same m n e) h in
          subst (λ (c : Bool). SpanIs (bounded (with_bounds j b s.draft) new) m (cond c (f x) x)) (sym e)
          (record {
            bounds = at m true e ∙ is_bounds x here;
            stated =
                ap (λ (ns : List (List ℕ)). among new (place_of m ns)) names
                ∙ ap (λ (z : List ℕ). among new (place_of z (names_of_columns s.draft.columns))) (same m n e) ∙ ap (λ (o : Option ℕ). among new o) place
                ∙ (changes x here).here (ap (λ (o : Option ℕ). among s.lowered o) (sym place) ∙ here.stated);
          })
      by m x false e h =
          subst (λ (c : Bool). SpanIs (bounded (with_bounds j b s.draft) new) m (cond c (f x) x)) (sym e)
          (record {
            bounds = at m false e ∙ h.bounds;
            stated = ap (λ (ns : List (List ℕ)). among new (place_of m ns)) names ∙ away m e (place_of m (names_of_columns s.draft.columns)) refl ∙ h.stated;
          })

-- ---- bounds, one after another

set_by : (r : Relation) (j : ℕ) (sides : Bounds) (s : Bounded) (n : List ℕ) → Low s → place_of n (names_of_columns s.draft.columns) ≡ Some j
    → Moves s (set_bound r j sides s) n (span_set r sides)
set_by r j sides s n low place =
    set_moves s n j place (bounds_set r (list_any (nat_eq j) s.lowered) (column_at s.draft.columns j).bounds sides) (lowered_set r j s.lowered)
    (span_set r sides)
    (λ x h. ap (λ (w : Bool). bounds_set r w (column_at s.draft.columns j).bounds sides) (ap (λ (o : Option ℕ). among s.lowered o) (sym place) ∙ h.stated)
    ∙ ap (λ (b : Bounds). bounds_set r x.stated b sides) (ap (λ (c : Column). c.bounds) (column_here s.draft.columns n j place) ∙ h.bounds))
    low (λ x h. lowers r j s.lowered x.stated) (λ k e. (lowers r j s.lowered false).other k e)

free_by : (j : ℕ) (s : Bounded) (n : List ℕ) → Low s → place_of n (names_of_columns s.draft.columns) ≡ Some j
    → Moves s (set_free j s) n (λ x. record { bounds = unbounded; stated = true })
free_by j s n low place =
    set_moves s n j place unbounded (with_lowered j s.lowered) (λ x. record { bounds = unbounded; stated = true }) (λ x h. refl) low
    (λ x h. record { here = λ e. lowered_here j s.lowered; other = λ k e. lowered_other j k s.lowered e }) (λ k e. lowered_other j k s.lowered e)

named_set : (s : Bounded) (n : List ℕ) (p : Draft × ℕ) (r : Relation) (sides more : Bounds) → Low s → stand s.draft n ≡ Ok p → sides ≡ more
    → Moves s (set_bound r p.1 sides (bounded p.0 s.lowered)) n (span_set r more)
named_set s n p r sides more low h e =
    let a = stand_moves s n p low h in
    subst (λ (b : Bounds). Moves s (set_bound r p.1 sides (bounded p.0 s.lowered)) n (span_set r b)) e
    (moves_both s (bounded p.0 s.lowered) (set_bound r p.1 sides (bounded p.0 s.lowered)) n (λ x. x) (span_set r sides) a
    (set_by r p.1 sides (bounded p.0 s.lowered) n a.low (stood s.draft n p h).place))

moves_to : (s t u : Bounded) (n : List ℕ) (f : Span → Span) → t ≡ u → Moves s t n f → Moves s u n f
moves_to s t u n f e m = subst (λ (x : Bounded). Moves s x n f) e m

bound_moves : (b : Bound) (s t : Bounded) → Low s → take_bound b s ≡ Ok t → Moves s t (bound_name b) (bound_effect b)
bound_moves (Set name r v) s t low h =
    let a = on (stand s.draft name) (λ p. chain (right_side r v unbounded) (λ sides. Ok (set_bound r p.1 sides (bounded p.0 s.lowered)))) t h in
    let b = on (right_side r v unbounded) (λ sides. Ok (set_bound r a.value.1 sides (bounded a.value.0 s.lowered))) t a.then in
    moves_to s (set_bound r a.value.1 b.value (bounded a.value.0 s.lowered)) t name (bound_effect (Set name r v)) (ok_same b.then)
    (named_set s name a.value r b.value (sides_by (right_side r v unbounded)) low a.is (sym (ap sides_by b.is)))
bound_moves (From v r name) s t low h =
    let a = on (left_side v r unbounded) (λ sides. chain (take_bound_of name (turned r) sides s) (λ p. Ok p.0)) t h in
    let b = on (take_bound_of name (turned r) a.value s) (λ p. Ok p.0) t a.then in
    let c = on (stand s.draft name) (λ p. Ok (set_bound (turned r) p.1 a.value (bounded p.0 s.lowered), p.1)) b.value b.is in
    moves_to s (set_bound (turned r) c.value.1 a.value (bounded c.value.0 s.lowered)) t name (bound_effect (From v r name))
    (ap (λ (q : Bounded × ℕ). q.0) (ok_same c.then) ∙ ok_same b.then)
    (named_set s name c.value (turned r) a.value (sides_by (left_side v r unbounded)) low c.is (sym (ap sides_by a.is)))
bound_moves (Between v w name u) s t low h =
    let a =
    on (left_side v (way w) unbounded)
    (λ sides. chain (take_bound_of name (turned (way w)) sides s)
    (λ p. chain (right_side (way w) u unbounded) (λ sides. Ok (set_bound (way w) p.1 sides p.0)))) t h in
    let b =
    on (take_bound_of name (turned (way w)) a.value s) (λ p. chain (right_side (way w) u unbounded) (λ sides. Ok (set_bound (way w) p.1 sides p.0))) t a.then in
    let c = on (stand s.draft name) (λ p. Ok (set_bound (turned (way w)) p.1 a.value (bounded p.0 s.lowered), p.1)) b.value b.is in
    let d = on (right_side (way w) u unbounded) (λ sides. Ok (set_bound (way w) b.value.1 sides b.value.0)) t b.then in
    let mid : Bounded = set_bound (turned (way w)) c.value.1 a.value (bounded c.value.0 s.lowered) in
    let e : set_bound (turned (way w)) c.value.1 a.value (bounded c.value.0 s.lowered) ≡ b.value.0 = ap (λ (q : Bounded × ℕ). q.0) (ok_same c.then) in
    let k : c.value.1 ≡ b.value.1 = ap (λ (q : Bounded × ℕ). q.1) (ok_same c.then) in
    let first = named_set s name c.value (turned (way w)) a.value (sides_by (left_side v (way w) unbounded)) low c.is (sym (ap sides_by a.is)) in
    let place : place_of name (names_of_columns (set_bound (turned (way w)) c.value.1 a.value (bounded c.value.0 s.lowered)).draft.columns) ≡ Some c.value.1 =
    ap (λ (ns : List (List ℕ)). place_of name ns) (changed-names c.value.0.columns c.value.1 (column_with_bounds _) (λ c. refl))
    ∙ (stood s.draft name c.value c.is).place in
    let second = set_by (way w) c.value.1 d.value (set_bound (turned (way w)) c.value.1 a.value (bounded c.value.0 s.lowered)) name first.low place in
    moves_to s (set_bound (way w) c.value.1 d.value (set_bound (turned (way w)) c.value.1 a.value (bounded c.value.0 s.lowered))) t name
    (bound_effect (Between v w name u))
    (ap (λ (x : Bounded). set_bound (way w) c.value.1 d.value x) e ∙ ap (λ (i : ℕ). set_bound (way w) i d.value b.value.0) k ∙ ok_same d.then)
    (subst (λ (sides : Bounds). Moves s
    (set_bound (way w) c.value.1 d.value (set_bound (turned (way w)) c.value.1 a.value (bounded c.value.0 s.lowered))) name
    (λ x. span_set (way w) sides (span_set (turned (way w)) (sides_by (left_side v (way w) unbounded)) x))) (sym (ap sides_by d.is))
    (moves_both s (set_bound (turned (way w)) c.value.1 a.value (bounded c.value.0 s.lowered))
    (set_bound (way w) c.value.1 d.value (set_bound (turned (way w)) c.value.1 a.value (bounded c.value.0 s.lowered))) name
    (span_set (turned (way w)) (sides_by (left_side v (way w) unbounded))) (span_set (way w) d.value) first second))
bound_moves (Freed name) s t low h =
    let a = on (stand s.draft name) (λ p. Ok (set_free p.1 (bounded p.0 s.lowered))) t h in
    let b = stand_moves s name a.value low a.is in
    moves_to s (set_free a.value.1 (bounded a.value.0 s.lowered)) t name (bound_effect (Freed name)) (ok_same a.then)
    (moves_both s (bounded a.value.0 s.lowered) (set_free a.value.1 (bounded a.value.0 s.lowered)) name (λ x. x)
    (λ x. record { bounds = unbounded; stated = true }) b (free_by a.value.1 (bounded a.value.0 s.lowered) name b.low (stood s.draft name a.value a.is).place))

-- the span of a name behind bounds
pub bounds_move : (bs : List Bound) (s t : Bounded) → Low s → take_bounds bs s ≡ Ok t → (m : List ℕ) (x : Span) → SpanIs s m x → SpanIs t m (span_of m x bs)
bounds_move [] s t low h m x k = subst (λ (y : Bounded). SpanIs y m x) (ok_same h) k
bounds_move (b ∷ bs) s t low h m x k =
    let a = on (take_bound b s) (λ s. take_bounds bs s) t h in
    let v = bound_moves b s a.value low a.is in
    by (bytes_eq m (bound_name b)) (bounds_move bs a.value t v.low a.then m (cond (bytes_eq m (bound_name b)) (bound_effect b x) x) (v.spans m x k))
  where
    by : (c : Bool) → SpanIs t m (span_of m (cond c (bound_effect b x) x) bs)
        → SpanIs t m (fold (λ (y : Span) (z : Bound). bound_effect z y) x
        (cond c (b ∷ filter (λ (z : Bound). bytes_eq m (bound_name z)) bs) (filter (λ (z : Bound). bytes_eq m (bound_name z)) bs)))
    by true g = g
    by false g = g
