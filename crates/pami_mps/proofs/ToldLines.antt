-- One value of a line of RHS, RANGES or BOUNDS at the row or the column that it names, and two values on one line.
use Rattle.std.proofs.Common.{◌≡◌, ◌<◌, ℕ, true, List, [], ◌∷◌, length, set, get_or, Option, None, Some, Result, Ok, Err, sym, ap, subst, ◌∙◌}
use Rattle.std.specs.Prelude.{OnOk}
use Rattle.pami_frac.specs.declared.fault.Fault.{Fault}
use Rattle.pami_frac.specs.Answers.{Follows}
use Rattle.pami_frac.specs.declared.bound.BoundValue.{BoundValue}
use Rattle.pami_frac.specs.declared.list.Bounds.{Bounds}
use Rattle.pami_model.specs.declared.fault.FileKind.{FileKind}
use Rattle.pami_model.specs.Draft.{Draft, changed, row_with_bounds, column_with_bounds}
use Rattle.pami_model.specs.Judgement.{first_of}
use Rattle.pami_model.proofs.Judging.{later}
use Rattle.pami_mps.specs.declared.kind.LimitKind.{LimitKind}
use Rattle.pami_mps.specs.declared.kind.Told.{Told}
use Rattle.pami_mps.specs.declared.kind.Sides.{Sides}
use Rattle.pami_mps.specs.Gather.{Role, Kept, Objective, Dropped}
use Rattle.pami_mps.specs.Rows.{plain_bounds, bounds_with, bound_by}
use Rattle.pami_mps.specs.Limits.{effect, unstated}
use Rattle.pami_mps.specs.Seen.{Seen}
use Rattle.pami_mps.specs.After.{role_for, told_at, sides_at, untold, with_told, with_right, with_range, with_sides, right_as, range_as, with_value, with_ranged}
use Rattle.pami_mps.specs.Reader.{IsEven}
use Rattle.pami_mps.proofs.Changed.{length_changed}
use Rattle.pami_mps.proofs.Places.{changed_set, at_any}

module _ (s : Seen) where
  -- the row's bounds, and what is told of it
  told_set : (row : ℕ) (t : Told) (bounds : Bounds) (draft : Draft) (told : List Told) → row < length s.told → told ≡ set s.told row t
      → draft ≡ record s.draft { rows = changed row (row_with_bounds bounds) s.draft.rows }
      → ◌≡◌ {A = Seen} (record s { draft = draft; told = told }) (with_told row t bounds s)
  told_set row t bounds draft told lt e f = let both = e
      ∙ sym (changed_set row (λ (u : Told). t) s.told untold lt) in (λ i. record s { draft = f i; told = both i })

  told_here : (row : ℕ) (u : Told) → row < length s.told → u ≡ get_or s.told row u → u ≡ told_at s.told row
  told_here row u lt e = e ∙ at_any s.told row u untold lt

  pub right_set : (row : ℕ) (value : BoundValue) (u : Told) (bounds : Bounds) (draft : Draft) (told : List Told) → row < length s.told → u ≡ get_or s.told row u
      → bounds ≡ plain_bounds u.kind (bound_by value) → told ≡ set s.told row (record u { right = value; has_right = true })
      → draft ≡ record s.draft { rows = changed row (row_with_bounds bounds) s.draft.rows }
      → ◌≡◌ {A = Seen} (record s { draft = draft; told = told }) (with_right row value s)
  right_set row value u bounds draft told lt is b e f =
      told_set row (record u { right = value; has_right = true }) bounds draft told lt e f
      ∙ ap (λ (x : Bounds). with_told row (record u { right = value; has_right = true }) x s) b
      ∙ ap (λ (t : Told). with_told row (record t { right = value; has_right = true }) (plain_bounds t.kind (bound_by value)) s) (told_here row u lt is)

  pub range_set : (row : ℕ) (value : BoundValue) (u : Told) (bounds : Bounds) (draft : Draft) (told : List Told) → row < length s.told → u ≡ get_or s.told row u
      → bounds ≡ bounds_with u.kind u.right (Some value) → told ≡ set s.told row (record u { has_range = true })
      → draft ≡ record s.draft { rows = changed row (row_with_bounds bounds) s.draft.rows }
      → ◌≡◌ {A = Seen} (record s { draft = draft; told = told }) (with_range row value s)
  range_set row value u bounds draft told lt is b e f =
      told_set row (record u { has_range = true }) bounds draft told lt e f
      ∙ ap (λ (x : Bounds). with_told row (record u { has_range = true }) x s) b
      ∙ ap (λ (t : Told). with_told row (record t { has_range = true }) (bounds_with t.kind t.right (Some value)) s) (told_here row u lt is)

  -- the column's bounds
  pub limit_set : (column : ℕ) (kind : LimitKind) (value : BoundValue) (u t : Sides) (draft : Draft) (sides : List Sides) → column < length s.sides
      → u ≡ get_or s.sides column u
      → t ≡ effect kind value u → sides ≡ set s.sides column t
      → draft ≡ record s.draft { columns = changed column (column_with_bounds t.bounds) s.draft.columns }
      → ◌≡◌ {A = Seen} (record s { draft = draft; sides = sides }) (with_sides column (effect kind value (sides_at s.sides column)) s)
  limit_set column kind value u t draft sides lt is b e f =
      let both = e ∙ sym (changed_set column (λ (v : Sides). t) s.sides unstated lt) in
      (λ i. let x : Seen = record s { draft = f i; sides = both i } in x)
      ∙ ap (λ (x : Sides). with_sides column x s) (b ∙ ap (effect kind value) (is ∙ at_any s.sides column u unstated lt))

-- the counts stay

told_even : (s : Seen) (row : ℕ) (t : Told) (bounds : Bounds) → IsEven s → IsEven (with_told row t bounds s)
told_even s row t bounds h = record { told = length_changed row _ s.told ∙ h.told ∙ sym (length_changed row _ s.draft.rows); sides = h.sides }

right_even : (s : Seen) (role : Option Role) (value : List ℕ) → IsEven s → IsEven (right_as role value s)
right_even s None value h = h
right_even s (Some (Kept row)) value h = told_even s row _ _ h
right_even s (Some Objective) value h = record { told = h.told; sides = h.sides }
right_even s (Some Dropped) value h = h

pub value_even : (s : Seen) (row value : List ℕ) → IsEven s → IsEven (with_value row value s)
value_even s row value h = right_even s (role_for s row) value h

range_even : (s : Seen) (role : Option Role) (value : List ℕ) → IsEven s → IsEven (range_as role value s)
range_even s None value h = h
range_even s (Some (Kept row)) value h = told_even s row _ _ h
range_even s (Some Objective) value h = h
range_even s (Some Dropped) value h = h

pub ranged_even : (s : Seen) (row value : List ℕ) → IsEven s → IsEven (with_ranged row value s)
ranged_even s row value h = range_even s (role_for s row) value h

-- two values on one line, the first and then the second
module _ (judge_one : Seen → List ℕ → List ℕ → Option FileKind) (with_one : List ℕ → List ℕ → Seen → Seen)
    (judge_all : Seen → List (List ℕ) → Option FileKind) (after_all : Seen → List (List ℕ) → Seen)
    (judged_two : (s : Seen) (r v q w : List ℕ) → judge_all s (r ∷ v ∷ q ∷ w ∷ []) ≡ first_of (judge_one s r v) (judge_one (with_one r v s) q w))
    (after_two : (s : Seen) (r v q w : List ℕ) → after_all s (r ∷ v ∷ q ∷ w ∷ []) ≡ with_one q w (with_one r v s))
    (even_one : (s : Seen) (r v : List ℕ) → IsEven s → IsEven (with_one r v s))
    (s : Seen) (ws : List (List ℕ)) (r v q w : List ℕ) (words : ws ≡ r ∷ v ∷ q ∷ w ∷ []) (mid : Seen) (first : mid ≡ with_one r v s) where
  pub even_between : IsEven s → IsEven mid
  even_between h = subst IsEven (sym first) (even_one s r v h)

  pub second_judged : (x : Result (Unit {0}) (Fault FileKind)) → judge_one s r v ≡ None → Follows (judge_one mid q w) x → Follows (judge_all s ws) x
  second_judged x h g = subst (λ (j : Option FileKind). Follows j x) (sym (ap (judge_all s) words ∙ judged_two s r v q w))
      (later (judge_one s r v) _ x h (subst (λ (t : Seen). Follows (judge_one t q w) x) first g))

  pub second_after : (x : Result (Unit {0}) (Fault FileKind)) (new : Seen) → OnOk x (new ≡ with_one q w mid) → OnOk x (new ≡ after_all s ws)
  second_after (Ok y) new h = h ∙ ap (with_one q w) first ∙ sym (after_two s r v q w) ∙ ap (after_all s) (sym words)
  second_after (Err f) new h = tt
