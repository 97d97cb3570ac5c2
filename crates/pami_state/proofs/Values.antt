-- The values of all variables in one list: first those where nonbasic variables stand, and then place by place.
use Rattle.std.proofs.Common.{◌≡◌, ◌≢◌, ℕ, ◌+◌, ◌<◌, ◌≤◌, ◌⊎◌, inl, inr, ⊎_elim, List, length, get_or, slice_set, eqb, true, false, refl, sym, ap, ◌∙◌, subst, arith}
use Rattle.std.proofs.lemmas.List.{get_or-set_same, get_or-set_other, length-set}
use Rattle.std.proofs.lemmas.Bool.Decides.{eqb_tells}
use lib.IntN.{pos}
use Rattle.pami_algebra.specs.Fraction.{Fraction}
use Rattle.pami_algebra.specs.Operations.{of_int}
use Rattle.pami_linear.specs.Lists.{get}
use Rattle.pami_linear.proofs.Lists.{same_list}
use Rattle.pami_frac.specs.declared.list.Bounds.{Bounds}
use Rattle.pami_theory.specs.declared.words.Stand.{Stand}
use Rattle.pami_theory.specs.declared.words.Stand.TheVariants.{Basic, Lower, Upper, Zero}
use Rattle.pami_theory.specs.Form.{Form, limits, variables, zero_f}
use Rattle.pami_theory.specs.Basis.{stand_at, head_at, IsBasis}
use Rattle.pami_theory.proofs.Tables.{tabled_length, tabled_at}
use Rattle.pami_state.specs.declared.state.State.{State}
use Rattle.pami_state.specs.Columns.{bounds_form, HasBounds}
use Rattle.pami_state.specs.State.{basis_of, IsSolvedAfresh}
use Rattle.pami_state.specs.Sums.{standing_at, standing_values}
use Rattle.pami_state.proofs.Placed.{value_at, standing_at as standing_solved}

-- the variable is nonbasic, or at one of the first p places
abbrev pub IsListed : State → ℕ → ℕ → Type 0
IsListed st p v = ¬ (stand_at (basis_of st) v ≡ Basic) ⊎ ((q : ℕ) × (q < p) × (head_at (basis_of st) q ≡ v))

-- a list by variable that has the values of all nonbasic variables, and of those at the first p places
pub record HasValues (bounds : List Bounds) (st : State) (p : ℕ) (list : List Fraction) : Type 0 where
  pub by_variable : length list ≡ length bounds
  pub at : (f : Form) → HasBounds f bounds → (a : IsSolvedAfresh f st) → (v : ℕ) → v < length bounds → IsListed st p v → get list v ≡ get a.fresh.values v

-- ---- no place yet
pub standing_first : (bounds : List Bounds) (st : State) (ss : List Stand) (list : List Fraction) → ss ≡ st.stands →
    length st.stands ≡ length bounds → list ≡ standing_values bounds ss → HasValues bounds st 0 list
standing_first bounds st ss list e n h =
    let same : list ≡ standing_values bounds st.stands = subst (λ (ts : List Stand). list ≡ standing_values bounds ts) e h in
    record {
      by_variable = ap length same ∙ tabled_length (length bounds) (standing_at bounds st.stands);
      at = λ f has a v l k. ⊎_elim
          (λ (t : ¬ (stand_at (basis_of st) v ≡ Basic)).
          standing_solved f bounds st v (limits (bounds_form 0 bounds) v) (stand_at (basis_of st) v) (get list v) has a l refl refl t
          (ap (λ xs. get xs v) same ∙ tabled_at (length bounds) (standing_at bounds st.stands) v zero_f l))
          (λ (t : (q : ℕ) × (q < 0) × (head_at (basis_of st) q ≡ v)). let z : t.0 < 0 = t.1 in absurd (omega (arith, z)))
          k;
    }

-- ---- one place more
-- a variable that was listed before, or is the one at this place
listed_before : (st : State) (p v : ℕ) → ¬ (head_at (basis_of st) p ≡ v) → IsListed st (p + 1) v → IsListed st p v
listed_before st p v n (inl h) = inl h
listed_before st p v n (inr (q, l, e)) =
    ⊎_elim
    (λ (t : (eqb q p ≡ true) × (q ≡ p)). absurd (n (ap (head_at (basis_of st)) (sym t.1) ∙ e)))
    (λ (t : (eqb q p ≡ false) × (q ≢ p)). let d : q ≢ p = t.1 in inr (q, omega (arith, d), e))
    (eqb_tells q p)

-- the value of one place more is put where its variable has its place
pub value_put : (bounds : List Bounds) (st : State) (p : ℕ) (list : List Fraction) (hs : List ℕ) (xs : List Fraction) (x : Fraction) →
    HasValues bounds st p list → hs ≡ st.head → xs ≡ st.values → length st.values ≡ length st.head →
    p < length hs → get_or hs p 0 < length list → x ≡ get_or xs p x → HasValues bounds st (p + 1) (slice_set list (get_or hs p 0) x)
value_put bounds st p list hs xs x h e g n l w q = record {
  by_variable = length-set list (get_or hs p 0) x ∙ h.by_variable;
  at = λ f has a v m k. ⊎_elim
      (λ (t : (eqb v (get_or hs p 0) ≡ true) × (v ≡ get_or hs p 0)).
      ap (λ u. get (slice_set list (get_or hs p 0) x) u) t.1
      ∙ get_or-set_same list (get_or hs p 0) x (of_int (pos 0)) w
      ∙ value_at f st a hs xs p v x e g n l (sym t.1) q)
      (λ (t : (eqb v (get_or hs p 0) ≡ false) × (v ≢ get_or hs p 0)).
      get_or-set_other list (get_or hs p 0) v x (of_int (pos 0)) t.1
      ∙ h.at f has a v m (listed_before st p v (λ i. t.1 (sym i ∙ ap (λ ys. get_or ys p 0) (sym e))) k))
      (eqb_tells v (get_or hs p 0));
}

-- the variable at a place has its place in the list
pub head_within : (bounds : List Bounds) (st : State) (hs : List ℕ) (p n : ℕ) → IsBasis (bounds_form (length st.head) bounds) (basis_of st) →
    length st.stands ≡ length bounds → n ≡ length bounds → hs ≡ st.head → p < length hs → get_or hs p 0 < n
head_within bounds st hs p n is s m e l =
    let w : head_at (basis_of st) p < variables (bounds_form (length st.head) bounds) = is.within p (subst (λ (ys : List ℕ). p < length ys) e l) in
    let k : length st.stands ≡ variables (bounds_form (length st.head) bounds) = is.variables_stand in
    let t : variables (bounds_form (length st.head) bounds) ≡ n = sym k ∙ s ∙ sym m in
    subst (λ (ys : List ℕ). get_or ys p 0 < n) (sym e) (subst (λ z. head_at (basis_of st) p < z) t w)

-- ---- all places
basic_or : (s : Stand) → ¬ (s ≡ Basic) ⊎ (s ≡ Basic)
basic_or Basic = inr refl
basic_or Lower = inl (λ e. cc)
basic_or Upper = inl (λ e. cc)
basic_or Zero = inl (λ e. cc)

listed_all : (bounds : List Bounds) (st : State) (p v : ℕ) → IsBasis (bounds_form (length st.head) bounds) (basis_of st) →
    length st.head ≤ p → v < variables (bounds_form (length st.head) bounds) → IsListed st p v
listed_all bounds st p v h n l =
    ⊎_elim
    (λ (t : ¬ (stand_at (basis_of st) v ≡ Basic)). inl t)
    (λ (t : stand_at (basis_of st) v ≡ Basic). let q = h.placed v l t in let m : q.0 < length st.head = q.1 in inr (q.0, omega (arith, m, n), q.2))
    (basic_or (stand_at (basis_of st) v))

-- the list has the values of all variables
pub values_listed : (f : Form) (bounds : List Bounds) (st : State) (p : ℕ) (list : List Fraction) → HasBounds f bounds →
    IsBasis (bounds_form (length st.head) bounds) (basis_of st) → (a : IsSolvedAfresh f st) →
    length st.head ≤ p → HasValues bounds st p list → list ≡ a.fresh.values
values_listed f bounds st p list has basis a l h =
    let n : length list ≡ length bounds = h.by_variable in
    let m : length bounds ≡ variables f = has.by_variable in
    same_list list a.fresh.values (n ∙ m ∙ sym a.solved.values_by_variable)
    (λ v i. let w : v < length bounds = omega (arith, n, i) in h.at f has a v w (listed_all bounds st p v basis l (omega (arith, w))))
