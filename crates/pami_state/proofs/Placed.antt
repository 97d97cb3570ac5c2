-- The place of a basic variable, and the value of any variable.
use Rattle.std.proofs.Common.{◌≡◌, ℕ, ◌<◌, List, length, get_or, refl, sym, ap, ◌∙◌, subst, arith, Bool, true, false}
use denote.Enum.Bare.{sameb}
use Rattle.pami_algebra.specs.Fraction.{Fraction}
use Rattle.pami_linear.specs.Lists.{get}
use Rattle.pami_frac.specs.declared.list.Bounds.{Bounds}
use Rattle.pami_script.proofs.Loops.{get_is}
use Rattle.pami_theory.specs.declared.words.Stand.{Stand}
use Rattle.pami_theory.specs.declared.words.Stand.TheVariants as stands
use Rattle.pami_theory.specs.contracts.words.Stand as contracts
use Rattle.pami_theory.specs.Form.{Form, limits, variables, zero_f}
use Rattle.pami_theory.specs.declared.words.Stand.TheVariants.{Basic}
use Rattle.pami_theory.specs.Basis.{stand_at, StandsAt, IsBasis}
use Rattle.pami_theory.specs.Fresh.{standing_value, value_at_place}
use Rattle.pami_theory.proofs.Places.{standing_is, stands_there}
use Rattle.pami_theory.proofs.Tables.{tabled_length, tabled_at}
use Rattle.pami_state.specs.declared.state.State.{State}
use Rattle.pami_state.specs.Columns.{bounds_form, HasBounds}
use Rattle.pami_state.specs.State.{basis_of, IsSolvedAfresh}
use Rattle.pami_state.proofs.Bounds.{limits_of_form}
use Rattle.pami_state.proofs.Signed.{stand_read}

-- ---- the test for Basic
pub basic_if : (s : Stand) (t : Bool) → t ≡ sameb contracts.the_type s stands.Basic → t ≡ true → s ≡ Basic
basic_if stands.Basic t e h = refl
basic_if stands.Lower t e h = absurd (cc)
basic_if stands.Upper t e h = absurd (cc)
basic_if stands.Zero t e h = absurd (cc)

pub basic_only : (s : Stand) (t : Bool) → t ≡ sameb contracts.the_type s stands.Basic → t ≡ false → ¬ (s ≡ Basic)
basic_only stands.Basic t e h k = absurd (cc)
basic_only stands.Lower t e h k = cc
basic_only stands.Upper t e h k = cc
basic_only stands.Zero t e h k = cc

-- where a variable stands, as it was read from the list that was lent
pub stand_lent : (st : State) (ss : List Stand) (v : ℕ) (d : Stand) → ss ≡ st.stands → v < length st.stands → stand_at (basis_of st) v ≡ get_or ss v d
stand_lent st ss v d e l = stand_read st.stands v d l ∙ ap (λ (xs : List Stand). get_or xs v d) (sym e)

-- ---- basic variables
pub place_is : (bounds : List Bounds) (st : State) (hs : List ℕ) (v : ℕ) → hs ≡ st.head → IsBasis (bounds_form (length st.head) bounds) (basis_of st) → v < length bounds → stand_at (basis_of st) v ≡ Basic →
    (p : ℕ) × (p < length hs) × (get_or hs p 0 ≡ v)
place_is bounds st hs v e s l b =
    let p = s.placed v (omega arith) b in
    let k : p.0 < length st.head = p.1 in
    let n : length hs ≡ length st.head = ap length e in
    (p.0, omega arith, ap (λ (xs : List ℕ). get_or xs p.0 0) e ∙ p.2)

-- the value at a place of a state that is solved afresh
pub value_at : (f : Form) (st : State) (a : IsSolvedAfresh f st) (hs : List ℕ) (xs : List Fraction) (p v : ℕ) (x : Fraction) → hs ≡ st.head → xs ≡ st.values → length st.values ≡ length st.head → p < length hs →
    get_or hs p 0 ≡ v → x ≡ get_or xs p x → x ≡ get a.fresh.values v
value_at f st a hs xs p v x e g n l h q =
    let k : length xs ≡ f.rows = ap length g ∙ ap length a.values ∙ tabled_length f.rows (value_at_place (basis_of st) a.fresh) in
    let i : length hs ≡ length st.head = ap length e in
    let j : length xs ≡ length st.values = ap length g in
    get_is xs p x (omega arith) q
    ∙ ap (λ ys. get ys p) (g ∙ a.values)
    ∙ tabled_at f.rows (value_at_place (basis_of st) a.fresh) p zero_f (omega arith)
    ∙ ap (get a.fresh.values) (ap (λ (ys : List ℕ). get_or ys p 0) (sym e) ∙ h)

-- ---- nonbasic variables
pub stands_so : (bounds : List Bounds) (st : State) (v : ℕ) (l : Bounds) (s : Stand) (x : Fraction) → IsBasis (bounds_form (length st.head) bounds) (basis_of st) → v < length bounds →
    limits (bounds_form 0 bounds) v ≡ l → stand_at (basis_of st) v ≡ s → x ≡ standing_value l s → StandsAt (limits (bounds_form 0 bounds) v) (stand_at (basis_of st) v) x
stands_so bounds st v l s x is n e g h =
    let at = is.stands v (omega arith) in
    subst (StandsAt (limits (bounds_form 0 bounds) v) (stand_at (basis_of st) v))
    (ap (λ k. standing_value k (stand_at (basis_of st) v)) e ∙ ap (standing_value l) g ∙ sym h)
    (stands_there (limits (bounds_form 0 bounds) v) (stand_at (basis_of st) v) at.0 at.1)

pub standing_at : (f : Form) (bounds : List Bounds) (st : State) (v : ℕ) (l : Bounds) (s : Stand) (x : Fraction) → HasBounds f bounds → (a : IsSolvedAfresh f st) → v < length bounds →
    limits (bounds_form 0 bounds) v ≡ l → stand_at (basis_of st) v ≡ s → ¬ (s ≡ Basic) → x ≡ standing_value l s → x ≡ get a.fresh.values v
standing_at f bounds st v l s x has a n e g not h =
    let k : length bounds ≡ variables f = has.by_variable in
    h
    ∙ ap (standing_value l) (sym g)
    ∙ ap (λ k. standing_value k (stand_at (basis_of st) v)) (sym e ∙ sym (limits_of_form f bounds 0 v has))
    ∙ sym (standing_is (limits f v) (stand_at (basis_of st) v) (get a.fresh.values v) (λ b. not (sym g ∙ b)) (a.solved.values.nonbasic v (omega arith)))
