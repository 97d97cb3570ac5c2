-- What is known of a state by its basis.
use Rattle.std.proofs.Common.{◌≡◌, ℕ, List, length, sym, ap, ◌∙◌, subst}
use Rattle.pami_algebra.specs.Fraction.{Fraction}
use Rattle.pami_frac.specs.declared.list.Bounds.{Bounds}
use Rattle.pami_theory.specs.declared.words.Stand.{Stand}
use Rattle.pami_theory.specs.Form.{Form}
use Rattle.pami_theory.specs.Basis.{Basis, IsBasis}
use Rattle.pami_theory.specs.Fresh.{Fresh, IsFresh, value_at_place}
use Rattle.pami_theory.proofs.Solved.{only_fresh}
use Rattle.pami_theory.proofs.Tables.{tabled_length}
use Rattle.pami_state.specs.declared.state.State.{State}
use Rattle.pami_state.specs.Columns.{HasBounds}
use Rattle.pami_state.specs.State.{basis_of, values_by_place, IsSolvedAfresh}

-- ---- lengths
pub values_by_head : (f : Form) (st : State) → IsBasis f (basis_of st) → IsSolvedAfresh f st → length st.values ≡ length st.head
values_by_head f st s a = ap length a.values ∙ tabled_length f.rows (value_at_place (basis_of st) a.fresh) ∙ sym s.places

pub stands_by_bounds : (f : Form) (bounds : List Bounds) (st : State) → HasBounds f bounds → IsBasis f (basis_of st) → length st.stands ≡ length bounds
stands_by_bounds f bounds st h s = s.variables_stand ∙ sym h.by_variable

pub reduced_by_bounds : (f : Form) (bounds : List Bounds) (st : State) → HasBounds f bounds → IsSolvedAfresh f st → length st.reduced ≡ length bounds
reduced_by_bounds f bounds st h a = ap length a.reduced ∙ a.solved.reduced_by_variable ∙ sym h.by_variable

-- ---- one basis, one state
one_fresh : (f : Form) (a b : State) → IsBasis f (basis_of a) → basis_of a ≡ basis_of b → (x : IsSolvedAfresh f a) (y : IsSolvedAfresh f b) → x.fresh ≡ y.fresh
one_fresh f a b s e x y = only_fresh f (basis_of a) x.fresh y.fresh s x.solved (subst (λ c. IsFresh f c y.fresh) (sym e) y.solved)

pub one_values : (f : Form) (a b : State) → IsBasis f (basis_of a) → basis_of a ≡ basis_of b → IsSolvedAfresh f a → IsSolvedAfresh f b → a.values ≡ b.values
one_values f a b s e x y =
    x.values
    ∙ ap (λ c. values_by_place f c x.fresh) e
    ∙ ap (values_by_place f (basis_of b)) (one_fresh f a b s e x y)
    ∙ sym y.values

pub one_reduced : (f : Form) (a b : State) → IsBasis f (basis_of a) → basis_of a ≡ basis_of b → IsSolvedAfresh f a → IsSolvedAfresh f b → a.reduced ≡ b.reduced
one_reduced f a b s e x y = x.reduced ∙ ap (λ (t : Fresh). t.reduced) (one_fresh f a b s e x y) ∙ sym y.reduced

same_state : (a b : State) → a.head ≡ b.head → a.stands ≡ b.stands → a.values ≡ b.values → a.reduced ≡ b.reduced → a.weights ≡ b.weights → a.pivots ≡ b.pivots → a ≡ b
same_state a b h s v d w p =
    ap (λ (z : List ℕ). record { head = z; stands = a.stands; values = a.values; reduced = a.reduced; weights = a.weights; pivots = a.pivots }) h
    ∙ ap (λ (z : List Stand). record { head = b.head; stands = z; values = a.values; reduced = a.reduced; weights = a.weights; pivots = a.pivots }) s
    ∙ ap (λ (z : List Fraction). record { head = b.head; stands = b.stands; values = z; reduced = a.reduced; weights = a.weights; pivots = a.pivots }) v
    ∙ ap (λ (z : List Fraction). record { head = b.head; stands = b.stands; values = b.values; reduced = z; weights = a.weights; pivots = a.pivots }) d
    ∙ ap (λ (z : List ℕ). record { head = b.head; stands = b.stands; values = b.values; reduced = b.reduced; weights = z; pivots = a.pivots }) w
    ∙ ap (λ (z : ℕ). record { head = b.head; stands = b.stands; values = b.values; reduced = b.reduced; weights = b.weights; pivots = z }) p

pub one_state : (f : Form) (a b : State) → IsBasis f (basis_of a) → basis_of a ≡ basis_of b → IsSolvedAfresh f a → IsSolvedAfresh f b → a.weights ≡ b.weights → a.pivots ≡ b.pivots → a ≡ b
one_state f a b s e x y w p =
    same_state a b (ap (λ (c : Basis). c.head) e) (ap (λ (c : Basis). c.stands) e)
    (one_values f a b s e x y) (one_reduced f a b s e x y) w p
