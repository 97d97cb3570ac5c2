-- One slice more of the reduced costs of a Minor is brought behind the step.
use Rattle.std.proofs.Common.{◌≡◌, ℕ, zero, suc, ◌+◌, ◌-◌, ◌*◌, ◌/◌, ◌<◌, ◌≤◌, ◌⊎◌, inl, inr, ⊎_elim, Bool, true, false, cond, not, nat_eq, List, [], ◌∷◌, ◌++◌, length, set, take, drop, refl, sym, ap, ◌∙◌, subst, arith, true≢false}
use Rattle.std.specs.List.{All, range_with_len}
use Rattle.std.proofs.lemmas.Bool.{cases_eq, cases_lt, eq-eqb, ne_eqb, lt-ltb, le-ltb}
use Rattle.std.proofs.lemmas.List.{length-set, get_or-set_same, get_or-set_other, drop_all, append-nil}
use Rattle.std.proofs.lemmas.List.Elements.{All-nil, All-cons}
use Rattle.pami_algebra.specs.Fraction.{Fraction}
use Rattle.pami_algebra.specs.Operations.{neg_f, ◌-ᶠ◌, ◌*ᶠ◌}
use Rattle.pami_frac.specs.declared.list.Entry.{Entry}
use Rattle.pami_linear.specs.Lists.{get}
use Rattle.pami_theory.specs.Form.{Form, variables, zero_f}
use Rattle.pami_theory.specs.Basis.{Basis, head_at, stand_at}
use Rattle.pami_theory.specs.Ratio.{toward, row_entry}
use Rattle.pami_theory.specs.Step as theory
use Rattle.pami_theory.specs.Weights.{lesser}
use Rattle.pami_theory.proofs.NextCosts.{step_leaving, step_entering}
use Rattle.pami_method.specs.Batch as batch
use Rattle.pami_method.specs.Batch.{Reached}
use Rattle.pami_method.specs.Scripts.{is_nonbasic, slice_variables}
use Rattle.pami_price.specs.Slices.{slices}
use Rattle.pami_deferral.specs.Inside.{fresh_inside, row_for}
use Rattle.pami_deferral.proofs.Chains.{pivot_links, next_fresh}
use Rattle.pami_deferral.proofs.Pivots.{cost_there}
use Rattle.pami_vec.specs.declared.step.Step.{Step}
use Rattle.pami_minor.specs.declared.minor.Minor.{Minor}
use Rattle.pami_minor.specs.Costs.{costs, put_all, cost_in}
use Rattle.pami_minor.specs.Shifts.{is_shifted, AreCosts}
use Rattle.pami_minor.specs.Steps.{IsStepOf}
use Rattle.pami_minor.specs.Fresh.{IsStepping, AreShifted}
use Rattle.pami_minor.proofs.ReachReady.{walk_of}
use Rattle.pami_minor.proofs.Nth.{pivot_low}

-- ---- costs put in
pub put_length : (es : List Entry) (xs : List Fraction) → length (put_all es xs) ≡ length xs
put_length [] xs = refl
put_length (e ∷ es) xs = put_length es (set xs e.place e.value) ∙ length-set xs e.place e.value

pub costs_placed : (p : ℕ → Bool) (g : ℕ → Fraction) (a k n : ℕ) → a + k ≤ n → All (λ (e : Entry). e.place < n) (costs p g (range_with_len a k))
costs_placed p g a zero n l = All-nil (λ (e : Entry). e.place < n)
costs_placed p g a (suc k) n l = go (p a) (costs_placed p g (a + 1) k n (omega arith))
  where
    go : (b : Bool) → All (λ (e : Entry). e.place < n) (costs p g (range_with_len (a + 1) k))
        → All (λ (e : Entry). e.place < n) (cond b (record { place = a; value = g a } ∷ costs p g (range_with_len (a + 1) k)) (costs p g (range_with_len (a + 1) k)))
    go true h = All-cons (λ (e : Entry). e.place < n) (record { place = a; value = g a }) (costs p g (range_with_len (a + 1) k)) (omega arith) h
    go false h = h

put_outside : (p : ℕ → Bool) (g : ℕ → Fraction) (a k v : ℕ) (xs : List Fraction) → (p v ≡ false) ⊎ ((v < a) ⊎ (a + k ≤ v))
    → get (put_all (costs p g (range_with_len a k)) xs) v ≡ get xs v
put_outside p g a zero v xs o = refl
put_outside p g a (suc k) v xs o = go (p a) refl (λ ys. put_outside p g (a + 1) k v ys (later o))
  where
    later : (p v ≡ false) ⊎ ((v < a) ⊎ (a + suc k ≤ v)) → (p v ≡ false) ⊎ ((v < a + 1) ⊎ (a + 1 + k ≤ v))
    later (inl e) = inl e
    later (inr (inl l)) = inr (inl (omega arith))
    later (inr (inr l)) = inr (inr (omega arith))

    apart : p a ≡ true → ¬ (v ≡ a)
    apart e = λ s. ⊎_elim
        (λ (n : p v ≡ false). true≢false (sym e ∙ ap p (sym s) ∙ n))
        (λ (n : (v < a) ⊎ (a + suc k ≤ v)). ⊎_elim (λ (l : v < a). absurd (omega arith)) (λ (l : a + suc k ≤ v). absurd (omega arith)) n)
        o

    go : (b : Bool) → p a ≡ b → ((ys : List Fraction) → get (put_all (costs p g (range_with_len (a + 1) k)) ys) v ≡ get ys v)
        → get (put_all (cond b (record { place = a; value = g a } ∷ costs p g (range_with_len (a + 1) k)) (costs p g (range_with_len (a + 1) k))) xs) v ≡ get xs v
    go true e rest = rest (set xs a (g a)) ∙ get_or-set_other xs a v (g a) zero_f (apart e)
    go false e rest = rest xs

put_inside : (p : ℕ → Bool) (g : ℕ → Fraction) (a k v : ℕ) (xs : List Fraction) → p v ≡ true → a ≤ v → v < a + k → v < length xs
    → get (put_all (costs p g (range_with_len a k)) xs) v ≡ g v
put_inside p g a zero v xs t l m n = absurd (omega arith)
put_inside p g a (suc k) v xs t l m n = ⊎_elim
    (λ (e : v ≡ a).
    ap (λ b. get (put_all (cond b (record { place = a; value = g a } ∷ costs p g (range_with_len (a + 1) k)) (costs p g (range_with_len (a + 1) k))) xs) v)
    (ap p (sym e) ∙ t)
    ∙ put_outside p g (a + 1) k v (set xs a (g a)) (inr (inl (omega arith)))
    ∙ ap (get (set xs a (g a))) e ∙ get_or-set_same xs a (g a) zero_f (omega arith) ∙ ap g (sym e))
    (λ (e : ¬ (v ≡ a)). go (p a) (λ ys o. put_inside p g (a + 1) k v ys t (omega arith) (omega arith) o))
    (cases_eq v a)
  where
    go : (b : Bool) → ((ys : List Fraction) → v < length ys → get (put_all (costs p g (range_with_len (a + 1) k)) ys) v ≡ g v)
        → get (put_all (cond b (record { place = a; value = g a } ∷ costs p g (range_with_len (a + 1) k)) (costs p g (range_with_len (a + 1) k))) xs) v ≡ g v
    go true rest = rest (set xs a (g a)) (let s = length-set xs a (g a) in omega (arith, s, n))
    go false rest = rest xs n

-- ---- the entering and the leaving variable
pub in_length : (slice v : ℕ) (x : Fraction) (xs : List Fraction) → length (cost_in slice v x xs) ≡ length xs
in_length slice v x xs = go (nat_eq (v / 64) slice)
  where
    go : (b : Bool) → length (cond b (set xs v x) xs) ≡ length xs
    go true = length-set xs v x
    go false = refl

in_other : (slice v u : ℕ) (x : Fraction) (xs : List Fraction) → ¬ (u ≡ v) → get (cost_in slice v x xs) u ≡ get xs u
in_other slice v u x xs n = go (nat_eq (v / 64) slice)
  where
    go : (b : Bool) → get (cond b (set xs v x) xs) u ≡ get xs u
    go true = get_or-set_other xs v u x zero_f n
    go false = refl

in_same : (slice v : ℕ) (x : Fraction) (xs : List Fraction) → v / 64 ≡ slice → v < length xs → get (cost_in slice v x xs) v ≡ x
in_same slice v x xs e l =
    ap (λ b. get (cond b (set xs v x) xs) v) (eq-eqb (v / 64) slice e) ∙ get_or-set_same xs v x zero_f l

in_elsewhere : (slice v u : ℕ) (x : Fraction) (xs : List Fraction) → ¬ (u / 64 ≡ slice) → get (cost_in slice v x xs) u ≡ get xs u
in_elsewhere slice v u x xs n = ⊎_elim
    (λ (e : u ≡ v). ap (λ b. get (cond b (set xs v x) xs) u) (ne_eqb (v / 64) slice (λ s. n (ap (λ w. w / 64) e ∙ s))))
    (λ (e : ¬ (u ≡ v)). in_other slice v u x xs e)
    (cases_eq u v)

-- ---- all of the list behind it
abbrev whole : ℕ → ℕ → ℕ → Fraction → List Entry → List Fraction → List Fraction
whole slice leaving entering cost es xs = cost_in slice leaving cost (cost_in slice entering zero_f (put_all es xs))

whole_length : (slice leaving entering : ℕ) (cost : Fraction) (es : List Entry) (xs : List Fraction) → length (whole slice leaving entering cost es xs) ≡ length xs
whole_length slice leaving entering cost es xs =
    in_length slice leaving cost (cost_in slice entering zero_f (put_all es xs)) ∙ in_length slice entering zero_f (put_all es xs) ∙ put_length es xs

pub below : (a b : ℕ) → (lesser a b ≤ a) × (lesser a b ≤ b)
below a b = ⊎_elim
    (λ (h : a < b). let e : lesser a b ≡ a = ap (λ t. cond t a b) (lt-ltb a b h) in (omega arith, omega arith))
    (λ (h : b ≤ a). let e : lesser a b ≡ b = ap (λ t. cond t a b) (le-ltb a b h) in (omega arith, omega arith))
    (cases_lt a b)

reaches_to : (a b x : ℕ) → x < a → x < b → x < lesser a b
reaches_to a b x l m = ⊎_elim
    (λ (h : a < b). let e : lesser a b ≡ a = ap (λ t. cond t a b) (lt-ltb a b h) in omega arith)
    (λ (h : b ≤ a). let e : lesser a b ≡ b = ap (λ t. cond t a b) (le-ltb a b h) in omega arith)
    (cases_lt a b)

not_both : (b : Bool) → not b ≡ true → b ≡ false
not_both true e = sym e
not_both false e = refl

shifted_cases : (b c : Bool) → c ≡ false → (cond b (not c) false ≡ true) ⊎ (b ≡ false)
shifted_cases true c e = inl (ap not e)
shifted_cases false c e = inr refl

-- a variable of the slice
in_slice : (f : Form) (limit : ℕ) (m : batch.Minor) (next : Reached) (i slice : ℕ) (minor : Minor) (cost : Fraction) (v : ℕ) → IsStepping f limit m next i slice minor
    → cost ≡ neg_f (toward m.row.violation.side m.step.tau) → v < variables f → 64 * slice ≤ v → v < 64 * (slice + 1)
    → get (whole slice m.step.leaving m.step.entering cost (costs (is_shifted m) (get next.fresh.reduced) (slice_variables (variables f) slice)) minor.reduced.items) v
    ≡ get next.fresh.reduced v
in_slice f limit m next i slice minor cost v h ec low from upto =
    let b : Basis = m.reached.basis in
    let links = pivot_links f limit m next h.pivot in
    let w = walk_of f limit m next h.pivot in
    let fresh = next_fresh f m next links in
    let out : m.step.leaving ≡ head_at b m.row.place = ap (λ (x : theory.Step). x.leaving) w.by in
    let here : v / 64 ≡ slice = omega arith in
    let size : ℕ = lesser 64 (variables f - 64 * slice) in
    let es : List Entry = costs (is_shifted m) (get next.fresh.reduced) (slice_variables (variables f) slice) in
    let xs : List Fraction = minor.reduced.items in
    let many = h.shifted.by_variable in
    let put_many = put_length es xs in
    let mid : List Fraction = cost_in slice m.step.entering zero_f (put_all es xs) in
    let mid_many = in_length slice m.step.entering zero_f (put_all es xs) in
    ⊎_elim
    (λ (e : v ≡ m.step.leaving).
    ap (get (cost_in slice m.step.leaving cost mid)) e
    ∙ in_same slice m.step.leaving cost mid (ap (λ u. u / 64) (sym e) ∙ here) (omega (arith, low, e, many, put_many, mid_many))
    ∙ ec ∙ sym (step_leaving f b m.reached.fresh m.row.place m.row.violation m.step next.fresh links.step fresh)
    ∙ ap (get next.fresh.reduced) (sym out ∙ sym e))
    (λ (n : ¬ (v ≡ m.step.leaving)).
    in_other slice m.step.leaving v cost mid n
    ∙ ⊎_elim
    (λ (e : v ≡ m.step.entering).
    ap (get mid) e
    ∙ in_same slice m.step.entering zero_f (put_all es xs) (ap (λ u. u / 64) (sym e) ∙ here) (omega (arith, low, e, many, put_many))
    ∙ sym (step_entering f b m.reached.fresh m.row.place m.row.violation m.step next.fresh links.step fresh)
    ∙ ap (get next.fresh.reduced) (sym e))
    (λ (k : ¬ (v ≡ m.step.entering)).
    in_other slice m.step.entering v zero_f (put_all es xs) k
    ∙ ⊎_elim
    (λ (t : is_shifted m v ≡ true).
    let u = reaches_to 64 (variables f - 64 * slice) (v - 64 * slice) (omega (arith, from, upto)) (omega (arith, from, low)) in
    put_inside (is_shifted m) (get next.fresh.reduced) (64 * slice) size v xs t from (omega (arith, u, from)) (omega (arith, low, many)))
    (λ (t : is_nonbasic (stand_at b v) ≡ false).
    put_outside (is_shifted m) (get next.fresh.reduced) (64 * slice) size v xs
    (inl (ap (λ c. cond c (not (nat_eq v m.step.entering)) false) t))
    ∙ h.shifted.at v low
    ∙ ap (λ c. cond c (get next.fresh.reduced v) (get m.reached.fresh.reduced v)) (le-ltb v (64 * slice) from)
    ∙ sym (ap (λ c. cond c zero_f (cond (nat_eq v m.step.leaving) (neg_f (toward m.step.side m.step.tau))
    (cond (is_nonbasic (stand_at b v)) (get m.reached.fresh.reduced v -ᶠ m.step.tau *ᶠ toward m.step.side (row_entry f (row_for (fresh_inside m.reached) m.step.place) v))
    (get m.reached.fresh.reduced v)))) (ne_eqb v m.step.entering k)
    ∙ ap (λ c. cond c (neg_f (toward m.step.side m.step.tau))
    (cond (is_nonbasic (stand_at b v)) (get m.reached.fresh.reduced v -ᶠ m.step.tau *ᶠ toward m.step.side (row_entry f (row_for (fresh_inside m.reached) m.step.place) v))
    (get m.reached.fresh.reduced v))) (ne_eqb v m.step.leaving n)
    ∙ ap (λ c. cond c (get m.reached.fresh.reduced v -ᶠ m.step.tau *ᶠ toward m.step.side (row_entry f (row_for (fresh_inside m.reached) m.step.place) v))
    (get m.reached.fresh.reduced v)) t)
    ∙ cost_there f m next v links low)
    (shifted_cases (is_nonbasic (stand_at b v)) (nat_eq v m.step.entering) (ne_eqb v m.step.entering k)))
    (cases_eq v m.step.entering))
    (cases_eq v m.step.leaving)

-- a variable of another slice
off_slice : (f : Form) (limit : ℕ) (m : batch.Minor) (next : Reached) (i slice : ℕ) (minor : Minor) (cost : Fraction) (v : ℕ) → (v < 64 * slice) ⊎ (64 * (slice + 1) ≤ v)
    → get (whole slice m.step.leaving m.step.entering cost (costs (is_shifted m) (get next.fresh.reduced) (slice_variables (variables f) slice)) minor.reduced.items) v
    ≡ get minor.reduced.items v
off_slice f limit m next i slice minor cost v o =
    let es : List Entry = costs (is_shifted m) (get next.fresh.reduced) (slice_variables (variables f) slice) in
    let size = (below 64 (variables f - 64 * slice)).0 in
    let other : ¬ (v / 64 ≡ slice) = λ e. ⊎_elim (λ (l : v < 64 * slice). absurd (omega arith)) (λ (l : 64 * (slice + 1) ≤ v). absurd (omega arith)) o in
    in_elsewhere slice m.step.leaving v cost (cost_in slice m.step.entering zero_f (put_all es minor.reduced.items)) other
    ∙ in_elsewhere slice m.step.entering v zero_f (put_all es minor.reduced.items) other
    ∙ put_outside (is_shifted m) (get next.fresh.reduced) (64 * slice) (lesser 64 (variables f - 64 * slice)) v minor.reduced.items
    (inr (⊎_elim (λ (l : v < 64 * slice). inl l) (λ (l : 64 * (slice + 1) ≤ v). inr (omega (arith, size, l))) o))

pub shifted_more : (f : Form) (limit : ℕ) (m : batch.Minor) (next : Reached) (i slice : ℕ) (old new : Minor) (es : List Entry) (cost : Fraction)
    → IsStepping f limit m next i slice old → AreCosts f m next slice es → cost ≡ neg_f (toward m.row.violation.side m.step.tau)
    → new.reduced.items ≡ cost_in slice m.step.leaving cost (cost_in slice m.step.entering zero_f (put_all es old.reduced.items))
    → AreShifted f m.reached next (slice + 1) new
shifted_more f limit m next i slice old new es cost h e ec s =
    let here : new.reduced.items ≡ whole slice m.step.leaving m.step.entering cost (costs (is_shifted m) (get next.fresh.reduced) (slice_variables (variables f) slice)) old.reduced.items =
    s ∙ ap (λ xs. whole slice m.step.leaving m.step.entering cost xs old.reduced.items) e in
    record {
      by_variable = ap length here
          ∙ whole_length slice m.step.leaving m.step.entering cost (costs (is_shifted m) (get next.fresh.reduced) (slice_variables (variables f) slice)) old.reduced.items
          ∙ h.shifted.by_variable;
      at = λ v l. ap (λ xs. get xs v) here ∙ ⊎_elim
          (λ (a : v < 64 * slice). off_slice f limit m next i slice old cost v (inl a) ∙ h.shifted.at v l
          ∙ ap (λ c. cond c (get next.fresh.reduced v) (get m.reached.fresh.reduced v)) (lt-ltb v (64 * slice) a ∙ sym (lt-ltb v (64 * (slice + 1)) (omega arith))))
          (λ (a : 64 * slice ≤ v). ⊎_elim
          (λ (b : v < 64 * (slice + 1)). in_slice f limit m next i slice old cost v h ec l a b
          ∙ sym (ap (λ c. cond c (get next.fresh.reduced v) (get m.reached.fresh.reduced v)) (lt-ltb v (64 * (slice + 1)) b)))
          (λ (b : 64 * (slice + 1) ≤ v). off_slice f limit m next i slice old cost v (inr b) ∙ h.shifted.at v l
          ∙ ap (λ c. cond c (get next.fresh.reduced v) (get m.reached.fresh.reduced v)) (le-ltb v (64 * slice) a ∙ sym (le-ltb v (64 * (slice + 1)) b)))
          (cases_lt v (64 * (slice + 1))))
          (cases_lt v (64 * slice));
    }

-- ---- a list written over its whole length
take_whole : (ys : List Fraction) → take (length ys) ys ≡ ys
take_whole [] = refl
take_whole (y ∷ ys) = ap (λ zs. y ∷ zs) (take_whole ys)

pub written : (n : ℕ) (ws xs : List Fraction) → n ≡ length xs → length ws ≡ length xs → take n (ws ++ drop (length ws) xs) ≡ ws
written n ws xs e l =
    let all : n ≡ length ws = omega arith in
    ap (λ ys. take n (ws ++ ys)) (drop_all (length ws) xs (omega arith)) ∙ ap (take n) (append-nil ws) ∙ ap (λ k. take k ws) all ∙ take_whole ws

pub leaving_low : (f : Form) (limit : ℕ) (m : batch.Minor) (next : Reached) (i j : ℕ) (minor : Minor) (s : Step) → IsStepping f limit m next i j minor
    → IsStepOf f m.reached.basis m.reached.fresh m.step s → s.leaving < variables f
leaving_low f limit m next i j minor s h st =
    let w = walk_of f limit m next h.pivot in
    let e : s.leaving ≡ head_at m.reached.basis m.row.place = st.leaving ∙ ap (λ (x : theory.Step). x.leaving) w.by in
    let l = h.reached.basis.within m.row.place (pivot_low f limit m next h.pivot) in
    omega (arith, e, l)

pub costs_low : (f : Form) (m : batch.Minor) (next : Reached) (slice n : ℕ) (es : List Entry) → AreCosts f m next slice es → slice < slices (variables f)
    → variables f ≡ n → All (λ (e : Entry). e.place < n) es
costs_low f m next slice n es a l e =
    let size = (below 64 (variables f - 64 * slice)).1 in
    subst (λ (xs : List Entry). All (λ (x : Entry). x.place < n) xs) (sym a)
    (costs_placed (is_shifted m) (get next.fresh.reduced) (64 * slice) (lesser 64 (variables f - 64 * slice)) n (omega (arith, size, l, e)))
