-- The weight of a place beside the pivot's, as the program works it out.
use Rattle.std.proofs.Common.{◌≡◌, ℕ, suc, ◌+◌, ◌*◌, ◌/◌, ◌-◌, ◌<◌, ◌≤◌, ◌^◌, ◌%◌, refl, ap, ◌∙◌, sym, subst, arith, Bool, true, false, if◌then◌else◌, min, max, List, [], ◌∷◌, length, drop, get_or, map, nat_eq, ⊎_elim, true≢false}
use Rattle.std.proofs.lemmas.Bool.{cases_lt, eqb-true, eq-eqb}
use Rattle.std.proofs.lemmas.Bool.Decides.{nat_tests}
use Rattle.std.proofs.lemmas.List.{get_or-set_same, get_or-set_other, length-set, ext_get_or, at_drop_more, at_drop_all}
use Rattle.std.proofs.lemmas.List.FromFn.{get_or-map-range_with_len, length-map-range_with_len}
use Rattle.std.proofs.Math.ListN.{set}
use Rattle.std.proofs.Math.Nat.{one-mul, mod-eq_of_lt, mul_comm}
use Rattle.std.proofs.Math.Pow.{pow_mono}
use Rattle.std.specs.List.{range_with_len}
use Rattle.std.proofs.lemmas.Nat.{shr_le}
use lib.IntN.{ℤ, pos, ◌-ℤ◌}
use Rattle.pami_algebra.specs.Fraction.{Fraction}
use Rattle.pami_algebra.specs.Operations.{is_zero, of_int}
use Rattle.pami_algebra.specs.Size.{size}
use Rattle.pami_algebra.proofs.Tests.{is_zero_iff}
use Rattle.pami_frac.specs.declared.list.Entry.{Entry}
use Rattle.pami_linear.specs.Lists.{get}
use Rattle.pami_script.specs.Dense.{at, dense, Rising}
use Rattle.pami_script.proofs.Skipped.{at_here, at_other, at_below, get_dense}
use Rattle.pami_theory.specs.Weights.{weight_at, greater, lesser, clamped, weight_after, weights_after}
use Rattle.pami_devex.specs.Weights.{IsWeight, AreWeights, weight_beside, weight_at_pivot}

-- a product that stops at 2^64 - 1 has the same lesser
capped : (w p m : ℕ) → m < 2 ^ 64 → max (min (min p (2 ^ 64 - 1)) m) w ≡ greater w (lesser p m)
capped w p m h = grind (arith, nat_tests)

-- 1 shifted by twice a number up to 16
pub shifted_one : (e : ℕ) → e ≤ 16 → (1 * 2 ^ (2 * e)) % 2 ^ 64 ≡ 2 ^ (2 * e)
shifted_one e h =
    let u : 2 ^ (2 * e) ≤ 2 ^ 32 = pow_mono {i = 2 * e} {j = 32} (omega arith) in
    ap (λ n. n % 2 ^ 64) (one-mul (2 ^ (2 * e))) ∙ mod-eq_of_lt (omega arith)

pub beside_other : (w wp g : ℕ) (a b : Fraction) (e : ℕ) (z : ℤ) → is_zero a ≡ false → e ≡ clamped z → z ≡ size a -ℤ size b → g ≡ 2 ^ (2 * e) → max (min (min (wp * g) (2 ^ 64 - 1)) (2 ^ 40)) w ≡ weight_beside w a b wp
beside_other w wp g a b e z n h s k =
    let same : g ≡ 2 ^ (2 * clamped (size a -ℤ size b)) = k ∙ ap (λ e. 2 ^ (2 * e)) (h ∙ ap clamped s) in
    capped w (wp * g) (2 ^ 40) (omega arith)
    ∙ ap (λ p. greater w (lesser p (2 ^ 40))) (ap (λ g. wp * g) same ∙ mul_comm wp (2 ^ (2 * clamped (size a -ℤ size b))))
    ∙ sym (ap (λ t. if t then w else greater w (lesser (2 ^ (2 * clamped (size a -ℤ size b)) * wp) (2 ^ 40))) n)

pub beside_zero : (w wp : ℕ) (a b : Fraction) → is_zero a ≡ true → w ≡ weight_beside w a b wp
beside_zero w wp a b z = sym (ap (λ t. if t then w else greater w (lesser (2 ^ (2 * clamped (size a -ℤ size b)) * wp) (2 ^ 40))) z)

-- ---- the weights, entry by entry
-- the weight of place q with this entry, from its old weight
abbrev pub weight_by : ℕ → Fraction → ℕ → ℕ → Fraction → ℕ → ℕ
weight_by p a wp q x w = if nat_eq q p then weight_at_pivot wp a else weight_beside w x a wp

abbrev pub reweighed : ℕ → Fraction → ℕ → List Entry → List ℕ → List ℕ
reweighed p a wp [] ws = ws
reweighed p a wp (e ∷ es) ws = reweighed p a wp es (set ws e.place (weight_by p a wp e.place e.value (weight_at ws e.place)))

length_reweighed : (p : ℕ) (a : Fraction) (wp : ℕ) (es : List Entry) (ws : List ℕ) → length (reweighed p a wp es ws) ≡ length ws
length_reweighed p a wp [] ws = refl
length_reweighed p a wp (e ∷ es) ws =
    let v = weight_by p a wp e.place e.value (weight_at ws e.place) in
    length_reweighed p a wp es (set ws e.place v) ∙ length-set ws e.place v

-- a place before all entries keeps its weight
reweighed_before : (p : ℕ) (a : Fraction) (wp : ℕ) (es : List Entry) (ws : List ℕ) (low high q : ℕ) → Rising low high es → q < low → weight_at (reweighed p a wp es ws) q ≡ weight_at ws q
reweighed_before p a wp [] ws low high q r h = refl
reweighed_before p a wp (e ∷ es) ws low high q r h =
    let v = weight_by p a wp e.place e.value (weight_at ws e.place) in
    let k = r.0 in
    reweighed_before p a wp es (set ws e.place v) (suc e.place) high q r.2 (omega arith) ∙ get_or-set_other ws e.place q v 1 (omega arith)

-- and so does another place than the pivot's with a zero
kept_at_zero : (p : ℕ) (a : Fraction) (wp q : ℕ) (x : Fraction) (w : ℕ) → is_zero x ≡ true → ¬ (q ≡ p) → w ≡ weight_by p a wp q x w
kept_at_zero p a wp q x w z n = beside_zero w wp x a z ∙ go (nat_eq q p) (λ h. n (eqb-true q p h))
  where
    go : (t : Bool) → (t ≡ true → ⊥) → weight_beside w x a wp ≡ (if t then weight_at_pivot wp a else weight_beside w x a wp)
    go true h = absurd (h refl)
    go false h = refl

zero_is : is_zero (of_int (pos 0)) ≡ true
zero_is = (is_zero_iff (of_int (pos 0))).1 refl

pub reweighed_at : (p : ℕ) (a : Fraction) (wp : ℕ) (es : List Entry) (ws : List ℕ) (low high q : ℕ) → Rising low high es → high ≤ length ws → low ≤ q → q < high → (is_zero (at es q) ≡ true → ¬ (q ≡ p)) →
    weight_at (reweighed p a wp es ws) q ≡ weight_by p a wp q (at es q) (weight_at ws q)
reweighed_at p a wp [] ws low high q r n l m z = kept_at_zero p a wp q (of_int (pos 0)) (weight_at ws q) zero_is (z zero_is)
reweighed_at p a wp (e ∷ es) ws low high q r n l m z =
    let v = weight_by p a wp e.place e.value (weight_at ws e.place) in
    let next = set ws e.place v in
    let rl = r.0 in
    let rh = r.1 in
    ⊎_elim
    (λ (b : q < e.place).
    let none : at (e ∷ es) q ≡ of_int (pos 0) = at_below (e ∷ es) (suc q) high q (b, r.1, r.2) (omega arith) in
    let nil : is_zero (at (e ∷ es) q) ≡ true = ap is_zero none ∙ zero_is in
    reweighed_before p a wp es next (suc e.place) high q r.2 (omega arith) ∙ get_or-set_other ws e.place q v 1 (omega arith) ∙ kept_at_zero p a wp q (at (e ∷ es) q) (weight_at ws q) nil (z nil))
    (λ (b : e.place ≤ q). ⊎_elim
    (λ (k : e.place < q).
    let other : at (e ∷ es) q ≡ at es q = at_other e es q (λ s. omega arith) in
    reweighed_at p a wp es next (suc e.place) high q r.2 (omega (arith, length-set ws e.place v)) (omega arith) m (λ h. z (ap is_zero other ∙ h))
    ∙ ap (λ w. weight_by p a wp q (at es q) w) (get_or-set_other ws e.place q v 1 (omega arith))
    ∙ ap (λ x. weight_by p a wp q x (weight_at ws q)) (sym other))
    (λ (k : q ≤ e.place).
    let same : e.place ≡ q = omega arith in
    subst (λ j. weight_at (reweighed p a wp es next) j ≡ weight_by p a wp j (at (e ∷ es) j) (weight_at ws j)) same
    (reweighed_before p a wp es next (suc e.place) high e.place r.2 (omega arith)
    ∙ get_or-set_same ws e.place v 1 (omega arith)
    ∙ ap (λ x. weight_by p a wp e.place x (weight_at ws e.place)) (sym (at_here e es e.place refl))))
    (cases_lt e.place q))
    (cases_lt q e.place)

-- a place with an entry other than 0 is one of the vector's
at_past : (es : List Entry) (low high p : ℕ) → Rising low high es → high ≤ p → at es p ≡ of_int (pos 0)
at_past [] low high p r h = refl
at_past (e ∷ es) low high p r h = at_other e es p (λ k. let a = r.1 in omega arith) ∙ at_past es (suc e.place) high p r.2 h

pub place_within : (es : List Entry) (low high p : ℕ) → Rising low high es → is_zero (at es p) ≡ false → p < high
place_within es low high p r z = ⊎_elim (λ (h : p < high). h) (λ (h : high ≤ p). absurd (true≢false (sym zero_is ∙ ap is_zero (sym (at_past es low high p r h)) ∙ z))) (cases_lt p high)

-- ---- all weights
pub reweighed_is : (p : ℕ) (es : List Entry) (ws : List ℕ) → Rising 0 (length ws) es → is_zero (at es p) ≡ false → reweighed p (at es p) (weight_at ws p) es ws ≡ weights_after (dense (length ws) es) p ws
reweighed_is p es ws r z =
    let n = length ws in
    let a = at es p in
    let f = weight_after (dense n es) p ws in
    let inside : p < n = place_within es 0 n p r z in
    ext_get_or 1 (reweighed p a (weight_at ws p) es ws) (map f (range_with_len 0 n)) (length_reweighed p a (weight_at ws p) es ws ∙ sym (length-map-range_with_len f 0 n))
    (λ q h. let m : q < n = omega (arith, length_reweighed p a (weight_at ws p) es ws) in
    reweighed_at p a (weight_at ws p) es ws 0 n q r (omega arith) (omega arith) m (λ nil e. true≢false (sym nil ∙ ap (λ j. is_zero (at es j)) e ∙ z))
    ∙ ap (λ x. weight_by p x (weight_at ws p) q (at es q) (weight_at ws q)) (sym (get_dense n es p inside))
    ∙ ap (λ x. weight_by p (get (dense n es) p) (weight_at ws p) q x (weight_at ws q)) (sym (get_dense n es q m))
    ∙ sym (get_or-map-range_with_len f 0 n q q 1 m (omega arith)))

-- ---- as the loop over the entries takes them
pub pivot_weight : (p : ℕ) (a : Fraction) (wp q : ℕ) (x : Fraction) (w v : ℕ) → q ≡ p → v ≡ weight_at_pivot wp a → v ≡ weight_by p a wp q x w
pivot_weight p a wp q x w v h k = k ∙ sym (ap (λ t. if t then weight_at_pivot wp a else weight_beside w x a wp) (eq-eqb q p h))

pub other_weight : (p : ℕ) (a : Fraction) (wp q : ℕ) (x : Fraction) (w v : ℕ) → ¬ (q ≡ p) → v ≡ weight_beside w x a wp → v ≡ weight_by p a wp q x w
other_weight p a wp q x w v n k = k ∙ go (nat_eq q p) (λ h. n (eqb-true q p h))
  where
    go : (t : Bool) → (t ≡ true → ⊥) → weight_beside w x a wp ≡ (if t then weight_at_pivot wp a else weight_beside w x a wp)
    go true h = absurd (h refl)
    go false h = refl

pub entry_taken : (p : ℕ) (a : Fraction) (wp : ℕ) (es : List Entry) (ws start : List ℕ) (i : ℕ) (e : Entry) (v : ℕ) → i < length es → e ≡ get_or es i e → v ≡ weight_by p a wp e.place e.value (weight_at ws e.place) →
    reweighed p a wp es start ≡ reweighed p a wp (drop i es) ws → reweighed p a wp es start ≡ reweighed p a wp (drop (i + 1) es) (set ws e.place v)
entry_taken p a wp es ws start i e v l q k h =
    h ∙ at_drop_more (λ xs. reweighed p a wp xs ws) es i e l
    ∙ ap (λ x. reweighed p a wp (x ∷ drop (i + 1) es) ws) (sym q)
    ∙ ap (λ v. reweighed p a wp (drop (i + 1) es) (set ws e.place v)) (sym k)

pub all_taken : (p : ℕ) (a : Fraction) (wp : ℕ) (es : List Entry) (ws start : List ℕ) (i : ℕ) → length es ≤ i → reweighed p a wp es start ≡ reweighed p a wp (drop i es) ws → ws ≡ reweighed p a wp es start
all_taken p a wp es ws start i l h = sym (h ∙ at_drop_all (λ xs. reweighed p a wp xs ws) es i l)

-- ---- weights stay in their range
in_range : (w m : ℕ) → IsWeight w → IsWeight (greater w (lesser m (2 ^ 40)))
in_range w m h = let a = h.least in let b = h.most in record { least = grind (arith, nat_tests); most = grind (arith, nat_tests) }

pub beside_in_range : (w : ℕ) (x a : Fraction) (wp : ℕ) → IsWeight w → IsWeight (weight_beside w x a wp)
beside_in_range w x a wp h = go (is_zero x)
  where
    go : (t : Bool) → IsWeight (if t then w else greater w (lesser (2 ^ (2 * clamped (size x -ℤ size a)) * wp) (2 ^ 40)))
    go true = h
    go false = in_range w (2 ^ (2 * clamped (size x -ℤ size a)) * wp) h

pub halved_in_range : (w k : ℕ) → IsWeight w → IsWeight (greater 1 (w / 2 ^ k))
halved_in_range w k h = let a = h.least in let b = h.most in let l : w / 2 ^ k ≤ w = shr_le w k in record { least = grind (arith, nat_tests); most = grind (arith, nat_tests) }

pub all_in_range : (p : ℕ) (es : List Entry) (ws new : List ℕ) → Rising 0 (length ws) es → is_zero (at es p) ≡ false → new ≡ reweighed p (at es p) (weight_at ws p) es ws → AreWeights ws → AreWeights new
all_in_range p es ws new r z e h = subst AreWeights (sym e) (λ q l.
    let m : q < length ws = omega (arith, length_reweighed p (at es p) (weight_at ws p) es ws) in
    subst IsWeight (sym (reweighed_at p (at es p) (weight_at ws p) es ws 0 (length ws) q r (omega arith) (omega arith) m (λ nil e. true≢false (sym nil ∙ ap (λ j. is_zero (at es j)) e ∙ z)))) (go q m (nat_eq q p)))
  where
    go : (q : ℕ) → q < length ws → (t : Bool) → IsWeight (if t then weight_at_pivot (weight_at ws p) (at es p) else weight_beside (weight_at ws q) (at es q) (at es p) (weight_at ws p))
    go q m true = halved_in_range (weight_at ws p) (2 * clamped (size (at es p))) (h p (place_within es 0 (length ws) p r z))
    go q m false = beside_in_range (weight_at ws q) (at es q) (at es p) (weight_at ws p) (h q m)
