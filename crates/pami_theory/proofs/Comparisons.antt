-- Orders that compare by one test and then by another: that of candidates in the ratio walk, and that of infeasible rows.
use Rattle.std.proofs.Common.{◌≡◌, ℕ, ◌<◌, ◌≤◌, ◌⊎◌, inl, inr, ⊎_elim, Bool, true, false, if◌then◌else◌, refl, sym, arith, true≢false, nat_lt, int_lt, ℤ}
use Rattle.std.specs.Cmp.{IsStrictWeakOrder}
use Rattle.std.proofs.lemmas.List.Sorted.{IsStrictWeakOrder-flip, IsStrictWeakOrder-by_number}
use Rattle.std.proofs.lemmas.Bool.{cases_lt, lt-ltb}
use Rattle.std.proofs.lemmas.Int.{ints}
use Rattle.pami_algebra.specs.Fraction.{Fraction}
use Rattle.pami_algebra.specs.Operations.{is_below}
use Rattle.pami_algebra.proofs.Strict.{lt_le_f}
use Rattle.pami_algebra.proofs.Order.{le_trans_f}
use Rattle.pami_algebra.proofs.Tests.{is_below_iff, not_below_iff}
use Rattle.pami_theory.specs.Form.{Form}
use Rattle.pami_theory.specs.Ratio.{Leaving, turned_entry, ratio, absolute, walks_before}
use Rattle.pami_theory.specs.Choice.{InfeasibleRow, is_chosen_before}

-- ---- one test and then another
abbrev pub then_by : {A : Type 0} → (A → A → Bool) → (A → A → Bool) → A → A → Bool
then_by first rest x y = if first x y then true else if first y x then false else rest x y

abbrev pick : Bool → Bool → Bool → Bool
pick a b c = if a then true else if b then false else c

pick_one_way : (a b c d : Bool) → (a ≡ true → b ≡ false) → (c ≡ true → d ≡ false) → pick a b c ≡ true → pick b a d ≡ false
pick_one_way true true c d h k e = absurd (true≢false (h refl))
pick_one_way true false c d h k e = refl
pick_one_way false true c d h k e = absurd (true≢false (sym e))
pick_one_way false false c d h k e = k e

pick_first : (a b c : Bool) → pick a b c ≡ false → a ≡ false
pick_first true b c e = absurd (true≢false e)
pick_first false b c e = refl

pick_rest : (a b c : Bool) → pick a b c ≡ false → b ≡ false → c ≡ false
pick_rest true b c e h = absurd (true≢false e)
pick_rest false true c e h = absurd (true≢false h)
pick_rest false false c e h = e

pick_false : (a b c : Bool) → a ≡ false → (b ≡ false → c ≡ false) → pick a b c ≡ false
pick_false true b c e h = absurd (true≢false e)
pick_false false true c e h = refl
pick_false false false c e h = h refl

pub then_by_order : {A : Type 0} (first rest : A → A → Bool) → IsStrictWeakOrder first → IsStrictWeakOrder rest → IsStrictWeakOrder (then_by first rest)
then_by_order {A} first rest o p = record {
  one_way = λ x y. pick_one_way (first x y) (first y x) (rest x y) (rest y x) (o.one_way x y) (p.one_way x y);
  chain = chained;
}
  where
    chained : (x y z : A) → then_by first rest x y ≡ false → then_by first rest y z ≡ false → then_by first rest x z ≡ false
    chained x y z h k =
        let xy = pick_first (first x y) (first y x) (rest x y) h in
        let yz = pick_first (first y z) (first z y) (rest y z) k in
        pick_false (first x z) (first z x) (rest x z) (o.chain x y z xy yz)
        (λ zx. p.chain x y z (pick_rest (first x y) (first y x) (rest x y) h (o.chain y z x yz zx)) (pick_rest (first y z) (first z y) (rest y z) k (o.chain z x y zx xy)))

abbrev pub EitherFirst : {A : Type 0} → (A → A → Bool) → A → A → Type 0
EitherFirst before x y = (before x y ≡ true) ⊎ (before y x ≡ true)

pick_either : (a b c d : Bool) → (c ≡ true) ⊎ (d ≡ true) → (pick a b c ≡ true) ⊎ (pick b a d ≡ true)
pick_either true b c d h = inl refl
pick_either false true c d h = inr refl
pick_either false false c d h = h

pub then_by_either : {A : Type 0} (first rest : A → A → Bool) (x y : A) → EitherFirst rest x y → EitherFirst (then_by first rest) x y
then_by_either first rest x y h = pick_either (first x y) (first y x) (rest x y) (rest y x) h

-- ---- by a fraction, a whole number, a number
pub by_fraction : {A : Type 0} (key : A → Fraction) → IsStrictWeakOrder (λ (x y : A). is_below (key x) (key y))
by_fraction key = record {
  one_way = λ x y e. (not_below_iff (key y) (key x)).1 (lt_le_f (key x) (key y) ((is_below_iff (key x) (key y)).0 e));
  chain = λ x y z h k. (not_below_iff (key x) (key z)).1 (le_trans_f (key z) (key y) (key x) ((not_below_iff (key y) (key z)).0 k) ((not_below_iff (key x) (key y)).0 h));
}

int_one_way : (m n : ℤ) → int_lt m n ≡ true → int_lt n m ≡ false
int_one_way m n e = grind (arith, ints)

int_chain : (l m n : ℤ) → int_lt l m ≡ false → int_lt m n ≡ false → int_lt l n ≡ false
int_chain l m n h k = grind (arith, ints)

pub by_whole : {A : Type 0} (key : A → ℤ) → IsStrictWeakOrder (λ (x y : A). int_lt (key x) (key y))
by_whole key = record { one_way = λ x y. int_one_way (key x) (key y); chain = λ x y z. int_chain (key x) (key y) (key z) }

pub by_number : {A : Type 0} (key : A → ℕ) → IsStrictWeakOrder (λ (x y : A). nat_lt (key x) (key y))
by_number key = IsStrictWeakOrder-by_number key

number_either : (m n : ℕ) → ¬ (m ≡ n) → (nat_lt m n ≡ true) ⊎ (nat_lt n m ≡ true)
number_either m n h = ⊎_elim
    (λ (l : m < n). inl (lt-ltb m n l))
    (λ (l : n ≤ m). inr (lt-ltb n m (omega arith)))
    (cases_lt m n)

-- ---- candidates
pub walk_is_order : (f : Form) (l : Leaving) → IsStrictWeakOrder (walks_before f l)
walk_is_order f l =
    then_by_order (λ j k. is_below (ratio f l j) (ratio f l k)) (then_by (λ j k. is_below (absolute (turned_entry f l k)) (absolute (turned_entry f l j))) nat_lt)
    (by_fraction (ratio f l))
    (then_by_order (λ j k. is_below (absolute (turned_entry f l k)) (absolute (turned_entry f l j))) nat_lt
    (IsStrictWeakOrder-flip (λ (j k : ℕ). is_below (absolute (turned_entry f l j)) (absolute (turned_entry f l k))) (by_fraction (λ j. absolute (turned_entry f l j))))
    (by_number (λ j. j)))

pub walk_either : (f : Form) (l : Leaving) (j k : ℕ) → ¬ (j ≡ k) → EitherFirst (walks_before f l) j k
walk_either f l j k n =
    then_by_either (λ j k. is_below (ratio f l j) (ratio f l k)) (then_by (λ j k. is_below (absolute (turned_entry f l k)) (absolute (turned_entry f l j))) nat_lt) j k
    (then_by_either (λ j k. is_below (absolute (turned_entry f l k)) (absolute (turned_entry f l j))) nat_lt j k (number_either j k n))

-- ---- infeasible rows
abbrev more_outside : InfeasibleRow → InfeasibleRow → Bool
more_outside r s = is_below s.violation.amount r.violation.amount

abbrev more_merit : InfeasibleRow → InfeasibleRow → Bool
more_merit r s = int_lt s.merit r.merit

abbrev lesser_place : InfeasibleRow → InfeasibleRow → Bool
lesser_place r s = nat_lt r.place s.place

pub choice_is_order : IsStrictWeakOrder is_chosen_before
choice_is_order =
    then_by_order more_merit (then_by more_outside lesser_place)
    (IsStrictWeakOrder-flip (λ (r s : InfeasibleRow). int_lt r.merit s.merit) (by_whole (λ r. r.merit)))
    (then_by_order more_outside lesser_place
    (IsStrictWeakOrder-flip (λ (r s : InfeasibleRow). is_below r.violation.amount s.violation.amount) (by_fraction (λ r. r.violation.amount)))
    (by_number (λ r. r.place)))

pub choice_either : (r s : InfeasibleRow) → ¬ (r.place ≡ s.place) → EitherFirst is_chosen_before r s
choice_either r s n = then_by_either more_merit (then_by more_outside lesser_place) r s (then_by_either more_outside lesser_place r s (number_either r.place s.place n))
