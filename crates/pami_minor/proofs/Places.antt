-- Rows at distinct places: the row of a place is found, and taken out.
use Rattle.std.proofs.Common.{◌≡◌, ℕ, zero, suc, inl, inr, Bool, true, false, not, cond, nat_eq, ◌||◌, List, [], ◌∷◌, ◌++◌, take, drop, refl, sym, ap, ◌∙◌, subst, arith, true≢false}
use Rattle.std.specs.List.{filter}
use Rattle.std.proofs.lemmas.Bool.{eq-eqb, ne_eqb}
use Rattle.pami_theory.specs.Form.{Form}
use Rattle.pami_theory.specs.Choice.{InfeasibleRow}
use Rattle.pami_theory.specs.Step.{is_among}
use Rattle.pami_theory.proofs.Members.{Has}
use Rattle.pami_method.specs.Batch.{Reached, places}
use Rattle.pami_minor.specs.declared.kept.Kept.{Kept}
use Rattle.pami_minor.specs.Picks.{IsRowAt}
use Rattle.pami_minor.specs.Fresh.{IsFreshRow, AreFreshRows, AreApart}

-- ---- a place among those of rows
among_by : (b c : Bool) → c ≡ true → (b || c) ≡ true
among_by true c e = refl
among_by false c e = e

here_by : (b c : Bool) → b ≡ true → (b || c) ≡ true
here_by true c e = refl
here_by false c e = absurd (true≢false (sym e))

none_by : (b c : Bool) → (b || c) ≡ false → (b ≡ false) × (c ≡ false)
none_by true c e = absurd (true≢false e)
none_by false c e = (refl, e)

pub has_among : (xs : List InfeasibleRow) (x : InfeasibleRow) → Has xs x → is_among x.place (places xs) ≡ true
has_among [] x h = absurd h
has_among (y ∷ ys) x (inl e) = here_by (nat_eq x.place y.place) (is_among x.place (places ys)) (eq-eqb x.place y.place (sym (ap (λ (z : InfeasibleRow). z.place) e)))
has_among (y ∷ ys) x (inr h) = among_by (nat_eq x.place y.place) (is_among x.place (places ys)) (has_among ys x h)

pub apart_from : (xs : List InfeasibleRow) (p : ℕ) (x : InfeasibleRow) → is_among p (places xs) ≡ false → Has xs x → ¬ (x.place ≡ p)
apart_from xs p x e h k = true≢false (sym (has_among xs x h) ∙ ap (λ q. is_among q (places xs)) k ∙ e)

-- ---- a row that is found
pub has_places : (xs : List InfeasibleRow) (x : InfeasibleRow) → Has xs x → Has (places xs) x.place
has_places [] x h = absurd h
has_places (y ∷ ys) x (inl e) = inl (ap (λ (z : InfeasibleRow). z.place) e)
has_places (y ∷ ys) x (inr h) = inr (has_places ys x h)

pub place_of_has : (xs : List InfeasibleRow) (p : ℕ) → Has (places xs) p → (x : InfeasibleRow) × Has xs x × (x.place ≡ p)
place_of_has [] p h = absurd h
place_of_has (x ∷ xs) p (inl e) = (x, inl refl, e)
place_of_has (x ∷ xs) p (inr m) = let s = place_of_has xs p m in (s.0, inr s.1, s.2)

pub find_fresh : (f : Form) (r : Reached) (ks : List Kept) (xs : List InfeasibleRow) (x : InfeasibleRow) → AreFreshRows f r ks xs → Has xs x
    → (i : ℕ) × (k : Kept) × IsRowAt x.place ks i k
find_fresh f r [] [] x h m = absurd m
find_fresh f r [] (y ∷ ys) x h m = absurd h
find_fresh f r (k ∷ ks) [] x h m = absurd h
find_fresh f r (k ∷ ks) (y ∷ ys) x h (inl e) = (0, k, (omega arith, refl, h.0.known.place ∙ ap (λ (z : InfeasibleRow). z.place) e))
find_fresh f r (k ∷ ks) (y ∷ ys) x h (inr m) =
    let s = find_fresh f r ks ys x h.1 m in
    (suc s.0, s.1, (let l = s.2.0 in omega arith, s.2.1, s.2.2))

-- ---- and taken out
left : ℕ → InfeasibleRow → Bool
left p x = not (nat_eq x.place p)

kept_all : (p : ℕ) (xs : List InfeasibleRow) → is_among p (places xs) ≡ false → filter (λ (x : InfeasibleRow). not (nat_eq x.place p)) xs ≡ xs
kept_all p [] e = refl
kept_all p (x ∷ xs) e =
    let k = none_by (nat_eq p x.place) (is_among p (places xs)) e in
    let n : nat_eq x.place p ≡ false = ne_eqb x.place p (λ h. true≢false (sym (eq-eqb p x.place (sym h)) ∙ k.0)) in
    ap (λ b. cond (not b) (x ∷ filter (λ (y : InfeasibleRow). not (nat_eq y.place p)) xs) (filter (λ (y : InfeasibleRow). not (nat_eq y.place p)) xs)) n
    ∙ ap (λ ys. x ∷ ys) (kept_all p xs k.1)

pub taken_fresh : (f : Form) (r : Reached) (ks : List Kept) (xs : List InfeasibleRow) (i : ℕ) (k : Kept) (p : ℕ) → AreFreshRows f r ks xs → AreApart xs
    → IsRowAt p ks i k → AreFreshRows f r (take i ks ++ drop (suc i) ks) (filter (λ (x : InfeasibleRow). not (nat_eq x.place p)) xs)
    × ((x : InfeasibleRow) × Has xs x × IsFreshRow f r k x)
taken_fresh f r [] xs i k p h a m = absurd (let l = m.0 in omega arith)
taken_fresh f r (j ∷ ks) [] i k p h a m = absurd h
taken_fresh f r (j ∷ ks) (x ∷ xs) zero k p h a m =
    let place : x.place ≡ p = sym h.0.known.place ∙ ap (λ (z : Kept). z.at.place) m.1 ∙ m.2 in
    let gone : filter (λ (y : InfeasibleRow). not (nat_eq y.place p)) (x ∷ xs) ≡ xs =
    ap (λ b. cond (not b) (x ∷ filter (λ (y : InfeasibleRow). not (nat_eq y.place p)) xs) (filter (λ (y : InfeasibleRow). not (nat_eq y.place p)) xs)) (eq-eqb x.place p place)
    ∙ kept_all p xs (ap (λ q. is_among q (places xs)) (sym place) ∙ a.0) in
    (subst (AreFreshRows f r ks) (sym gone) h.1, (x, inl refl, subst (λ z. IsFreshRow f r z x) m.1 h.0))
taken_fresh f r (j ∷ ks) (x ∷ xs) (suc i) k p h a m =
    let s = taken_fresh f r ks xs i k p h.1 a.1 (let l = m.0 in omega arith, m.1, m.2) in
    let other : nat_eq x.place p ≡ false = ne_eqb x.place p
    (λ e. apart_from xs x.place s.1.0 a.0 s.1.1 (sym s.1.2.known.place ∙ m.2 ∙ sym e)) in
    let there : filter (λ (y : InfeasibleRow). not (nat_eq y.place p)) (x ∷ xs) ≡ x ∷ filter (λ (y : InfeasibleRow). not (nat_eq y.place p)) xs =
    ap (λ b. cond (not b) (x ∷ filter (λ (y : InfeasibleRow). not (nat_eq y.place p)) xs) (filter (λ (y : InfeasibleRow). not (nat_eq y.place p)) xs)) other in
    (subst (AreFreshRows f r (j ∷ (take i ks ++ drop (suc i) ks))) (sym there) (h.0, s.0), (s.1.0, inr s.1.1, s.1.2))

-- ---- parts of rows at distinct places
apart_part : (q : InfeasibleRow → Bool) (p : ℕ) (xs : List InfeasibleRow) → is_among p (places xs) ≡ false → is_among p (places (filter q xs)) ≡ false
apart_part q p [] e = refl
apart_part q p (x ∷ xs) e =
    let k = none_by (nat_eq p x.place) (is_among p (places xs)) e in go (q x) k.0 (apart_part q p xs k.1)
  where
    go : (b : Bool) → nat_eq p x.place ≡ false → is_among p (places (filter q xs)) ≡ false → is_among p (places (cond b (x ∷ filter q xs) (filter q xs))) ≡ false
    go true n m = ap (λ c. c || is_among p (places (filter q xs))) n ∙ m
    go false n m = m

pub filter_apart : (q : InfeasibleRow → Bool) (xs : List InfeasibleRow) → AreApart xs → AreApart (filter q xs)
filter_apart q [] a = tt
filter_apart q (x ∷ xs) a = go (q x) (apart_part q x.place xs a.0) (filter_apart q xs a.1)
  where
    go : (b : Bool) → is_among x.place (places (filter q xs)) ≡ false → AreApart (filter q xs) → AreApart (cond b (x ∷ filter q xs) (filter q xs))
    go true n m = (n, m)
    go false n m = m
