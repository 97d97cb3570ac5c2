-- The flips of a walk: variables that exist, each of them once.
use Rattle.std.proofs.Common.{◌≡◌, ℕ, zero, suc, ◌+◌, ◌<◌, inl, inr, ⊎_elim, ◌⊎◌, Bool, true, false, cond, ◌||◌, nat_eq, List, [], ◌∷◌, Some, refl, sym, ap, ◌∙◌, subst, arith, true≢false}
use Rattle.std.specs.List.{All, filter, range_with_len}
use Rattle.std.proofs.lemmas.List.Elements.{All-nil, All-cons}
use Rattle.std.proofs.lemmas.Bool.{eqb-true, eq-eqb}
use Rattle.pami_theory.specs.Form.{Form, variables}
use Rattle.pami_theory.specs.Basis.{Basis}
use Rattle.pami_theory.specs.Order.{put_in, ordered}
use Rattle.pami_theory.specs.Ratio.{Leaving, Entering, is_candidate, walks_before, walk_order, ratio_walk}
use Rattle.pami_theory.specs.Step.{is_among}
use Rattle.pami_theory.proofs.Members.{Has, filter_has, range_has}
use Rattle.pami_theory.proofs.Orders.{ordered_has}
use Rattle.pami_theory.proofs.Candidates.{entered_by_walk}
use Rattle.pami_minor.proofs.Turned.{AreOnce}

-- ---- members
pub all_by : {A : Type 0} (P : A → Type 0) (xs : List A) → ((x : A) → Has xs x → P x) → All P xs
all_by P [] h = All-nil P
all_by P (x ∷ xs) h = All-cons P x xs (h x (inl refl)) (all_by P xs (λ y m. h y (inr m)))

or_parts : (b c : Bool) → (b || c) ≡ true → (b ≡ true) ⊎ (c ≡ true)
or_parts true c e = inl refl
or_parts false c e = inr e

or_none : (b c : Bool) → b ≡ false → c ≡ false → (b || c) ≡ false
or_none true c e h = absurd (true≢false e)
or_none false c e h = h

none_of : (b c : Bool) → (b || c) ≡ false → (b ≡ false) × (c ≡ false)
none_of true c e = absurd (true≢false e)
none_of false c e = (refl, e)

among_has : (u : ℕ) (vs : List ℕ) → is_among u vs ≡ true → Has vs u
among_has u [] e = absurd (true≢false (sym e))
among_has u (v ∷ vs) e = ⊎_elim
    (λ (h : nat_eq u v ≡ true). inl (sym (eqb-true u v h)))
    (λ (h : is_among u vs ≡ true). inr (among_has u vs h))
    (or_parts (nat_eq u v) (is_among u vs) e)

not_among : (u : ℕ) (vs : List ℕ) → ¬ Has vs u → is_among u vs ≡ false
not_among u vs n = go (is_among u vs) refl
  where
    go : (b : Bool) → is_among u vs ≡ b → b ≡ false
    go true e = absurd (n (among_has u vs e))
    go false e = refl

has_among : (u : ℕ) (vs : List ℕ) → Has vs u → is_among u vs ≡ true
has_among u [] h = absurd h
has_among u (v ∷ vs) (inl e) = ap (λ b. b || is_among u vs) (eq-eqb u v (sym e))
has_among u (v ∷ vs) (inr h) = go (nat_eq u v) (has_among u vs h)
  where
    go : (b : Bool) → is_among u vs ≡ true → (b || is_among u vs) ≡ true
    go true e = refl
    go false e = e

-- ---- each once
filter_once : (q : ℕ → Bool) (vs : List ℕ) → AreOnce vs → AreOnce (filter q vs)
filter_once q [] o = tt
filter_once q (v ∷ vs) o =
    go (q v) (not_among v (filter q vs) (λ h. true≢false (sym (has_among v vs (filter_has q vs v h).0) ∙ o.0))) (filter_once q vs o.1)
  where
    go : (b : Bool) → is_among v (filter q vs) ≡ false → AreOnce (filter q vs) → AreOnce (cond b (v ∷ filter q vs) (filter q vs))
    go true n m = (n, m)
    go false n m = m

range_once : (a n : ℕ) → AreOnce (range_with_len a n)
range_once a zero = tt
range_once a (suc n) = (not_among a (range_with_len (a + 1) n) (λ h. let l = (range_has (a + 1) n a h).0 in absurd (omega arith)), range_once (a + 1) n)

put_has : (before : ℕ → ℕ → Bool) (x : ℕ) (ys : List ℕ) (u : ℕ) → Has (put_in before x ys) u → (x ≡ u) ⊎ Has ys u
put_has before x [] u (inl e) = inl e
put_has before x [] u (inr h) = absurd h
put_has before x (y ∷ ys) u h = go (before x y) (λ m. put_has before x ys u m) h
  where
    go : (b : Bool) → (Has (put_in before x ys) u → (x ≡ u) ⊎ Has ys u) → Has (cond b (x ∷ y ∷ ys) (y ∷ put_in before x ys)) u
        → (x ≡ u) ⊎ Has (y ∷ ys) u
    go true k (inl e) = inl e
    go true k (inr m) = inr m
    go false k (inl e) = inr (inl e)
    go false k (inr m) = ⊎_elim (λ (e : x ≡ u). inl e) (λ (z : Has ys u). inr (inr z)) (k m)

put_once : (before : ℕ → ℕ → Bool) (x : ℕ) (ys : List ℕ) → is_among x ys ≡ false → AreOnce ys → AreOnce (put_in before x ys)
put_once before x [] n o = (refl, tt)
put_once before x (y ∷ ys) n o =
    let k = none_of (nat_eq x y) (is_among x ys) n in
    go (before x y)
    (not_among y (put_in before x ys) (λ h. ⊎_elim
    (λ (e : x ≡ y). true≢false (sym (eq-eqb x y e) ∙ k.0))
    (λ (m : Has ys y). true≢false (sym (has_among y ys m) ∙ o.0))
    (put_has before x ys y h)))
    (put_once before x ys k.1 o.1)
  where
    go : (b : Bool) → is_among y (put_in before x ys) ≡ false → AreOnce (put_in before x ys) → AreOnce (cond b (x ∷ y ∷ ys) (y ∷ put_in before x ys))
    go true m p = (n, o)
    go false m p = (m, p)

pub ordered_once : (before : ℕ → ℕ → Bool) (vs : List ℕ) → AreOnce vs → AreOnce (ordered before vs)
ordered_once before [] o = tt
ordered_once before (v ∷ vs) o =
    put_once before v (ordered before vs)
    (not_among v (ordered before vs) (λ h. true≢false (sym (has_among v vs (ordered_has before vs v h)) ∙ o.0))) (ordered_once before vs o.1)

-- ---- the flips
pub flips_once : (f : Form) (b : Basis) (l : Leaving) (e : Entering) → ratio_walk f b l ≡ Some e → AreOnce e.flips
flips_once f b l e h =
    subst AreOnce (sym (ap (λ (x : Entering). x.flips) (entered_by_walk f b l e h).1))
    (filter_once (λ j. walks_before f l j e.variable) (walk_order f b l)
    (ordered_once (walks_before f l) (filter (is_candidate f b l) (range_with_len 0 (variables f)))
    (filter_once (is_candidate f b l) (range_with_len 0 (variables f)) (range_once 0 (variables f)))))

pub flips_exist : (f : Form) (b : Basis) (l : Leaving) (e : Entering) → ratio_walk f b l ≡ Some e → All (λ v. v < variables f) e.flips
flips_exist f b l e h =
    let candidates : List ℕ = filter (is_candidate f b l) (range_with_len 0 (variables f)) in
    subst (λ (vs : List ℕ). All (λ v. v < variables f) vs) (sym (ap (λ (x : Entering). x.flips) (entered_by_walk f b l e h).1))
    (all_by (λ v. v < variables f) (filter (λ j. walks_before f l j e.variable) (walk_order f b l))
    (λ v m.
    let walked = (filter_has (λ j. walks_before f l j e.variable) (walk_order f b l) v m).0 in
    let low = (range_has 0 (variables f) v (filter_has (is_candidate f b l) (range_with_len 0 (variables f)) v
    (ordered_has (walks_before f l) candidates v walked)).0).1 in
    omega (arith, low)))
