-- A decision by computing for equations in a commutative ring: write both sides as `Term`s, and `refl` compares their normal forms.
use Rattle.std.proofs.Common.{◌≡◌, ℕ, zero, suc, Bool, true, false, cond, List, [], ◌∷◌, refl, sym, ap, ◌∙◌, eqb, ltb}
use lib.Dec.{T, eqb→eq}
use mathlib.Core.Bool.{not}

-- the laws that the solver uses
pub record IsRing {A : Type 0} (nil one : A) (add mul : A → A → A) (neg : A → A) : Type 0 where
  pub add_assoc : (a b c : A) → add (add a b) c ≡ add a (add b c)
  pub add_comm : (a b : A) → add a b ≡ add b a
  pub add_nil : (a : A) → add a nil ≡ a
  pub add_neg : (a : A) → add a (neg a) ≡ nil
  pub mul_assoc : (a b c : A) → mul (mul a b) c ≡ mul a (mul b c)
  pub mul_comm : (a b : A) → mul a b ≡ mul b a
  pub mul_one : (a : A) → mul a one ≡ a
  pub mul_add : (a b c : A) → mul a (add b c) ≡ add (mul a b) (mul a c)

-- a side of an equation: variables by number
pub data Term : Type 0 where
  var : ℕ → Term
  t0 t1 : Term
  ◌⊕◌ ◌⊗◌ : Term → Term → Term
  ⊖ : Term → Term

infixl 20 ◌⊕◌
infixl 30 ◌⊗◌
-- a signed product of variables in order; a sum is a list of them
pub record Mono : Type 0 where
  pub plus : Bool
  pub vars : List ℕ

-- ---- normal forms: sums of signed products, both in order
abbrev pub same : List ℕ → List ℕ → Bool
same [] [] = true
same [] (y ∷ ys) = false
same (x ∷ xs) [] = false
same (x ∷ xs) (y ∷ ys) = cond (eqb x y) (same xs ys) false

abbrev pub before : List ℕ → List ℕ → Bool
before [] ys = true
before (x ∷ xs) [] = false
before (x ∷ xs) (y ∷ ys) = cond (eqb x y) (before xs ys) (ltb x y)

abbrev pub same_sign : Bool → Bool → Bool
same_sign true b = b
same_sign false b = not b

-- the next three keep sums sorted, and cancel a product against its negation
abbrev pub joined : Mono → Mono → List Mono → List Mono → Bool → Bool → Bool → List Mono
joined t u ts later true true is_before = t ∷ u ∷ ts
joined t u ts later true false is_before = ts
joined t u ts later false signs true = t ∷ u ∷ ts
joined t u ts later false signs false = u ∷ later

abbrev pub insert : Mono → List Mono → List Mono
insert t [] = t ∷ []
insert t (u ∷ ts) = joined t u ts (insert t ts) (same t.vars u.vars) (same_sign t.plus u.plus) (before t.vars u.vars)

abbrev pub add_all : List Mono → List Mono → List Mono
add_all [] us = us
add_all (t ∷ ts) us = insert t (add_all ts us)

abbrev pub insert_var : ℕ → List ℕ → List ℕ
insert_var x [] = x ∷ []
insert_var x (y ∷ ys) = cond (ltb y x) (y ∷ insert_var x ys) (x ∷ y ∷ ys)

abbrev pub merge : List ℕ → List ℕ → List ℕ
merge [] ys = ys
merge (x ∷ xs) ys = insert_var x (merge xs ys)

abbrev pub times : Mono → Mono → Mono
times t u = record { plus = same_sign t.plus u.plus; vars = merge t.vars u.vars }

abbrev pub scale : Mono → List Mono → List Mono
scale t [] = []
scale t (u ∷ us) = insert (times t u) (scale t us)

abbrev pub mul_all : List Mono → List Mono → List Mono
mul_all [] us = []
mul_all (t ∷ ts) us = add_all (scale t us) (mul_all ts us)

abbrev pub negated : List Mono → List Mono
negated [] = []
negated (t ∷ ts) = record { plus = not t.plus; vars = t.vars } ∷ negated ts

abbrev pub normal : Term → List Mono
normal (var i) = record { plus = true; vars = i ∷ [] } ∷ []
normal t0 = []
normal t1 = record { plus = true; vars = [] } ∷ []
normal (a ⊕ b) = add_all (normal a) (normal b)
normal (a ⊗ b) = mul_all (normal a) (normal b)
normal (⊖ a) = negated (normal a)

-- ---- equal lists by the test
cons_same : (x y : ℕ) (xs ys : List ℕ) (b : Bool) → (T b → x ≡ y) → (T (same xs ys) → xs ≡ ys) → T (cond b (same xs ys) false) → x ∷ xs ≡ y ∷ ys
cons_same x y xs ys true e f k = ap (λ z. z ∷ xs) (e tt) ∙ ap (λ zs. y ∷ zs) (f k)
cons_same x y xs ys false e f k = absurd k

same_vars : (xs ys : List ℕ) → T (same xs ys) → xs ≡ ys
same_vars [] [] h = refl
same_vars [] (y ∷ ys) h = absurd h
same_vars (x ∷ xs) [] h = absurd h
same_vars (x ∷ xs) (y ∷ ys) h = cons_same x y xs ys (eqb x y) (eqb→eq x y) (same_vars xs ys) h

module _ {A : Type 0} (nil one : A) (add mul : A → A → A) (neg : A → A) where
  -- ---- what terms and sums are at the members of a list
  abbrev pub lookup : List A → ℕ → A
  lookup [] n = nil
  lookup (x ∷ xs) zero = x
  lookup (x ∷ xs) (suc n) = lookup xs n

  abbrev pub value : List A → Term → A
  value xs (var i) = lookup xs i
  value xs t0 = nil
  value xs t1 = one
  value xs (a ⊕ b) = add (value xs a) (value xs b)
  value xs (a ⊗ b) = mul (value xs a) (value xs b)
  value xs (⊖ a) = neg (value xs a)

  abbrev pub product : List A → List ℕ → A
  product xs [] = one
  product xs (i ∷ is) = mul (lookup xs i) (product xs is)

  abbrev pub signed : Bool → A → A
  signed true a = a
  signed false a = neg a

  abbrev pub total : List A → List Mono → A
  total xs [] = nil
  total xs (t ∷ ts) = add (signed t.plus (product xs t.vars)) (total xs ts)

  module _ (R : IsRing nil one add mul neg) where
    -- ---- laws that follow in any commutative ring
    pub nil_add : (a : A) → add nil a ≡ a
    nil_add a = R.add_comm nil a ∙ R.add_nil a

    pub neg_add : (a : A) → add (neg a) a ≡ nil
    neg_add a = R.add_comm (neg a) a ∙ R.add_neg a

    pub add_left_comm : (a b c : A) → add a (add b c) ≡ add b (add a c)
    add_left_comm a b c = sym (R.add_assoc a b c) ∙ ap (λ z. add z c) (R.add_comm a b) ∙ R.add_assoc b a c

    pub mul_left_comm : (a b c : A) → mul a (mul b c) ≡ mul b (mul a c)
    mul_left_comm a b c = sym (R.mul_assoc a b c) ∙ ap (λ z. mul z c) (R.mul_comm a b) ∙ R.mul_assoc b a c

    pub cancel_left : (a b : A) → add a (add (neg a) b) ≡ b
    cancel_left a b = sym (R.add_assoc a (neg a) b) ∙ ap (λ z. add z b) (R.add_neg a) ∙ nil_add b

    pub cancel_left_neg : (a b : A) → add (neg a) (add a b) ≡ b
    cancel_left_neg a b = sym (R.add_assoc (neg a) a b) ∙ ap (λ z. add z b) (neg_add a) ∙ nil_add b

    -- what a number adds to is unique
    pub neg_unique : (a b : A) → add a b ≡ nil → b ≡ neg a
    neg_unique a b e = sym (cancel_left_neg a b) ∙ ap (add (neg a)) e ∙ R.add_nil (neg a)

    pub neg_neg : (a : A) → neg (neg a) ≡ a
    neg_neg a = sym (neg_unique (neg a) a (neg_add a))

    pub neg_nil : neg nil ≡ nil
    neg_nil = sym (neg_unique nil nil (R.add_nil nil))

    pub neg_of_add : (a b : A) → neg (add a b) ≡ add (neg a) (neg b)
    neg_of_add a b = sym (neg_unique (add a b) (add (neg a) (neg b)) (R.add_assoc a b (add (neg a) (neg b)) ∙ ap (add a) (add_left_comm b (neg a) (neg b)) ∙ cancel_left a (add b (neg b)) ∙ R.add_neg b))

    pub add_twice : (a : A) → add a a ≡ a → a ≡ nil
    add_twice a e = sym (cancel_left_neg a a) ∙ ap (add (neg a)) e ∙ neg_add a

    pub mul_nil : (a : A) → mul a nil ≡ nil
    mul_nil a = add_twice (mul a nil) (sym (R.mul_add a nil nil) ∙ ap (mul a) (R.add_nil nil))

    pub nil_mul : (a : A) → mul nil a ≡ nil
    nil_mul a = R.mul_comm nil a ∙ mul_nil a

    pub mul_neg : (a b : A) → mul a (neg b) ≡ neg (mul a b)
    mul_neg a b = neg_unique (mul a b) (mul a (neg b)) (sym (R.mul_add a b (neg b)) ∙ ap (mul a) (R.add_neg b) ∙ mul_nil a)

    pub neg_mul : (a b : A) → mul (neg a) b ≡ neg (mul a b)
    neg_mul a b = R.mul_comm (neg a) b ∙ mul_neg b a ∙ ap neg (R.mul_comm b a)

    pub add_mul : (a b c : A) → mul (add a b) c ≡ add (mul a c) (mul b c)
    add_mul a b c = R.mul_comm (add a b) c ∙ R.mul_add c a b ∙ ap (λ z. add z (mul c b)) (R.mul_comm c a) ∙ ap (add (mul a c)) (R.mul_comm c b)

    pub one_mul : (a : A) → mul one a ≡ a
    one_mul a = R.mul_comm one a ∙ R.mul_one a

    -- ---- each operation on normal forms has the value of the operation
    signed_not : (b : Bool) (a : A) → signed (not b) a ≡ neg (signed b a)
    signed_not true a = refl
    signed_not false a = sym (neg_neg a)

    signed_mul : (b c : Bool) (x y : A) → signed (same_sign b c) (mul x y) ≡ mul (signed b x) (signed c y)
    signed_mul true true x y = refl
    signed_mul true false x y = sym (mul_neg x y)
    signed_mul false true x y = sym (neg_mul x y)
    signed_mul false false x y = sym (neg_mul x (neg y) ∙ ap neg (mul_neg x y) ∙ neg_neg (mul x y))

    -- signs that differ cancel
    opposite : (b c : Bool) (x r : A) → T (not (same_sign b c)) → add (signed b x) (add (signed c x) r) ≡ r
    opposite true true x r h = absurd h
    opposite true false x r h = cancel_left x r
    opposite false true x r h = cancel_left_neg x r
    opposite false false x r h = absurd h

    joined_value : (xs : List A) (t u : Mono) (ts later : List Mono) (s g f : Bool) →
        (T s → t.vars ≡ u.vars) → (T (not g) → T (not (same_sign t.plus u.plus))) →
        total xs later ≡ add (signed t.plus (product xs t.vars)) (total xs ts) →
        total xs (joined t u ts later s g f) ≡ add (signed t.plus (product xs t.vars)) (total xs (u ∷ ts))
    joined_value xs t u ts later true true f e k l = refl
    joined_value xs t u ts later true false f e k l =
        sym (ap (λ z. add (signed t.plus z) (total xs (u ∷ ts))) (ap (product xs) (e tt)) ∙ opposite t.plus u.plus (product xs u.vars) (total xs ts) (k tt))
    joined_value xs t u ts later false g true e k l = refl
    joined_value xs t u ts later false g false e k l =
        ap (add (signed u.plus (product xs u.vars))) l ∙ add_left_comm (signed u.plus (product xs u.vars)) (signed t.plus (product xs t.vars)) (total xs ts)

    insert_value : (xs : List A) (t : Mono) (us : List Mono) → total xs (insert t us) ≡ add (signed t.plus (product xs t.vars)) (total xs us)
    insert_value xs t [] = refl
    insert_value xs t (u ∷ us) =
        joined_value xs t u us (insert t us) (same t.vars u.vars) (same_sign t.plus u.plus) (before t.vars u.vars) (same_vars t.vars u.vars) (λ h. h) (insert_value xs t us)

    add_value : (xs : List A) (ts us : List Mono) → total xs (add_all ts us) ≡ add (total xs ts) (total xs us)
    add_value xs [] us = sym (nil_add (total xs us))
    add_value xs (t ∷ ts) us =
        insert_value xs t (add_all ts us) ∙ ap (add (signed t.plus (product xs t.vars))) (add_value xs ts us) ∙ sym (R.add_assoc (signed t.plus (product xs t.vars)) (total xs ts) (total xs us))

    cond_product : (xs : List A) (b : Bool) (ys zs : List ℕ) (v : A) → product xs ys ≡ v → product xs zs ≡ v → product xs (cond b ys zs) ≡ v
    cond_product xs true ys zs v e f = e
    cond_product xs false ys zs v e f = f

    insert_var_value : (xs : List A) (i : ℕ) (js : List ℕ) → product xs (insert_var i js) ≡ mul (lookup xs i) (product xs js)
    insert_var_value xs i [] = refl
    insert_var_value xs i (j ∷ js) =
        cond_product xs (ltb j i) (j ∷ insert_var i js) (i ∷ j ∷ js) (mul (lookup xs i) (product xs (j ∷ js)))
        (ap (mul (lookup xs j)) (insert_var_value xs i js) ∙ mul_left_comm (lookup xs j) (lookup xs i) (product xs js)) refl

    merge_value : (xs : List A) (is js : List ℕ) → product xs (merge is js) ≡ mul (product xs is) (product xs js)
    merge_value xs [] js = sym (one_mul (product xs js))
    merge_value xs (i ∷ is) js =
        insert_var_value xs i (merge is js) ∙ ap (mul (lookup xs i)) (merge_value xs is js) ∙ sym (R.mul_assoc (lookup xs i) (product xs is) (product xs js))

    scale_value : (xs : List A) (t : Mono) (us : List Mono) → total xs (scale t us) ≡ mul (signed t.plus (product xs t.vars)) (total xs us)
    scale_value xs t [] = sym (mul_nil (signed t.plus (product xs t.vars)))
    scale_value xs t (u ∷ us) =
        insert_value xs (times t u) (scale t us)
        ∙ ap (λ z. add z (total xs (scale t us))) (ap (signed (same_sign t.plus u.plus)) (merge_value xs t.vars u.vars) ∙ signed_mul t.plus u.plus (product xs t.vars) (product xs u.vars))
        ∙ ap (add (mul (signed t.plus (product xs t.vars)) (signed u.plus (product xs u.vars)))) (scale_value xs t us)
        ∙ sym (R.mul_add (signed t.plus (product xs t.vars)) (signed u.plus (product xs u.vars)) (total xs us))

    mul_value : (xs : List A) (ts us : List Mono) → total xs (mul_all ts us) ≡ mul (total xs ts) (total xs us)
    mul_value xs [] us = sym (nil_mul (total xs us))
    mul_value xs (t ∷ ts) us =
        add_value xs (scale t us) (mul_all ts us)
        ∙ ap (λ z. add z (total xs (mul_all ts us))) (scale_value xs t us)
        ∙ ap (add (mul (signed t.plus (product xs t.vars)) (total xs us))) (mul_value xs ts us)
        ∙ sym (add_mul (signed t.plus (product xs t.vars)) (total xs ts) (total xs us))

    negated_value : (xs : List A) (ts : List Mono) → total xs (negated ts) ≡ neg (total xs ts)
    negated_value xs [] = sym neg_nil
    negated_value xs (t ∷ ts) =
        ap (λ z. add z (total xs (negated ts))) (signed_not t.plus (product xs t.vars))
        ∙ ap (add (neg (signed t.plus (product xs t.vars)))) (negated_value xs ts)
        ∙ sym (neg_of_add (signed t.plus (product xs t.vars)) (total xs ts))

    normal_value : (xs : List A) (a : Term) → total xs (normal a) ≡ value xs a
    normal_value xs (var i) = R.add_nil (mul (lookup xs i) one) ∙ R.mul_one (lookup xs i)
    normal_value xs t0 = refl
    normal_value xs t1 = R.add_nil one
    normal_value xs (a ⊕ b) =
        add_value xs (normal a) (normal b) ∙ ap (λ z. add z (total xs (normal b))) (normal_value xs a) ∙ ap (add (value xs a)) (normal_value xs b)
    normal_value xs (a ⊗ b) =
        mul_value xs (normal a) (normal b) ∙ ap (λ z. mul z (total xs (normal b))) (normal_value xs a) ∙ ap (mul (value xs a)) (normal_value xs b)
    normal_value xs (⊖ a) = negated_value xs (normal a) ∙ ap neg (normal_value xs a)

    -- ---- the solver: terms with one normal form have one value
    pub by_ring : (xs : List A) (a b : Term) → normal a ≡ normal b → value xs a ≡ value xs b
    by_ring xs a b e = sym (normal_value xs a) ∙ ap (total xs) e ∙ normal_value xs b
