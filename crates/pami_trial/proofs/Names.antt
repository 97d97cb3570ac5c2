-- The names of a trial: each once, and short.
use Rattle.std.proofs.Common.{◌≡◌, ℕ, suc, ◌+◌, ◌*◌, ◌/◌, ◌%◌, ◌<◌, ◌≤◌, ◌^◌, false, cond, List, [], ◌∷◌, ◌++◌, length, drop, get_or, codes, decimal, eqb, refl, sym, ap, ◌∙◌, arith, append_assoc, length-append}
use Rattle.std.proofs.Math.Nat.{lt_of_mul-lt-mul_right, div-mul-le_self}
use Rattle.std.proofs.lemmas.Bool.{ne_eqb}
use Rattle.std.proofs.lemmas.Fmt.{decimal_by_steps, decimal_injective, length-decimal-le_succ}
use Rattle.std.proofs.lemmas.Nat.{div-add-mod'}
use Rattle.pami_trial.specs.Transport.{IsSide}
use Rattle.pami_trial.proofs.Below.{IsOneToOne}

-- ---- the names

abbrev pub source_name : ℕ → List ℕ
source_name source = codes "s" ++ decimal (source + 1)

abbrev pub sink_name : ℕ → List ℕ
sink_name sink = codes "t" ++ decimal (sink + 1)

abbrev pub way_name : ℕ → ℕ → List ℕ
way_name source sink = codes "x" ++ decimal (source + 1) ++ codes "_" ++ decimal (sink + 1)

-- ---- a number, and what stands behind a bar

abbrev NoBar : List ℕ → Type 0
NoBar [] = Unit {0}
NoBar (c ∷ cs) = (eqb c 95 ≡ false) × NoBar cs

no_bar_more : (xs : List ℕ) (c : ℕ) → NoBar xs → eqb c 95 ≡ false → NoBar (xs ++ c ∷ [])
no_bar_more [] c h e = (e, tt)
no_bar_more (x ∷ xs) c h e = (h.0, no_bar_more xs c h.1 e)

digit_no_bar : (n : ℕ) → n < 10 → eqb (48 + n) 95 ≡ false
digit_no_bar n l = ne_eqb (48 + n) 95 (λ e. omega (arith, l, e))

decimal_no_bar : (n : ℕ) → n < 2 ^ 64 → NoBar (decimal n)
decimal_no_bar = decimal_by_steps (λ n ds. NoBar ds) (λ n l. (digit_no_bar n l, tt)) (λ n ds l h. no_bar_more ds (48 + n % 10) h (digit_no_bar (n % 10) (omega arith)))

front : List ℕ → List ℕ
front [] = []
front (c ∷ cs) = cond (eqb c 95) [] (c ∷ front cs)

back : List ℕ → List ℕ
back [] = []
back (c ∷ cs) = cond (eqb c 95) cs (back cs)

front_is : (xs ys : List ℕ) → NoBar xs → front (xs ++ 95 ∷ ys) ≡ xs
unfolding front
front_is [] ys h = refl
front_is (x ∷ xs) ys h = ap (λ b. cond b [] (x ∷ front (xs ++ 95 ∷ ys))) h.0 ∙ ap (λ zs. x ∷ zs) (front_is xs ys h.1)

back_is : (xs ys : List ℕ) → NoBar xs → back (xs ++ 95 ∷ ys) ≡ ys
unfolding back
back_is [] ys h = refl
back_is (x ∷ xs) ys h = ap (λ b. cond b (xs ++ 95 ∷ ys) (back (xs ++ 95 ∷ ys))) h.0 ∙ back_is xs ys h.1

-- ---- each once

one_number : (i j : ℕ) → i < 2 ^ 32 → j < 2 ^ 32 → decimal (i + 1) ≡ decimal (j + 1) → i ≡ j
one_number i j l m e = let s : i + 1 ≡ j + 1 = decimal_injective (i + 1) (j + 1) (omega arith) (omega arith) e in omega arith

pub sources_once : (n : ℕ) → n < 2 ^ 32 → IsOneToOne source_name n
sources_once n s i j l m e = one_number i j (omega arith) (omega arith) (ap (drop 1) e)

pub sinks_once : (n : ℕ) → n < 2 ^ 32 → IsOneToOne sink_name n
sinks_once n s i j l m e = one_number i j (omega arith) (omega arith) (ap (drop 1) e)

pub source_no_sink : (i j : ℕ) → source_name i ≡ sink_name j → ⊥
source_no_sink i j e = other (ap (λ (xs : List ℕ). get_or xs 0 0) e)
  where
    other : ◌≡◌ {A = ℕ} 115 116 → ⊥
    other h = omega arith

way_cut : (i t : ℕ) → drop 1 (way_name i t) ≡ decimal (i + 1) ++ 95 ∷ decimal (t + 1)
way_cut i t = append_assoc (decimal (i + 1)) (95 ∷ []) (decimal (t + 1))

one_way : (i t j u : ℕ) → i < 2 ^ 32 → t < 2 ^ 32 → j < 2 ^ 32 → u < 2 ^ 32 → way_name i t ≡ way_name j u → (i ≡ j) × (t ≡ u)
one_way i t j u a b c d e =
    let cut : decimal (i + 1) ++ 95 ∷ decimal (t + 1) ≡ decimal (j + 1) ++ 95 ∷ decimal (u + 1) = sym (way_cut i t) ∙ ap (drop 1) e ∙ way_cut j u in
    let p = decimal_no_bar (i + 1) (omega arith) in
    let q = decimal_no_bar (j + 1) (omega arith) in (
      one_number i j a c (sym (front_is (decimal (i + 1)) (decimal (t + 1)) p) ∙ ap front cut ∙ front_is (decimal (j + 1)) (decimal (u + 1)) q),
      one_number t u b d (sym (back_is (decimal (i + 1)) (decimal (t + 1)) p) ∙ ap back cut ∙ back_is (decimal (j + 1)) (decimal (u + 1)) q),
    )

-- the source and the sink of a way
pub source_below : (m n w : ℕ) → w < m * n → w / n < m
source_below m n w l = lt_of_mul-lt-mul_right n {m = w / n} {n = m} (let h = div-mul-le_self w n in omega arith)

pub sink_below : (n w : ℕ) → 1 ≤ n → w % n < n
sink_below n w l = omega arith

pub ways_once : (m n : ℕ) → IsSide m → IsSide n → IsOneToOne (λ w. way_name (w / n) (w % n)) (m * n)
ways_once m n a b v w l k e =
    let i = source_below m n v l in
    let j = source_below m n w k in
    let t = sink_below n v b.some in
    let u = sink_below n w b.some in
    let o = a.most in
    let p = b.most in
    let same = one_way (v / n) (v % n) (w / n) (w % n) (omega arith) (omega arith) (omega arith) (omega arith) e in
    sym (div-add-mod' v n) ∙ ap (λ x. x * n + v % n) same.0 ∙ ap (λ y. w / n * n + y) same.1 ∙ div-add-mod' w n

-- ---- short

pub source_short : (i : ℕ) → i ≤ 64 → length (source_name i) ≤ 255
source_short i l = let h = length-decimal-le_succ (i + 1) (omega arith) in omega (arith, h)

pub sink_short : (i : ℕ) → i ≤ 64 → length (sink_name i) ≤ 255
sink_short i l = let h = length-decimal-le_succ (i + 1) (omega arith) in omega (arith, h)

pub way_short : (i t : ℕ) → i ≤ 64 → t ≤ 64 → length (way_name i t) ≤ 255
way_short i t l k =
    let h = length-decimal-le_succ (i + 1) (omega arith) in
    let g = length-decimal-le_succ (t + 1) (omega arith) in
    let e : length (way_name i t) ≡ suc (length (decimal (i + 1) ++ 95 ∷ decimal (t + 1))) = ap (λ xs. suc (length xs)) (way_cut i t) in
    omega (arith, e, h, g, length-append (decimal (i + 1)) (95 ∷ decimal (t + 1)))
