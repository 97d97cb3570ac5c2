-- Flips that are turned one after the other: each variable that is among them has its other bound, where they are distinct.
use Rattle.std.proofs.Common.{◌≡◌, ℕ, ◌+◌, ◌<◌, ◌≤◌, ⊎_elim, false, cond, ◌||◌, List, [], ◌∷◌, length, get_or, set, drop, refl, sym, ap, ◌∙◌, subst}
use Rattle.std.specs.List.{All}
use Rattle.std.proofs.lemmas.Bool.{cases_eq, eq-eqb, ne_eqb}
use Rattle.std.proofs.lemmas.List.{drop_more, drop_all, get_or_default, get_or-set_same, get_or-set_other, length-set}
use Rattle.std.proofs.lemmas.List.Elements.{All-head, All-tail}
use Rattle.pami_theory.specs.declared.words.Stand.{Stand}
use Rattle.pami_theory.specs.declared.words.Stand.TheVariants.{Zero}
use Rattle.pami_theory.specs.Step.{flipped, is_among}
use Rattle.pami_minor.specs.Turned.{all_turned}

pub turned_more : (flips : List ℕ) (i : ℕ) (stands : List Stand) (x d : Stand) → i < length flips → get_or flips i 0 < length stands
    → x ≡ flipped (get_or stands (get_or flips i 0) d)
    → all_turned stands (drop i flips) ≡ all_turned (set stands (get_or flips i 0) x) (drop (i + 1) flips)
turned_more flips i stands x d l low e =
    ap (all_turned stands) (drop_more flips i 0 l)
    ∙ ap (λ s. all_turned (set stands (get_or flips i 0) s) (drop (i + 1) flips))
    (ap flipped (get_or_default stands (get_or flips i 0) Zero d low) ∙ sym e)

pub turned_ends : (flips : List ℕ) (i : ℕ) (stands : List Stand) → length flips ≤ i → stands ≡ all_turned stands (drop i flips)
turned_ends flips i stands l = sym (ap (all_turned stands) (drop_all i flips l))

pub turned_length : (stands : List Stand) (vs : List ℕ) → length (all_turned stands vs) ≡ length stands
turned_length stands [] = refl
turned_length stands (v ∷ vs) =
    turned_length (set stands v (flipped (get_or stands v Zero))) vs ∙ length-set stands v (flipped (get_or stands v Zero))

-- each variable once
abbrev pub AreOnce : List ℕ → Type 0
AreOnce [] = Unit {0}
AreOnce (v ∷ vs) = (is_among v vs ≡ false) × AreOnce vs

pub turned_at : (vs : List ℕ) (stands : List Stand) (u : ℕ) → AreOnce vs → All (λ v. v < length stands) vs
    → get_or (all_turned stands vs) u Zero ≡ cond (is_among u vs) (flipped (get_or stands u Zero)) (get_or stands u Zero)
turned_at [] stands u o l = refl
turned_at (v ∷ vs) stands u o l =
    let next : List Stand = set stands v (flipped (get_or stands v Zero)) in
    let long : length next ≡ length stands = length-set stands v (flipped (get_or stands v Zero)) in
    let low : v < length stands = All-head (λ v. v < length stands) v vs l in
    turned_at vs next u o.1 (subst (λ n. All (λ v. v < n) vs) (sym long) (All-tail (λ v. v < length stands) v vs l))
    ∙ ⊎_elim
    (λ (e : u ≡ v).
    let gone : is_among u vs ≡ false = ap (λ w. is_among w vs) e ∙ o.0 in
    ap (λ b. cond b (flipped (get_or next u Zero)) (get_or next u Zero)) gone
    ∙ ap (λ w. get_or next w Zero) e ∙ get_or-set_same stands v (flipped (get_or stands v Zero)) Zero low
    ∙ ap (λ w. flipped (get_or stands w Zero)) (sym e)
    ∙ sym (ap (λ b. cond (b || is_among u vs) (flipped (get_or stands u Zero)) (get_or stands u Zero)) (eq-eqb u v e)))
    (λ (n : ¬ (u ≡ v)).
    ap (λ s. cond (is_among u vs) (flipped s) s) (get_or-set_other stands v u (flipped (get_or stands v Zero)) Zero n)
    ∙ sym (ap (λ b. cond (b || is_among u vs) (flipped (get_or stands u Zero)) (get_or stands u Zero)) (ne_eqb u v n)))
    (cases_eq u v)
