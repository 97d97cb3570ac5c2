-- The entries of a slice, put behind others variable by variable; and slices one after the other.
use Rattle.std.proofs.Common.{◌≡◌, ℕ, suc, ◌+◌, ◌-◌, ◌<◌, true, false, cond, List, [], ◌∷◌, ◌++◌, length, get_or, refl, sym, ap, ◌∙◌, arith, Result, Ok, Err}
use Rattle.std.proofs.lemmas.List.{append_assoc, get_or_default}
use Rattle.std.specs.Global.{Vec}
use Rattle.pami_algebra.specs.Fraction.{Fraction}
use Rattle.pami_frac.specs.Signs.{is_zero}
use Rattle.pami_frac.specs.declared.arithmetic.Refused.{Refused}
use Rattle.pami_frac.specs.declared.list.Entry.{Entry}
use Rattle.pami_script.specs.Script.{then}
use Rattle.pami_vec.specs.Scripts.{dot_script}
use Rattle.pami_theory.specs.declared.words.Stand.{Stand}
use Rattle.pami_price.specs.Slices.{column_at, is_nonbasic_at, with_first, entries_script, slice_script, slices, then_slice, then_more, slices_script}
use Rattle.pami_frac.specs.declared.fault.Fault.{Fault}
use Rattle.pami_frac.specs.declared.fault.Fault.TheVariants as faults
use Rattle.std.specs.Global.{Vec}
use Rattle.pami_frac.specs.Answers.{FollowsBy}
use Rattle.pami_price.specs.Follow.{onto, FollowsOnto, in_slice}
use Rattle.pami_price.specs.declared.price.SliceRefused.{SliceRefused}

-- what is left of a slice from v on
abbrev pub left : List (List Fraction) → List Stand → List Fraction → ℕ → ℕ → Result (List Entry) Refused
left columns stands rho last v = entries_script columns stands rho (last - v) v

left_one : (columns : List (List Fraction)) (stands : List Stand) (rho : List Fraction) (last v : ℕ) → v < last → left columns stands rho last v ≡
    cond (is_nonbasic_at stands v) (then (dot_script rho (column_at columns v)) (λ alpha. then (left columns stands rho last (v + 1)) (λ es. Ok (with_first v alpha es)))) (left columns stands rho last (v + 1))
left_one columns stands rho last v h =
    let e : last - v ≡ suc (last - (v + 1)) = omega arith in
    ap (λ n. entries_script columns stands rho n v) e

left_basic : (columns : List (List Fraction)) (stands : List Stand) (rho : List Fraction) (last v : ℕ) → v < last → is_nonbasic_at stands v ≡ false → left columns stands rho last v ≡ left columns stands rho last (v + 1)
left_basic columns stands rho last v h e =
    left_one columns stands rho last v h
    ∙ ap (λ b. cond b (then (dot_script rho (column_at columns v)) (λ alpha. then (left columns stands rho last (v + 1)) (λ es. Ok (with_first v alpha es)))) (left columns stands rho last (v + 1))) e

left_nonbasic : (columns : List (List Fraction)) (stands : List Stand) (rho : List Fraction) (last v : ℕ) → v < last → is_nonbasic_at stands v ≡ true → left columns stands rho last v ≡
    then (dot_script rho (column_at columns v)) (λ alpha. then (left columns stands rho last (v + 1)) (λ es. Ok (with_first v alpha es)))
left_nonbasic columns stands rho last v h e =
    left_one columns stands rho last v h
    ∙ ap (λ b. cond b (then (dot_script rho (column_at columns v)) (λ alpha. then (left columns stands rho last (v + 1)) (λ es. Ok (with_first v alpha es)))) (left columns stands rho last (v + 1))) e

-- ---- one variable
zero_onto : (v : ℕ) (alpha : Fraction) (out : List Entry) (s : Result (List Entry) Refused) → is_zero alpha ≡ true → onto out (then s (λ es. Ok (with_first v alpha es))) ≡ onto out s
zero_onto v alpha out (Ok es) e = ap (λ b. onto {E = Refused} out (Ok (cond b es (record { place = v; value = alpha } ∷ es)))) e
zero_onto v alpha out (Err r) e = refl

nonzero_onto : (v : ℕ) (alpha : Fraction) (out : List Entry) (s : Result (List Entry) Refused) → is_zero alpha ≡ false → onto out (then s (λ es. Ok (with_first v alpha es))) ≡ onto (out ++ record { place = v; value = alpha } ∷ []) s
nonzero_onto v alpha out (Ok es) e =
    ap (λ b. onto {E = Refused} out (Ok (cond b es (record { place = v; value = alpha } ∷ es)))) e
    ∙ ap (λ (xs : List Entry). Ok xs) (sym (append_assoc out (record { place = v; value = alpha } ∷ []) es))
nonzero_onto v alpha out (Err r) e = refl

pub basic_goes : (columns : List (List Fraction)) (stands : List Stand) (rho : List Fraction) (last v : ℕ) (r : Result (List Entry) Refused) (out : List Entry) →
    r ≡ onto out (left columns stands rho last v) → v < last → is_nonbasic_at stands v ≡ false → r ≡ onto out (left columns stands rho last (v + 1))
basic_goes columns stands rho last v r out i h g = i ∙ ap (onto out) (left_basic columns stands rho last v h g)

nonbasic_go : (columns : List (List Fraction)) (stands : List Stand) (rho : List Fraction) (last v : ℕ) (alpha : Fraction) (r : Result (List Entry) Refused) (out : List Entry) →
    r ≡ onto out (left columns stands rho last v) → v < last → is_nonbasic_at stands v ≡ true → dot_script rho (column_at columns v) ≡ Ok alpha →
    r ≡ onto out (then (left columns stands rho last (v + 1)) (λ es. Ok (with_first v alpha es)))
nonbasic_go columns stands rho last v alpha r out i h g d =
    i ∙ ap (onto out) (left_nonbasic columns stands rho last v h g
    ∙ ap (λ x. then x (λ alpha. then (left columns stands rho last (v + 1)) (λ es. Ok (with_first v alpha es)))) d)

pub zero_goes : (columns : List (List Fraction)) (stands : List Stand) (rho : List Fraction) (last v : ℕ) (alpha : Fraction) (r : Result (List Entry) Refused) (out : List Entry) →
    r ≡ onto out (left columns stands rho last v) → v < last → is_nonbasic_at stands v ≡ true → dot_script rho (column_at columns v) ≡ Ok alpha → is_zero alpha ≡ true → r ≡ onto out (left columns stands rho last (v + 1))
zero_goes columns stands rho last v alpha r out i h g d z = nonbasic_go columns stands rho last v alpha r out i h g d ∙ zero_onto v alpha out (left columns stands rho last (v + 1)) z

pub entry_goes : (columns : List (List Fraction)) (stands : List Stand) (rho : List Fraction) (last v : ℕ) (alpha : Fraction) (r : Result (List Entry) Refused) (out : List Entry) →
    r ≡ onto out (left columns stands rho last v) → v < last → is_nonbasic_at stands v ≡ true → dot_script rho (column_at columns v) ≡ Ok alpha → is_zero alpha ≡ false →
    r ≡ onto (out ++ record { place = v; value = alpha } ∷ []) (left columns stands rho last (v + 1))
entry_goes columns stands rho last v alpha r out i h g d z = nonbasic_go columns stands rho last v alpha r out i h g d ∙ nonzero_onto v alpha out (left columns stands rho last (v + 1)) z

-- ---- slices one after the other
-- what is left from a slice on
abbrev pub slices_left : List (List Fraction) → List Stand → List Fraction → ℕ → Result (List Entry) SliceRefused
slices_left columns stands rho slice = slices_script columns stands rho (slices (length columns) - slice) slice

slices_one : (columns : List (List Fraction)) (stands : List Stand) (rho : List Fraction) (slice : ℕ) → slice < slices (length columns) →
    slices_left columns stands rho slice ≡ then_slice slice (slice_script columns stands rho slice) (λ es. then_more es (slices_left columns stands rho (slice + 1)))
slices_one columns stands rho slice h =
    let e : slices (length columns) - slice ≡ suc (slices (length columns) - (slice + 1)) = omega arith in
    ap (λ n. slices_script columns stands rho n slice) e

more_onto : (out es : List Entry) (s : Result (List Entry) SliceRefused) → onto out (then_more es s) ≡ onto (out ++ es) s
more_onto out es (Ok fs) = ap (λ (xs : List Entry). Ok xs) (sym (append_assoc out es fs))
more_onto out es (Err r) = refl

slice_onto : (slice : ℕ) (out new : List Entry) (s : Result (List Entry) Refused) (rest : Result (List Entry) SliceRefused) → onto out s ≡ Ok new → onto out (then_slice slice s (λ es. then_more es rest)) ≡ onto new rest
slice_onto slice out new (Ok es) rest h = let e : out ++ es ≡ new = cc in more_onto out es rest ∙ ap (λ xs. onto xs rest) e
slice_onto slice out new (Err r) rest h = absurd (cc)

pub slice_goes : (columns : List (List Fraction)) (stands : List Stand) (rho : List Fraction) (slice : ℕ) (out new : List Entry) (r : Result (List Entry) SliceRefused) →
    r ≡ onto out (slices_left columns stands rho slice) → slice < slices (length columns) → onto out (slice_script columns stands rho slice) ≡ Ok new → r ≡ onto new (slices_left columns stands rho (slice + 1))
slice_goes columns stands rho slice out new r i h e =
    i ∙ ap (onto out) (slices_one columns stands rho slice h) ∙ slice_onto slice out new (slice_script columns stands rho slice) (slices_left columns stands rho (slice + 1)) e

pub slice_stops : (columns : List (List Fraction)) (stands : List Stand) (rho : List Fraction) (slice : ℕ) (out : List Entry) (d : Refused) (r : Result (List Entry) SliceRefused) →
    r ≡ onto out (slices_left columns stands rho slice) → slice < slices (length columns) → slice_script columns stands rho slice ≡ Err d → r ≡ Err (record { slice = slice; refused = d })
slice_stops columns stands rho slice out d r i h e =
    i ∙ ap (onto out) (slices_one columns stands rho slice h ∙ ap (λ s. then_slice slice s (λ es. then_more es (slices_left columns stands rho (slice + 1)))) e)

pub fault_follows : (columns : List (List Fraction)) (stands : List Stand) (rho : List Fraction) (slice : ℕ) (out new : List Entry) (fault : Fault Refused) (r : Result (List Entry) SliceRefused) →
    r ≡ onto out (slices_left columns stands rho slice) → slice < slices (length columns) → FollowsOnto {A = Unit {0}} (slice_script columns stands rho slice) out new (Err fault) → FollowsBy {B = Vec Entry} (λ (es : Vec Entry). es.items) r (Err (in_slice slice fault))
fault_follows columns stands rho slice out new (faults.Named d) r i h e = slice_stops columns stands rho slice out d r i h e
fault_follows columns stands rho slice out new faults.OutOfMemory r i h e = tt
