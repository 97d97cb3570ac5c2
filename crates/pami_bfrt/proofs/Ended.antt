-- The walk over the candidates of the whole form is the theory's ratio walk, with the operations of its script.
use Rattle.std.proofs.Common.{◌≡◌, ℕ, Bool, true, false, cond, List, [], ◌∷◌, map, Option, None, Some, Result, Ok, Err, inl, inr, refl, sym, ap, ◌∙◌, subst}
use Rattle.std.specs.List.{filter, range_with_len}
use Rattle.std.specs.Option.{option_map}
use Rattle.std.proofs.lemmas.Option.{none-some, same_Some}
use Rattle.pami_algebra.specs.Fraction.{Fraction}
use Rattle.pami_algebra.specs.Operations.{◌-ᶠ◌, ◌*ᶠ◌, is_below, is_at_most}
use Rattle.pami_algebra.proofs.Tests.{is_at_most_iff, is_below_iff, not_below_iff, not_at_most_iff}
use Rattle.pami_frac.specs.Arithmetic.{mul_outcome, sub_outcome}
use Rattle.pami_frac.specs.declared.arithmetic.Refused.{Refused}
use Rattle.pami_frac.specs.declared.list.Entry.{Entry}
use Rattle.pami_frac.proofs.Outcomes.{mul_value, sub_value}
use Rattle.pami_script.specs.Script.{then}
use Rattle.pami_theory.specs.Form.{Form, variables, limits, zero_f}
use Rattle.pami_theory.specs.Basis.{Basis}
use Rattle.pami_theory.specs.Order.{put_in, ordered}
use Rattle.pami_theory.specs.Violation.{width}
use Rattle.pami_theory.specs.Ratio.{Leaving, is_candidate, turned_entry, ratio, absolute, walks_before, walk_order, flip_lowers, lowered_by, Entering, ratio_walk}
use Rattle.pami_theory.specs.Slope.{stops_with, walk_down}
use Rattle.pami_theory.proofs.Members.{Has}
use Rattle.pami_theory.proofs.Orders.{Rises, irreflexive}
use Rattle.pami_theory.proofs.Comparisons.{walk_is_order}
use Rattle.pami_theory.proofs.Candidates.{walk_rises}
use Rattle.pami_theory.proofs.Slopes.{walk_down_is}
use Rattle.pami_method.specs.Scripts.{slope_at, slope_script, ratios_script, ratio_script}
use Rattle.pami_theory.specs.declared.words.Violation.{Violation}
use Rattle.pami_bfrt.specs.Candidates.{Table, comes_before}
use Rattle.pami_bfrt.specs.Walks.{positive_only, slope_behind, flips_first, passed, walk_over, walk_script}
use Rattle.pami_bfrt.specs.Agreement.{IsTable, AreRowEntries}
use Rattle.pami_bfrt.specs.declared.candidate.Candidate.{Candidate}
use Rattle.pami_bfrt.proofs.Matched.{exactly, candidates_are}

-- ---- the order
put_map : (f : Form) (l : Leaving) (v : ℕ) (vs : List ℕ) → put_in comes_before (exactly f l v) (map (exactly f l) vs) ≡ map (exactly f l) (put_in (walks_before f l) v vs)
put_map f l v [] = refl
put_map f l v (u ∷ us) = go (walks_before f l v u) (put_map f l v us)
  where
    go : (t : Bool) → put_in comes_before (exactly f l v) (map (exactly f l) us) ≡ map (exactly f l) (put_in (walks_before f l) v us) →
        cond t (exactly f l v ∷ exactly f l u ∷ map (exactly f l) us) (exactly f l u ∷ put_in comes_before (exactly f l v) (map (exactly f l) us)) ≡ map (exactly f l) (cond t (v ∷ u ∷ us) (u ∷ put_in (walks_before f l) v us))
    go true e = refl
    go false e = ap (λ (cs : List Candidate). exactly f l u ∷ cs) e

ordered_map : (f : Form) (l : Leaving) (vs : List ℕ) → ordered comes_before (map (exactly f l) vs) ≡ map (exactly f l) (ordered (walks_before f l) vs)
ordered_map f l [] = refl
ordered_map f l (v ∷ vs) = ap (put_in comes_before (exactly f l v)) (ordered_map f l vs) ∙ put_map f l v (ordered (walks_before f l) vs)

-- ---- what a walk with exact slopes finds
abbrev pub enters : Form → Leaving → ℕ → Entering
enters f l v = record { variable = v; tau = ratio f l v; flips = [] }

abbrev pub finds : Form → Leaving → Fraction → List ℕ → Option Entering
finds f l slope [] = None
finds f l slope (v ∷ vs) = cond (stops_with (width (limits f v)) (slope -ᶠ flip_lowers f l v)) (Some (enters f l v)) (option_map (flips_first (v ∷ [])) (finds f l (slope -ᶠ flip_lowers f l v) vs))

-- the test of a slope that is looked at
slope_stops : (s : Fraction) → (t : Bool) → is_below zero_f s ≡ t → is_at_most s zero_f ≡ cond t false true
slope_stops s true e = (not_at_most_iff s zero_f).1 ((is_below_iff zero_f s).0 e)
slope_stops s false e = (is_at_most_iff s zero_f).1 ((not_below_iff zero_f s).0 e)

-- ---- one candidate that is looked at
-- what follows it, at each slope: the script's slope and what is found
abbrev pub Follows : Form → Leaving → List ℕ → Type 0
Follows f l vs = (slope : Fraction) → walk_over (map (exactly f l) vs) slope ≡ then (slope_script f l vs slope) (λ s. Ok (finds f l slope vs))

moved : (s : Result Fraction Refused) (x : Option Entering) (v : ℕ) → then (then s (λ s. Ok x)) (λ found. Ok (option_map (flips_first (v ∷ [])) found)) ≡ then {A = Fraction} s (λ s. Ok (option_map (flips_first (v ∷ [])) x))
moved (Ok y) x v = refl
moved (Err e) x v = refl

behind_slope : (f : Form) (l : Leaving) (v : ℕ) (vs : List ℕ) (next : Fraction) → Follows f l vs → (t : Bool) → is_below zero_f next ≡ t →
    passed (exactly f l v) (cond t (Some next) None) (walk_over (map (exactly f l) vs))
    ≡ then (cond t (slope_script f l vs next) (Ok next)) (λ s. Ok (cond (is_at_most next zero_f) (Some (enters f l v)) (option_map (flips_first (v ∷ [])) (finds f l next vs))))
behind_slope f l v vs next h true e =
    ap (λ s. then s (λ found. Ok (option_map (flips_first (v ∷ [])) found))) (h next)
    ∙ moved (slope_script f l vs next) (finds f l next vs) v
    ∙ ap (λ (x : Bool). then (slope_script f l vs next) (λ s. Ok (cond x (Some (enters f l v)) (option_map (flips_first (v ∷ [])) (finds f l next vs))))) (sym (slope_stops next true e))
behind_slope f l v vs next h false e = ap (λ (x : Bool). Ok (cond x (Some (enters f l v)) (option_map (flips_first (v ∷ [])) (finds f l next vs)))) (sym (slope_stops next false e))

-- by the outcome of its difference, and of its product
by_difference : (f : Form) (l : Leaving) (v : ℕ) (vs : List ℕ) (slope fall exact : Fraction) (o : Result Fraction Refused) → Follows f l vs → ((s : Fraction) → o ≡ Ok s → s ≡ exact) →
    then (then o (λ next. Ok (positive_only next))) (λ left. passed (exactly f l v) left (walk_over (map (exactly f l) vs)))
    ≡ then (then o (λ next. cond (is_below zero_f next) (slope_script f l vs next) (Ok next))) (λ s. Ok (cond (is_at_most exact zero_f) (Some (enters f l v)) (option_map (flips_first (v ∷ [])) (finds f l exact vs))))
by_difference f l v vs slope fall exact (Ok next) h e =
    behind_slope f l v vs next h (is_below zero_f next) refl
    ∙ ap (λ x. then (cond (is_below zero_f next) (slope_script f l vs next) (Ok next)) (λ s. Ok (cond (is_at_most x zero_f) (Some (enters f l v)) (option_map (flips_first (v ∷ [])) (finds f l x vs))))) (e next refl)
by_difference f l v vs slope fall exact (Err d) h e = refl

by_product : (f : Form) (l : Leaving) (v : ℕ) (vs : List ℕ) (slope exact : Fraction) (o : Result Fraction Refused) → Follows f l vs → ((p : Fraction) → o ≡ Ok p → slope -ᶠ p ≡ exact) →
    then (then o (λ fall. then (sub_outcome slope fall) (λ next. Ok (positive_only next)))) (λ left. passed (exactly f l v) left (walk_over (map (exactly f l) vs)))
    ≡ then (then o (λ fall. then (sub_outcome slope fall) (λ next. cond (is_below zero_f next) (slope_script f l vs next) (Ok next)))) (λ s. Ok (cond (is_at_most exact zero_f) (Some (enters f l v)) (option_map (flips_first (v ∷ [])) (finds f l exact vs))))
by_product f l v vs slope exact (Ok p) h e = by_difference f l v vs slope p exact (sub_outcome slope p) h (λ s q. sub_value slope p s q ∙ e p refl)
by_product f l v vs slope exact (Err d) h e = refl

by_width : (f : Form) (l : Leaving) (v : ℕ) (vs : List ℕ) (slope : Fraction) (w : Option Fraction) → Follows f l vs →
    then (slope_behind w (absolute (turned_entry f l v)) slope) (λ left. passed (exactly f l v) left (walk_over (map (exactly f l) vs)))
    ≡ then (slope_at w (turned_entry f l v) (slope_script f l vs) slope)
    (λ s. Ok (cond (stops_with w (slope -ᶠ lowered_by w (turned_entry f l v))) (Some (enters f l v)) (option_map (flips_first (v ∷ [])) (finds f l (slope -ᶠ lowered_by w (turned_entry f l v)) vs))))
by_width f l v vs slope None h = refl
by_width f l v vs slope (Some w) h =
    by_product f l v vs slope (slope -ᶠ absolute (turned_entry f l v) *ᶠ w) (mul_outcome (absolute (turned_entry f l v)) w) h (λ p q. ap (λ x. slope -ᶠ x) (mul_value (absolute (turned_entry f l v)) w p q))

pub walks_with_slopes : (f : Form) (l : Leaving) (vs : List ℕ) → Follows f l vs
walks_with_slopes f l [] slope = refl
walks_with_slopes f l (v ∷ vs) slope = by_width f l v vs slope (width (limits f v)) (walks_with_slopes f l vs)

-- ---- the flips
-- a member that is found is one of the list
down_by : (v : ℕ) (vs : List ℕ) (q : ℕ) (t : Bool) (o : Option ℕ) → (o ≡ Some q → Has vs q) → cond t (Some v) o ≡ Some q → Has (v ∷ vs) q
down_by v vs q true o h e = inl (same_Some v q e)
down_by v vs q false o h e = inr (h e)

down_has : (f : Form) (l : Leaving) (slope : Fraction) (vs : List ℕ) (q : ℕ) → walk_down f l slope vs ≡ Some q → Has vs q
down_has f l slope [] q e = absurd (none-some q e)
down_has f l slope (v ∷ vs) q e =
    down_by v vs q (stops_with (width (limits f v)) (slope -ᶠ flip_lowers f l v)) (walk_down f l (slope -ᶠ flip_lowers f l v) vs) (down_has f l (slope -ᶠ flip_lowers f l v) vs q) e

-- q with its ratio and those of the list before it
abbrev pub entering_in : Form → Leaving → List ℕ → ℕ → Entering
entering_in f l vs q = record { variable = q; tau = ratio f l q; flips = filter (λ j. walks_before f l j q) vs }

none_before : (f : Form) (l : Leaving) (q : ℕ) (vs : List ℕ) → ((z : ℕ) → Has vs z → walks_before f l z q ≡ false) → filter (λ j. walks_before f l j q) vs ≡ []
none_before f l q [] h = refl
none_before f l q (v ∷ vs) h = ap (λ t. cond t (v ∷ filter (λ j. walks_before f l j q) vs) (filter (λ j. walks_before f l j q) vs)) (h v (inl refl)) ∙ none_before f l q vs (λ z m. h z (inr m))

at_head : (f : Form) (l : Leaving) (v : ℕ) (vs : List ℕ) → Rises (walks_before f l) (v ∷ vs) → enters f l v ≡ entering_in f l (v ∷ vs) v
at_head f l v vs r = ap (λ (flips : List ℕ). record { variable = v; tau = ratio f l v; flips = flips }) (sym (none_before f l v (v ∷ vs) none))
  where
    none : (z : ℕ) → Has (v ∷ vs) z → walks_before f l z v ≡ false
    none z (inl e) = subst (λ w. walks_before f l w v ≡ false) e (irreflexive (walks_before f l) v (walk_is_order f l))
    none z (inr m) = (walk_is_order f l).one_way v z (r.0 z m)

one_more : (f : Form) (l : Leaving) (v : ℕ) (vs : List ℕ) (o : Option ℕ) → Rises (walks_before f l) (v ∷ vs) → ((q : ℕ) → o ≡ Some q → Has vs q) → option_map (flips_first (v ∷ [])) (option_map (entering_in f l vs) o) ≡ option_map (entering_in f l (v ∷ vs)) o
one_more f l v vs None r h = refl
one_more f l v vs (Some q) r h =
    ap (λ (t : Bool). Some (record { variable = q; tau = ratio f l q; flips = cond t (v ∷ filter (λ j. walks_before f l j q) vs) (filter (λ j. walks_before f l j q) vs) })) (sym (r.0 q (h q refl)))

finds_by : (f : Form) (l : Leaving) (v : ℕ) (vs : List ℕ) (t : Bool) (x : Option Entering) (o : Option ℕ) → enters f l v ≡ entering_in f l (v ∷ vs) v → option_map (flips_first (v ∷ [])) x ≡ option_map (entering_in f l (v ∷ vs)) o →
    cond t (Some (enters f l v)) (option_map (flips_first (v ∷ [])) x) ≡ option_map (entering_in f l (v ∷ vs)) (cond t (Some v) o)
finds_by f l v vs true x o e h = ap (λ (y : Entering). Some y) e
finds_by f l v vs false x o e h = h

finds_down : (f : Form) (l : Leaving) (slope : Fraction) (vs : List ℕ) → Rises (walks_before f l) vs → finds f l slope vs ≡ option_map (entering_in f l vs) (walk_down f l slope vs)
finds_down f l slope [] r = refl
finds_down f l slope (v ∷ vs) r =
    let next = slope -ᶠ flip_lowers f l v in
    finds_by f l v vs (stops_with (width (limits f v)) next) (finds f l next vs) (walk_down f l next vs) (at_head f l v vs r)
    (ap (option_map (flips_first (v ∷ []))) (finds_down f l next vs r.1) ∙ one_more f l v vs (walk_down f l next vs) r (λ q. down_has f l next vs q))

pub finds_the_walk : (f : Form) (b : Basis) (l : Leaving) → finds f l l.violation.amount (walk_order f b l) ≡ ratio_walk f b l
finds_the_walk f b l =
    finds_down f l l.violation.amount (walk_order f b l) (walk_rises f b l)
    ∙ ap (option_map (entering_in f l (walk_order f b l))) (walk_down_is f b l)

-- ---- the whole
onto_ratios : (s : Result (List Fraction) Refused) (g : Result Fraction Refused) (x : Option Entering) (cs : List Candidate) (w : List Candidate → Result (Option Entering) Refused) → w cs ≡ then g (λ s. Ok x) →
    then (then s (λ rs. Ok cs)) w ≡ then (then s (λ rs. g)) (λ s. Ok x)
onto_ratios (Ok rs) g x cs w h = h
onto_ratios (Err e) g x cs w h = refl

pub walk_is : (f : Form) (b : Basis) (l : Leaving) (t : Table) (alpha : List Entry) (violation : Violation) → IsTable f b l t → AreRowEntries f b l alpha → l.violation ≡ violation →
    walk_script t alpha violation ≡ then (ratio_script f b l) (λ slope. Ok (ratio_walk f b l))
walk_is f b l t alpha violation m r s =
    let vs = filter (is_candidate f b l) (range_with_len 0 (variables f)) in
    ap (λ c. then c (λ cs. walk_over (ordered comes_before cs) violation.amount)) (candidates_are f b l t alpha violation.side m r (ap (λ v. v.side) s))
    ∙ onto_ratios (ratios_script f b l) (slope_script f l (walk_order f b l) l.violation.amount) (ratio_walk f b l) (map (exactly f l) vs) (λ cs. walk_over (ordered comes_before cs) violation.amount)
    (ap (λ cs. walk_over cs violation.amount) (ordered_map f l vs)
    ∙ ap (walk_over (map (exactly f l) (walk_order f b l))) (sym (ap (λ v. v.amount) s))
    ∙ walks_with_slopes f l (walk_order f b l) l.violation.amount
    ∙ ap (λ x. then (slope_script f l (walk_order f b l) l.violation.amount) (λ slope. Ok x)) (finds_the_walk f b l))

-- its parts
ends_ok : (s : Result Fraction Refused) (x found : Option Entering) → then s (λ slope. Ok x) ≡ Ok found → found ≡ x
ends_ok (Ok y) x found e = let same : x ≡ found = cc in sym same
ends_ok (Err r) x found e = absurd (cc)

ends_err : (s : Result Fraction Refused) (x : Option Entering) (r : Refused) → then s (λ slope. Ok x) ≡ Err r → s ≡ Err r
ends_err (Ok y) x r e = absurd (cc)
ends_err (Err d) x r e = let same : d ≡ r = cc in ap (λ q. Err q) same

pub walk_found : (f : Form) (b : Basis) (l : Leaving) (t : Table) (alpha : List Entry) (violation : Violation) (found : Option Entering) → IsTable f b l t → AreRowEntries f b l alpha → l.violation ≡ violation →
    walk_script t alpha violation ≡ Ok found → found ≡ ratio_walk f b l
walk_found f b l t alpha violation found m r s e = ends_ok (ratio_script f b l) (ratio_walk f b l) found (sym (walk_is f b l t alpha violation m r s) ∙ e)

pub walk_refused : (f : Form) (b : Basis) (l : Leaving) (t : Table) (alpha : List Entry) (violation : Violation) (d : Refused) → IsTable f b l t → AreRowEntries f b l alpha → l.violation ≡ violation →
    walk_script t alpha violation ≡ Err d → ratio_script f b l ≡ Err d
walk_refused f b l t alpha violation d m r s e = ends_err (ratio_script f b l) (ratio_walk f b l) d (sym (walk_is f b l t alpha violation m r s) ∙ e)
