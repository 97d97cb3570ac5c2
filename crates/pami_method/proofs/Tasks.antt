-- The first operation of a list of scripts that doesn't fit.
use Rattle.std.proofs.Common.{◌≡◌, List, [], ◌∷◌, ◌++◌, refl, ap, ◌∙◌, Option, None, Some}
use Rattle.std.specs.List.{All}
use Rattle.std.proofs.lemmas.List.Elements.{All-nil, All-cons, All-head, All-tail}
use Rattle.pami_frac.specs.declared.arithmetic.Refused.{Refused}
use Rattle.pami_method.specs.Task.{Task}
use Rattle.pami_method.specs.declared.words.Place.{Place}
use Rattle.pami_method.specs.declared.words.Spot.{Spot}
use Rattle.pami_method.specs.Work.{refused_or, first_refused}

-- ---- none is refused
abbrev pub Fits : Task → Type 0
Fits t = t.refusal ≡ None

none_by : (r : Option Refused) (spot : Spot) (later : Option Place) → refused_or r spot later ≡ None → (r ≡ None) × (later ≡ None)
none_by None spot later e = (refl, e)
none_by (Some r) spot later e = absurd (cc)

pub none_refused : (ts : List Task) → first_refused ts ≡ None → All Fits ts
none_refused [] e = All-nil Fits
none_refused (t ∷ ts) e = let h = none_by t.refusal t.spot (first_refused ts) e in All-cons Fits t ts h.0 (none_refused ts h.1)

pub all_fit : (ts : List Task) → All Fits ts → first_refused ts ≡ None
all_fit [] h = refl
all_fit (t ∷ ts) h = ap (λ r. refused_or r t.spot (first_refused ts)) (All-head Fits t ts h) ∙ all_fit ts (All-tail Fits t ts h)

-- ---- one is the first
abbrev pub IsFirst : List Task → Place → Type 0
IsFirst ts r = (before : List Task) × (t : Task) × (after : List Task) × (ts ≡ before ++ t ∷ after) × All Fits before × (t.spot ≡ r.task) × (t.refusal ≡ Some r.refused)

here_or_later : (t : Task) (ts : List Task) (x : Option Refused) (r : Place) → t.refusal ≡ x → refused_or x t.spot (first_refused ts) ≡ Some r → (first_refused ts ≡ Some r → IsFirst ts r) → IsFirst (t ∷ ts) r
here_or_later t ts None r e h rest =
    let k = rest h in
    (t ∷ k.0, k.1, k.2, ap (λ us. t ∷ us) k.3, All-cons Fits t k.0 e k.4, k.5, k.6)
here_or_later t ts (Some refused) r e h rest =
    let same : record { task = t.spot; refused = refused } ≡ r = cc in
    ([], t, ts, refl, All-nil Fits, ap (λ (x : Place). x.task) same, e ∙ ap (λ (x : Place). Some x.refused) same)

pub first_is : (ts : List Task) (r : Place) → first_refused ts ≡ Some r → IsFirst ts r
first_is [] r e = absurd (cc)
first_is (t ∷ ts) r e = here_or_later t ts t.refusal r refl e (first_is ts r)

pub first_behind : (ts us : List Task) → All Fits ts → first_refused (ts ++ us) ≡ first_refused us
first_behind [] us h = refl
first_behind (t ∷ ts) us h = ap (λ r. refused_or r t.spot (first_refused (ts ++ us))) (All-head Fits t ts h) ∙ first_behind ts us (All-tail Fits t ts h)

pub is_first : (ts : List Task) (r : Place) → IsFirst ts r → first_refused ts ≡ Some r
is_first ts r h =
    ap first_refused h.3 ∙ first_behind h.0 (h.1 ∷ h.2) h.4 ∙ ap (λ x. refused_or x h.1.spot (first_refused h.2)) h.6
    ∙ ap (λ s. Some (record { task = s; refused = r.refused })) h.5
