-- The exchanges of a batch: each of them by its parts, and the loop over all.
use Rattle.std.proofs.Common.{◌≡◌, ℕ, ◌+◌, ◌<◌, List, [], ◌∷◌, length, drop, get_or, set, refl, sym, ap, ◌∙◌, Result, Ok, Err}
use Rattle.std.proofs.lemmas.List.{length-set}
use Rattle.pami_algebra.specs.Fraction.{Fraction}
use Rattle.pami_frac.specs.Arithmetic.{sub_outcome}
use Rattle.pami_frac.specs.declared.arithmetic.Refused.{Refused}
use Rattle.pami_frac.specs.declared.list.Entry.{Entry}
use Rattle.pami_linear.specs.Lists.{get}
use Rattle.pami_script.specs.Script.{then, each_member, add_product}
use Rattle.pami_script.specs.Dense.{at}
use Rattle.pami_script.proofs.Scripts.{then_go, then_stop, then_ok}
use Rattle.pami_script.proofs.Members.{length_members}
use Rattle.pami_vec.specs.Entries.{AreEntriesOf}
use Rattle.pami_vec.specs.Changes.{AreChanged, IsStopped}
use Rattle.pami_vec.specs.declared.change.Change.TheVariants.{More}
use Rattle.pami_vec.specs.declared.step.Step.{Step}
use Rattle.pami_vec.proofs.Changed.{change_ok, change_err}
use Rattle.pami_method.specs.Work.{sub_at}
use Rattle.pami_deferral.specs.Listed.{Exchange, exchanges_script}
use Rattle.pami_collect.specs.Exchanges.{exchange_of, exchanges_of}
use Rattle.pami_collect.proofs.Totals.{rest_at}

-- ---- one exchange, by its parts
abbrev pub one_exchange : Exchange → List Fraction → Result (List Fraction) Refused
one_exchange e values = exchanges_script (e ∷ []) values

abbrev entered_by : Exchange → List Fraction → Result (List Fraction) Refused
entered_by e values = each_member (λ i x. add_product x e.value (get e.column i)) 0 values

pub entering_stops : (values : List Fraction) (es : List Entry) (e : Exchange) (p : ℕ) (r : Refused) → AreEntriesOf e.column es
    → length e.column ≡ length values → IsStopped (More e.value) values (at es) p r → one_exchange e values ≡ Err r
entering_stops values es e p r a n h =
    then_stop (entered_by e values) (λ w. then (sub_at e.place e.bound w) (λ next. Ok next)) r (change_err (More e.value) values e.column es p r a n h)

entering_goes : (values : List Fraction) (es : List Entry) (e : Exchange) (w : List Fraction) → AreEntriesOf e.column es
    → length e.column ≡ length values → AreChanged (More e.value) values (at es) w
    → one_exchange e values ≡ then (sub_at e.place e.bound w) (λ next. Ok next)
entering_goes values es e w a n h =
    then_go (entered_by e values) (λ w. then (sub_at e.place e.bound w) (λ next. Ok next)) w (change_ok (More e.value) values e.column es w a n h)

pub leaving_stops : (values : List Fraction) (es : List Entry) (e : Exchange) (w : List Fraction) (r : Refused) → AreEntriesOf e.column es
    → length e.column ≡ length values → AreChanged (More e.value) values (at es) w
    → Err r ≡ sub_outcome (get w e.place) e.bound → one_exchange e values ≡ Err r
leaving_stops values es e w r a n h k =
    entering_goes values es e w a n h
    ∙ then_stop (sub_at e.place e.bound w) (λ next. Ok next) r (then_stop (sub_outcome (get w e.place) e.bound) (λ x. Ok (set w e.place x)) r (sym k))

pub leaving_goes : (values : List Fraction) (es : List Entry) (e : Exchange) (w : List Fraction) (x : Fraction) → AreEntriesOf e.column es
    → length e.column ≡ length values → AreChanged (More e.value) values (at es) w
    → Ok x ≡ sub_outcome (get w e.place) e.bound → one_exchange e values ≡ Ok (set w e.place x)
leaving_goes values es e w x a n h k =
    entering_goes values es e w a n h
    ∙ then_go (sub_at e.place e.bound w) (λ next. Ok next) (set w e.place x)
    (then_go (sub_outcome (get w e.place) e.bound) (λ x. Ok (set w e.place x)) x (sym k))

-- ---- all exchanges
-- all that comes behind the first one
one_then : (e : Exchange) (es : List Exchange) (v : List Fraction) → exchanges_script (e ∷ es) v ≡ then (one_exchange e v) (λ next. exchanges_script es next)
one_then e es v = go (entered_by e v)
  where
    two : (r : Result (List Fraction) Refused) → then r (λ next. exchanges_script es next) ≡ then (then r (λ next. Ok next)) (λ next. exchanges_script es next)
    two (Ok next) = refl
    two (Err d) = refl

    go : (r : Result (List Fraction) Refused) → then r (λ w. then (sub_at e.place e.bound w) (λ next. exchanges_script es next))
        ≡ then (then r (λ w. then (sub_at e.place e.bound w) (λ next. Ok next))) (λ next. exchanges_script es next)
    go (Ok w) = two (sub_at e.place e.bound w)
    go (Err d) = refl

-- from the step of this index on
abbrev pub exchanges_left : List Step → List (List Fraction) → ℕ → List Fraction → Result (List Fraction) Refused
exchanges_left ss cs i values = exchanges_script (exchanges_of (drop i ss) (drop i cs)) values

exchanges_one : (ss : List Step) (cs : List (List Fraction)) (i : ℕ) (s : Step) (c : List Fraction) (values : List Fraction)
    → i < length ss → i < length cs → s ≡ get_or ss i s → c ≡ get_or cs i c
    → exchanges_left ss cs i values ≡ then (one_exchange (exchange_of s c) values) (λ next. exchanges_left ss cs (i + 1) next)
exchanges_one ss cs i s c values l m e f =
    ap (λ ts. exchanges_script (exchanges_of ts (drop i cs)) values) (rest_at ss i s l e)
    ∙ ap (λ ds. exchanges_script (exchanges_of (s ∷ drop (i + 1) ss) ds) values) (rest_at cs i c m f)
    ∙ one_then (exchange_of s c) (exchanges_of (drop (i + 1) ss) (drop (i + 1) cs)) values

pub exchange_goes_on : (o : Result (List Fraction) Refused) (ss : List Step) (cs : List (List Fraction)) (i : ℕ) (s : Step) (c : List Fraction)
    (values next : List Fraction) → o ≡ exchanges_left ss cs i values
    → i < length ss → i < length cs → s ≡ get_or ss i s → c ≡ get_or cs i c → one_exchange (exchange_of s c) values ≡ Ok next
    → o ≡ exchanges_left ss cs (i + 1) next
exchange_goes_on o ss cs i s c values next h l m e f k =
    h ∙ exchanges_one ss cs i s c values l m e f ∙ then_go (one_exchange (exchange_of s c) values) (λ next. exchanges_left ss cs (i + 1) next) next k

pub exchange_stops : (o : Result (List Fraction) Refused) (ss : List Step) (cs : List (List Fraction)) (i : ℕ) (s : Step) (c : List Fraction)
    (values : List Fraction) (r : Refused) → o ≡ exchanges_left ss cs i values
    → i < length ss → i < length cs → s ≡ get_or ss i s → c ≡ get_or cs i c → one_exchange (exchange_of s c) values ≡ Err r → o ≡ Err r
exchange_stops o ss cs i s c values r h l m e f k =
    h ∙ exchanges_one ss cs i s c values l m e f ∙ then_stop (one_exchange (exchange_of s c) values) (λ next. exchanges_left ss cs (i + 1) next) r k

-- ---- lengths
pub exchange_length : (e : Exchange) (values next : List Fraction) → one_exchange e values ≡ Ok next → length next ≡ length values
exchange_length e values next k =
    let a = then_ok (entered_by e values) (λ w. then (sub_at e.place e.bound w) (λ next. Ok next)) next k in
    let b = then_ok (sub_at e.place e.bound a.0) (λ (next : List Fraction). Ok next) next a.1.1 in
    let c = then_ok (sub_outcome (get a.0 e.place) e.bound) (λ x. Ok (set a.0 e.place x)) b.0 b.1.0 in
    let last : b.0 ≡ next = cc (b.1.1) in
    let put : set a.0 e.place c.0 ≡ b.0 = cc (c.1.1) in
    sym (ap length last) ∙ sym (ap length put) ∙ length-set a.0 e.place c.0 ∙ length_members (λ i x. add_product x e.value (get e.column i)) 0 values a.0 a.1.0

pub exchanges_length : (es : List Exchange) (values next : List Fraction) → exchanges_script es values ≡ Ok next → length next ≡ length values
exchanges_length [] values next k = let same : values ≡ next = cc in sym (ap length same)
exchanges_length (e ∷ es) values next k =
    let h = then_ok (one_exchange e values) (λ next. exchanges_script es next) next (sym (one_then e es values) ∙ k) in
    exchanges_length es h.0 next h.1.1 ∙ exchange_length e values h.0 h.1.0
