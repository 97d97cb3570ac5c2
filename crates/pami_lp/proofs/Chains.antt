-- What a file that was taken says of its parts: each step of it went on.
use Rattle.std.proofs.Common.{◌≡◌, ◌<◌, ℕ, Bool, true, false, true≢false, not, cond, nat_lt, List, [], ◌∷◌, ◌++◌, length, Option, None, Some, is_some, Result, Ok, Err, refl, sym, ap, subst, ◌∙◌}
use Rattle.std.specs.Option.{option_map}
use Rattle.std.proofs.lemmas.Bool.{ltb-true}
use Rattle.pami_algebra.specs.Fraction.{Fraction}
use Rattle.pami_frac.specs.Answers.{then as chain}
use Rattle.pami_frac.specs.Decimal.{decimal_value}
use Rattle.pami_frac.specs.declared.list.Bounds.{Bounds}
use Rattle.pami_frac.specs.declared.list.Entry.{Entry}
use Rattle.pami_model.specs.declared.fault.BuildFault.{BuildFault}
use Rattle.pami_model.specs.declared.fault.FileKind.{FileKind}
use Rattle.pami_model.specs.declared.fault.FileKind.TheVariants as kinds
use Rattle.pami_model.specs.Draft.{Draft, empty_draft, is_crossed, new_row, place_of, row_fault}
use Rattle.pami_model.specs.Rules.{name_limit, names_of_rows, row_limit}
use Rattle.pami_model.proofs.Judging.{both_none, unset}
use Rattle.pami_lp.specs.Gather.{sides_by, sides_of, terms_of}
use Rattle.pami_lp.specs.Grammar.{File, Side, Right, Left, Both, Term, way}
use Rattle.pami_lp.specs.Meaning.{Opened, opened, close_row, draft_of, left_side, negated, number_in, right_side, take_goal, take_label, take_rows, take_section, take_side, take_term, take_terms}
use Rattle.pami_lp.specs.Rules.{add_entries, add_term, end_row, name_by, stand, unless, with_row}
use Rattle.pami_lp.specs.Values.{coefficient_of, judged, number_of, unbounded}
use Rattle.pami_lp.proofs.Stepped.{not_ok, ok_same}

-- ---- a chain

pub record On {A B : Type 0} (r : Result A FileKind) (f : A → Result B FileKind) (y : B) : Type 0 where
  pub value : A
  pub is : r ≡ Ok value
  pub then : f value ≡ Ok y

pub on : {A B : Type 0} (r : Result A FileKind) (f : A → Result B FileKind) (y : B) → chain r f ≡ Ok y → On r f y
on (Ok x) f y h = record { value = x; is = refl; then = h }
on (Err k) f y h = not_ok h

pub judged_on : {A : Type 0} (o : Option FileKind) (x y : A) → judged o x ≡ Ok y → x ≡ y
judged_on None x y h = ok_same h
judged_on (Some k) x y h = not_ok h

pub number_value : (number : Option (List ℕ)) (k : Option Fraction) → number_in number ≡ Ok k → k ≡ option_map decimal_value number
number_value None k h = sym (ok_same h)
number_value (Some text) k h =
    let o = on (number_of text) (λ v. Ok (Some v)) k h in
    sym (ok_same o.then) ∙ ap (λ (v : Fraction). Some v) (sym (judged_on _ (decimal_value text) o.value o.is))

-- ---- a term of a row

pub record TermOn (t : Term) (n : Bool) (s u : Opened) : Type 0 where
  pub number : Option Fraction
  pub stood : Draft × ℕ
  pub spelled : number_in t.number ≡ Ok number
  pub stands : stand s.draft t.name ≡ Ok stood
  pub sums : add_term s.sums stood.1 (coefficient_of (negated n t.turns) number) ≡ Ok u.sums
  pub draft : stood.0 ≡ u.draft

pub term_on : (t : Term) (n : Bool) (s u : Opened) → take_term n t s ≡ Ok u → TermOn t n s u
term_on t n s u h =
    let a = on (number_in t.number) (λ k. chain (stand s.draft t.name) (λ p. summed k p)) u h in
    let b = on (stand s.draft t.name) (λ p. summed a.value p) u a.then in
    let c = on (add_term s.sums b.value.1 (coefficient_of (negated n t.turns) a.value)) (λ sums. Ok (opened b.value.0 sums)) u b.then in
    record {
      number = a.value;
      stood = b.value;
      spelled = a.is;
      stands = b.is;
      sums = subst (λ (o : Opened). add_term s.sums b.value.1 (coefficient_of (negated n t.turns) a.value) ≡ Ok o.sums) (ok_same c.then) c.is;
      draft = ap (λ (o : Opened). o.draft) (ok_same c.then);
    }
  where
    summed : Option Fraction → Draft × ℕ → Result Opened FileKind
    summed k p = chain (add_term s.sums p.1 (coefficient_of (negated n t.turns) k)) (λ sums. Ok (opened p.0 sums))

-- ---- a row

abbrev pub rowed : Draft → List ℕ → Bounds → Draft
rowed d name sides = record d { rows = d.rows ++ new_row name sides ∷ [] }

-- a row is added only below the limit
below_limit : (d e : Draft) (name : List ℕ) (sides : Bounds) → with_row d name sides ≡ Ok e → length d.rows < row_limit
below_limit d e name sides h =
    let free : row_fault d name ≡ None = by (row_fault d name) h in
    let late = (both_none _ _ (both_none _ _ free).1).1 in
    ltb-true (length d.rows) row_limit (holds (nat_lt (length d.rows) row_limit) (unset _ _ late))
  where
    by : (o : Option BuildFault) → unless o (rowed d name sides) ≡ Ok e → o ≡ None
    by None k = refl
    by (Some fault) k = not_ok k

    holds : (b : Bool) → not b ≡ false → b ≡ true
    holds true k = refl
    holds false k = absurd (true≢false k)

-- a row that is complete stands behind the others, and its entries are added
record EndOn (d e : Draft) (name : List ℕ) (sides : Bounds) (sums : List Entry) : Type 0 where
  below : length d.rows < row_limit
  entries : add_entries (rowed d name sides) (length d.rows) sums ≡ Ok e

end_on : (d e : Draft) (name : List ℕ) (sides : Bounds) (sums : List Entry) → end_row d name sides sums ≡ Ok e → EndOn d e name sides sums
end_on d e name sides sums h = first (is_some (place_of name (names_of_rows d.rows))) h
  where
    added : Result Draft FileKind
    added = chain (with_row d name sides) (λ x. add_entries x (length d.rows) sums)

    last : added ≡ Ok e → EndOn d e name sides sums
    last g =
        let a = on (with_row d name sides) (λ x. add_entries x (length d.rows) sums) e g in
        record {
          below = below_limit d a.value name sides a.is;
          entries = ap (λ (x : Draft). add_entries x (length d.rows) sums) (judged_on _ (rowed d name sides) a.value a.is) ∙ a.then;
        }

    then : (b : Bool) → cond b (Err kinds.Crossed) added ≡ Ok e → EndOn d e name sides sums
    then true g = not_ok g
    then false g = last g

    first : (b : Bool) → cond b (Err kinds.DuplicateRow) (cond (is_crossed sides) (Err kinds.Crossed) added) ≡ Ok e → EndOn d e name sides sums
    first true g = not_ok g
    first false g = then (is_crossed sides) g

-- a row: its terms, its sides, and then its entries
pub record SideOn (l : Option (List ℕ)) (s : Side) (d e : Draft) : Type 0 where
  pub opened : Opened
  pub terms : take_terms (terms_of s) d ≡ Ok opened
  pub below : length opened.draft.rows < row_limit
  pub ends : add_entries (rowed opened.draft (name_by (length opened.draft.rows) l) (sides_of s)) (length opened.draft.rows) opened.sums ≡ Ok e

closed_on : (l : Option (List ℕ)) (s : Side) (d e : Draft) (o : Opened) (sides : Bounds) → take_terms (terms_of s) d ≡ Ok o → sides ≡ sides_of s
    → close_row l sides o ≡ Ok e → SideOn l s d e
closed_on l s d e o sides h k g =
    let end = end_on o.draft e (name_by (length o.draft.rows) l) sides o.sums g in
    record {
      opened = o;
      terms = h;
      below = end.below;
      ends = subst (λ (b : Bounds). add_entries (rowed o.draft (name_by (length o.draft.rows) l) b) (length o.draft.rows) o.sums ≡ Ok e) k end.entries;
    }

pub side_on : (l : Option (List ℕ)) (s : Side) (d e : Draft) → take_side l s d ≡ Ok e → SideOn l s d e
side_on l (Right ts r v) d e h =
    let a = on (take_terms ts d) (λ s. chain (right_side r v unbounded) (λ sides. close_row l sides s)) e h in
    let b = on (right_side r v unbounded) (λ sides. close_row l sides a.value) e a.then in
    closed_on l (Right ts r v) d e a.value b.value a.is (sym (ap sides_by b.is)) b.then
side_on l (Left v r ts) d e h =
    let a = on (left_side v r unbounded) (λ sides. chain (take_terms ts d) (λ s. close_row l sides s)) e h in
    let b = on (take_terms ts d) (λ s. close_row l a.value s) e a.then in
    closed_on l (Left v r ts) d e b.value a.value b.is (sym (ap sides_by a.is)) b.then
side_on l (Both v w ts u) d e h =
    let a = on (left_side v (way w) unbounded) (λ sides. chain (take_terms ts d) (λ s. behind sides s)) e h in
    let b = on (take_terms ts d) (λ s. behind a.value s) e a.then in
    let c = on (right_side (way w) u a.value) (λ sides. close_row l sides b.value) e b.then in
    closed_on l (Both v w ts u) d e b.value c.value b.is
    (sym (ap (λ (r : Result Bounds FileKind). sides_by (chain r (λ sides. right_side (way w) u sides))) a.is ∙ ap sides_by c.is)) c.then
  where
    behind : Bounds → Opened → Result Draft FileKind
    behind sides s = chain (right_side (way w) u sides) (λ sides. close_row l sides s)

-- ---- a file

label_keeps : (l : Option (List ℕ)) (d e : Draft) → take_label l d ≡ Ok e → d ≡ e
label_keeps None d e h = ok_same h
label_keeps (Some name) d e h = by (nat_lt name_limit (length name)) h
  where
    by : (b : Bool) → cond b (Err kinds.NameLong) (Ok d) ≡ Ok e → d ≡ e
    by true g = not_ok g
    by false g = ok_same g

-- a file: its objective, its rows, and its bounds
pub record FileOn (f : File) (d : Draft) : Type 0 where
  pub priced : Draft
  pub rowed : Draft
  pub goal : take_goal f.goal (record empty_draft { sense = f.sense }) ≡ Ok priced
  pub rows : take_rows f.rows priced ≡ Ok rowed
  pub section : take_section f.bounds rowed ≡ Ok d

pub file_on : (f : File) (d : Draft) → draft_of f ≡ Ok d → FileOn f d
file_on f d h =
    let a =
    on (take_label f.label (record empty_draft { sense = f.sense }))
    (λ d. chain (take_goal f.goal d) (λ d. chain (take_rows f.rows d) (λ d. take_section f.bounds d))) d h in
    let b = on (take_goal f.goal a.value) (λ d. chain (take_rows f.rows d) (λ d. take_section f.bounds d)) d a.then in
    let c = on (take_rows f.rows b.value) (λ d. take_section f.bounds d) d b.then in
    let l = label_keeps f.label (record empty_draft { sense = f.sense }) a.value a.is in
    record {
      priced = b.value;
      rowed = c.value;
      goal = ap (λ (x : Draft). take_goal f.goal x) l ∙ b.is;
      rows = c.is;
      section = c.then;
    }
