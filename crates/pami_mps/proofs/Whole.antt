-- Whole texts: a reader goes from line to line, and one text has one model or one first fault.
use Rattle.std.proofs.Common.{◌≡◌, ◌<◌, ◌≤◌, ◌+◌, ◌-◌, ℕ, zero, suc, Bool, true, false, true≢false, cond, not, ◌&&◌, nat_lt, is_some, List, [], ◌∷◌, ◌++◌, length, get_or, take, map, Option, None, Some, refl, sym, ap, subst, ◌∙◌, ◌⊎◌, inl, inr, arith, below_more}
use Rattle.std.proofs.lemmas.Bool.{le-ltb, lt-ltb, ltb-true}
use Rattle.std.proofs.lemmas.List.{take_more, take_all, length-map, get_or-map}
use Rattle.pami_model.specs.declared.fault.Crossed.{Crossed}
use Rattle.pami_model.specs.declared.fault.FileFault.{FileFault}
use Rattle.pami_model.specs.declared.fault.FileKind.{FileKind}
use Rattle.pami_model.specs.declared.fault.FileKind.TheVariants as kinds
use Rattle.pami_model.specs.Draft.{Draft, first_crossed}
use Rattle.pami_model.specs.Contents.{Contents, contents_of}
use Rattle.pami_model.specs.FirstFault.{AreGood}
use Rattle.pami_model.specs.Judgement.{first_of, wrong_if}
use Rattle.pami_model.specs.Rules.{byte_limit}
use Rattle.pami_model.proofs.FirstFaults as faults
use Rattle.pami_model.proofs.Judging.{none≢some, both_none}
use Rattle.pami_mps.specs.declared.kind.Section.{Section}
use Rattle.pami_mps.specs.declared.kind.Section.TheVariants.{Start, Name, SenseDue, SenseGiven, Rows, Columns, Rhs, Ranges, Limits, End}
use Rattle.pami_mps.specs.Line.{Line, line_of, text_lines, section_at, section_of, is_end, next, named, begun, settled}
use Rattle.pami_mps.specs.Seen.{Seen, seen}
use Rattle.pami_mps.specs.After.{after, after_head, after_section, after_words}
use Rattle.pami_mps.specs.Judge.{judge, judge_read, judge_crossed, judge_line, ends}
use Rattle.pami_mps.specs.Mps.{Mps, FirstFault, fault_at, wrong_at, judged, line_number, blank}
use Rattle.pami_mps.specs.Reader.{nothing_seen, IsRead}
use Rattle.pami_edge.specs.Lines.{lines_of}
use Rattle.pami_mps.proofs.Seen.{Ready, ready_start, ready_more, seen_more, section_more}

-- the first i lines are good, and s is what they give
pub record So (ls : List Line) (i : ℕ) (s : Seen) : Type 0 where
  pub good : AreGood (fault_at ls) i
  pub state : s ≡ seen (take i ls)
  pub ready : Ready (take i ls)

pub starts : (ls : List Line) → So ls 0 nothing_seen
starts ls = record { good = λ j lt. absurd (omega arith); state = refl; ready = ready_start }

-- a line that stands at a place, with what stands before it
module _ (ls : List Line) (i : ℕ) (s : Seen) (l : Line) (so : So ls i s) (e : l ≡ get_or ls i blank) where
  pub here : (k : Option FileKind) → judge_line s l ≡ k → fault_at ls i ≡ k
  here k h = ap (λ (x : Seen). judge_line x (get_or ls i blank)) (sym so.state) ∙ ap (judge_line s) (sym e) ∙ h

  good_there : judge s l ≡ None → judge (seen (take i ls)) l ≡ None
  good_there h = ap (λ (x : Seen). judge x l) (sym so.state) ∙ h

  module _ (lt : i < length ls) (h : judge s l ≡ None) (t : Seen) (a : t ≡ after s l) where
    grown : take i ls ++ l ∷ [] ≡ take (i + 1) ls
    grown = ap (λ (x : Line). take i ls ++ x ∷ []) e ∙ sym (take_more ls i blank lt)

    pub state_is : t ≡ seen (take (i + 1) ls)
    state_is = a ∙ ap (λ (x : Seen). after x l) so.state ∙ sym (seen_more (take i ls) l so.ready (good_there h)) ∙ ap seen grown

    pub section_is : t.section ≡ next s.section l
    section_is = ap (λ (x : Seen). x.section) state_is ∙ ap section_at (sym grown) ∙ section_more (take i ls) l
        ∙ ap (λ (x : Seen). next x.section l) (sym so.state)

    pub goes : judge_line s l ≡ None → So ls (i + 1) t
    goes k = record {
      good = below_more _ _ so.good (here None k);
      state = state_is;
      ready = subst Ready grown (ready_more (take i ls) l so.ready (good_there h));
    }

-- bounds are looked at where ENDATA comes

no_end : (s : Seen) (l : Line) → is_end (next s.section l) ≡ false → judge_crossed (ends s l) s ≡ None
no_end s l h = ap (λ (b : Bool). judge_crossed b s) (ap (λ (b : Bool). not (is_end s.section) && b) h ∙ by (not (is_end s.section)))
  where
    by : (b : Bool) → (b && false) ≡ false
    by true = refl
    by false = refl

uncrossed : (s : Seen) (l : Line) → judge s l ≡ None → judge_crossed (ends s l) s ≡ None → judge_line s l ≡ None
uncrossed s l h k = ap (λ (j : Option FileKind). first_of j (judge_crossed (ends s l) s)) h ∙ k

-- a good line that isn't ENDATA
pub goes_on : (ls : List Line) (i : ℕ) (s t : Seen) (l : Line) → So ls i s → i < length ls → l ≡ get_or ls i blank → judge s l ≡ None → t ≡ after s l
    → is_end t.section ≡ false → So ls (i + 1) t
goes_on ls i s t l so lt e h a open_still =
    goes ls i s l so e lt h t a (uncrossed s l h (no_end s l (ap is_end (sym (section_is ls i s l so e lt h t a)) ∙ open_still)))

-- behind ENDATA each line is good and gives nothing

end_judged : (s : Seen) (l : Line) → s.section ≡ End → judge s l ≡ None
end_judged s l e = ap (λ (x : Section). cond (is_end x) None (judge_read s l)) e

end_crossed : (s : Seen) (l : Line) → s.section ≡ End → judge_crossed (ends s l) s ≡ None
end_crossed s l e = ap (λ (x : Section). judge_crossed (not (is_end x) && is_end (next s.section l)) s) e

end_after : (s : Seen) (l : Line) → s.section ≡ End → s ≡ after s l
end_after s l e = sym (ap (λ (x : Section). cond (is_end x) s (cond l.head (after_head s l.words) (after_words s.section s l.words))) e)

further : (ls : List Line) (i : ℕ) (s : Seen) → So ls i s → s.section ≡ End → (n : ℕ) → i + n ≤ length ls → So ls (i + n) s
further ls i s so e zero le = subst (λ (k : ℕ). So ls k s) (omega arith) so
further ls i s so e (suc n) le =
    let l : Line = get_or ls (i + n) blank in
    let h : judge s l ≡ None = end_judged s l e in
    subst (λ (k : ℕ). So ls k s) (omega arith)
    (goes ls (i + n) s l (further ls i s so e n (omega arith)) refl (omega arith) h s (end_after s l e) (uncrossed s l h (end_crossed s l e)))

to_the_end : (ls : List Line) (i : ℕ) (s : Seen) → So ls i s → s.section ≡ End → i ≤ length ls → So ls (length ls) s
to_the_end ls i s so e le =
    let there : i + (length ls - i) ≡ length ls = omega arith in
    subst (λ (n : ℕ). So ls n s) there (further ls i s so e (length ls - i) (omega arith))

-- ENDATA gives nothing but the end

end_gives : (s : Seen) (l : Line) → is_end s.section ≡ false → is_end (next s.section l) ≡ true → (after s l).draft ≡ s.draft
end_gives s l open_still ended = by s.section l.head open_still ended
  where
    same : (t u : Section) (others : List (List ℕ)) → is_end u ≡ false → is_end (settled t others) ≡ true → (after_section s (Some t) others).draft ≡ s.draft
    same Start u others o h = refl
    same Name u others o h = refl
    same SenseDue u [] o h = absurd (true≢false (sym h))
    same SenseDue u (w ∷ ws) o h = absurd (true≢false (sym h))
    same SenseGiven u others o h = refl
    same Rows u others o h = refl
    same Columns u others o h = refl
    same Rhs u others o h = refl
    same Ranges u others o h = refl
    same Limits u others o h = refl
    same End u others o h = refl

    begun_end : (u : Section) (o : Option Section) (others : List (List ℕ)) → is_end u ≡ false → is_end (begun u o others) ≡ true
        → (after_section s o others).draft ≡ s.draft
    begun_end u None others o h = refl
    begun_end u (Some t) others o h = same t u others o h

    headed : (u : Section) (words : List (List ℕ)) → is_end u ≡ false → is_end (named u words) ≡ true → (after_head s words).draft ≡ s.draft
    headed u [] o h = refl
    headed u (w ∷ ws) o h = begun_end u (section_of w) ws o h

    settled_open : (u : Section) (words : List (List ℕ)) → is_end u ≡ false → is_end (settled u words) ≡ false
    settled_open Start words o = refl
    settled_open Name words o = refl
    settled_open SenseDue [] o = refl
    settled_open SenseDue (w ∷ ws) o = refl
    settled_open SenseGiven words o = refl
    settled_open Rows words o = refl
    settled_open Columns words o = refl
    settled_open Rhs words o = refl
    settled_open Ranges words o = refl
    settled_open Limits words o = refl
    settled_open End words o = o

    in_order : (u : Section) (e b : Bool) → is_end u ≡ e → e ≡ false → is_end (cond e u (cond b (named u l.words) (settled u l.words))) ≡ true
        → (cond e s (cond b (after_head s l.words) (after_words u s l.words))).draft ≡ s.draft
    in_order u true b i o h = absurd (true≢false o)
    in_order u false true i o h = headed u l.words i h
    in_order u false false i o h = absurd (true≢false (sym h ∙ settled_open u l.words i))

    by : (u : Section) (b : Bool) → is_end u ≡ false → is_end (cond (is_end u) u (cond b (named u l.words) (settled u l.words))) ≡ true
        → (cond (is_end u) s (cond b (after_head s l.words) (after_words u s l.words))).draft ≡ s.draft
    by u b o h = in_order u (is_end u) b refl o h

-- texts

module _ (bytes : List ℕ) (fits : length bytes ≤ byte_limit) where
  abbrev ls : List Line
  ls = text_lines bytes

  pub judged_line : (i : ℕ) → i < length ls → judged bytes i ≡ fault_at ls i
  judged_line i lt = ap (λ (b : Bool). cond b (Some kinds.TooLong) (wrong_at ls i)) (le-ltb byte_limit (length bytes) fits)
      ∙ ap (λ (b : Bool). cond b (fault_at ls i) (wrong_if (not (is_end (section_at ls))) kinds.EndMissing)) (lt-ltb i (length ls) lt)

  judged_end : judged bytes (length ls) ≡ wrong_if (not (is_end (section_at ls))) kinds.EndMissing
  judged_end = ap (λ (b : Bool). cond b (Some kinds.TooLong) (wrong_at ls (length ls))) (le-ltb byte_limit (length bytes) fits)
      ∙ ap (λ (b : Bool). cond b (fault_at ls (length ls)) (wrong_if (not (is_end (section_at ls))) kinds.EndMissing))
      (le-ltb (length ls) (length ls) (omega arith))

  number_is : (i : ℕ) → line_number bytes i ≡ i + 1
  number_is i = ap (λ (b : Bool). cond b 0 (i + 1)) (le-ltb byte_limit (length bytes) fits)

  good_before : (i : ℕ) → i ≤ length ls → AreGood (fault_at ls) i → AreGood (judged bytes) i
  good_before i le good j lt = judged_line j (omega arith) ∙ good j lt

  -- a line that isn't good
  pub stopped : (i : ℕ) (k : FileKind) → i < length ls → AreGood (fault_at ls) i → fault_at ls i ≡ Some k → (n : ℕ) → n ≡ i + 1
      → FirstFault bytes (record { line = n; kind = k })
  stopped i k lt good h n e = record { place = i; before = good_before i (omega arith) good; there = judged_line i lt ∙ h; line = e ∙ sym (number_is i) }

  -- no ENDATA
  pub unended : AreGood (fault_at ls) (length ls) → is_end (section_at ls) ≡ false → (n : ℕ) → n ≡ length ls + 1
      → FirstFault bytes (record { line = n; kind = kinds.EndMissing })
  unended good h n e = record {
    place = length ls;
    before = good_before (length ls) (omega arith) good;
    there = judged_end ∙ ap (λ (b : Bool). wrong_if (not b) kinds.EndMissing) h;
    line = e ∙ sym (number_is (length ls));
  }

  -- all is good
  good_all : (c : Contents) → Mps bytes c → (i : ℕ) → i ≤ length ls → judged bytes i ≡ None
  good_all c is i le = by (nat_lt i (length ls)) refl
    where
      by : (b : Bool) → nat_lt i (length ls) ≡ b → judged bytes i ≡ None
      by true e = let lt : i < length ls = ltb-true i (length ls) e in judged_line i lt ∙ is.good i lt
      by false e = ap (λ (b : Bool). cond b (Some kinds.TooLong) (wrong_at ls i)) (le-ltb byte_limit (length bytes) fits)
          ∙ ap (λ (b : Bool). cond b (fault_at ls i) (wrong_if (not (is_end (section_at ls))) kinds.EndMissing)) e
          ∙ ap (λ (s : Section). wrong_if (not (is_end s)) kinds.EndMissing) is.ended

  behind_all : (i : ℕ) → length ls < i → judged bytes i ≡ wrong_if (not (is_end (section_at ls))) kinds.EndMissing
  behind_all i lt = ap (λ (b : Bool). cond b (Some kinds.TooLong) (wrong_at ls i)) (le-ltb byte_limit (length bytes) fits)
      ∙ ap (λ (b : Bool). cond b (fault_at ls i) (wrong_if (not (is_end (section_at ls))) kinds.EndMissing)) (le-ltb i (length ls) (omega arith))

  no_fault : (c : Contents) (f : FileFault) → Mps bytes c → FirstFault bytes f → ⊥
  no_fault c f is first = by (nat_lt (length ls) first.place) refl
    where
      by : (b : Bool) → nat_lt (length ls) first.place ≡ b → ⊥
      by true e = none≢some (sym (behind_all first.place (ltb-true (length ls) first.place e)
          ∙ ap (λ (s : Section). wrong_if (not (is_end s)) kinds.EndMissing) is.ended) ∙ first.there)
      by false e = none≢some (sym (good_all c is first.place (Rattle.std.proofs.lemmas.Bool.ltb-false (length ls) first.place e)) ∙ first.there)

  -- a text that is good as far as a place has a fault, or is good further
  first_from : (n i : ℕ) → i + n ≡ length ls → AreGood (fault_at ls) i → ((f : FileFault) × FirstFault bytes f) ⊎ AreGood (fault_at ls) (length ls)
  first_from zero i e good = inr (subst (AreGood (fault_at ls)) (omega arith) good)
  first_from (suc n) i e good = by (λ more. first_from n (i + 1) (omega arith) more) (fault_at ls i) refl
    where
      by : (AreGood (fault_at ls) (i + 1) → ((f : FileFault) × FirstFault bytes f) ⊎ AreGood (fault_at ls) (length ls))
          → (o : Option FileKind) → fault_at ls i ≡ o → ((f : FileFault) × FirstFault bytes f) ⊎ AreGood (fault_at ls) (length ls)
      by on None h = on (below_more _ _ good h)
      by on (Some k) h = inl (record { line = i + 1; kind = k }, stopped i k (omega arith) good h (i + 1) refl)

  short_text : ((c : Contents) × Mps bytes c) ⊎ ((f : FileFault) × FirstFault bytes f)
  short_text = by (first_from (length ls) 0 (omega arith) (λ i lt. absurd (omega arith)))
    where
      ended : (s : Section) → is_end s ≡ true → s ≡ End
      ended Start h = absurd (true≢false (sym h))
      ended Name h = absurd (true≢false (sym h))
      ended SenseDue h = absurd (true≢false (sym h))
      ended SenseGiven h = absurd (true≢false (sym h))
      ended Rows h = absurd (true≢false (sym h))
      ended Columns h = absurd (true≢false (sym h))
      ended Rhs h = absurd (true≢false (sym h))
      ended Ranges h = absurd (true≢false (sym h))
      ended Limits h = absurd (true≢false (sym h))
      ended End h = refl

      at_end : AreGood (fault_at ls) (length ls) → (b : Bool) → is_end (section_at ls) ≡ b
          → ((c : Contents) × Mps bytes c) ⊎ ((f : FileFault) × FirstFault bytes f)
      at_end good true e = inl (contents_of (seen ls).draft, record { fits = fits; good = good; ended = ended (section_at ls) e; contents = refl })
      at_end good false e = inr (record { line = length ls + 1; kind = kinds.EndMissing }, unended good e (length ls + 1) refl)

      by : ((f : FileFault) × FirstFault bytes f) ⊎ AreGood (fault_at ls) (length ls) → ((c : Contents) × Mps bytes c) ⊎ ((f : FileFault) × FirstFault bytes f)
      by (inl f) = inr f
      by (inr good) = at_end good (is_end (section_at ls)) refl

-- a text that is too long
pub too_long : (bytes : List ℕ) → byte_limit < length bytes → FirstFault bytes (record { line = 0; kind = kinds.TooLong })
too_long bytes lt = record {
  place = 0;
  before = λ i below. absurd (omega arith);
  there = ap (λ (b : Bool). cond b (Some kinds.TooLong) (wrong_at (text_lines bytes) 0)) (lt-ltb byte_limit (length bytes) lt);
  line = sym (ap (λ (b : Bool). cond b 0 (0 + 1)) (lt-ltb byte_limit (length bytes) lt));
}

-- one text, one model or one first fault, and not both

pub one_model : (bytes : List ℕ) (c d : Contents) → Mps bytes c → Mps bytes d → c ≡ d
one_model bytes c d a b = a.contents ∙ sym b.contents

pub one_fault : (bytes : List ℕ) (f g : FileFault) → FirstFault bytes f → FirstFault bytes g → f ≡ g
one_fault bytes = faults.one_fault (judged bytes) (line_number bytes)

pub not_both : (bytes : List ℕ) (c : Contents) (f : FileFault) → Mps bytes c → FirstFault bytes f → ⊥
not_both bytes c f is first = no_fault bytes is.fits c f is first

pub model_or_fault : (bytes : List ℕ) → ((c : Contents) × Mps bytes c) ⊎ ((f : FileFault) × FirstFault bytes f)
model_or_fault bytes = by (nat_lt byte_limit (length bytes)) refl
  where
    by : (b : Bool) → nat_lt byte_limit (length bytes) ≡ b → ((c : Contents) × Mps bytes c) ⊎ ((f : FileFault) × FirstFault bytes f)
    by true e = inr (record { line = 0; kind = kinds.TooLong }, too_long bytes (ltb-true byte_limit (length bytes) e))
    by false e = short_text bytes (Rattle.std.proofs.lemmas.Bool.ltb-false byte_limit (length bytes) e)

-- what good lines have given
ready_at : (ls : List Line) (i : ℕ) → i ≤ length ls → AreGood (fault_at ls) i → Ready (take i ls)
ready_at ls zero le good = ready_start
ready_at ls (suc i) le good =
    let good_there : judge (seen (take i ls)) (get_or ls i blank) ≡ None =
    (both_none (judge (seen (take i ls)) (get_or ls i blank)) _ (good i (omega arith))).0 in
    let next_one : i + 1 ≡ suc i = omega arith in
    let lt : i < length ls = omega arith in
    let one_more : take i ls ++ get_or ls i blank ∷ [] ≡ take (suc i) ls = sym (take_more ls i blank lt) ∙ ap (λ (k : ℕ). take k ls) next_one in
    subst Ready one_more (ready_more (take i ls) (get_or ls i blank) (ready_at ls i (omega arith) (λ j below. good j (omega arith))) good_there)

-- what a reader has taken as far as ENDATA
module _ (bytes : List ℕ) (s : Seen) (n : ℕ) (read : IsRead bytes s n) where
  abbrev all : List Line
  all = text_lines bytes

  abbrev last : Line
  last = get_or all read.place blank

  abbrev before : Seen
  before = seen (take read.place all)

  so : So all read.place before
  so = record { good = read.before; state = refl; ready = ready_at all read.place (let lt : read.place < length all = read.within in omega arith) read.before }

  longer : take read.place all ++ last ∷ [] ≡ take (read.place + 1) all
  longer = sym (take_more all read.place blank read.within)

  next_is : is_end (next before.section last) ≡ true
  next_is = ap is_end (sym (section_more (take read.place all) last) ∙ ap section_at longer ∙ ap (λ (x : Seen). x.section) (sym read.state) ∙ read.ended)

  after_is : s ≡ after before last
  after_is = read.state ∙ ap seen (sym longer) ∙ seen_more (take read.place all) last so.ready read.line

  draft_is : s.draft ≡ before.draft
  draft_is = ap (λ (x : Seen). x.draft) after_is ∙ end_gives before last read.open_still next_is

  crossed_is : judge_crossed (ends before last) before ≡ wrong_if (is_some (first_crossed s.draft)) kinds.Crossed
  crossed_is = ap (λ (b : Bool). judge_crossed b before) (ap (λ (b : Bool). not b && is_end (next before.section last)) read.open_still ∙ next_is)
      ∙ ap (λ (d : Draft). wrong_if (is_some (first_crossed d)) kinds.Crossed) (sym draft_is)

  -- bounds that are crossed
  pub crossed_fault : (x : Crossed) → first_crossed s.draft ≡ Some x → FirstFault bytes (record { line = n; kind = kinds.Crossed })
  crossed_fault x e = stopped bytes read.fits read.place kinds.Crossed read.within read.before
      (ap (λ (j : Option FileKind). first_of j (judge_crossed (ends before last) before)) read.line ∙ crossed_is
      ∙ ap (λ (o : Option Crossed). wrong_if (is_some o) kinds.Crossed) e) n read.counted

  -- none are
  pub accepted : (c : Contents) → first_crossed s.draft ≡ None → c ≡ contents_of s.draft → Mps bytes c
  accepted c e said =
      let line : judge_line before last ≡ None = uncrossed before last read.line
      (crossed_is ∙ ap (λ (o : Option Crossed). wrong_if (is_some o) kinds.Crossed) e) in
      let further : So all (read.place + 1) s = goes all read.place before last so refl read.within read.line s after_is line in
      let lt : read.place < length all = read.within in
      let whole : So all (length all) s = to_the_end all (read.place + 1) s further read.ended (omega arith) in
      let state : s ≡ seen all = whole.state ∙ ap seen (take_all (length all) all (omega arith)) in
      record {
        fits = read.fits;
        good = whole.good;
        ended = ap (λ (x : Seen). x.section) (sym state) ∙ read.ended;
        contents = said ∙ ap (λ (x : Seen). contents_of x.draft) state;
      }

-- the lines of the bytes, as pieces

pub line_at : (pieces : List (List ℕ)) (bytes : List ℕ) (i : ℕ) (d : List ℕ) → pieces ≡ lines_of bytes → i < length pieces
    → line_of (get_or pieces i d) ≡ get_or (text_lines bytes) i blank
line_at pieces bytes i d e lt = sym (get_or-map line_of pieces i d blank lt) ∙ ap (λ (xs : List (List ℕ)). get_or (map line_of xs) i blank) e

pub lines_count : (pieces : List (List ℕ)) (bytes : List ℕ) → pieces ≡ lines_of bytes → length (text_lines bytes) ≡ length pieces
lines_count pieces bytes e = length-map (lines_of bytes) line_of ∙ ap length (sym e)
