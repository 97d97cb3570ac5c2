-- The lines as they are cut, taken one after another as far as the end.
use Rattle.std.proofs.Common.{◌≡◌, ◌<◌, ◌≤◌, ◌+◌, ℕ, Bool, true, false, true≢false, cond, nat_eq, ◌&&◌, List, [], ◌∷◌, length, get_or, take, map, Option, None, Some, Err, refl, sym, ap, subst, ◌∙◌, arith}
use Rattle.std.proofs.lemmas.List.{length-map, length-take, get_or-map}
use denote.Enum.Bare.{sameb}
use Rattle.pami_frac.specs.declared.fault.Fault.{Fault}
use Rattle.pami_frac.specs.declared.fault.Fault.TheVariants as outcomes
use Rattle.pami_frac.specs.Answers.{Follows}
use Rattle.pami_edge.specs.declared.line.Line.{Line as Piece}
use Rattle.pami_edge.specs.Lines.{lines_of, piece, hang, begins_with_feed}
use Rattle.pami_model.specs.declared.fault.FileKind.{FileKind}
use Rattle.pami_model.specs.declared.fault.FileKind.TheVariants as kinds
use Rattle.pami_model.specs.Judgement.{first_of}
use Rattle.pami_model.specs.Rules.{byte_limit}
use Rattle.pami_mps.specs.contracts.kind.Section.{the_type}
use Rattle.pami_mps.specs.declared.kind.Section.{Section}
use Rattle.pami_mps.specs.declared.kind.Section.TheVariants.{Start, Name, SenseDue, SenseGiven, Rows, Columns, Rhs, Ranges, Limits, End}
use Rattle.pami_mps.specs.Line.{Line, line_of, text_lines, is_end}
use Rattle.pami_mps.specs.Gather.{Declared}
use Rattle.pami_mps.specs.Rows.{told_of, row_of}
use Rattle.pami_mps.specs.Limits.{sides_of}
use Rattle.pami_mps.specs.Seen.{Seen, seen}
use Rattle.pami_mps.specs.After.{after}
use Rattle.pami_mps.specs.Judge.{judge, judge_crossed, ends}
use Rattle.pami_mps.specs.Mps.{FirstFault, IsRefused, blank}
use Rattle.pami_mps.specs.Reader.{IsEven, IsRead, placed_at}
use Rattle.pami_mps.proofs.Whole.{So, here, state_is, line_at, lines_count, stopped, unended}

-- pieces of the bytes

pub taken_at : (vs : List Piece) (bytes : List ℕ) (i : ℕ) (d : Piece) (text : List ℕ) → map (piece bytes) vs ≡ lines_of bytes → i < length vs
    → text ≡ piece bytes (get_or vs i d) → line_of text ≡ get_or (text_lines bytes) i blank
taken_at vs bytes i d text e lt is =
    ap line_of (is ∙ sym (get_or-map (piece bytes) vs i d (piece bytes d) lt))
    ∙ line_at (map (piece bytes) vs) bytes i (piece bytes d) e (rw (length-map vs (piece bytes)) lt)

pub pieces_count : (vs : List Piece) (bytes : List ℕ) → map (piece bytes) vs ≡ lines_of bytes → length (text_lines bytes) ≡ length vs
pieces_count vs bytes e = lines_count (map (piece bytes) vs) bytes e ∙ length-map vs (piece bytes)

pub within : (vs : List Piece) (bytes : List ℕ) (i : ℕ) → map (piece bytes) vs ≡ lines_of bytes → i < length vs → i < length (text_lines bytes)
within vs bytes i e lt = let n : length (text_lines bytes) ≡ length vs = pieces_count vs bytes e in omega arith

-- there are no more lines than bytes
hang_count : (b : ℕ) (xs : List (List ℕ)) → length (hang b xs) ≤ length xs + 1
hang_count b [] = omega arith
hang_count b (x ∷ xs) = omega arith

lines_few : (bytes : List ℕ) → length (lines_of bytes) ≤ length bytes
lines_few [] = omega arith
lines_few (b ∷ bytes) = by (lines_few bytes) (nat_eq b 10) (nat_eq b 13 && begins_with_feed bytes)
  where
    by : length (lines_of bytes) ≤ length bytes → (p q : Bool)
        → length (cond p ([] ∷ lines_of bytes) (cond q (lines_of bytes) (hang b (lines_of bytes)))) ≤ length (b ∷ bytes)
    by few true q = omega arith
    by few false true = omega arith
    by few false false = let h : length (hang b (lines_of bytes)) ≤ length (lines_of bytes) + 1 = hang_count b (lines_of bytes) in omega arith

pub few_lines : (vs : List Piece) (bytes : List ℕ) → map (piece bytes) vs ≡ lines_of bytes → length bytes ≤ byte_limit → length vs ≤ byte_limit
few_lines vs bytes e fits =
    let n : length vs ≡ length (lines_of bytes) = sym (length-map vs (piece bytes)) ∙ ap length e in
    let few : length (lines_of bytes) ≤ length bytes = lines_few bytes in
    omega arith

-- the end

pub ended : (s : Section) → sameb the_type s End ≡ true → s ≡ End
ended Start h = absurd (true≢false (sym h))
ended Name h = absurd (true≢false (sym h))
ended SenseDue h = absurd (true≢false (sym h))
ended SenseGiven h = absurd (true≢false (sym h))
ended Rows h = absurd (true≢false (sym h))
ended Columns h = absurd (true≢false (sym h))
ended Rhs h = absurd (true≢false (sym h))
ended Ranges h = absurd (true≢false (sym h))
ended Limits h = absurd (true≢false (sym h))
ended End h = refl

pub still_open : (s : Section) → sameb the_type s End ≡ false → is_end s ≡ false
still_open Start h = refl
still_open Name h = refl
still_open SenseDue h = refl
still_open SenseGiven h = refl
still_open Rows h = refl
still_open Columns h = refl
still_open Rhs h = refl
still_open Ranges h = refl
still_open Limits h = refl
still_open End h = h

-- something is told of each row, and each column has bounds
seen_even : (ls : List Line) → IsEven (seen ls)
seen_even ls =
    let g = Rattle.pami_mps.specs.Seen.given ls in
    record {
      told = length-map g.rows (told_of g.values g.ranges) ∙ sym (length-map g.rows (row_of g.values g.ranges));
      sides = length-map (Rattle.pami_mps.specs.Gather.column_names g.pairs) (sides_of g.limits)
          ∙ sym (length-map (Rattle.pami_mps.specs.Gather.column_names g.pairs) _);
    }

-- the lines before a place are good, and ENDATA isn't among them
pub record Open (ls : List Line) (i : ℕ) (s : Seen) : Type 0 where
  pub so : So ls i s
  pub open_still : is_end s.section ≡ false

module _ (bytes : List ℕ) (i : ℕ) (s : Seen) (is : Open (text_lines bytes) i s) where
  pub even : IsEven s
  even = subst IsEven (sym is.so.state) (seen_even (take i (text_lines bytes)))

  module _ (l : Line) (lt : i < length (text_lines bytes)) (e : l ≡ get_or (text_lines bytes) i blank) (fits : length bytes ≤ byte_limit) where
    -- a line that isn't taken
    pub refused : (A : Type 0) (f : Fault FileKind) (n : ℕ) → n ≡ i + 1 → Follows {A = Unit {0}} (judge s l) (Err f)
        → IsRefused {A = A} bytes (Err (placed_at n f))
    refused A (outcomes.Named k) n c h =
        stopped bytes fits i k lt is.so.good (here (text_lines bytes) i s l is.so e (Some k)
        (ap (λ (j : Option FileKind). first_of j (judge_crossed (ends s l) s)) h)) n c
    refused A outcomes.OutOfMemory n c h = tt

    -- ENDATA
    pub read_to : judge s l ≡ None → (t : Seen) → t ≡ after s l → t.section ≡ End → (n : ℕ) → n ≡ i + 1 → IsRead bytes t n
    read_to h t a ended n c = record {
      place = i;
      counted = c;
      fits = fits;
      within = lt;
      before = is.so.good;
      open_still = ap (λ (x : Seen). is_end x.section) (sym is.so.state) ∙ is.open_still;
      line = ap (λ (x : Seen). judge x (get_or (text_lines bytes) i blank)) (sym is.so.state) ∙ ap (judge s) (sym e) ∙ h;
      state = state_is (text_lines bytes) i s l is.so e lt h t a;
      ended = ended;
    }

  -- no ENDATA
  pub unended_at : length bytes ≤ byte_limit → i ≡ length (text_lines bytes) → (n : ℕ) → n ≡ i + 1
      → FirstFault bytes (record { line = n; kind = kinds.EndMissing })
  unended_at fits whole n c =
      let at : So (text_lines bytes) (length (text_lines bytes)) s = subst (λ (k : ℕ). So (text_lines bytes) k s) whole is.so in
      let all : s ≡ seen (text_lines bytes) = at.state
      ∙ ap seen (Rattle.std.proofs.lemmas.List.take_all (length (text_lines bytes)) (text_lines bytes) (omega arith)) in
      unended bytes fits at.good (ap (λ (x : Seen). is_end x.section) (sym all) ∙ is.open_still) n (c ∙ ap (λ (k : ℕ). k + 1) whole)
