-- The names of a model are words of its text: not empty, and of bytes above the space.
use Rattle.std.proofs.Common.{◌≡◌, ◌≢◌, ◌<◌, ◌≤◌, ◌+◌, ℕ, zero, suc, Bool, true, false, true≢false, cond, not, ◌&&◌, ◌||◌, nat_eq, nat_lt, List, []}
use Rattle.std.proofs.Common.{◌∷◌, ◌++◌, length, get_or, take, map, fold, Option, None, Some, refl, sym, ap, subst, ◌∙◌, arith, All}
use Rattle.std.specs.List.{list_any}
use Rattle.std.specs.Str.{bytes_eq}
use Rattle.std.proofs.lemmas.Bool.{ltb-false, or_parts}
use Rattle.std.proofs.lemmas.List.{take_more, take_all, length-map, get_or-map}
use Rattle.pami_edge.specs.Lines.{lines_of}
use Rattle.pami_model.specs.declared.fault.FileKind.TheVariants as kinds
use Rattle.pami_model.specs.Contents.{Contents}
use Rattle.pami_model.specs.ModelNames.{IsModelName, HasModelNames}
use Rattle.pami_model.specs.FirstFault.{AreGood}
use Rattle.pami_model.specs.Judgement.{wrong_if}
use Rattle.pami_model.proofs.ModelNames.{AreModelNames, one_byte, one_more, names_joined, all_names, finished_names}
use Rattle.pami_model.proofs.Judging.{both_none, unset}
use Rattle.pami_mps.specs.declared.kind.RowKind.{RowKind}
use Rattle.pami_mps.specs.declared.kind.Section.{Section}
use Rattle.pami_mps.specs.declared.kind.Section.TheVariants.{Start, Name, SenseDue, SenseGiven, Rows, Columns, Rhs, Ranges, Limits, End}
use Rattle.pami_mps.specs.Line.{Line, is_blank, is_control, is_comment, stops, hang, words_of, line_of, text_lines, section_at, is_end, is_in, rank}
use Rattle.pami_mps.specs.Gather.{Declared, Pair, names_of, is_free, kept_in, kept_as, kind_of, pairs_in, column_names}
use Rattle.pami_mps.specs.Seen.{Given, given, seen, names_by}
use Rattle.pami_mps.specs.Judge.{judge}
use Rattle.pami_mps.specs.Mps.{Mps, fault_at, blank}
use Rattle.pami_mps.proofs.Names.{step, rows_back, columns_back}
use Rattle.pami_mps.proofs.Seen.{given_more, gives}

-- ---- words

-- a byte that is no blank and no control byte stands above the space
above : (b : ℕ) → is_blank b ≡ false → is_control b ≡ false → 32 < b
above b blank control = by (nat_eq b 32) (nat_eq b 9) (nat_lt b 32) refl refl refl blank control
  where
    by : (space tab low : Bool) → nat_eq b 32 ≡ space → nat_eq b 9 ≡ tab → nat_lt b 32 ≡ low
        → (space || tab) ≡ false → ((low && not tab) || nat_eq b 127) ≡ false → 32 < b
    by true tab low e f g h k = absurd (true≢false h)
    by false true low e f g h k = absurd (true≢false h)
    by false false true e f g h k = absurd (true≢false k)
    by false false false e f g h k =
        let other : ¬ (b ≡ 32) = λ same. absurd (true≢false (sym (ap (λ (x : ℕ). nat_eq x 32) same) ∙ e)) in
        let least : 32 ≤ b = ltb-false b 32 g in
        omega (arith, other, least)

hung : (b : ℕ) (ws : List (List ℕ)) → 32 < b → AreModelNames ws → AreModelNames (hang b ws)
hung b [] lt are = (one_byte b lt, tt)
hung b (w ∷ ws) lt are = (one_more b w lt are.0, are.1)

words_good : (bytes : List ℕ) → list_any is_control bytes ≡ false → AreModelNames (words_of bytes)
words_good [] free = tt
words_good (b ∷ bs) free =
    let parts = or_parts (is_control b) (list_any is_control bs) free in
    by parts.0 (words_good bs parts.1) (is_blank b) (stops bs) refl
  where
    by : is_control b ≡ false → AreModelNames (words_of bs) → (p q : Bool) → is_blank b ≡ p
        → AreModelNames (cond p (words_of bs) (cond q ((b ∷ []) ∷ words_of bs) (hang b (words_of bs))))
    by good rest true q e = rest
    by good rest false true e = (one_byte b (above b e good), rest)
    by good rest false false e = hung b (words_of bs) (above b e good) rest

line_good : (piece : List ℕ) → (line_of piece).control ≡ false → AreModelNames (line_of piece).words
line_good piece free = by (is_comment piece) (words_good piece free)
  where
    by : (b : Bool) → AreModelNames (words_of piece) → AreModelNames (cond b [] (words_of piece))
    by true are = tt
    by false are = are

-- ---- what a line gives

record HaveNames (g : Given) : Type 0 where
  rows : AreModelNames (names_of g.rows)
  columns : AreModelNames (map (λ (p : Pair). p.column) g.pairs)

kept_good : (words : List (List ℕ)) → AreModelNames words → AreModelNames (names_of (kept_in words))
kept_good [] are = tt
kept_good (k ∷ []) are = tt
kept_good (k ∷ name ∷ []) are = by (kind_of k)
  where
    by : (o : Option RowKind) → AreModelNames (names_of (kept_as name o))
    by None = tt
    by (Some kind) = go (is_free kind)
      where
        go : (b : Bool) → AreModelNames (names_of (cond b [] (record { name = name; kind = kind } ∷ [])))
        go true = tt
        go false = (are.1.0, tt)
kept_good (k ∷ name ∷ x ∷ xs) are = tt

pairs_good : (words : List (List ℕ)) → AreModelNames words → AreModelNames (map (λ (p : Pair). p.column) (pairs_in words))
pairs_good [] are = tt
pairs_good (c ∷ []) are = tt
pairs_good (c ∷ r ∷ []) are = tt
pairs_good (c ∷ r ∷ v ∷ []) are = (are.0, tt)
pairs_good (c ∷ r ∷ v ∷ q ∷ []) are = tt
pairs_good (c ∷ r ∷ v ∷ q ∷ w ∷ []) are = (are.0, (are.0, tt))
pairs_good (c ∷ r ∷ v ∷ q ∷ w ∷ x ∷ xs) are = tt

-- a good line that is read has no control byte
free_line : (ls : List Line) (l : Line) → judge (seen ls) l ≡ None → is_end (section_at ls) ≡ false → l.control ≡ false
free_line ls l good e =
    let read = sym (ap (λ (b : Bool). cond b None (Rattle.pami_mps.specs.Judge.judge_read (seen ls) l)) e) ∙ good in
    unset l.control kinds.Byte (both_none (wrong_if l.control kinds.Byte) _ read).0

first_true : (a b : Bool) → (a && b) ≡ true → a ≡ true
first_true true b h = refl
first_true false b h = h

-- behind ENDATA nothing is in ROWS or COLUMNS
open_rows : (s : Section) → nat_eq (rank Rows) (rank s) ≡ true → is_end s ≡ false
open_rows Start h = refl
open_rows Name h = refl
open_rows SenseDue h = refl
open_rows SenseGiven h = refl
open_rows Rows h = refl
open_rows Columns h = refl
open_rows Rhs h = refl
open_rows Ranges h = refl
open_rows Limits h = refl
open_rows End h = absurd (true≢false (sym h))

open_columns : (s : Section) → nat_eq (rank Columns) (rank s) ≡ true → is_end s ≡ false
open_columns Start h = refl
open_columns Name h = refl
open_columns SenseDue h = refl
open_columns SenseGiven h = refl
open_columns Rows h = refl
open_columns Columns h = refl
open_columns Rhs h = refl
open_columns Ranges h = refl
open_columns Limits h = refl
open_columns End h = absurd (true≢false (sym h))

names_more : (ls : List Line) (l : Line) → HaveNames (given ls) → judge (seen ls) l ≡ None → (l.control ≡ false → AreModelNames l.words)
    → HaveNames (given (ls ++ l ∷ []))
names_more ls l have good words = subst HaveNames (sym (given_more ls l)) (record {
  rows = subst AreModelNames (sym (appended (given ls).rows (gives (section_at ls) l).rows))
      (names_joined (names_of (given ls).rows) (names_of (gives (section_at ls) l).rows) have.rows rows);
  columns = subst AreModelNames (sym (paired (given ls).pairs (gives (section_at ls) l).pairs))
      (names_joined (map (λ (p : Pair). p.column) (given ls).pairs) (map (λ (p : Pair). p.column) (gives (section_at ls) l).pairs) have.columns columns);
})
  where
    appended : (xs ys : List Declared) → names_of (xs ++ ys) ≡ names_of xs ++ names_of ys
    appended [] ys = refl
    appended (x ∷ xs) ys = ap (λ (ns : List (List ℕ)). x.name ∷ ns) (appended xs ys)

    paired : (xs ys : List Pair) → map (λ (p : Pair). p.column) (xs ++ ys) ≡ map (λ (p : Pair). p.column) xs ++ map (λ (p : Pair). p.column) ys
    paired [] ys = refl
    paired (x ∷ xs) ys = ap (λ (ns : List (List ℕ)). x.column ∷ ns) (paired xs ys)

    rows : AreModelNames (names_of (gives (section_at ls) l).rows)
    rows = by (is_in Rows (section_at ls, l)) refl
      where
        by : (b : Bool) → is_in Rows (section_at ls, l) ≡ b → AreModelNames (names_of (cond b (kept_in l.words) []))
        by true e = kept_good l.words (words (free_line ls l good (open_rows (section_at ls) (first_true _ _ e))))
        by false e = tt

    columns : AreModelNames (map (λ (p : Pair). p.column) (gives (section_at ls) l).pairs)
    columns = by (is_in Columns (section_at ls, l)) refl
      where
        by : (b : Bool) → is_in Columns (section_at ls, l) ≡ b → AreModelNames (map (λ (p : Pair). p.column) (cond b (pairs_in l.words) []))
        by true e = pairs_good l.words (words (free_line ls l good (open_columns (section_at ls) (first_true _ _ e))))
        by false e = tt

-- ---- texts

names_at : (bytes : List ℕ) (i : ℕ) → i ≤ length (text_lines bytes) → AreGood (fault_at (text_lines bytes)) i → HaveNames (given (take i (text_lines bytes)))
names_at bytes zero le good = record { rows = tt; columns = tt }
names_at bytes (suc i) le good =
    let ls : List Line = text_lines bytes in
    let there : judge (seen (take i ls)) (get_or ls i blank) ≡ None =
    (both_none (judge (seen (take i ls)) (get_or ls i blank)) _ (good i (omega arith))).0 in
    let next_one : i + 1 ≡ suc i = omega arith in
    let lt : i < length ls = omega arith in
    let count : length ls ≡ length (lines_of bytes) = length-map (lines_of bytes) line_of in
    let piece : get_or ls i blank ≡ line_of (get_or (lines_of bytes) i []) = get_or-map line_of (lines_of bytes) i [] blank (omega (arith, lt, count)) in
    let one_more : take i ls ++ get_or ls i blank ∷ [] ≡ take (suc i) ls = sym (take_more ls i blank lt) ∙ ap (λ (k : ℕ). take k ls) next_one in
    subst (λ (xs : List Line). HaveNames (given xs)) one_more
    (names_more (take i ls) (get_or ls i blank) (names_at bytes i (omega arith) (λ j below. good j (omega arith))) there
    (subst (λ (l : Line). l.control ≡ false → AreModelNames l.words) (sym piece) (line_good (get_or (lines_of bytes) i []))))

-- a name that stands once is one of the names
once_all : (ns before : List (List ℕ)) → AreModelNames before → AreModelNames ns → AreModelNames (fold step before ns)
once_all [] before are more = are
once_all (n ∷ ns) before are more = once_all ns (step before n) (by (list_any (bytes_eq n) before)) more.1
  where
    by : (b : Bool) → AreModelNames (cond b before (before ++ n ∷ []))
    by true = are
    by false = names_joined before (n ∷ []) are (more.0, tt)

pub names_are_unbroken : (bytes : List ℕ) (c : Contents) → Mps bytes c → HasModelNames c
names_are_unbroken bytes c is =
    let ls : List Line = text_lines bytes in
    let have : HaveNames (given ls) = subst (λ (xs : List Line). HaveNames (given xs)) (take_all (length ls) ls (omega arith))
    (names_at bytes (length ls) (omega arith) is.good) in
    let g : Given = given ls in
    let names : List (List ℕ) = once_names g in
    let columns : AreModelNames names = once_all (map (λ (p : Pair). p.column) g.pairs) [] tt have.columns in
    subst HasModelNames (sym is.contents) (record {
      rows = subst (All IsModelName) (sym (rows_back g.values g.ranges g.rows)) (all_names (names_of g.rows) have.rows);
      columns = subst (All IsModelName) (sym (finished_names _ ∙ columns_back (names_by g.rows g.free) g.pairs g.limits names)) (all_names names columns);
    })
  where
    once_names : Given → List (List ℕ)
    once_names g = column_names g.pairs
