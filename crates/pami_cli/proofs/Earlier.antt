-- The lines of a run before its certificate: their words are plain, and none of them begins a certificate.
use Rattle.std.proofs.Common.{◌≡◌, ℕ, suc, false, List, [], ◌∷◌, ◌++◌, map, codes, decimal, refl, Option, None, Some}
use Rattle.std.specs.List.{flat_map}
use Rattle.pami_theory.specs.Form.{Form}
use Rattle.pami_theory.specs.Basis.{Basis, head_at, stand_at}
use Rattle.pami_theory.specs.Step.{Step, flipped, stand_on}
use Rattle.pami_method.specs.declared.words.Place.{Place}
use Rattle.pami_method.specs.declared.words.Mode.{Mode}
use Rattle.pami_method.specs.declared.words.Mode.TheVariants.{Full, Single}
use Rattle.pami_method.specs.declared.words.Options.{Options}
use Rattle.pami_method.specs.Batch.{Reached, Minor, Turn, AtLimit, NoRow, Stuck, Pivots, turn, places}
use Rattle.pami_method.specs.Walk.{State, Major, After, Ends, GoesOn, refused_in, after}
use Rattle.pami_method.specs.Phases.{Phase, Record}
use Rattle.pami_lines.specs.Head.{Counts, head_lines}
use Rattle.pami_lines.specs.Names.{Names, variable_word}
use Rattle.pami_lines.specs.Letters.{letter_word}
use Rattle.pami_text.specs.Record.{drop_lines, flip_lines, pivot_line, minor_lines, last_lines, refused_lines, major_lines, lines_after, walk_lines}
use Rattle.pami_text.specs.Record.{phase_lines}
use Rattle.pami_cert.specs.CertText.{is_head}
use Rattle.pami_cert.specs.Plain.{IsPlain, ArePlain, HasPlainWords, AreOtherLines}
use Rattle.pami_cli.proofs.PlainWords.{word_plain, decimal_plain, decimals_plain, printed_plain, letter_plain, mode_plain, refused_plain}
use Rattle.pami_cli.proofs.PlainWords.{variable_plain}

-- ---- lists of lines

pub earlier_more : (xs ys : List (List (List ℕ))) → AreOtherLines xs → AreOtherLines ys → AreOtherLines (xs ++ ys)
earlier_more [] ys h k = k
earlier_more (x ∷ xs) ys h k = (h.0, earlier_more xs ys h.1 k)

earlier_map : {A : Type 0} (g : A → List (List ℕ)) → ((a : A) → HasPlainWords (g a) × (is_head (g a) ≡ false)) → (xs : List A) → AreOtherLines (map g xs)
earlier_map g h [] = tt
earlier_map g h (x ∷ xs) = (h x, earlier_map g h xs)

earlier_flat : {A : Type 0} (g : A → List (List (List ℕ))) → ((a : A) → AreOtherLines (g a)) → (xs : List A) → AreOtherLines (flat_map g xs)
earlier_flat g h [] = tt
earlier_flat g h (x ∷ xs) = earlier_more (g x) (flat_map g xs) (h x) (earlier_flat g h xs)

-- ---- the lines of a run

pub head_earlier : (n : Counts) → AreOtherLines (head_lines n)
head_earlier n = (
  ((word_plain (codes "pami") refl, (word_plain (codes "1") refl, tt)), refl),
  (((word_plain (codes "model") refl, (decimal_plain n.rows, (decimal_plain n.columns, (decimal_plain n.entries, tt)))), refl), tt),
)

drops_earlier : (dropped : List ℕ) → AreOtherLines (drop_lines dropped)
drops_earlier dropped = earlier_map (λ p. codes "drop" ∷ decimal p ∷ []) (λ p. ((word_plain (codes "drop") refl, (decimal_plain p, tt)), refl)) dropped

refused_earlier : (number : ℕ) (mode : Mode) (r : Place) → AreOtherLines (refused_lines number mode r)
refused_earlier number Full r = (((word_plain (codes "rollback") refl, (decimal_plain number, refused_plain r)), refl), tt)
refused_earlier number Single r = tt

after_earlier : (a : After) (later : State → List (List (List ℕ))) → ((st : State) → AreOtherLines (later st)) → AreOtherLines (lines_after a later)
after_earlier (Ends end) later h = tt
after_earlier (GoesOn mode st) later h = h st

module _ (n : Names) (columns : ArePlain n.columns) (rows : ArePlain n.rows) where
  named : (v : ℕ) → IsPlain (variable_word n v)
  named v = variable_plain n v columns rows

  flips_earlier : (b : Basis) (flips : List ℕ) → AreOtherLines (flip_lines n b flips)
  flips_earlier b flips =
      earlier_map (λ v. codes "flip" ∷ variable_word n v ∷ letter_word (flipped (stand_at b v)) ∷ [])
      (λ v. ((word_plain (codes "flip") refl, (named v, (letter_plain (flipped (stand_at b v)), tt))), refl)) flips

  pivot_earlier : (count : ℕ) (t : Step) → AreOtherLines (pivot_line n count t ∷ [])
  pivot_earlier count t = (
    (
      (
        word_plain (codes "pivot") refl,
        (decimal_plain count, (decimal_plain t.place, (named t.leaving, (letter_plain (stand_on t.side), (named t.entering, (printed_plain t.tau, tt)))))),
      ),
      refl,
    ),
    tt,
  )

  minor_earlier : (m : Minor) → AreOtherLines (minor_lines n m)
  minor_earlier m =
      earlier_more (drop_lines m.dropped) (flip_lines n m.reached.basis m.step.flips ++ pivot_line n (suc m.reached.count) m.step ∷ [])
      (drops_earlier m.dropped)
      (earlier_more (flip_lines n m.reached.basis m.step.flips) (pivot_line n (suc m.reached.count) m.step ∷ []) (flips_earlier m.reached.basis m.step.flips)
      (pivot_earlier (suc m.reached.count) m.step))

  last_earlier : (r : Reached) (t : Turn) → AreOtherLines (last_lines n r t)
  last_earlier r AtLimit = tt
  last_earlier r (NoRow dropped) = drops_earlier dropped
  last_earlier r (Stuck dropped row) =
      earlier_more (drop_lines dropped) ((codes "none" ∷ decimal row.place ∷ variable_word n (head_at r.basis row.place) ∷ []) ∷ []) (drops_earlier dropped)
      (((word_plain (codes "none") refl, (decimal_plain row.place, (named (head_at r.basis row.place), tt))), refl), tt)
  last_earlier r (Pivots dropped row step) = tt

  major_earlier : (f : Form) (limit : ℕ) (g : Major) (refused : Option Place) → AreOtherLines (major_lines n f limit g refused)
  major_earlier f limit g (Some r) = refused_earlier g.number g.mode r
  major_earlier f limit g None = (
    ((word_plain (codes "major") refl, (decimal_plain g.number, (mode_plain g.mode, decimals_plain (places g.first.rows)))), refl),
    earlier_more (flat_map (minor_lines n) g.minors) (last_lines n g.last (turn f limit g.last)) (earlier_flat (minor_lines n) minor_earlier g.minors)
        (last_earlier g.last (turn f limit g.last)),
  )

  walk_earlier : (f : Form) (o : Options) (st : State) (gs : List Major) → AreOtherLines (walk_lines n f o st gs)
  walk_earlier f o st [] = tt
  walk_earlier f o st (g ∷ gs) =
      earlier_more (major_lines n f o.limit g (refused_in f o st g)) (lines_after (after f o st g) (λ next. walk_lines n f o next gs))
      (major_earlier f o.limit g (refused_in f o st g))
      (after_earlier (after f o st g) (λ next. walk_lines n f o next gs) (λ next. walk_earlier f o next gs))

  phase_earlier : (o : Options) (k : ℕ) (p : Option Phase) → AreOtherLines (phase_lines n o k p)
  phase_earlier o k None = tt
  phase_earlier o k (Some p) = (((word_plain (codes "phase") refl, (decimal_plain k, tt)), refl), walk_earlier p.form o p.start p.majors)

  -- all that stands before an answer
  pub run_earlier : (counts : Counts) (o : Options) (r : Record) →
      AreOtherLines (head_lines counts ++ (phase_lines n o 1 r.phase_one ++ phase_lines n o 2 r.phase_two))
  run_earlier counts o r =
      earlier_more (head_lines counts) (phase_lines n o 1 r.phase_one ++ phase_lines n o 2 r.phase_two) (head_earlier counts)
      (earlier_more (phase_lines n o 1 r.phase_one) (phase_lines n o 2 r.phase_two) (phase_earlier o 1 r.phase_one) (phase_earlier o 2 r.phase_two))
