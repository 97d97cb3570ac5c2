-- The lines behind the first one of a certificate are what is due, and what is due are those lines of one certificate.
use Rattle.std.proofs.Common.{◌≡◌, ℕ, List, [], ◌∷◌, ◌++◌, length, codes, refl, sym, ap, ◌∙◌, subst, append_assoc, inl, inr, Option, None, Some, true≢false}
use Rattle.std.specs.List.{All}
use Rattle.std.specs.Str.{bytes_eq}
use Rattle.std.proofs.lemmas.List.{length-map}
use Rattle.pami_algebra.specs.Fraction.{Fraction}
use Rattle.pami_lines.specs.Certificate.{objective_word}
use Rattle.pami_model.specs.declared.list.Row.{Row}
use Rattle.pami_model.specs.declared.list.Column.{Column}
use Rattle.pami_model.specs.Contents.{Contents}
use Rattle.pami_cert.specs.declared.cert.Cert.{Cert}
use Rattle.pami_cert.specs.declared.cert.Cert.TheVariants as certs
use Rattle.pami_cert.specs.declared.cert.Claim.{Claim}
use Rattle.pami_cert.specs.declared.cert.Claim.TheVariants as claims
use Rattle.pami_cert.specs.declared.part.Part.TheVariants.{Columns, Rows}
use Rattle.pami_cert.specs.Part.{tag, names}
use Rattle.pami_cert.specs.Sized.{AreSized}
use Rattle.pami_cert.specs.CertLines.{pair_lines, member_lines, head_line, end_line, cert_lines}
use Rattle.pami_cert.specs.CertText.{Fit, MayFit}
use Rattle.pami_cert.specs.Due.{Due, End, part_due, due, IsObjective}
use Rattle.pami_cert.specs.FirstFault.{claim_word}
use Rattle.pami_cert.specs.Read.{Line, ArePairs, AreMembers, claim_of, body, IsBody}
use Rattle.pami_cert.proofs.Lists.{head_same, tail_same}
use Rattle.pami_cert.proofs.Numbers.{printed_of_one, number_not_wide}
use Rattle.pami_cert.proofs.Dues.{Passed, passed_more}
use Rattle.pami_cert.proofs.Pairs.{pairs, IsPairs, pairs_valued, pairs_passed, passed_pairs, pairs_of_one}
use Rattle.pami_cert.proofs.Members.{members, IsMembers, members_named, members_passed, passed_members, members_of_one}

-- ---- a certificate's first line and the others

pub lines_of_body : (c : Contents) (cert : Cert) → cert_lines c cert ≡ head_line (claim_word (claim_of cert)) ∷ body c cert
lines_of_body c (certs.Optimal o x d r y) = refl
lines_of_body c (certs.Infeasible y) = refl
lines_of_body c (certs.DualInfeasible x r) = refl

-- ---- sizes by names

column_count : (c : Contents) → length (names c Columns) ≡ length c.columns
column_count c = length-map c.columns (λ (d : Column). d.name)

row_count : (c : Contents) → length (names c Rows) ≡ length c.rows
row_count c = length-map c.rows (λ (r : Row). r.name)

pub pairs_in : (c : Contents) (x d r y : List Fraction) → AreSized c x r × AreSized c d y → All Fit x × (All Fit d × (All Fit r × All Fit y)) →
    ArePairs (length (names c Columns)) x d × ArePairs (length (names c Rows)) r y
pairs_in c x d r y s f = (
  record { firsts = s.0.columns ∙ sym (column_count c); seconds = s.1.columns ∙ sym (column_count c); firsts_fit = f.0; seconds_fit = f.1.0 },
  record { firsts = s.0.rows ∙ sym (row_count c); seconds = s.1.rows ∙ sym (row_count c); firsts_fit = f.1.1.0; seconds_fit = f.1.1.1 },
)

pub rows_in : (c : Contents) (y : List Fraction) → length y ≡ length c.rows → All Fit y → AreMembers (length (names c Rows)) y
rows_in c y s f = record { numbers = s ∙ sym (row_count c); fit = f }

pub columns_in : (c : Contents) (x : List Fraction) → length x ≡ length c.columns → All Fit x → AreMembers (length (names c Columns)) x
columns_in c x s f = record { numbers = s ∙ sym (column_count c); fit = f }

pub sized_pairs : (c : Contents) (x d r y : List Fraction) → ArePairs (length (names c Columns)) x d → ArePairs (length (names c Rows)) r y →
    AreSized c x r × AreSized c d y
sized_pairs c x d r y h k = (
  record { columns = h.firsts ∙ column_count c; rows = k.firsts ∙ row_count c },
  record { columns = h.seconds ∙ column_count c; rows = k.seconds ∙ row_count c },
)

pub sized_rows : (c : Contents) (y : List Fraction) → AreMembers (length (names c Rows)) y → length y ≡ length c.rows
sized_rows c y h = h.numbers ∙ row_count c

pub sized_columns : (c : Contents) (x : List Fraction) → AreMembers (length (names c Columns)) x → length x ≡ length c.columns
sized_columns c x h = h.numbers ∙ column_count c

-- ---- each body by the lists of its parts

-- behind the objective: two parts of pairs, the last line, and what is left
abbrev best_by : Contents → (word : List ℕ) → (x d r y : List Fraction) → List Line → List Line
best_by c word x d r y rest =
    (codes "objective" ∷ word ∷ []) ∷ (pairs (tag Columns) (names c Columns) x d ++ (pairs (tag Rows) (names c Rows) r y ++ end_line ∷ rest))

best_is : (c : Contents) (o : Option Fraction) (x d r y : List Fraction) (rest : List Line) →
    ArePairs (length (names c Columns)) x d → ArePairs (length (names c Rows)) r y → body c (certs.Optimal o x d r y) ++ rest ≡ best_by c (objective_word o) x
    d r y rest
best_is c o x d r y rest h k =
    let front : Line = codes "objective" ∷ objective_word o ∷ [] in
    ap (λ ls. front ∷ ls)
    (append_assoc (pair_lines c Columns x d) (pair_lines c Rows r y ++ end_line ∷ []) rest
    ∙ ap (λ ls. pair_lines c Columns x d ++ ls) (append_assoc (pair_lines c Rows r y) (end_line ∷ []) rest)
    ∙ ap (λ ls. ls ++ (pair_lines c Rows r y ++ end_line ∷ rest)) (pairs_valued (tag Columns) (names c Columns) x d h.firsts h.seconds)
    ∙ ap (λ ls. pairs (tag Columns) (names c Columns) x d ++ (ls ++ end_line ∷ rest)) (pairs_valued (tag Rows) (names c Rows) r y k.firsts k.seconds))

infeasible_is : (c : Contents) (y : List Fraction) (rest : List Line) → AreMembers (length (names c Rows)) y →
    body c (certs.Infeasible y) ++ rest ≡ members (tag Rows) (names c Rows) y ++ end_line ∷ rest
infeasible_is c y rest h =
    append_assoc (member_lines c Rows y) (end_line ∷ []) rest ∙ ap (λ ls. ls ++ end_line ∷ rest) (members_named (tag Rows) (names c Rows) y h.numbers)

direction_is : (c : Contents) (x r : List Fraction) (rest : List Line) → AreMembers (length (names c Columns)) x → AreMembers (length (names c Rows)) r →
    body c (certs.DualInfeasible x r) ++ rest ≡ members (tag Columns) (names c Columns) x ++ (members (tag Rows) (names c Rows) r ++ end_line ∷ rest)
direction_is c x r rest h k =
    append_assoc (member_lines c Columns x) (member_lines c Rows r ++ end_line ∷ []) rest
    ∙ ap (λ ls. member_lines c Columns x ++ ls) (append_assoc (member_lines c Rows r) (end_line ∷ []) rest)
    ∙ ap (λ ls. ls ++ (member_lines c Rows r ++ end_line ∷ rest)) (members_named (tag Columns) (names c Columns) x h.numbers)
    ∙ ap (λ ls. members (tag Columns) (names c Columns) x ++ (ls ++ end_line ∷ rest)) (members_named (tag Rows) (names c Rows) r k.numbers)

-- ---- put together

pub best_body : (c : Contents) (o : Option Fraction) (x d r y : List Fraction) (lines columns rows rest : List Line) → MayFit o →
    lines ≡ (codes "objective" ∷ objective_word o ∷ []) ∷ columns → IsPairs (tag Columns) (names c Columns) columns rows x d →
    IsPairs (tag Rows) (names c Rows) rows (end_line ∷ rest) r y → IsBody c lines rest (certs.Optimal o x d r y)
best_body c o x d r y lines columns rows rest f e h k = record {
  sized = sized_pairs c x d r y h.numbers k.numbers;
  numbers = (f, (h.numbers.firsts_fit, (h.numbers.seconds_fit, (k.numbers.firsts_fit, k.numbers.seconds_fit))));
  lines_are = e ∙ ap (λ ls. (codes "objective" ∷ objective_word o ∷ []) ∷ ls)
      (h.lines_are ∙ ap (λ ls. pairs (tag Columns) (names c Columns) x d ++ ls) k.lines_are)
      ∙ sym (best_is c o x d r y rest h.numbers k.numbers);
}

pub infeasible_body : (c : Contents) (y : List Fraction) (lines rest : List Line) →
    IsMembers (tag Rows) (names c Rows) lines (end_line ∷ rest) y → IsBody c lines rest (certs.Infeasible y)
infeasible_body c y lines rest h = record {
  sized = sized_rows c y h.numbers;
  numbers = h.numbers.fit;
  lines_are = h.lines_are ∙ sym (infeasible_is c y rest h.numbers);
}

pub direction_body : (c : Contents) (x r : List Fraction) (lines rows rest : List Line) → IsMembers (tag Columns) (names c Columns) lines rows x →
    IsMembers (tag Rows) (names c Rows) rows (end_line ∷ rest) r → IsBody c lines rest (certs.DualInfeasible x r)
direction_body c x r lines rows rest h k = record {
  sized = record { columns = sized_columns c x h.numbers; rows = sized_rows c r k.numbers };
  numbers = (h.numbers.fit, k.numbers.fit);
  lines_are = h.lines_are ∙ ap (λ ls. members (tag Columns) (names c Columns) x ++ ls) k.lines_are ∙ sym (direction_is c x r rest h.numbers k.numbers);
}

-- ---- a body is what is due

end_passed : (rest : List Line) → Passed (End ∷ []) (end_line ∷ rest) rest
end_passed rest = (refl, refl)

pub objective_due : (o : Option Fraction) → MayFit o → IsObjective (objective_word o)
objective_due None h = inl refl
objective_due (Some v) h = inr (v, (h, refl))

pub body_passed : (c : Contents) (cert : Cert) (lines rest : List Line) → IsBody c lines rest cert → Passed (due c (claim_of cert)) lines rest
body_passed c (certs.Optimal o x d r y) lines rest h =
    let both = pairs_in c x d r y h.sized h.numbers.1 in
    let rows = pairs (tag Rows) (names c Rows) r y ++ end_line ∷ rest in
    subst (λ ls. Passed (due c claims.Optimal) ls rest) (sym (h.lines_are ∙ best_is c o x d r y rest both.0 both.1)) (
      (objective_word o, (refl, objective_due o h.numbers.0)),
      passed_more (part_due c Columns 2) (part_due c Rows 2 ++ End ∷ []) (pairs (tag Columns) (names c Columns) x d ++ rows) rows rest
          (pairs_passed Columns (names c Columns) (pairs (tag Columns) (names c Columns) x d ++ rows) rows x d (record { numbers = both.0; lines_are = refl }))
          (passed_more (part_due c Rows 2) (End ∷ []) rows (end_line ∷ rest) rest
          (pairs_passed Rows (names c Rows) rows (end_line ∷ rest) r y (record { numbers = both.1; lines_are = refl })) (end_passed rest)),
    )
body_passed c (certs.Infeasible y) lines rest h =
    let sized = rows_in c y h.sized h.numbers in
    let all = members (tag Rows) (names c Rows) y ++ end_line ∷ rest in
    subst (λ ls. Passed (due c claims.Infeasible) ls rest) (sym (h.lines_are ∙ infeasible_is c y rest sized))
    (passed_more (part_due c Rows 1) (End ∷ []) all (end_line ∷ rest) rest
    (members_passed Rows (names c Rows) all (end_line ∷ rest) y (record { numbers = sized; lines_are = refl })) (end_passed rest))
body_passed c (certs.DualInfeasible x r) lines rest h =
    let columns = columns_in c x h.sized.columns h.numbers.0 in
    let sized = rows_in c r h.sized.rows h.numbers.1 in
    let rows = members (tag Rows) (names c Rows) r ++ end_line ∷ rest in
    let all = members (tag Columns) (names c Columns) x ++ rows in
    subst (λ ls. Passed (due c claims.DualInfeasible) ls rest) (sym (h.lines_are ∙ direction_is c x r rest columns sized))
    (passed_more (part_due c Columns 1) (part_due c Rows 1 ++ End ∷ []) all rows rest
    (members_passed Columns (names c Columns) all rows x (record { numbers = columns; lines_are = refl }))
    (passed_more (part_due c Rows 1) (End ∷ []) rows (end_line ∷ rest) rest
    (members_passed Rows (names c Rows) rows (end_line ∷ rest) r (record { numbers = sized; lines_are = refl })) (end_passed rest)))

-- ---- and what is due is a body

passed_split : (ds es : List Due) (lines rest : List Line) → Passed (ds ++ es) lines rest → (mid : List Line) × (Passed ds lines mid × Passed es mid rest)
passed_split [] es lines rest h = (lines, (refl, h))
passed_split (d ∷ ds) es [] rest h = absurd h
passed_split (d ∷ ds) es (w ∷ lines) rest h = let more = passed_split ds es lines rest h.1 in (more.0, ((h.0, more.1.0), more.1.1))

passed_end : (lines rest : List Line) → Passed (End ∷ []) lines rest → lines ≡ end_line ∷ rest
passed_end [] rest h = absurd h
passed_end (w ∷ lines) rest h = ap (λ l. l ∷ lines) h.0 ∙ ap (λ ls. end_line ∷ ls) h.1

told : (w : List ℕ) → IsObjective w → (o : Option Fraction) × (MayFit o × (w ≡ objective_word o))
told w (inl e) = (None, (tt, e))
told w (inr h) = (Some h.0, (h.1.0, h.1.1))

pub passed_body : (c : Contents) (claim : Claim) (lines rest : List Line) → Passed (due c claim) lines rest →
    (cert : Cert) × ((claim_of cert ≡ claim) × IsBody c lines rest cert)
passed_body c claims.Optimal [] rest h = absurd h
passed_body c claims.Optimal (w ∷ lines) rest h =
    let o = told h.0.0 h.0.1.1 in
    let first = passed_split (part_due c Columns 2) (part_due c Rows 2 ++ End ∷ []) lines rest h.1 in
    let second = passed_split (part_due c Rows 2) (End ∷ []) first.0 rest first.1.1 in
    let end = passed_end second.0 rest second.1.1 in
    let columns = passed_pairs Columns (names c Columns) lines first.0 first.1.0 in
    let rows = passed_pairs Rows (names c Rows) first.0 (end_line ∷ rest) (subst (Passed (part_due c Rows 2) first.0) end second.1.0) in (
      certs.Optimal o.0 columns.0 columns.1.0 rows.0 rows.1.0,
      (
        refl {a = claims.Optimal},
        best_body c o.0 columns.0 columns.1.0 rows.0 rows.1.0 (w ∷ lines) lines first.0 rest o.1.0
            (ap (λ l. l ∷ lines) (h.0.1.0 ∙ ap (λ x. codes "objective" ∷ x ∷ []) o.1.1)) columns.1.1 rows.1.1,
      ),
    )
passed_body c claims.Infeasible lines rest h =
    let first = passed_split (part_due c Rows 1) (End ∷ []) lines rest h in
    let end = passed_end first.0 rest first.1.1 in
    let rows = passed_members Rows (names c Rows) lines (end_line ∷ rest) (subst (Passed (part_due c Rows 1) lines) end first.1.0) in
    (certs.Infeasible rows.0, (refl, infeasible_body c rows.0 lines rest rows.1))
passed_body c claims.DualInfeasible lines rest h =
    let first = passed_split (part_due c Columns 1) (part_due c Rows 1 ++ End ∷ []) lines rest h in
    let second = passed_split (part_due c Rows 1) (End ∷ []) first.0 rest first.1.1 in
    let end = passed_end second.0 rest second.1.1 in
    let columns = passed_members Columns (names c Columns) lines first.0 first.1.0 in
    let rows = passed_members Rows (names c Rows) first.0 (end_line ∷ rest) (subst (Passed (part_due c Rows 1) first.0) end second.1.0) in
    (certs.DualInfeasible columns.0 rows.0, (refl, direction_body c columns.0 rows.0 lines first.0 rest columns.1 rows.1))

-- ---- of one certificate

objective_of_one : (o p : Option Fraction) → MayFit o → MayFit p → objective_word o ≡ objective_word p → o ≡ p
objective_of_one None None h k e = refl
objective_of_one None (Some v) h k e = absurd (number_not_wide v k (sym e))
objective_of_one (Some v) None h k e = absurd (number_not_wide v h e)
objective_of_one (Some v) (Some w) h k e = ap Some (printed_of_one v w h k e)

claim_of_one : (a b : Claim) → claim_word a ≡ claim_word b → a ≡ b
claim_of_one claims.Optimal claims.Optimal e = refl
claim_of_one claims.Optimal claims.Infeasible e = absurd (true≢false (ap (bytes_eq (codes "optimal")) e))
claim_of_one claims.Optimal claims.DualInfeasible e = absurd (true≢false (ap (bytes_eq (codes "optimal")) e))
claim_of_one claims.Infeasible claims.Optimal e = absurd (true≢false (ap (bytes_eq (codes "infeasible")) e))
claim_of_one claims.Infeasible claims.Infeasible e = refl
claim_of_one claims.Infeasible claims.DualInfeasible e = absurd (true≢false (ap (bytes_eq (codes "infeasible")) e))
claim_of_one claims.DualInfeasible claims.Optimal e = absurd (true≢false (ap (bytes_eq (codes "dual-infeasible")) e))
claim_of_one claims.DualInfeasible claims.Infeasible e = absurd (true≢false (ap (bytes_eq (codes "dual-infeasible")) e))
claim_of_one claims.DualInfeasible claims.DualInfeasible e = refl

pub head_of_one : (a b : Claim) → head_line (claim_word a) ≡ head_line (claim_word b) → a ≡ b
head_of_one a b e = claim_of_one a b (head_same (tail_same (tail_same e)))

-- the same lists, one after another
best_of_one : (o p : Option Fraction) (x d r y x' d' r' y' : List Fraction) → o ≡ p → x ≡ x' → d ≡ d' → r ≡ r' → y ≡ y' →
    certs.Optimal o x d r y ≡ certs.Optimal p x' d' r' y'
best_of_one o p x d r y x' d' r' y' e f g h k =
    ap (λ z. certs.Optimal z x d r y) e ∙ ap (λ z. certs.Optimal p z d r y) f ∙ ap (λ z. certs.Optimal p x' z r y) g
    ∙ ap (λ z. certs.Optimal p x' d' z y) h ∙ ap (λ z. certs.Optimal p x' d' r' z) k

pub body_of_one : (c : Contents) (a b : Cert) (lines rest other : List Line) → claim_of a ≡ claim_of b → IsBody c lines rest a → IsBody c lines other b → a ≡ b
body_of_one c (certs.Optimal o x d r y) (certs.Optimal p x' d' r' y') lines rest other e h k =
    let one = pairs_in c x d r y h.sized h.numbers.1 in
    let two = pairs_in c x' d' r' y' k.sized k.numbers.1 in
    let rows = pairs (tag Rows) (names c Rows) r y ++ end_line ∷ rest in
    let rows' = pairs (tag Rows) (names c Rows) r' y' ++ end_line ∷ other in
    let same = sym (h.lines_are ∙ best_is c o x d r y rest one.0 one.1) ∙ (k.lines_are ∙ best_is c p x' d' r' y' other two.0 two.1) in
    let first = pairs_of_one (tag Columns) (names c Columns) rows rows' x d x' d' one.0 two.0 (tail_same same) in
    let second = pairs_of_one (tag Rows) (names c Rows) (end_line ∷ rest) (end_line ∷ other) r y r' y' one.1 two.1 first.1.1 in
    best_of_one o p x d r y x' d' r' y' (objective_of_one o p h.numbers.0 k.numbers.0 (head_same (tail_same (head_same same)))) first.0 first.1.0 second.0
    second.1.0
body_of_one c (certs.Optimal o x d r y) (certs.Infeasible y') lines rest other e h k = absurd
    (true≢false (ap (λ z. bytes_eq (codes "optimal") (claim_word z)) e))
body_of_one c (certs.Optimal o x d r y) (certs.DualInfeasible x' r') lines rest other e h k = absurd
    (true≢false (ap (λ z. bytes_eq (codes "optimal") (claim_word z)) e))
body_of_one c (certs.Infeasible y) (certs.Optimal o x d r y') lines rest other e h k = absurd
    (true≢false (ap (λ z. bytes_eq (codes "infeasible") (claim_word z)) e))
body_of_one c (certs.Infeasible y) (certs.Infeasible y') lines rest other e h k =
    let one = rows_in c y h.sized h.numbers in
    let two = rows_in c y' k.sized k.numbers in
    let same = sym (h.lines_are ∙ infeasible_is c y rest one) ∙ (k.lines_are ∙ infeasible_is c y' other two) in
    ap certs.Infeasible (members_of_one (tag Rows) (names c Rows) (end_line ∷ rest) (end_line ∷ other) y y' one two same).0
body_of_one c (certs.Infeasible y) (certs.DualInfeasible x' r') lines rest other e h k = absurd
    (true≢false (ap (λ z. bytes_eq (codes "infeasible") (claim_word z)) e))
body_of_one c (certs.DualInfeasible x r) (certs.Optimal o x' d r' y) lines rest other e h k =
    absurd (true≢false (ap (λ z. bytes_eq (codes "dual-infeasible") (claim_word z)) e))
body_of_one c (certs.DualInfeasible x r) (certs.Infeasible y) lines rest other e h k = absurd
    (true≢false (ap (λ z. bytes_eq (codes "dual-infeasible") (claim_word z)) e))
body_of_one c (certs.DualInfeasible x r) (certs.DualInfeasible x' r') lines rest other e h k =
    let one = columns_in c x h.sized.columns h.numbers.0 in
    let two = columns_in c x' k.sized.columns k.numbers.0 in
    let three = rows_in c r h.sized.rows h.numbers.1 in
    let four = rows_in c r' k.sized.rows k.numbers.1 in
    let rows = members (tag Rows) (names c Rows) r ++ end_line ∷ rest in
    let rows' = members (tag Rows) (names c Rows) r' ++ end_line ∷ other in
    let same = sym (h.lines_are ∙ direction_is c x r rest one three) ∙ (k.lines_are ∙ direction_is c x' r' other two four) in
    let first = members_of_one (tag Columns) (names c Columns) rows rows' x x' one two same in
    let second = members_of_one (tag Rows) (names c Rows) (end_line ∷ rest) (end_line ∷ other) r r' three four first.1 in
    ap (λ z. certs.DualInfeasible z r) first.0 ∙ ap (λ z. certs.DualInfeasible x' z) second.0
