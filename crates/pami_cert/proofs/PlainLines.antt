-- The lines of a certificate have plain words, so that they are read again as they were printed.
use Rattle.std.proofs.Common.{◌≡◌, ℕ, suc, ◌+◌, ◌%◌, ◌<◌, ◌≤◌, ◌^◌, Bool, true, false, cond, List, [], ◌∷◌, ◌++◌, length, codes, decimal, eqb, refl, sym, ap, ◌∙◌, subst, arith, Option, None, Some, true≢false, leb→le}
use Rattle.std.specs.Prelude.{nat_le}
use lib.Dec.{T}
use Rattle.std.specs.Fmt.{signed_decimal}
use Rattle.std.specs.List.{All}
use Rattle.std.proofs.lemmas.Bool.{ne_eqb}
use Rattle.std.proofs.lemmas.Fmt.{decimal_by_steps_wide}
use lib.IntN.{ℤ, pos, negsuc, nat_abs}
use Rattle.pami_algebra.specs.Fraction.{Fraction}
use Rattle.pami_frac.specs.Printed.{printed, printed_below}
use Rattle.pami_frac.proofs.PrintedParts.{above_small, below_small}
use Rattle.pami_lines.specs.Certificate.{objective_word}
use Rattle.pami_model.specs.Contents.{Contents}
use Rattle.pami_cert.specs.declared.cert.Cert.{Cert}
use Rattle.pami_cert.specs.declared.cert.Cert.TheVariants as certs
use Rattle.pami_cert.specs.declared.part.Part.{Part}
use Rattle.pami_cert.specs.declared.part.Part.TheVariants.{Columns, Rows}
use Rattle.pami_cert.specs.Part.{tag, names}
use Rattle.pami_cert.specs.CertLines.{pair_lines, member_lines, end_line, cert_lines, cert_text}
use Rattle.pami_cert.specs.CertText.{lines_in, Fit, MayFit, IsCertText}
use Rattle.pami_cert.specs.Plain.{IsPlainByte, IsPlain, ArePlain, HasPlainNames, IsPrintable, IsPrinted}
use Rattle.pami_cert.specs.Read.{ArePairs, AreMembers}
use Rattle.pami_cert.proofs.Lists.{all_head, all_tail}
use Rattle.pami_cert.proofs.Cut.{Lines, lines_more, text_cut, front_lines, front_skipped}
use Rattle.pami_cert.proofs.Pairs.{pairs, pairs_valued}
use Rattle.pami_cert.proofs.Members.{members, members_named}
use Rattle.pami_cert.proofs.Bodies.{pairs_in, rows_in, columns_in}

plain_more : (xs ys : List ℕ) → IsPlain xs → IsPlain ys → IsPlain (xs ++ ys)
plain_more [] ys h k = k
plain_more (x ∷ xs) ys h k = (h.0, plain_more xs ys h.1 k)

high_byte : (c : ℕ) → 33 ≤ c → IsPlainByte c
high_byte c l = record {
  feed = ne_eqb c 10 (λ e. omega (arith, l, e));
  return = ne_eqb c 13 (λ e. omega (arith, l, e));
  blank = ne_eqb c 32
      (λ e. omega (arith, l, e));
}

decimal_plain : (n : ℕ) → n < 10 ^ 64 → IsPlain (decimal n)
decimal_plain =
    decimal_by_steps_wide (λ n ds. IsPlain ds) (λ n l. (high_byte (48 + n) (omega arith), tt))
    (λ n ds l h. plain_more ds ((48 + n % 10) ∷ []) h (high_byte (48 + n % 10) (omega arith), tt))

far : (n : ℕ) → n < 2 ^ 127 → n < 10 ^ 64
far n l = omega (arith, l)

signed_plain : (z : ℤ) → nat_abs z < 2 ^ 127 → IsPlain (signed_decimal z)
signed_plain (pos n) l = decimal_plain n (far n l)
signed_plain (negsuc n) l = (high_byte 45 (omega arith), decimal_plain (suc n) (far (suc n) l))

below_plain : (d : ℕ) → d < 2 ^ 127 → IsPlain (printed_below d)
below_plain d l = go (eqb d 1)
  where
    go : (b : Bool) → IsPlain (cond b [] (47 ∷ decimal d))
    go true = tt
    go false = (high_byte 47 (omega arith), decimal_plain d (far d l))

printed_plain : (p : Fraction) → Fit p → IsPlain (printed p)
unfolding printed
printed_plain p e = plain_more (signed_decimal p.num) (printed_below p.den) (signed_plain p.num (above_small p e)) (below_plain p.den (below_small p e))

-- ---- the words that are always the same
abbrev high_word : List ℕ → Bool
high_word [] = true
high_word (c ∷ cs) = cond (nat_le 33 c) (high_word cs) false

word_plain : (w : List ℕ) → high_word w ≡ true → IsPlain w
word_plain [] e = tt
word_plain (c ∷ cs) e = go (nat_le 33 c) refl (word_plain cs) e
  where
    go : (b : Bool) → nat_le 33 c ≡ b → (high_word cs ≡ true → IsPlain cs) → cond b (high_word cs) false ≡ true → IsPlain (c ∷ cs)
    go true h r k = (high_byte c (leb→le 33 c (subst T (sym h) tt)), r k)
    go false h r k = absurd (true≢false (sym k))

objective_plain : (o : Option Fraction) → MayFit o → IsPlain (objective_word o)
objective_plain None h = word_plain (codes "wide") refl
objective_plain (Some v) h = printed_plain v h

tag_plain : (part : Part) → IsPlain (tag part)
tag_plain Columns = word_plain (codes "x") refl
tag_plain Rows = word_plain (codes "r") refl

names_plain : (c : Contents) (part : Part) → HasPlainNames c → ArePlain (names c part)
names_plain c Columns h = h.columns
names_plain c Rows h = h.rows

-- ---- the lines of a part
pairs_plain : (t : List ℕ) (ns : List (List ℕ)) (xs ds : List Fraction) → IsPlain t → ArePlain ns → All Fit xs → All Fit ds → Lines (pairs t ns xs ds)
pairs_plain t [] xs ds h k f g = tt
pairs_plain t (n ∷ ns) [] ds h k f g = tt
pairs_plain t (n ∷ ns) (x ∷ xs) [] h k f g = tt
pairs_plain t (n ∷ ns) (x ∷ xs) (d ∷ ds) h k f g = (
  (h, (k.0, (printed_plain x (all_head Fit x xs f), (printed_plain d (all_head Fit d ds g), tt)))),
  pairs_plain t ns xs ds h k.1 (all_tail Fit x xs f) (all_tail Fit d ds g),
)

members_plain : (t : List ℕ) (ns : List (List ℕ)) (xs : List Fraction) → IsPlain t → ArePlain ns → All Fit xs → Lines (members t ns xs)
members_plain t [] xs h k f = tt
members_plain t (n ∷ ns) [] h k f = tt
members_plain t (n ∷ ns) (x ∷ xs) h k f = ((h, (k.0, (printed_plain x (all_head Fit x xs f), tt))), members_plain t ns xs h k.1 (all_tail Fit x xs f))

part_pairs : (c : Contents) (part : Part) (xs ds : List Fraction) → HasPlainNames c → ArePairs (length (names c part)) xs ds → Lines (pair_lines c part xs ds)
part_pairs c part xs ds n h = subst Lines (sym (pairs_valued (tag part) (names c part) xs ds h.firsts h.seconds))
    (pairs_plain (tag part) (names c part) xs ds (tag_plain part) (names_plain c part n) h.firsts_fit h.seconds_fit)

part_members : (c : Contents) (part : Part) (xs : List Fraction) → HasPlainNames c → AreMembers (length (names c part)) xs → Lines (member_lines c part xs)
part_members c part xs n h = subst Lines (sym (members_named (tag part) (names c part) xs h.numbers))
    (members_plain (tag part) (names c part) xs (tag_plain part) (names_plain c part n) h.fit)

end_plain : Lines (end_line ∷ [])
end_plain = ((word_plain (codes "end") refl, tt), tt)

certificate_plain : IsPlain (codes "certificate")
certificate_plain = word_plain (codes "certificate") refl

one_plain : IsPlain (codes "1")
one_plain = word_plain (codes "1") refl

lines_plain : (c : Contents) (cert : Cert) → IsPrintable c cert → Lines (cert_lines c cert)
lines_plain c (certs.Optimal o x d r y) h =
    let both = pairs_in c x d r y h.sized h.numbers.1 in (
      (certificate_plain, (one_plain, (word_plain (codes "optimal") refl, tt))),
      (
        (word_plain (codes "objective") refl, (objective_plain o h.numbers.0, tt)),
        lines_more (pair_lines c Columns x d) (pair_lines c Rows r y ++ end_line ∷ []) (part_pairs c Columns x d h.names both.0)
            (lines_more (pair_lines c Rows r y) (end_line ∷ []) (part_pairs c Rows r y h.names both.1) end_plain),
      ),
    )
lines_plain c (certs.Infeasible y) h = (
  (certificate_plain, (one_plain, (word_plain (codes "infeasible") refl, tt))),
  lines_more (member_lines c Rows y) (end_line ∷ []) (part_members c Rows y h.names (rows_in c y h.sized h.numbers)) end_plain,
)
lines_plain c (certs.DualInfeasible x r) h = (
  (certificate_plain, (one_plain, (word_plain (codes "dual-infeasible") refl, tt))),
  lines_more (member_lines c Columns x) (member_lines c Rows r ++ end_line ∷ []) (part_members c Columns x h.names (columns_in c x h.sized.columns h.numbers.0))
      (lines_more (member_lines c Rows r) (end_line ∷ []) (part_members c Rows r h.names (rows_in c r h.sized.rows h.numbers.1)) end_plain),
)

pub printed_is_text : (c : Contents) (bytes : List ℕ) (cert : Cert) → IsPrinted c bytes cert → IsCertText c bytes cert
printed_is_text c bytes cert h = record {
  short = h.short;
  before = h.front;
  behind = lines_in h.behind;
  lines = ap lines_in h.bytes_are
      ∙ text_cut h.front (cert_text c cert ++ h.behind) (front_lines h.front h.begins)
      ∙ ap (λ ls. h.front ++ ls) (text_cut (cert_lines c cert) h.behind (lines_plain c cert h.printable));
  skipped = front_skipped h.front h.begins;
  sized = h.printable.sized;
  numbers = h.printable.numbers;
}
