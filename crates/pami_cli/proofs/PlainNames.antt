-- The names of a model that was read are plain: they have no blank and no end of a line in them.
use Rattle.std.proofs.Common.{◌≡◌, ◌<◌, ℕ, Bool, true, false, nat_eq, List, [], ◌∷◌, refl, arith, All}
use Rattle.std.proofs.lemmas.Bool.{eqb-true}
use Rattle.std.proofs.lemmas.List.Elements.{All-head, All-tail}
use Rattle.pami_model.specs.Contents.{Contents}
use Rattle.pami_model.specs.ModelNames.{IsModelName, HasModelNames}
use Rattle.pami_mps.proofs.ModelNames.{names_are_unbroken as mps_names}
use Rattle.pami_lp.proofs.ModelNames.{names_are_unbroken as lp_names}
use Rattle.pami_cert.specs.Plain.{IsPlainByte, IsPlain, ArePlain, HasPlainNames}
use Rattle.pami_cli.specs.Reading.{Format, AsMps, AsLp, IsTextOf}

other : (c d : ℕ) → 32 < c → d < 33 → nat_eq c d ≡ false
other c d above low = by (nat_eq c d) refl
  where
    by : (b : Bool) → nat_eq c d ≡ b → b ≡ false
    by true e = let same : c ≡ d = eqb-true c d e in absurd (omega (arith, above, low, same))
    by false e = refl

plain_byte : (c : ℕ) → 32 < c → IsPlainByte c
plain_byte c above = record { feed = other c 10 above (omega arith); return = other c 13 above (omega arith); blank = other c 32 above (omega arith) }

plain_name : (name : List ℕ) → All (λ (c : ℕ). 32 < c) name → IsPlain name
plain_name [] are = tt
plain_name (c ∷ name) are = (plain_byte c (All-head (λ (x : ℕ). 32 < x) c name are), plain_name name (All-tail (λ (x : ℕ). 32 < x) c name are))

plain_names : (names : List (List ℕ)) → All IsModelName names → ArePlain names
plain_names [] are = tt
plain_names (n ∷ names) are = (plain_name n (All-head IsModelName n names are).above, plain_names names (All-tail IsModelName n names are))

plain : (c : Contents) → HasModelNames c → HasPlainNames c
plain c have = record { columns = plain_names _ have.columns; rows = plain_names _ have.rows }

pub read_names_are_plain : (format : Format) (bytes : List ℕ) (c : Contents) → IsTextOf format bytes c → HasPlainNames c
read_names_are_plain AsMps bytes c is = plain c (mps_names bytes c is)
read_names_are_plain AsLp bytes c is = plain c (lp_names bytes c is)
