-- The lines of a certificate, each as its words.
use Rattle.std.specs.Prelude.{ℕ, List, [], ◌∷◌, ◌++◌, codes, map}
use Rattle.pami_algebra.specs.Fraction.{Fraction}
use Rattle.pami_linear.specs.Lists.{get}
use Rattle.pami_model.specs.Contents.{Contents}
use Rattle.pami_lines.specs.Line.{text}
use Rattle.pami_lines.specs.Certificate.{valued_from, valued_line, optimal_lines, named_lines}
use Rattle.pami_cert.specs.declared.cert.Cert.{Cert}
use Rattle.pami_cert.specs.declared.cert.Cert.TheVariants as certs
use Rattle.pami_cert.specs.declared.part.Part.{Part}
use Rattle.pami_cert.specs.declared.part.Part.TheVariants.{Columns, Rows}
use Rattle.pami_cert.specs.Part.{tag, names}

-- the lines of a part: behind each name its value and its reduced cost (of a row: its dual value)
abbrev pub pair_lines : Contents → Part → List Fraction → List Fraction → List (List (List ℕ))
pair_lines c part x d = map (valued_line (tag part)) (valued_from 0 (names c part) (get x) (get d))

-- the lines of a part: behind each name its member of a list
abbrev pub member_lines : Contents → Part → List Fraction → List (List (List ℕ))
member_lines c part x = named_lines (tag part) 0 (names c part) (get x)

-- the first line, by its last word
abbrev pub head_line : List ℕ → List (List ℕ)
head_line word = codes "certificate" ∷ codes "1" ∷ word ∷ []

abbrev pub end_line : List (List ℕ)
end_line = codes "end" ∷ []

abbrev pub cert_lines : Contents → Cert → List (List (List ℕ))
cert_lines c (certs.Optimal objective x d r y) = optimal_lines (record {
  objective = objective;
  columns = valued_from 0 (names c Columns) (get x) (get d);
  rows = valued_from 0 (names c Rows) (get r) (get y);
})
cert_lines c (certs.Infeasible y) = head_line (codes "infeasible") ∷ (member_lines c Rows y ++ end_line ∷ [])
cert_lines c (certs.DualInfeasible x r) =
    head_line (codes "dual-infeasible") ∷ (member_lines c Columns x ++ (member_lines c Rows r ++ end_line ∷ []))

-- what is printed of a certificate
abbrev pub cert_text : Contents → Cert → List ℕ
cert_text c cert = text (cert_lines c cert)
