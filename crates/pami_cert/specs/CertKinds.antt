-- The word of each kind of fault, as a refusal tells it.
use Rattle.std.specs.Prelude.{ℕ, List, codes}
use Rattle.pami_cert.specs.declared.cert.CertKind.{CertKind}
use Rattle.pami_cert.specs.declared.cert.CertKind.TheVariants as kinds

abbrev pub cert_kind_word : CertKind → List ℕ
cert_kind_word kinds.Absent = codes "none"
cert_kind_word kinds.Word = codes "word"
cert_kind_word kinds.Name = codes "name"
cert_kind_word kinds.Number = codes "number"
cert_kind_word kinds.EndMissing = codes "end-missing"
cert_kind_word kinds.TooLong = codes "too-long"
