use Rattle.std.proofs.Common.{◌≡◌, take}
use Rattle.std.specs.List.{All}
use Rattle.pami_cert.specs.CertText.{Fit}
use Rattle.pami_cli.proofs.certificate.copied.Given as goal

abbrev pub invariant-loop-member : goal.invariant-loop-member
invariant-loop-member l = record { same : l.list.items ≡ take l.member-index l.members; fits : All Fit l.list.items }
