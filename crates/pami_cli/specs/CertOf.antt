-- The certificates of a run's answers: lists by variable are cut into those by column and those by row.
use Rattle.std.specs.Prelude.{List, length, take, drop, Option, None, Some}
use Rattle.pami_algebra.specs.Fraction.{Fraction}
use Rattle.pami_linear.specs.Lists.{get}
use Rattle.pami_method.specs.Phases as phases
use Rattle.pami_lines.specs.Certificate.{objective_in}
use Rattle.pami_model.specs.Contents.{Contents}
use Rattle.pami_model_form.specs.Named.{named_of}
use Rattle.pami_cert.specs.declared.cert.Cert.{Cert}
use Rattle.pami_cert.specs.declared.cert.Cert.TheVariants.{Optimal, Infeasible, DualInfeasible}

-- values and reduced costs by variable, with the objective of the values
abbrev pub best_cert : Contents → (values reduced : List Fraction) → Cert
best_cert c values reduced =
    let n = length c.columns in
    Optimal (objective_in (named_of c) (get values)) (take n values) (take n reduced) (drop n values) (drop n reduced)

-- a direction, by variable
abbrev pub direction_cert : Contents → List Fraction → Cert
direction_cert c z = DualInfeasible (take (length c.columns) z) (drop (length c.columns) z)

-- the certificate of an answer; None where it has none
abbrev pub cert_of : Contents → phases.Answer → Option Cert
cert_of c (phases.Optimal st s) = Some (best_cert c s.values s.reduced)
cert_of c (phases.Infeasible y) = Some (Infeasible y)
cert_of c (phases.DualInfeasible st s) = Some (direction_cert c s.values)
cert_of c (phases.Limit st) = None
cert_of c (phases.Overflow refused) = None
