-- The text of a run in its parts, and the lines of majors that were refused.
use Rattle.std.proofs.Common.{◌≡◌, ℕ, [], ◌∷◌, ◌++◌, Some, codes, decimal, ap, ◌∙◌}
use Rattle.pami_theory.specs.Form.{Form}
use Rattle.pami_method.specs.declared.words.Mode.TheVariants.{Full, Single}
use Rattle.pami_method.specs.declared.words.Options.{Options}
use Rattle.pami_method.specs.declared.words.Place.{Place}
use Rattle.pami_method.specs.Walk.{Major}
use Rattle.pami_method.specs.Phases.{Record, Answer}
use Rattle.pami_lines.specs.Line.{text}
use Rattle.pami_lines.specs.Head.{head_lines}
use Rattle.pami_lines.specs.Names.{Names}
use Rattle.pami_lines.specs.Certificate.{Named}
use Rattle.pami_lines.proofs.Texts.{text_append}
use Rattle.pami_text.specs.Record.{refused_words, refused_lines, major_lines, phase_lines, answer_lines, run_lines}

pub run_parts : (m : Named) (o : Options) (r : Record) (answer : Answer) →
    text (run_lines m o r answer)
    ≡ text (head_lines m.counts) ++ (text (phase_lines m.names o 1 r.phase_one) ++ (text (phase_lines m.names o 2 r.phase_two) ++ text (answer_lines m answer)))
run_parts m o r answer =
    let one = phase_lines m.names o 1 r.phase_one in
    let two = phase_lines m.names o 2 r.phase_two in
    let last = answer_lines m answer in
    text_append (head_lines m.counts) (one ++ (two ++ last))
    ∙ ap (λ z. text (head_lines m.counts) ++ z) (text_append one (two ++ last) ∙ ap (λ z. text one ++ z) (text_append two last))

pub full_refused : (n : Names) (f : Form) (limit : ℕ) (g : Major) (r : Place) → g.mode ≡ Full →
    major_lines n f limit g (Some r) ≡ (codes "rollback" ∷ decimal g.number ∷ refused_words r) ∷ []
full_refused n f limit g r e = ap (λ mode. refused_lines g.number mode r) e

pub single_refused : (n : Names) (f : Form) (limit : ℕ) (g : Major) (r : Place) → g.mode ≡ Single → major_lines n f limit g (Some r) ≡ []
single_refused n f limit g r e = ap (λ mode. refused_lines g.number mode r) e
