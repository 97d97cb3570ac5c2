-- What a run is answered before its first walk.
use Rattle.std.proofs.Common.{◌≡◌, ℕ, List, [], ◌∷◌, Some, Ok, refl}
use Rattle.pami_frac.specs.declared.arithmetic.Refused.{Refused}
use Rattle.pami_theory.specs.Form.{Form}
use Rattle.pami_theory.specs.Fresh.{Fresh, IsFresh}
use Rattle.pami_theory.specs.Start.{starting_basis}
use Rattle.pami_theory.specs.Boxes.{boxes_of}
use Rattle.pami_theory.proofs.Starts.{start_is_basis}
use Rattle.pami_theory.proofs.Solved.{has_fresh, start_regular}
use Rattle.pami_method.specs.declared.words.Options.{Options}
use Rattle.pami_method.specs.declared.words.Place.{Place}
use Rattle.pami_method.specs.declared.words.Spot.TheVariants.{Start}
use Rattle.pami_method.specs.Phases as phases
use Rattle.pami_method.specs.Phases.{start_refused, refused_start, refused_boxes}
use Rattle.pami_log.specs.declared.event.Event.{Event}
use Rattle.pami_log.specs.declared.event.Event.TheVariants as told
use Rattle.pami_phase.specs.declared.answer.Answer.TheVariants as answers
use Rattle.pami_phase.specs.Runs.{EndsRun, StartsInBoxes}
use Rattle.pami_phase.proofs.Further.{answered}

abbrev pub at_start : Refused → Place
at_start refused = record { task = Start; refused = refused }

module _ (f : Form) (o : Options) (stood stopped : List Event → Type 0) (n : ℕ) (refused : Refused) where
  pub start_unfit : ((s : Fresh) → IsFresh f (starting_basis f) s → start_refused f s ≡ Some refused) → EndsRun f o [] stood stood stopped n n (Ok (answers.Overflow (at_start refused)))
  start_unfit h =
      let s = has_fresh f (starting_basis f) (start_is_basis f) (start_regular f) in
      answered f o [] stood stopped n (answers.Overflow (at_start refused)) (phases.Overflow (at_start refused)) (record { record_of = _; run = refused_start s.0 refused s.1 (h s.0 s.1); whole = refl }) (record { is = refl; state = tt })

  pub boxes_unfit : StartsInBoxes f → ((t : Fresh) → IsFresh (boxes_of f) (starting_basis (boxes_of f)) t → start_refused (boxes_of f) t ≡ Some refused)
      → EndsRun f o (told.Phase 1 ∷ []) stood stood stopped n n (Ok (answers.Overflow (at_start refused)))
  boxes_unfit starts h =
      let s = starts.starts in
      let t = has_fresh (boxes_of f) (starting_basis (boxes_of f)) (start_is_basis (boxes_of f)) (start_regular (boxes_of f)) in
      answered f o (told.Phase 1 ∷ []) stood stopped n (answers.Overflow (at_start refused)) (phases.Overflow (at_start refused))
      (record { record_of = _; run = refused_boxes s.fresh t.0 refused s.fresh_is s.fits starts.not_feasible t.1 (h t.0 t.1); whole = refl }) (record { is = refl; state = tt })
