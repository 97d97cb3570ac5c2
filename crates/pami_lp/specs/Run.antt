-- A file token by token.
use Rattle.std.specs.Prelude.{ℕ, false, List, [], Option, None, Some, Result, Ok, Err}
use Rattle.std.specs.Option.{option_map}
use Rattle.pami_frac.specs.Answers.{then as chain}
use Rattle.pami_model.specs.declared.fault.FileKind.{FileKind}
use Rattle.pami_model.specs.Draft.{empty_draft}
use Rattle.pami_lp_text.specs.declared.kind.Class.{Class}
use Rattle.pami_lp.specs.declared.kind.Place.TheVariants as places
use Rattle.pami_lp.specs.declared.kind.Move.{Move}
use Rattle.pami_lp.specs.declared.reader.Reader.{Reader}
use Rattle.pami_lp.specs.Moves.{move_of, section_at}
use Rattle.pami_lp.specs.Sections.{refusal}
use Rattle.pami_lp.specs.Values.{unbounded}
use Rattle.pami_lp.specs.Acts.{Seen, act}

abbrev pub start : Seen
start = record { place = places.Start; draft = empty_draft; lowered = []; negative = false; coefficient = None; label = None; sides = unbounded; sums = []; column = None }

abbrev pub done : Option Move → Seen → Class → List ℕ → Result Seen FileKind
done None s class text = Err (refusal (section_at s.place) class)
done (Some m) s class text = chain (act s m.role text) (λ s. Ok (record s { place = m.place }))

-- what is known behind a token of this class and text, before one of the class `after`
abbrev pub step : Seen → Class → Class → List ℕ → Result Seen FileKind
step s class after text = done (move_of s.place class after) s class text

-- what a reader knows
abbrev pub seen_by_reader : Reader → Seen
seen_by_reader r = record {
  place = r.place;
  draft = r.builder;
  lowered = r.lowered.keys;
  negative = r.negative;
  coefficient = r.coefficient;
  label = option_map (λ name. name.items) r.label;
  sides = r.sides;
  sums = r.sums;
  column = r.column;
}
