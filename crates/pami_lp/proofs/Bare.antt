-- What a text gives without lines: its tokens run as items.
use Rattle.std.proofs.Common.{◌≡◌, ℕ, Bool, true, false, cond, List, [], ◌∷◌, Result, Ok, Err, refl, ap, ◌∙◌}
use Rattle.pami_model.specs.declared.fault.FileFault.{FileFault}
use Rattle.pami_model.specs.declared.fault.FileKind.{FileKind}
use Rattle.pami_model.specs.Draft.{Draft}
use Rattle.pami_lp_text.specs.Classes.{Symbol}
use Rattle.pami_lp_text.specs.declared.kind.Class.{Class}
use Rattle.pami_lp.specs.Acts.{Seen}
use Rattle.pami_lp.specs.Grammar.{head, items_of, said}
use Rattle.pami_lp.specs.Outcome.{first_class, is_end, reads, taken}
use Rattle.pami_lp.specs.Run.{step}
use Rattle.pami_lp.proofs.Items.{go, runs}
use Rattle.pami_lp.proofs.Silent.{step_said}

abbrev pub bare : Result (Draft × ℕ) FileFault → Result Draft FileKind
bare (Ok p) = Ok p.0
bare (Err f) = Err f.kind

head_first : (ts : List Symbol) → first_class ts ≡ head (items_of ts)
head_first [] = refl
head_first (t ∷ ts) = refl

bare_taken : (r : Result Seen FileKind) (line : ℕ) (rest : Seen → Result (Draft × ℕ) FileFault) (f : Seen → Result Draft FileKind) → ((x : Seen) → bare (rest x) ≡ f x) → bare (taken r line rest) ≡ go r f
bare_taken (Err k) line rest f h = refl
bare_taken (Ok x) line rest f h = by (is_end x.place)
  where
    by : (b : Bool) → bare (cond b (Ok (x.draft, line)) (rest x)) ≡ cond b (Ok x.draft) (f x)
    by true = refl
    by false = h x

pub bare_reads : (ts : List Symbol) (s : Seen) (n : ℕ) → bare (reads s n ts) ≡ runs s (items_of ts)
bare_reads [] s n = refl
bare_reads (t ∷ ts) s n =
    bare_taken (step s t.class (first_class ts) t.text) t.line (λ x. reads x n ts) (λ x. runs x (items_of ts)) (λ x. bare_reads ts x n)
    ∙ ap (λ (r : Result Seen FileKind). go r (λ x. runs x (items_of ts))) (step_said s t.class (first_class ts) t.text ∙ ap (λ (a : Class). step s t.class a (said t.class t.text)) (head_first ts))
