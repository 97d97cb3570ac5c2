-- A file reads as a model, by tests that compute.
use Rattle.std.proofs.Common.{◌≡◌, ℕ, Bool, true, false, List, length, nat_le, Option, None, Some, refl, sym, true≢false}
use Rattle.std.proofs.lemmas.Bool.{leb-true}
use Rattle.pami_model.specs.Contents.{Contents, contents_of}
use Rattle.pami_mps.specs.declared.kind.Section.TheVariants.{End}
use Rattle.pami_mps.specs.Line.{text_lines, section_at}
use Rattle.pami_mps.specs.Seen.{seen}
use Rattle.pami_mps.specs.Mps.{Mps, byte_limit, fault_at}
use Rattle.pami_examples.proofs.FreshTests.{all_below, passes}

abbrev pub is_none : {A : Type 0} → Option A → Bool
is_none None = true
is_none (Some x) = false

none_by : {A : Type 0} (x : Option A) → is_none x ≡ true → x ≡ None
none_by None e = refl
none_by (Some x) e = absurd (true≢false (sym e))

pub read_by_tests : (bytes : List ℕ) (c : Contents) → nat_le (length bytes) byte_limit ≡ true →
    all_below (length (text_lines bytes)) (λ i. is_none (fault_at (text_lines bytes) i)) ≡ true → section_at (text_lines bytes) ≡ End →
    c ≡ contents_of (seen (text_lines bytes)).draft → Mps bytes c
read_by_tests bytes c few good ended said = record {
  fits = leb-true (length bytes) byte_limit few;
  good = λ i l. none_by (fault_at (text_lines bytes) i) (passes (length (text_lines bytes)) (λ j. is_none (fault_at (text_lines bytes) j)) i good l);
  ended = ended;
  contents = said;
}
