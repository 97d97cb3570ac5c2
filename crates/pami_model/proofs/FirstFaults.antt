-- A text has one first fault, and none where all of it is good.
use Rattle.std.proofs.Common.{◌≡◌, ◌<◌, ℕ, Option, sym, ap, ◌∙◌, ◌⊎◌, inl, inr}
use Rattle.std.proofs.lemmas.Bool.{cases_order}
use Rattle.pami_model.specs.declared.fault.FileFault.{FileFault}
use Rattle.pami_model.specs.declared.fault.FileKind.{FileKind}
use Rattle.pami_model.specs.FirstFault.{AreGood, HasOneFault, IsFirstFault}
use Rattle.pami_model.proofs.Judging.{none≢some, some_same}

module _ (judged : ℕ → Option FileKind) (line_of : ℕ → ℕ) where
  -- nothing is wrong in front of a fault
  pub not_before : (f : FileFault) (count : ℕ) (is : IsFirstFault judged line_of f) → AreGood judged count → is.place < count → ⊥
  not_before f count is good lt = none≢some (sym (good is.place lt) ∙ is.there)

  same_place : (f g : FileFault) (a : IsFirstFault judged line_of f) (b : IsFirstFault judged line_of g) → a.place ≡ b.place
  same_place f g a b = by (cases_order a.place b.place)
    where
      by : (a.place ≡ b.place) ⊎ ((a.place < b.place) ⊎ (b.place < a.place)) → a.place ≡ b.place
      by (inl e) = e
      by (inr (inl lt)) = absurd (not_before f b.place a b.before lt)
      by (inr (inr lt)) = absurd (not_before g a.place b a.before lt)

  -- one text has one first fault
  pub one_fault : HasOneFault judged line_of
  one_fault f g a b =
      let e : a.place ≡ b.place = same_place f g a b in
      let kind : f.kind ≡ g.kind = some_same (sym a.there ∙ ap judged e ∙ b.there) in
      let line : f.line ≡ g.line = a.line ∙ ap line_of e ∙ sym b.line in
      (λ i. record { line = line i; kind = kind i })
