-- One line of COLUMNS of two pairs.
use Rattle.std.proofs.Common.{◌≡◌, ◌≢◌, ℕ, List, [], ◌∷◌, map, length, Bor, refl, Option, None, Some, Result, Ok, Err, sym, ap, subst, ◌∙◌}
use Rattle.std.specs.Prelude.{OnOk}
use Rattle.pami_frac.specs.declared.fault.Fault.{Fault}
use Rattle.pami_frac.specs.Answers.{Follows}
use Rattle.pami_model.specs.declared.fault.FileKind.{FileKind}
use Rattle.pami_model.specs.declared.fault.FileKind.TheVariants as kinds
use Rattle.pami_model.specs.Judgement.{first_of, wrong_if}
use Rattle.pami_model.proofs.Judging.{later, sooner, first_of-assoc}
use Rattle.pami_mps.specs.Seen.{Seen}
use Rattle.pami_mps.specs.After.{after_column, with_column, with_pair}
use Rattle.pami_mps.specs.Judge.{is_marker, judge_column_name, judge_pair, judge_column}

module _ (s : Seen) (ws : List (List ℕ)) (c r v q w : List ℕ) where
  -- the first pair, then the second
  apart : judge_column s (c ∷ r ∷ v ∷ q ∷ w ∷ []) ≡ first_of (judge_column s (c ∷ r ∷ v ∷ [])) (judge_pair (with_pair r v (with_column c s)) q w)
  apart =
      let a = judge_column_name s c in
      let b = wrong_if (is_marker r) kinds.Integer in
      let d = judge_pair (with_column c s) r v in
      let k = judge_pair (with_pair r v (with_column c s)) q w in
      ap (first_of a) (first_of-assoc b d k) ∙ first_of-assoc a (first_of b d) k

  pub pair_first : (f : Fault FileKind) → ws ≡ c ∷ r ∷ v ∷ q ∷ w ∷ [] → Follows {A = Unit {0}} (judge_column s (c ∷ r ∷ v ∷ [])) (Err f)
      → Follows {A = Unit {0}} (judge_column s ws) (Err f)
  pair_first f e h = subst (λ (j : Option FileKind). Follows {A = Unit {0}} j (Err f)) (sym (ap (judge_column s) e ∙ apart))
      (sooner (Unit {0}) (judge_column s (c ∷ r ∷ v ∷ [])) _ f h)

  pub pair_second : (x : Result (Unit {0}) (Fault FileKind)) (mid : Seen) → ws ≡ c ∷ r ∷ v ∷ q ∷ w ∷ [] → judge_column s (c ∷ r ∷ v ∷ []) ≡ None
      → mid ≡ after_column s (c ∷ r ∷ v ∷ []) → Follows (judge_pair mid q w) x → Follows (judge_column s ws) x
  pair_second x mid e h m g = subst (λ (j : Option FileKind). Follows j x) (sym (ap (judge_column s) e ∙ apart))
      (later (judge_column s (c ∷ r ∷ v ∷ [])) _ x h (subst (λ (t : Seen). Follows (judge_pair t q w) x) m g))

  pub pair_second_after : (x : Result (Unit {0}) (Fault FileKind)) (new mid : Seen) → ws ≡ c ∷ r ∷ v ∷ q ∷ w ∷ [] → mid ≡ after_column s (c ∷ r ∷ v ∷ [])
      → OnOk x (new ≡ with_pair q w mid) → OnOk x (new ≡ after_column s ws)
  pair_second_after (Ok y) new mid e m h = h ∙ ap (with_pair q w) m ∙ ap (after_column s) (sym e)
  pair_second_after (Err f) new mid e m h = tt

-- a line of COLUMNS has three words or five
pub other_count : (s : Seen) (ws : List (Bor (List ℕ))) → length ws ≢ 3 → length ws ≢ 5 → judge_column s (map (λ w. w.now) ws) ≡ Some kinds.Words
other_count s [] n m = refl
other_count s (a ∷ []) n m = refl
other_count s (a ∷ b ∷ []) n m = refl
other_count s (a ∷ b ∷ x ∷ []) n m = absurd (n refl)
other_count s (a ∷ b ∷ x ∷ y ∷ []) n m = refl
other_count s (a ∷ b ∷ x ∷ y ∷ z ∷ []) n m = absurd (m refl)
other_count s (a ∷ b ∷ x ∷ y ∷ z ∷ u ∷ ws) n m = refl
