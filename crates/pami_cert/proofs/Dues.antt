-- A line is what is due or wrong in one way, and lines that are due, one after another, or go wrong in one place.
use Rattle.std.proofs.Common.{◌≡◌, ℕ, suc, ◌+◌, List, [], ◌∷◌, ◌++◌, length, codes, refl, sym, ap, ◌∙◌, subst, arith, ◌⊎◌, inl, inr, ⊎_elim, add-zero}
use Rattle.std.specs.List.{All}
use Rattle.std.proofs.lemmas.Bool.Decides.{eqb_tells}
use Rattle.pami_cert.specs.declared.cert.CertKind.{CertKind}
use Rattle.pami_cert.specs.declared.cert.CertKind.TheVariants as kinds
use Rattle.pami_cert.specs.declared.cert.CertFault.{CertFault}
use Rattle.pami_cert.specs.Part.{tag}
use Rattle.pami_cert.specs.Due.{Due, Objective, Variable, End, IsNumber, IsObjective, IsVariable, HasShape, HasName, IsDue, IsWrong}
use Rattle.pami_cert.specs.FirstFault.{fault_at, FirstWrong}
use Rattle.pami_cert.specs.Read.{Line}
use Rattle.pami_cert.proofs.Lists.{head_same, tail_same, all_nil, all_head, all_tail, all_more, same_or_not}
use Rattle.pami_cert.proofs.Numbers.{number_or_not}

-- ---- one line

due_named : (d : Due) (words : Line) → IsDue d words → HasName d words
due_named Objective words h = (h.0, h.1.0)
due_named (Variable part name n) words h = (h.0, h.1.0)
due_named End words h = h

named_shaped : (d : Due) (words : Line) → HasName d words → HasShape d words
named_shaped Objective words h = h
named_shaped (Variable part name n) words h = (name, h)
named_shaped End words h = h

pub due_not_wrong : (d : Due) (words : Line) (kind : CertKind) → IsDue d words → IsWrong d words kind → ⊥
due_not_wrong d words kind h (inl w) = w.1 (named_shaped d words (due_named d words h))
due_not_wrong d words kind h (inr (inl w)) = w.1.1 (due_named d words h)
due_not_wrong d words kind h (inr (inr w)) = w.1.1 h

one_kind : (d : Due) (words : Line) (k l : CertKind) → IsWrong d words k → IsWrong d words l → k ≡ l
one_kind d words k l (inl v) (inl w) = v.0 ∙ sym w.0
one_kind d words k l (inl v) (inr (inl w)) = absurd (v.1 w.1.0)
one_kind d words k l (inl v) (inr (inr w)) = absurd (v.1 (named_shaped d words w.1.0))
one_kind d words k l (inr (inl v)) (inl w) = absurd (w.1 v.1.0)
one_kind d words k l (inr (inl v)) (inr (inl w)) = v.0 ∙ sym w.0
one_kind d words k l (inr (inl v)) (inr (inr w)) = absurd (v.1.1 w.1.0)
one_kind d words k l (inr (inr v)) (inl w) = absurd (w.1 (named_shaped d words v.1.0))
one_kind d words k l (inr (inr v)) (inr (inl w)) = absurd (w.1.1 v.1.0)
one_kind d words k l (inr (inr v)) (inr (inr w)) = v.0 ∙ sym w.0

-- ---- each question has an answer

one_word_or_not : (w : List ℕ) (words : Line) → (words ≡ w ∷ []) ⊎ (¬ (words ≡ w ∷ []))
one_word_or_not w [] = inr (λ e. absurd (omega (arith, ap length e)))
one_word_or_not w (a ∷ []) = ⊎_elim (λ e. inl (ap (λ x. x ∷ []) e)) (λ n. inr (λ e. n (head_same e))) (same_or_not a w)
one_word_or_not w (a ∷ b ∷ ws) = inr (λ e. absurd (omega (arith, ap length e)))

two_words_or_not : (w : List ℕ) (words : Line) → ((x : List ℕ) × (words ≡ w ∷ x ∷ [])) ⊎ (¬ ((x : List ℕ) × (words ≡ w ∷ x ∷ [])))
two_words_or_not w [] = inr (λ h. absurd (omega (arith, ap length h.1)))
two_words_or_not w (a ∷ []) = inr (λ h. absurd (omega (arith, ap length h.1)))
two_words_or_not w (a ∷ b ∷ []) = ⊎_elim (λ e. inl (b, ap (λ x. x ∷ b ∷ []) e)) (λ n. inr (λ h. n (head_same h.1))) (same_or_not a w)
two_words_or_not w (a ∷ b ∷ c ∷ ws) = inr (λ h. absurd (omega (arith, ap length h.1)))

same_length_or_not : (n m : ℕ) → (n ≡ m) ⊎ (¬ (n ≡ m))
same_length_or_not n m = ⊎_elim (λ h. inl h.1) (λ h. inr h.1) (eqb_tells n m)

abbrev Named : List ℕ → ℕ → Line → Type 0
Named first n words = (other : List ℕ) × ((numbers : Line) × IsVariable first other n numbers words)

named_or_not : (first : List ℕ) (n : ℕ) (words : Line) → Named first n words ⊎ (¬ Named first n words)
named_or_not first n [] = inr (λ h. absurd (omega (arith, ap length h.1.1.1)))
named_or_not first n (a ∷ []) = inr (λ h. absurd (omega (arith, ap length h.1.1.1)))
named_or_not first n (a ∷ b ∷ ws) = go (same_or_not a first) (same_length_or_not (length ws) n)
  where
    go : (a ≡ first) ⊎ (¬ (a ≡ first)) → (length ws ≡ n) ⊎ (¬ (length ws ≡ n)) → Named first n (a ∷ b ∷ ws) ⊎ (¬ Named first n (a ∷ b ∷ ws))
    go (inl e) (inl l) = inl (b, (ws, (l, ap (λ x. x ∷ b ∷ ws) e)))
    go (inl e) (inr l) = inr (λ h. l (ap length (tail_same (tail_same h.1.1.1)) ∙ h.1.1.0))
    go (inr e) l = inr (λ h. e (head_same h.1.1.1))

numbers_or_not : (ws : Line) → All IsNumber ws ⊎ (¬ All IsNumber ws)
numbers_or_not [] = inl (all_nil IsNumber)
numbers_or_not (w ∷ ws) = go (number_or_not w) (numbers_or_not ws)
  where
    go : IsNumber w ⊎ (¬ IsNumber w) → All IsNumber ws ⊎ (¬ All IsNumber ws) → All IsNumber (w ∷ ws) ⊎ (¬ All IsNumber (w ∷ ws))
    go (inl h) (inl k) = inl (all_more IsNumber w ws h k)
    go (inl h) (inr k) = inr (λ a. k (all_tail IsNumber w ws a))
    go (inr h) k = inr (λ a. h (all_head IsNumber w ws a))

shape_or_not : (d : Due) (words : Line) → HasShape d words ⊎ (¬ HasShape d words)
shape_or_not Objective words = two_words_or_not (codes "objective") words
shape_or_not (Variable part name n) words = named_or_not (tag part) n words
shape_or_not End words = one_word_or_not (codes "end") words

name_or_not : (d : Due) (words : Line) → HasShape d words → HasName d words ⊎ (¬ HasName d words)
name_or_not Objective words h = inl h
name_or_not (Variable part name n) words h =
    ⊎_elim (λ e. inl (h.1.0, (h.1.1.0, h.1.1.1 ∙ ap (λ x. tag part ∷ x ∷ h.1.0) e)))
    (λ e. inr (λ k. e (head_same (tail_same (sym h.1.1.1 ∙ k.1.1))))) (same_or_not h.0 name)
name_or_not End words h = inl h

objective_or_not : (w : List ℕ) → IsObjective w ⊎ (¬ IsObjective w)
objective_or_not w = go (same_or_not w (codes "wide")) (number_or_not w)
  where
    go : (w ≡ codes "wide") ⊎ (¬ (w ≡ codes "wide")) → IsNumber w ⊎ (¬ IsNumber w) → IsObjective w ⊎ (¬ IsObjective w)
    go (inl e) n = inl (inl e)
    go (inr e) (inl n) = inl (inr n)
    go (inr e) (inr n) = inr (λ h. ⊎_elim e n h)

due_or_not : (d : Due) (words : Line) → HasName d words → IsDue d words ⊎ (¬ IsDue d words)
due_or_not Objective words h =
    ⊎_elim (λ o. inl (h.0, (h.1, o))) (λ n. inr (λ k. n (subst IsObjective (head_same (tail_same (sym k.1.0 ∙ h.1))) k.1.1))) (objective_or_not h.0)
due_or_not (Variable part name n) words h =
    ⊎_elim (λ o. inl (h.0, (h.1, o))) (λ m. inr (λ k. m (subst (All IsNumber) (tail_same (tail_same (sym k.1.0.1 ∙ h.1.1))) k.1.1))) (numbers_or_not h.0)
due_or_not End words h = inl h

pub due_or_wrong : (d : Due) (words : Line) → IsDue d words ⊎ ((kind : CertKind) × IsWrong d words kind)
due_or_wrong d words = shaped (shape_or_not d words)
  where
    named : HasShape d words → HasName d words ⊎ (¬ HasName d words) → IsDue d words ⊎ ((kind : CertKind) × IsWrong d words kind)
    named s (inl h) = ⊎_elim (λ k. inl k) (λ n. inr (kinds.Number, inr (inr (refl, (h, n))))) (due_or_not d words h)
    named s (inr n) = inr (kinds.Name, inr (inl (refl, (s, n))))

    shaped : HasShape d words ⊎ (¬ HasShape d words) → IsDue d words ⊎ ((kind : CertKind) × IsWrong d words kind)
    shaped (inl s) = named s (name_or_not d words s)
    shaped (inr n) = inr (kinds.Word, inl (refl, n))

-- ---- lines one after another

-- the lines begin with what is due, and these are left
abbrev pub Passed : List Due → (lines rest : List Line) → Type 0
Passed [] lines rest = lines ≡ rest
Passed (d ∷ ds) [] rest = ⊥
Passed (d ∷ ds) (words ∷ lines) rest = IsDue d words × Passed ds lines rest

pub passed_more : (ds es : List Due) (lines mid rest : List Line) → Passed ds lines mid → Passed es mid rest → Passed (ds ++ es) lines rest
passed_more [] es lines mid rest h k = subst (λ z. Passed es z rest) (sym h) k
passed_more (d ∷ ds) es [] mid rest h k = absurd h
passed_more (d ∷ ds) es (w ∷ lines) mid rest h k = (h.0, passed_more ds es lines mid rest h.1 k)

pub wrong_front : (ds es : List Due) (at : ℕ) (lines : List Line) (f : CertFault) → FirstWrong ds at lines f → FirstWrong (ds ++ es) at lines f
wrong_front [] es at lines f h = absurd h
wrong_front (d ∷ ds) es at [] f h = h
wrong_front (d ∷ ds) es at (w ∷ lines) f (inl h) = inl h
wrong_front (d ∷ ds) es at (w ∷ lines) f (inr h) = inr (h.0, wrong_front ds es (suc at) lines f h.1)

pub wrong_behind : (ds es : List Due) (at next : ℕ) (lines mid : List Line) (f : CertFault) → next ≡ at + length ds → Passed ds lines mid →
    FirstWrong es next mid f → FirstWrong (ds ++ es) at lines f
wrong_behind [] es at next lines mid f n h k =
    let e : next ≡ at = n ∙ add-zero at in
    subst (λ z. FirstWrong es at z f) (sym h) (subst (λ m. FirstWrong es m mid f) e k)
wrong_behind (d ∷ ds) es at next [] mid f n h k = absurd h
wrong_behind (d ∷ ds) es at next (w ∷ lines) mid f n h k = let e : next ≡ suc at + length ds = omega (arith, n) in
    inr (h.0, wrong_behind ds es (suc at) next lines mid f e h.1 k)

pub passed_not_wrong : (ds : List Due) (at : ℕ) (lines rest : List Line) (f : CertFault) → Passed ds lines rest → FirstWrong ds at lines f → ⊥
passed_not_wrong [] at lines rest f h k = k
passed_not_wrong (d ∷ ds) at [] rest f h k = h
passed_not_wrong (d ∷ ds) at (w ∷ lines) rest f h (inl k) = due_not_wrong d w f.kind h.0 k.1
passed_not_wrong (d ∷ ds) at (w ∷ lines) rest f h (inr k) = passed_not_wrong ds (suc at) lines rest f h.1 k.1

pub one_wrong : (ds : List Due) (at : ℕ) (lines : List Line) (f g : CertFault) → FirstWrong ds at lines f → FirstWrong ds at lines g → f ≡ g
one_wrong [] at lines f g h k = absurd h
one_wrong (d ∷ ds) at [] f g h k = h ∙ sym k
one_wrong (d ∷ ds) at (w ∷ lines) f g (inl h) (inl k) =
    ap (λ n. fault_at n f.kind) (h.0 ∙ sym k.0) ∙ ap (fault_at g.line) (one_kind d w f.kind g.kind h.1 k.1)
one_wrong (d ∷ ds) at (w ∷ lines) f g (inl h) (inr k) = absurd (due_not_wrong d w f.kind k.0 h.1)
one_wrong (d ∷ ds) at (w ∷ lines) f g (inr h) (inl k) = absurd (due_not_wrong d w g.kind h.0 k.1)
one_wrong (d ∷ ds) at (w ∷ lines) f g (inr h) (inr k) = one_wrong ds (suc at) lines f g h.1 k.1

pub passed_or_wrong : (ds : List Due) (at : ℕ) (lines : List Line) → ((rest : List Line) × Passed ds lines rest) ⊎ ((f : CertFault) × FirstWrong ds at lines f)
passed_or_wrong [] at lines = inl (lines, refl)
passed_or_wrong (d ∷ ds) at [] = inr (fault_at at kinds.EndMissing, refl)
passed_or_wrong (d ∷ ds) at (w ∷ lines) = go (due_or_wrong d w) (passed_or_wrong ds (suc at) lines)
  where
    go : IsDue d w ⊎ ((kind : CertKind) × IsWrong d w kind) → ((rest : List Line) × Passed ds lines rest) ⊎ ((f : CertFault) × FirstWrong ds (suc at) lines f)
        → ((rest : List Line) × Passed (d ∷ ds) (w ∷ lines) rest) ⊎ ((f : CertFault) × FirstWrong (d ∷ ds) at (w ∷ lines) f)
    go (inl h) (inl k) = inl (k.0, (h, k.1))
    go (inl h) (inr k) = inr (k.0, inr (h, k.1))
    go (inr h) k = inr (fault_at at h.0, inl (refl, h.1))
