-- One more piece taken or put.
use Rattle.std.proofs.Common.{◌≡◌, ℕ, ◌+◌, List, [], ◌++◌, Option, Some, None, take, drop, ap, ◌∙◌, sym, append_assoc, ◌-◌, length, arith, length-drop, ◌<◌}
use Rattle.std.proofs.lemmas.List.{take_all, append-nil, length-append}
use Rattle.std.proofs.Math.Seq.{take-add}
use Rattle.pami_edge.specs.Outside.{Files, Grows, HasFile, HasLongFile, Opens, Gives, IsAtEnd}

pub grows_on : (old mid new : Option (List ℕ)) (xs ys : List ℕ) → Grows old mid xs → Grows mid new ys → Grows old new (xs ++ ys)
grows_on None mid new xs ys g h = tt
grows_on (Some zs) mid new xs ys g h = at mid g h
  where
    at : (mid : Option (List ℕ)) → mid ≡ Some (zs ++ xs) → Grows mid new ys → new ≡ Some (zs ++ (xs ++ ys))
    at None e k = absurd (cc)
    at (Some ws) e k = let f : ws ≡ zs ++ xs = cc in k ∙ ap (λ (l : List ℕ). Some (l ++ ys)) f ∙ ap Some (append_assoc zs xs ys)

pub grows_more : (old mid new : Option (List ℕ)) (bytes : List ℕ) (i n : ℕ) →
    Grows old mid (take i bytes) → Grows mid new (take n (take (length bytes - i) (drop i bytes))) → Grows old new (take (i + n) bytes)
grows_more old mid new bytes i n g h =
    let rest : take (length bytes - i) (drop i bytes) ≡ drop i bytes = take_all (length bytes - i) (drop i bytes) (omega (arith, length-drop i bytes)) in
    rw (take-add i n bytes) (grows_on old mid new (take i bytes) (take n (drop i bytes)) g (rw rest at h))

-- where the files are told, the one under the name is what was taken and then the rest
abbrev pub SoFar : Option Files → List ℕ → Option (List ℕ) → List ℕ → Type 0
SoFar None name rest done = Unit {0}
SoFar (Some files) name rest done = (left : List ℕ) × (rest ≡ Some left) × (files name ≡ Some (done ++ left))

pub opened : (told : Option Files) (name : List ℕ) (rest : Option (List ℕ)) → Opens told name rest → SoFar told name rest []
opened None name rest h = tt
opened (Some files) name rest (bytes, at, e) = (bytes, e, at)

pub took : (told : Option Files) (name : List ℕ) (old new : Option (List ℕ)) (done piece : List ℕ) →
    SoFar told name old done → Gives old new piece → SoFar told name new (done ++ piece)
took None name old new done piece h k = tt
took (Some files) name None new done piece (left, e, at) k = absurd (cc)
took (Some files) name (Some ws) new done piece (left, e, at) (rest, f, cut) =
    let same : ws ≡ left = cc in
    (rest, f, at ∙ ap (λ (l : List ℕ). Some (done ++ l)) (sym same ∙ cut) ∙ ap Some (sym (append_assoc done piece rest)))

pub ended : (told : Option Files) (name : List ℕ) (rest : Option (List ℕ)) (done : List ℕ) →
    SoFar told name rest done → IsAtEnd rest → HasFile told name done
ended None name rest done h k = tt
ended (Some files) name None done (left, e, at) k = absurd (cc)
ended (Some files) name (Some ws) done (left, e, at) k =
    let none : left ≡ [] = cc in at ∙ ap (λ (l : List ℕ). Some (done ++ l)) none ∙ ap Some (append-nil done)

pub longer : (told : Option Files) (name : List ℕ) (rest : Option (List ℕ)) (done : List ℕ) (most : ℕ) →
    SoFar told name rest done → most < length done → HasLongFile told name most
longer None name rest done most h k = tt
longer (Some files) name rest done most (left, e, at) k = (done ++ left, at, omega (arith, length-append done left))
