-- Files by name, and what is left of one.
use Rattle.std.proofs.Common.{◌≡◌, ℕ, suc, zero, ◌+◌, ◌<◌, ◌≤◌, List, [], ◌∷◌, ◌++◌, Option, Some, None, refl, ap, sym, ◌∙◌, take, drop, length, get_or, bytes_eq, fold, if◌then◌else◌, true, false, arith, add-one}
use Rattle.std.specs.Option.{option_map}
use Rattle.std.proofs.Math.Seq.{take-suc, take-append_seam}
use Rattle.std.proofs.lemmas.List.{take-append-drop, length-take-le}
use Rattle.pami_edge.specs.Outside.{since_open}
use Rattle.pami_edge.specs.Memory.{NamedFile, bytes_under, bytes_at, left_of}

fold_push : {A B : Type 0} (f : B → A → B) (z : B) (xs : List A) (x : A) → fold f z (xs ++ x ∷ []) ≡ f (fold f z xs) x
fold_push f z [] x = refl
fold_push f z (y ∷ ys) x = fold_push f (f z y) ys x

-- one more file
pub under_push : (files : List NamedFile) (file : NamedFile) (name : List ℕ) →
    bytes_under (files ++ file ∷ []) name ≡ (if bytes_eq file.name name then Some file.bytes else bytes_under files name)
under_push files file name =
    fold_push (λ found (f : NamedFile). if bytes_eq f.name name then Some f.bytes else found) None files file

bytes_at_is : (files : List NamedFile) (i : ℕ) (file : NamedFile) → i < length files → bytes_at files i ≡ (get_or files i file).bytes
bytes_at_is [] i file h = absurd (omega arith)
bytes_at_is (x ∷ xs) zero file h = refl
bytes_at_is (x ∷ xs) (suc i) file h = bytes_at_is xs i file (omega arith)

-- the first i + 1 files
pub under_more : (files : List NamedFile) (i : ℕ) (file : NamedFile) (name : List ℕ) → i < length files → file ≡ get_or files i file →
    bytes_under (take (i + 1) files) name ≡ (if bytes_eq file.name name then Some (bytes_at files i) else bytes_under (take i files) name)
under_more files i file name h e =
    let at : bytes_at files i ≡ file.bytes = bytes_at_is files i file h ∙ ap (λ (f : NamedFile). f.bytes) (sym e) in
    let more : take (i + 1) files ≡ take i files ++ file ∷ [] = rw add-one (take-suc files i file h ∙ ap (λ (f : NamedFile). take i files ++ f ∷ []) (sym e)) in
    rw (at, more) (under_push (take i files) file name)

drop_none : (n : ℕ) → ◌≡◌ {A = List ℕ} (drop n []) []
drop_none zero = refl
drop_none (suc n) = refl

drop_add : (at n : ℕ) (xs : List ℕ) → drop (at + n) xs ≡ drop n (drop at xs)
drop_add at n [] = drop_none (at + n) ∙ sym (ap (drop n) (drop_none at) ∙ drop_none n)
drop_add zero n (x ∷ xs) = let e : 0 + n ≡ n = omega arith in ap (λ (m : ℕ). drop m (x ∷ xs)) e
drop_add (suc at) n (x ∷ xs) = let e : suc at + n ≡ suc (at + n) = omega arith in ap (λ (m : ℕ). drop m (x ∷ xs)) e ∙ drop_add at n xs

left_more : (files : List NamedFile) (current : Option ℕ) (at n : ℕ) → left_of files current (at + n) ≡ drop n (left_of files current at)
left_more files None at n = sym (drop_none n)
left_more files (Some place) at n = drop_add at n (bytes_at files place)

pub found_here : (files : List NamedFile) (i : ℕ) (file : NamedFile) (name : List ℕ) (next : Option ℕ) → i < length files → file ≡ get_or files i file →
    bytes_eq file.name name ≡ true → next ≡ Some i → bytes_under (take (i + 1) files) name ≡ option_map (bytes_at files) next
found_here files i file name next h e same is = rw is (under_more files i file name h e ∙ rw same refl)

pub found_before : (files : List NamedFile) (i : ℕ) (file : NamedFile) (name : List ℕ) (found next : Option ℕ) → i < length files → file ≡ get_or files i file →
    bytes_eq file.name name ≡ false → next ≡ found → bytes_under (take i files) name ≡ option_map (bytes_at files) found →
    bytes_under (take (i + 1) files) name ≡ option_map (bytes_at files) next
found_before files i file name found next h e other is so_far = rw is (under_more files i file name h e ∙ rw other so_far)

-- the front of what is left, copied into the front of the room
pub given : (files : List NamedFile) (current : Option ℕ) (at n : ℕ) (left front back : List ℕ) →
    left ≡ left_of files current at → n ≤ length left → front ≡ take n left →
    (rest : List ℕ) × (Some (left_of files current (at + n)) ≡ Some rest) × (left_of files current at ≡ take n (front ++ back) ++ rest)
given files current at n left front back is within copied =
    let size : length front ≡ n = rw copied (length-take-le n left within) in
    let seam : take n (front ++ back) ≡ front = ap (λ (m : ℕ). take m (front ++ back)) (sym size) ∙ take-append_seam front back in
    (drop n left, ap Some (left_more files current at n ∙ ap (drop n) (sym is)), sym is ∙ rw (seam, copied) (sym (take-append-drop n left)))

-- a shelf that was asked for a name hides nothing
pub since_open_is : {A : Type 0} (asked : List (List ℕ)) (unopened now : A) → (asked ≡ [] → now ≡ unopened) → since_open asked unopened now ≡ now
since_open_is [] unopened now h = sym (h refl)
since_open_is (name ∷ names) unopened now h = refl

left_before : (files : List NamedFile) (current : Option ℕ) (at : ℕ) → current ≡ None → left_of files current at ≡ []
left_before files current at e = ap (λ (c : Option ℕ). left_of files c at) e

pub left_since : (asked : List (List ℕ)) (files : List NamedFile) (current : Option ℕ) (at : ℕ) → (asked ≡ [] → current ≡ None) →
    since_open asked [] (left_of files current at) ≡ left_of files current at
left_since asked files current at h = since_open_is asked [] (left_of files current at) (λ none. left_before files current at (h none))

pub given_since : (asked : List (List ℕ)) (files : List NamedFile) (current : Option ℕ) (at n : ℕ) (left front back : List ℕ) → (asked ≡ [] → current ≡ None) →
    left ≡ left_of files current at → n ≤ length left → front ≡ take n left →
    (rest : List ℕ) × (Some (since_open asked [] (left_of files current (at + n))) ≡ Some rest)
    × (since_open asked [] (left_of files current at) ≡ take n (front ++ back) ++ rest)
given_since asked files current at n left front back opened is within copied =
    rw (left_since asked files current (at + n) opened, left_since asked files current at opened) (given files current at n left front back is within copied)
