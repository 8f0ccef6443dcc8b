-- How many bytes of files are read, over steps.
use Rattle.std.proofs.Common.{◌≡◌, ◌≤◌, ◌+◌, ℕ, List, [], ◌∷◌, ◌++◌, length, Option, Some, None, refl, arith}
use Rattle.std.proofs.lemmas.List.Sums.{sum_by-append}
use Rattle.lp_model.specs.Outside.{Folder, Grows, OnlyGrow, Told, bytes_in}
use Rattle.lp_model.proofs.Pieces.{length_grown}
use Rattle.requests.specs.Given.{ReadsOnce, sizes}

-- nothing is read
pub reads_none : (now : Option Folder) (names : List (List ℕ)) (before later : ℕ) → later ≤ before → ReadsOnce now names before later
reads_none None names before later same = tt
reads_none (Some folder) names before later same = let size = sizes folder names in omega arith

-- a file is read up to a length that it had
pub reads_file : (mid now : Option Folder) (name : List ℕ) (cut before later : ℕ) → OnlyGrow mid now → Told mid (λ folder. cut ≤ length (bytes_in folder name)) → later ≤ before + cut → ReadsOnce now (name ∷ []) before later
reads_file mid None name cut before later grow there given = tt
reads_file None (Some y) name cut before later grow there given = absurd cc
reads_file (Some x) (Some y) name cut before later grow there given =
    let more = length_grown x y name cut grow there in
    let size : sizes y (name ∷ []) ≡ 0 + length (bytes_in y name) = refl in
    omega arith

pub sizes_more : (folder : Folder) (name : List ℕ) (names : List (List ℕ)) → sizes folder (name ∷ names) ≡ (0 + length (bytes_in folder name)) + sizes folder names
sizes_more folder name names = sum_by-append (λ (n : List ℕ). length (bytes_in folder n)) (name ∷ []) names

pub sizes_grown : (x y : Folder) (names : List (List ℕ)) → Grows x y → sizes x names ≤ sizes y names
sizes_grown x y [] grow = omega arith
sizes_grown x y (name ∷ names) grow =
    let first = length_grown x y name (length (bytes_in x name)) grow (omega arith) in
    let rest = sizes_grown x y names grow in
    let before = sizes_more x name names in
    let after = sizes_more y name names in
    omega arith

-- some files are read, and then others
pub reads_on : (mid now : Option Folder) (first second : List (List ℕ)) (before between later : ℕ) → OnlyGrow mid now → ReadsOnce mid first before between → ReadsOnce now second between later → ReadsOnce now (first ++ second) before later
reads_on mid None first second before between later grow one two = tt
reads_on None (Some y) first second before between later grow one two = absurd cc
reads_on (Some x) (Some y) first second before between later grow one two =
    let more = sizes_grown x y first grow in
    let both : sizes y (first ++ second) ≡ sizes y first + sizes y second = sum_by-append (λ (name : List ℕ). length (bytes_in y name)) first second in
    omega arith

-- what is read once is read once of more files
pub reads_more : (now : Option Folder) (first second : List (List ℕ)) (before later : ℕ) → ReadsOnce now first before later → ReadsOnce now (first ++ second) before later
reads_more None first second before later once = tt
reads_more (Some x) first second before later once =
    let both : sizes x (first ++ second) ≡ sizes x first + sizes x second = sum_by-append (λ (name : List ℕ). length (bytes_in x name)) first second in
    omega arith
