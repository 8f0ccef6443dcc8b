-- A query file's bytes up to its length.
use Rattle.std.proofs.Common.{◌≡◌, ◌≤◌, ◌<◌, ℕ, List, [], ◌++◌, length, Option, Some, None, IsSome, option_map, unwrap_or, replicate, refl, sym, arith}
use Rattle.std.proofs.lemmas.List.{take_all, length-replicate}
use Rattle.lp_model.specs.Outside.{Folder, OnlyGrow, Told, bytes_in}
use Rattle.lp_model.specs.Pieces.{IsPiece}
use Rattle.lp_model.proofs.Pieces.{length_grown, IsPiece-grown, IsPiece-more}
use Rattle.requests.specs.Files.{IsTooLong}

-- what a call tells of a file's length, once it is done
abbrev pub IsLengthOf : Option Folder → List ℕ → ℕ → Type 0
IsLengthOf told name cut = Told told (λ folder. Some cut ≡ option_map length (folder name))

size_is : (count : ℕ) (file : Option (List ℕ)) → Some count ≡ option_map length file → length (unwrap_or file []) ≡ count
size_is count None e = absurd (cc)
size_is count (Some bytes) e = let same : count ≡ length bytes = cc in sym same

some_is : (count : ℕ) (file : Option (List ℕ)) → Some count ≡ option_map length file → IsSome file
some_is count None e = absurd (cc)
some_is count (Some bytes) e = refl

-- a file has the bytes up to its length
pub there : (told : Option Folder) (name : List ℕ) (cut : ℕ) → IsLengthOf told name cut → Told told (λ folder. cut ≤ length (bytes_in folder name))
there None name cut h = tt
there (Some x) name cut h = let size = size_is cut (x name) h in omega arith

-- a file was no longer before
at_least : (before now : Option Folder) (name : List ℕ) (cut : ℕ) → OnlyGrow before now → IsLengthOf now name cut → Told before (λ old. length (bytes_in old name) ≤ cut)
at_least None now name cut grow h = tt
at_least (Some x) None name cut grow h = absurd grow
at_least (Some x) (Some y) name cut grow h =
    let size = size_is cut (y name) h in
    let kept = length_grown x y name (length (bytes_in x name)) grow (omega arith) in
    omega arith

-- a length over that of the longest query
pub too_long : (before now : Option Folder) (name : List ℕ) (cut : ℕ) → OnlyGrow before now → IsLengthOf now name cut → 65_536 < cut → IsTooLong before now name
too_long before None name cut grow h over = record {
  text = replicate {A = ℕ} cut 0;
  cut = tt;
  long = let size : length (replicate {A = ℕ} cut 0) ≡ cut = length-replicate {A = ℕ} cut 0 in omega arith;
}
too_long before (Some y) name cut grow h over = record {
  text = bytes_in y name;
  cut = record {
    there = some_is cut (y name) h;
    cut = cut;
    at_least = at_least before (Some y) name cut grow h;
    at_most = there (Some y) name cut h;
    bytes_are = let size = size_is cut (y name) h in sym (take_all cut (bytes_in y name) (omega arith));
  };
  long = let size = size_is cut (y name) h in omega arith;
}

-- one more piece of a file is read
pub turn : (mid now : Option Folder) (name : List ℕ) (cut : ℕ) (bytes piece : List ℕ) → OnlyGrow mid now → IsPiece mid name 0 cut bytes → IsPiece now name (length bytes) cut piece → IsPiece now name 0 cut (bytes ++ piece)
turn mid now name cut bytes piece grow so_far here = IsPiece-more now name 0 (length bytes) cut bytes piece (omega arith) (IsPiece-grown mid now name 0 cut bytes grow so_far) here
