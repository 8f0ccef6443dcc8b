-- How many bytes of files are read.
use Rattle.std.specs.Prelude.{ℕ, ◌+◌, ◌≤◌, List, [], ◌∷◌, length, sum_by, Option, Some, None}
use Rattle.lp_model.specs.Outside.{Folder, Told, bytes_in}
use Rattle.requests.specs.Texts.{file_in}

-- the bytes of files together
abbrev pub sizes : Folder → List (List ℕ) → ℕ
sizes folder names = sum_by (λ name. length (bytes_in folder name)) names

-- From one count of bytes that were given to a later one, these are no more than the files have at the end: each is read once.
abbrev pub ReadsOnce : Option Folder → List (List ℕ) → ℕ → ℕ → Type 0
ReadsOnce now names before later = Told now (λ folder. later ≤ before + sizes folder names)

-- the file that a query word names, if it names one
abbrev pub file_names : Option (List ℕ) → List (List ℕ)
file_names None = []
file_names (Some name) = name ∷ []

abbrev pub query_files : List ℕ → List (List ℕ)
query_files word = file_names (file_in word)
