-- All entries of a ledger say the same of how logs are read.
use Rattle.std.proofs.Common.{◌≡◌, ℕ, List, [], ◌∷◌, ◌++◌, Option, sym, ◌∙◌, subst}
use Rattle.std.specs.List.{AllByRecursion}
use Rattle.disk_model.specs.Disk.{Files}
use Rattle.ledger_model.specs.Entries.{Entry}
use Rattle.run_model.specs.Logs.{Written}
use Rattle.run_model.specs.Meanings.{Meaning}
use Rattle.run_model.specs.Right.{FollowFrom}
use Rattle.positions.specs.Places.{Kept, Keeps, first_input}
use Rattle.positions.specs.Spans.{Agrees}

-- entries that follow others have their input
following : (meaning : Meaning) (written : Written) (input : List ℕ) (first : Entry) (between : List Entry) (start : Files) (entries : List Entry) (files : Files) → first.input ≡ input
    → FollowFrom meaning written (first ∷ between) start entries files → AllByRecursion (λ (entry : Entry). entry.input ≡ input) entries
following meaning written input first between start [] files same follow = tt
following meaning written input first between start (entry ∷ entries) files same (next, is, follow) =
    let here : first.input ≡ entry.input = is.right.reads.same_input.0 in
    (sym here ∙ same, following meaning written input first (between ++ entry ∷ []) next entries files same follow)

-- all have the input of the first
pub all_have_input : (meaning : Meaning) (written : Written) (input : List ℕ) (start : Files) (entries : List Entry) (files : Files) → Agrees (first_input entries) input
    → FollowFrom meaning written [] start entries files → AllByRecursion (λ (entry : Entry). entry.input ≡ input) entries
all_have_input meaning written input start [] files agrees follow = tt
all_have_input meaning written input start (entry ∷ entries) files agrees (next, is, follow) = (agrees, following meaning written input entry [] next entries files agrees follow)

-- so they have the input that a run is given, where the kept one agrees with it
pub all_same_input : (meaning : Meaning) (written : Written) (input : List ℕ) (kept : Kept) (start : Files) (entries : List Entry) (files : Files) → Keeps entries kept → Agrees kept.input input
    → FollowFrom meaning written [] start entries files → AllByRecursion (λ (entry : Entry). entry.input ≡ input) entries
all_same_input meaning written input kept start entries files keeps agrees follow =
    all_have_input meaning written input start entries files (subst (λ (first : Option (List ℕ)). Agrees first input) keeps.input agrees) follow
