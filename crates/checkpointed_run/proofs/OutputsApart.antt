-- No output of an entry has a name that none of its splits has.
use Rattle.std.proofs.Common.{◌≡◌, ℕ, zero, suc, Bool, List, [], ◌∷◌, map, filter, Some, inl, inr, sym, subst}
use Rattle.std.specs.Prelude.{slice_get}
use Rattle.std.specs.List.{AllByRecursion, AllZip}
use Rattle.std.proofs.lemmas.Bool.{cases_Bool}
use Rattle.disk_model.specs.Disk.{Files}
use Rattle.ledger_model.specs.Entries.{Output}
use Rattle.multiplex.specs.Splitting.{OutputRows}
use Rattle.recovery_model.specs.Recovered.{AreApart, IsOther}
use Rattle.row_output.specs.Asked.{OutputText}
use Rattle.run_model.specs.Meanings.{Mode, Split}
use Rattle.run_model.specs.Right.{IsOutput, takes_part}
use Rattle.run_entry.specs.Gives.{split_of}

module _ (P : List ℕ → Type 0) where
  splits_have : (text : OutputText) (each : List OutputRows) → AllByRecursion (λ (o : OutputRows). P o.name) each → AllByRecursion (λ (s : Split). P s.name) (map (split_of text) each)
  splits_have text [] all = tt
  splits_have text (o ∷ each) (here, all) = (here, splits_have text each all)

  some_have : (test : Split → Bool) (splits : List Split) → AllByRecursion (λ (s : Split). P s.name) splits → AllByRecursion (λ (s : Split). P s.name) (filter test splits)
  some_have test [] all = tt
  some_have test (s ∷ splits) (here, all) = elim (cases_Bool (test s)) [
    | inl kept ↦ rw kept (here, some_have test splits all)
    | inr left ↦ rw left (some_have test splits all)
  ]

  outputs_have : (mode : Mode) (files : Files) (splits : List Split) (outputs : List Output) → AllByRecursion (λ (s : Split). P s.name) splits → AllZip (IsOutput mode files) splits outputs
      → (k : ℕ) (output : Output) → slice_get outputs k ≡ Some output → P output.name
  outputs_have mode files [] [] all zip k output at = absurd (cc)
  outputs_have mode files [] (o ∷ outputs) all zip k output at = absurd zip
  outputs_have mode files (s ∷ splits) [] all zip k output at = absurd zip
  outputs_have mode files (s ∷ splits) (o ∷ outputs) (here, all) (is, zip) zero output at =
      let first : Some o ≡ Some output = at in
      let same : o ≡ output = cc in
      subst (λ (x : Output). P x.name) same (subst P (sym is.name_is) here)
  outputs_have mode files (s ∷ splits) (o ∷ outputs) (here, all) (is, zip) (suc k) output at = outputs_have mode files splits outputs all zip k output at

pub outputs_apart : (ledger stage : List ℕ) (mode : Mode) (files : Files) (text : OutputText) (each : List OutputRows) (outputs : List Output) → AllByRecursion (λ (o : OutputRows). IsOther ledger stage o.name) each
    → AllZip (IsOutput mode files) (filter (takes_part mode files) (map (split_of text) each)) outputs → AreApart ledger stage outputs
outputs_apart ledger stage mode files text each outputs others zip =
    outputs_have (IsOther ledger stage) mode files (filter (takes_part mode files) (map (split_of text) each)) outputs
    (some_have (IsOther ledger stage) (takes_part mode files) (map (split_of text) each) (splits_have (IsOther ledger stage) text each others)) zip
