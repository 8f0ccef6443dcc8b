-- Outputs of which some names and those of logs are forbidden.
use Rattle.std.proofs.Common.{◌≡◌, ℕ, ◌<◌, ◌+◌, List, [], ◌∷◌, ◌++◌, length, map, get_or, take, ap, sym, ◌∙◌}
use Rattle.std.proofs.lemmas.List.{take_more}
use Rattle.std.proofs.lemmas.List.Sums.{fold-append}
use Rattle.log_listing.specs.Firsts.{with_name, with_names}
use Rattle.multiplex.specs.Placing.{Numbering}

abbrev pub outputs_with : List ℕ → List (List ℕ) → List (List ℕ) → Numbering
outputs_with pattern own logs = record { pattern = pattern; forbidden = with_names (with_names [] own) logs; names = [] }

-- some names and those of logs, one after the other
pub forbids_both : (pattern : List ℕ) (own logs : List (List ℕ)) → outputs_with pattern own logs ≡ record { pattern = pattern; forbidden = with_names [] (own ++ logs); names = [] }
forbids_both pattern own logs = ap (λ (f : List (List ℕ)). record { pattern = pattern; forbidden = f; names = [] }) (sym (fold-append with_name [] own logs))

forbids_more : (first logs : List (List ℕ)) (i : ℕ) (name : List ℕ) → i < length logs → name ≡ get_or logs i name → with_names first (take (i + 1) logs) ≡ with_name (with_names first (take i logs)) name
forbids_more first logs i name less at =
    ap (λ (t : List (List ℕ)). with_names first t) (take_more logs i name less ∙ ap (λ (s : List ℕ). take i logs ++ s ∷ []) (sym at))
    ∙ fold-append with_name first (take i logs) (name ∷ [])

pub forbids : (pattern : List ℕ) (own logs : List (List ℕ)) (i : ℕ) (name : List ℕ) (old new : Numbering) → i < length logs → name ≡ get_or logs i name
    → old ≡ outputs_with pattern own (take i logs) → new ≡ record { pattern = old.pattern; forbidden = with_name old.forbidden name; names = old.names } → new ≡ outputs_with pattern own (take (i + 1) logs)
forbids pattern own logs i name old new less at is now =
    let more : Numbering → Numbering = λ o. record { pattern = o.pattern; forbidden = with_name o.forbidden name; names = o.names } in
    now ∙ (ap more is ∙ ap (λ (f : List (List ℕ)). record { pattern = pattern; forbidden = f; names = [] }) (sym (forbids_more (with_names [] own) logs i name less at)))
