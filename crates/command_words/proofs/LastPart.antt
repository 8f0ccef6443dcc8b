-- The last part of a name begins behind the last slash.
use Rattle.std.proofs.Common.{◌≡◌, ◌≢◌, ℕ, ◌-◌, ◌<◌, ◌≤◌, not, List, length, get_or, take, drop, ap, sym, ◌∙◌, arith, length-drop}
use Rattle.std.specs.List.{suffix_len}
use Rattle.std.proofs.lemmas.Bool.{ne_eqb, eq-eqb}
use Rattle.std.proofs.lemmas.List.{take_all}
use Rattle.std.proofs.lemmas.List.Sums.{suffix_len_is}
use Rattle.command_words.specs.Formats.{is_slash, last_part}

pub part_is : (name : List ℕ) (start : ℕ) → start ≤ length name → ((k : ℕ) → start ≤ k → k < length name → get_or name k 0 ≢ 47) → (0 < start → get_or name (start - 1) 0 ≡ 47) → take (length name - start) (drop start name) ≡ last_part name
part_is name start within none slash =
    let suffix : suffix_len (λ byte. not (is_slash byte)) name ≡ length name - start = suffix_len_is (λ byte. not (is_slash byte)) name start 0 within (λ k from below. ap not (ne_eqb _ _ (none k from below))) (λ some. ap not (eq-eqb _ _ (slash some))) in
    let place : length name - suffix_len (λ byte. not (is_slash byte)) name ≡ start = omega arith in
    let short : length (drop start name) ≤ length name - start = omega (arith, length-drop start name) in
    take_all (length name - start) (drop start name) short ∙ ap (λ n. drop n name) (sym place)
