-- A body that is written over what was there.
use Rattle.std.proofs.Common.{◌≡◌, ℕ, ◌+◌, ◌-◌, ◌≤◌, List, [], ◌∷◌, ◌++◌, length, take, drop, replicate, sym, ◌∙◌, ap, subst, append_assoc, arith}
use Rattle.std.proofs.lemmas.List.{length-append, length-take-le, append-nil, take-append-drop}
use Rattle.std.proofs.Math.Seq.{take-append_seam, drop-append_seam, drop-append-add}
use Rattle.disk_model.specs.Disk.{overwritten}
use Rattle.ledger_model.specs.Numbers.{u64_bytes}
use Rattle.ledger_model.proofs.Fields.{u64_length}
use Rattle.ledger.specs.Writer.{Written, WritesBody}

-- at or before a file's end there is no gap
pub no_gap : (file bytes : List ℕ) (place : ℕ) → place ≤ length file → overwritten file place bytes ≡ take place file ++ bytes ++ drop (place + length bytes) file
no_gap file bytes place le =
    let gap : place - length file ≡ 0 = omega arith in
    let front : file ++ replicate (place - length file) 0 ≡ file = ap (λ (n : ℕ). file ++ replicate n 0) gap ∙ append-nil file in
    ap (λ (t : List ℕ). take place t ++ bytes ++ drop (place + length bytes) file) front

pub at_seam : (a b : List ℕ) (n : ℕ) → length a ≡ n → take n (a ++ b) ≡ a
at_seam a b n e = subst (λ (k : ℕ). take k (a ++ b) ≡ a) e (take-append_seam a b)

pub past_seam : (a b : List ℕ) (n : ℕ) → length a ≡ n → drop n (a ++ b) ≡ b
past_seam a b n e = subst (λ (k : ℕ). drop k (a ++ b) ≡ b) e (drop-append_seam a b)

pub body_written : (w : Written) (old new : List ℕ) → new ≡ overwritten (overwritten old (w.at + 8 + w.count) (0 ∷ (0 ∷ []))) w.at (u64_bytes w.count) → WritesBody w old new
body_written w old new e payload rest front split size count =
    let whole : List ℕ = front ++ payload in
    let long : length whole ≡ w.at + 8 + w.count = omega (arith, length-append front payload, size, count) in
    let first : overwritten old (w.at + 8 + w.count) (0 ∷ (0 ∷ [])) ≡ whole ++ (0 ∷ (0 ∷ [])) ++ drop 2 rest =
    no_gap old (0 ∷ (0 ∷ [])) (w.at + 8 + w.count) (omega (arith, ap length split, length-append whole rest, long))
    ∙ ap (λ (t : List ℕ). t ++ (0 ∷ (0 ∷ [])) ++ drop (w.at + 8 + w.count + 2) old) (ap (take (w.at + 8 + w.count)) split ∙ at_seam whole rest (w.at + 8 + w.count) long)
    ∙ ap (λ (t : List ℕ). whole ++ (0 ∷ (0 ∷ [])) ++ t) (ap (drop (w.at + 8 + w.count + 2)) split ∙ ap (λ (n : ℕ). drop (n + 2) (whole ++ rest)) (sym long) ∙ drop-append-add whole rest 2) in
    let all : List ℕ = whole ++ (0 ∷ (0 ∷ [])) ++ drop 2 rest in
    let parts : all ≡ take w.at front ++ (drop w.at front ++ (payload ++ (0 ∷ (0 ∷ drop 2 rest)))) =
    append_assoc whole (0 ∷ (0 ∷ [])) (drop 2 rest) ∙ append_assoc front payload (0 ∷ (0 ∷ drop 2 rest))
    ∙ ap (λ (t : List ℕ). t ++ (payload ++ (0 ∷ (0 ∷ drop 2 rest)))) (sym (take-append-drop w.at front))
    ∙ append_assoc (take w.at front) (drop w.at front) (payload ++ (0 ∷ (0 ∷ drop 2 rest))) in
    let at : length (take w.at front) ≡ w.at = length-take-le w.at front (omega (arith, size)) in
    let eight : length (take w.at front ++ drop w.at front) ≡ w.at + 8 = ap length (take-append-drop w.at front) ∙ size in
    let second : overwritten all w.at (u64_bytes w.count) ≡ take w.at front ++ u64_bytes w.count ++ (payload ++ (0 ∷ (0 ∷ drop 2 rest))) =
    no_gap all (u64_bytes w.count) w.at (omega (arith, ap length parts, at, length-append (take w.at front) (drop w.at front ++ (payload ++ (0 ∷ (0 ∷ drop 2 rest))))))
    ∙ ap (λ (t : List ℕ). t ++ u64_bytes w.count ++ drop (w.at + length (u64_bytes w.count)) all) (ap (take w.at) parts ∙ at_seam (take w.at front) _ w.at at)
    ∙ ap (λ (t : List ℕ). take w.at front ++ u64_bytes w.count ++ t)
    (ap (λ (n : ℕ). drop (w.at + n) all) (u64_length w.count) ∙ ap (drop (w.at + 8)) (parts ∙ sym (append_assoc (take w.at front) (drop w.at front) (payload ++ (0 ∷ (0 ∷ drop 2 rest)))))
    ∙ past_seam (take w.at front ++ drop w.at front) (payload ++ (0 ∷ (0 ∷ drop 2 rest))) (w.at + 8) eight) in
    e ∙ ap (λ (t : List ℕ). overwritten t w.at (u64_bytes w.count)) first ∙ second
    ∙ append_assoc (take w.at front) (u64_bytes w.count) (payload ++ (0 ∷ (0 ∷ drop 2 rest)))
    ∙ ap (λ (t : List ℕ). take w.at front ++ t) (sym (append_assoc (u64_bytes w.count) payload (0 ∷ (0 ∷ drop 2 rest))))
    ∙ sym (append_assoc (take w.at front) (u64_bytes w.count ++ payload) (0 ∷ (0 ∷ drop 2 rest)))
    ∙ ap (λ (n : ℕ). take w.at front ++ (u64_bytes n ++ payload) ++ (0 ∷ (0 ∷ drop 2 rest))) (sym count)
