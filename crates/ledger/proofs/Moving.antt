-- A reader moves on over bytes that it has read ahead.
use Rattle.std.proofs.Common.{◌≡◌, ℕ, ◌+◌, ◌-◌, ◌≤◌, List, [], ◌++◌, length, take, drop, sym, ◌∙◌, ap, subst, append_assoc, arith}
use Rattle.std.proofs.lemmas.List.{take-take, drop-drop, length-take-le, length-drop, drop-take, length-append}
use Rattle.std.proofs.Math.Seq.{take-add}
use Rattle.disk_model.specs.Disk.{DiskState}
use Rattle.ledger.specs.Reader.{Position, CanRead, Stood, left_of}

pub skipped : (disk : DiskState) (name file : List ℕ) (to : ℕ) (r s : Position) (count : ℕ) → CanRead disk name file to r → count ≤ length r.ahead → s.at ≡ r.at + count → s.to ≡ r.to → s.ahead ≡ drop count r.ahead
    → CanRead disk name file to s × Stood file to r.at s.at (take count r.ahead)
skipped disk name file to r s count can le at end ahead =
    let b : List ℕ = drop r.at file in
    let front : take count r.ahead ≡ take count b = ap (take count) can.ahead ∙ take-take count (length r.ahead) b le in
    let moved : drop s.at file ≡ drop count b = ap (λ (n : ℕ). drop n file) at ∙ sym (drop-drop count r.at file) in
    let size : length s.ahead ≡ length r.ahead - count = ap length ahead ∙ length-drop count r.ahead in
    let reach : length r.ahead ≡ count + length s.ahead = omega (arith, size, le) in
    let room : to - r.at ≡ count + (to - s.at) = omega (arith, can.within, le, at) in
    let taken : length (take count r.ahead) ≡ count = length-take-le count r.ahead le in (
      record {
        holds = can.holds;
        end = end ∙ can.end;
        ahead = ahead ∙ ap (drop count) (can.ahead ∙ ap (λ (n : ℕ). take n b) reach) ∙ drop-take count (length s.ahead) b ∙ ap (take (length s.ahead)) (sym moved);
        within = omega (arith, can.within, size, at);
      },
      record {
        split = ap (λ (n : ℕ). take n b) room ∙ take-add count (to - s.at) b ∙ ap (λ (t : List ℕ). t ++ take (to - s.at) (drop count b)) (sym front) ∙ ap (λ (t : List ℕ). take count r.ahead ++ take (to - s.at) t) (sym moved);
        moved = omega (arith, at, taken);
      },
    )

-- bytes and then more
pub stood_then : (file : List ℕ) (to a b c : ℕ) (xs ys : List ℕ) → Stood file to a b xs → Stood file to b c ys → Stood file to a c (xs ++ ys)
stood_then file to a b c xs ys f s = record {
  split = f.split ∙ ap (λ (t : List ℕ). xs ++ t) s.split ∙ sym (append_assoc xs ys (left_of file to c));
  moved = omega (arith, f.moved, s.moved, length-append xs ys);
}

pub stood_as : (file : List ℕ) (to a b : ℕ) (xs ys : List ℕ) → xs ≡ ys → Stood file to a b xs → Stood file to a b ys
stood_as file to a b xs ys e stood = subst (λ (t : List ℕ). Stood file to a b t) e stood

-- a reader that has read nothing ahead
pub rewound : (disk : DiskState) (name file : List ℕ) (to : ℕ) (r s : Position) → CanRead disk name file to r → s.to ≡ r.to → s.ahead ≡ [] → CanRead disk name file to s
rewound disk name file to r s can end none = record {
  holds = can.holds;
  end = end ∙ can.end;
  ahead = none ∙ sym (ap (λ (n : ℕ). take n (drop s.at file)) (ap length none));
  within = omega (arith, ap length none);
}
