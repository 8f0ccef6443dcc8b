-- A part of a text, from what was read ahead.
use Rattle.std.proofs.Common.{◌≡◌, ◌⊎◌, ⊎_elim, ℕ, ◌+◌, ◌-◌, ◌<◌, ◌≤◌, min, List, [], ◌++◌, length, take, drop, refl, sym, ◌∙◌, ap, subst, append_assoc, arith}
use Rattle.std.proofs.lemmas.List.{take-take, length-append, length-take-le, take-append-le, take-append-drop, append_cancel_left}
use Rattle.std.proofs.Math.Seq.{take-append_seam}
use Rattle.ledger.specs.declared.passing.TextKind.{TextKind}
use Rattle.ledger.specs.Passing.{IsText, NoText, Passed, PassedSome}
use Rattle.ledger.specs.Reader.{Stood, left_of}
use Rattle.ledger.proofs.Utf8s.{text_first, text_rest, text_append, text_nil}
use Rattle.ledger.proofs.Moving.{stood_then}

pub passes_some : (kind : TextKind) (file : List ℕ) (to from at most count size : ℕ) (ahead chunk : List ℕ) → 0 < most → ahead ≡ take (length ahead) (drop from file) → length ahead ≤ to - from
    → (min most 4 ≤ length ahead) ⊎ (ahead ≡ left_of file to from) → chunk ≡ take size ahead → size ≡ min (length ahead) (min most 1024)
    → count ≤ length chunk → IsText kind (take count chunk) → ((k : ℕ) → count < k → k ≤ length chunk → IsText kind (take k chunk) → ⊥)
    → Stood file to from at (take count ahead) → PassedSome kind file to from at most count
passes_some kind file to from at most count size ahead chunk some stands within enough cut cut_at fits is longest stood =
    let chunk_size : length chunk ≡ size = ap length cut ∙ length-take-le size ahead (omega (arith, cut_at)) in
    let fronts : (k : ℕ) → k ≤ size → take k chunk ≡ take k ahead = λ k le. ap (take k) cut ∙ take-take k size ahead le in
    record {
      passed = record {
        text = take count ahead;
        stood = stood;
        size_is = length-take-le count ahead (omega (arith, fits, chunk_size, cut_at));
        is = subst (λ (t : List ℕ). IsText kind t) (fronts count (omega (arith, fits, chunk_size))) is;
      };
      within = omega (arith, fits, chunk_size, cut_at);
      ends = λ zero text more text_size text_is e.
          let first = text_first kind text text_is (omega (arith, text_size, some)) in
          let left : ahead ≡ take (length ahead) (text ++ more) = stands ∙ sym (take-take (length ahead) (to - from) (drop from file) within) ∙ ap (take (length ahead)) e in
          let long : first.0 ≤ length ahead = ⊎_elim (λ many. omega (arith, many, first.2, first.3, text_size)) (λ all. omega (arith, ap length all, ap length e, length-append text more, first.3)) enough in
          let same : take first.0 chunk ≡ take first.0 text =
          fronts first.0 (omega (arith, long, cut_at, first.2, first.3, text_size)) ∙ ap (take first.0) left ∙ take-take first.0 (length ahead) (text ++ more) long ∙ take-append-le first.0 text more first.3 in
          longest first.0 (omega (arith, zero, first.1)) (omega (arith, chunk_size, long, cut_at, first.2, first.3, text_size)) (subst (λ (t : List ℕ). IsText kind t) (sym same) first.4);
    }

-- nothing yet
pub passed_none : (kind : TextKind) (file : List ℕ) (to at : ℕ) → Passed kind file to at at 0
passed_none kind file to at = record { text = []; stood = record { split = refl; moved = omega arith }; size_is = refl; is = text_nil kind }

-- some and then more
pub passed_then : (kind : TextKind) (file : List ℕ) (to a b c m n : ℕ) → Passed kind file to a b m → Passed kind file to b c n → Passed kind file to a c (m + n)
passed_then kind file to a b c m n f s = record {
  text = f.text ++ s.text;
  stood = stood_then file to a b c f.text s.text f.stood s.stood;
  size_is = omega (arith, length-append f.text s.text, f.size_is, s.size_is);
  is = text_append kind f.text s.text f.is s.is;
}

-- a text whose front is one and whose rest isn't there
pub passed_not : (kind : TextKind) (file : List ℕ) (to a b m n : ℕ) → Passed kind file to a b m → NoText kind file to b n → NoText kind file to a (m + n)
passed_not kind file to a b m n f none text more size is e =
    let whole : f.text ++ left_of file to b ≡ text ++ more = sym f.stood.split ∙ e in
    let front : take (length f.text) text ≡ f.text = sym (take-append-le (length f.text) text more (omega (arith, f.size_is, size))) ∙ ap (take (length f.text)) (sym whole) ∙ take-append_seam f.text (left_of file to b) in
    let parts : text ≡ f.text ++ drop (length f.text) text = sym (take-append-drop (length f.text) text) ∙ ap (λ (t : List ℕ). t ++ drop (length f.text) text) front in
    let rest : IsText kind (drop (length f.text) text) = text_rest kind f.text (drop (length f.text) text) (subst (λ (t : List ℕ). IsText kind t) parts is) f.is in
    let left : left_of file to b ≡ drop (length f.text) text ++ more =
    append_cancel_left f.text (left_of file to b) (drop (length f.text) text ++ more) (whole ∙ ap (λ (t : List ℕ). t ++ more) parts ∙ append_assoc f.text (drop (length f.text) text) more) in
    none (drop (length f.text) text) more (omega (arith, ap length parts, length-append f.text (drop (length f.text) text), f.size_is, size)) rest left
