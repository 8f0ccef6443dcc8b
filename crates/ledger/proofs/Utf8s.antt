-- Texts and their fronts.
use Rattle.std.proofs.Common.{◌≡◌, ℕ, ◌+◌, ◌<◌, ◌≤◌, List, [], ◌∷◌, ◌++◌, length, take, sym, ap, subst, arith}
use Rattle.std.specs.Str.{IsUtf8, IsCharBoundary}
use Rattle.std.specs.Prelude.{encode_utf8, encode_utf8_all}
use Rattle.std.specs.Char.{len_utf8}
use Rattle.std.proofs.lemmas.Str.{IsUtf8-append, IsUtf8-nil, IsUtf8-drop, IsUtf8-take, IsCharBoundary-from_take, IsCharBoundary-past_char, length-encode, len_utf8_bounds}
use Rattle.std.proofs.lemmas.List.{length-append}
use Rattle.std.proofs.Math.Seq.{take-append_seam, drop-append_seam}
use Rattle.ledger.specs.declared.passing.TextKind.{TextKind}
use Rattle.ledger.specs.declared.passing.TextKind.TheVariants.{Any, Utf8}
use Rattle.ledger.specs.Passing.{IsText}

pub utf8_rest : (a b : List ℕ) → IsUtf8 (a ++ b) → IsUtf8 a → IsUtf8 b
utf8_rest a b whole front =
    let same : take (length a) (a ++ b) ≡ a = take-append_seam a b in
    let is : IsUtf8 (take (length a) (a ++ b)) = subst (λ (t : List ℕ). IsUtf8 t) (sym same) front in
    subst (λ (t : List ℕ). IsUtf8 t) (drop-append_seam a b) (IsUtf8-drop (a ++ b) (length a) whole (IsCharBoundary-from_take (a ++ b) (length a) whole (omega (arith, length-append a b)) is))

-- the first character of a text
utf8_first : (text : List ℕ) → IsUtf8 text → 0 < length text → (k : ℕ) × (0 < k) × (k ≤ 4) × (k ≤ length text) × IsUtf8 (take k text)
utf8_first text ([], is) some = absurd (omega (arith, ap length is.1, some))
utf8_first text (c ∷ cs, is) some =
    let size : length text ≡ len_utf8 c + length (encode_utf8_all cs) = omega (arith, ap length is.1, length-append (encode_utf8 c) (encode_utf8_all cs), length-encode c) in (
      len_utf8 c,
      (len_utf8_bounds c).0,
      (len_utf8_bounds c).1,
      omega (arith, size),
      IsUtf8-take text (len_utf8 c) (c ∷ cs, is)
          (subst (λ (n : ℕ). IsCharBoundary text n) (omega arith) (IsCharBoundary-past_char text (encode_utf8_all cs) 0 c (omega arith) (c ∷ cs, is) (sym is.1))),
    )

pub text_append : (kind : TextKind) (a b : List ℕ) → IsText kind a → IsText kind b → IsText kind (a ++ b)
text_append Any a b f s = tt
text_append Utf8 a b f s = IsUtf8-append a b f s

pub text_nil : (kind : TextKind) → IsText kind []
text_nil Any = tt
text_nil Utf8 = IsUtf8-nil

pub text_rest : (kind : TextKind) (a b : List ℕ) → IsText kind (a ++ b) → IsText kind a → IsText kind b
text_rest Any a b whole front = tt
text_rest Utf8 a b whole front = utf8_rest a b whole front

pub text_first : (kind : TextKind) (text : List ℕ) → IsText kind text → 0 < length text → (k : ℕ) × (0 < k) × (k ≤ 4) × (k ≤ length text) × IsText kind (take k text)
text_first Any text is some = (1, omega arith, omega arith, some, tt)
text_first Utf8 text is some = utf8_first text is some
