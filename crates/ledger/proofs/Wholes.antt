-- Texts that are read whole.
use Rattle.std.proofs.Common.{◌≡◌, ◌⊎◌, ⊎_elim, ℕ, ◌+◌, ◌-◌, ◌<◌, ◌≤◌, List, [], ◌++◌, length, take, drop, refl, sym, ◌∙◌, ap, subst, append_assoc, arith}
use Rattle.std.proofs.lemmas.List.{length-append, append-nil, length-take, length-take-le, take-take, drop-drop}
use Rattle.std.proofs.Math.Seq.{take-add}
use Rattle.disk_model.specs.Disk.{DiskState}
use Rattle.ledger.specs.declared.refused.LedgerRefused.{LedgerRefused}
use Rattle.ledger.specs.declared.refused.LedgerRefused.TheVariants.{DiskFault, LedgerFault}
use Rattle.ledger.specs.declared.refused.TextRefused.{TextRefused}
use Rattle.ledger.specs.declared.refused.TextRefused.TheVariants as Text
use Rattle.ledger.specs.declared.refused.Part2.TheVariants.{Ledger}
use Rattle.ledger.specs.Reader.{Position, CanRead, Stood, IsRead, SomeRead, IsBroken, RefusedAt, left_of, any_word}
use Rattle.ledger.specs.Texts.{any_text, Added, AddedSome, text_refused, TextRefusedAt, IsNoFault}
use Rattle.ledger.proofs.Moving.{skipped, stood_then}
use Rattle.ledger.proofs.Composing.{text_unsized, text_refused as unread, text_read}

pub added_none : (file : List ℕ) (to at : ℕ) (old : List ℕ) → Added file to at at old old 0
added_none file to at old = record { bytes = []; stood = record { split = refl; moved = omega arith }; size_is = refl; new_is = sym (append-nil old) }

pub added_then : (file : List ℕ) (to a b d : ℕ) (old mid new : List ℕ) (m n : ℕ) → Added file to a b old mid m → Added file to b d mid new n → Added file to a d old new (m + n)
added_then file to a b d old mid new m n one two = record {
  bytes = one.bytes ++ two.bytes;
  stood = stood_then file to a b d one.bytes two.bytes one.stood two.stood;
  size_is = omega (arith, length-append one.bytes two.bytes, one.size_is, two.size_is);
  new_is = two.new_is ∙ ap (λ (t : List ℕ). t ++ two.bytes) one.new_is ∙ append_assoc old one.bytes two.bytes;
}

-- fewer are left than are wanted
pub added_short : (file : List ℕ) (to a b : ℕ) (old mid : List ℕ) (m n : ℕ) → Added file to a b old mid m → length (left_of file to b) ≡ 0 → 0 < n → length (left_of file to a) < m + n
added_short file to a b old mid m n one gone some = omega (arith, ap length one.stood.split, length-append one.bytes (left_of file to b), one.size_is, gone)

-- some bytes that are read ahead
pub added_some : (disk : DiskState) (name file : List ℕ) (to : ℕ) (first r s : Position) (old new piece : List ℕ) (count most : ℕ) → CanRead disk name file to r → r.at ≡ first.at → count ≤ length r.ahead → s.at ≡ r.at + count → s.to ≡ r.to → s.ahead ≡ drop count r.ahead
    → piece ≡ take count r.ahead → new ≡ old ++ piece → (count ≡ 0 → length r.ahead ≡ 0) → ((1 ≤ length r.ahead) ⊎ (r.ahead ≡ left_of file to first.at)) → CanRead disk name file to s × AddedSome file to first.at s.at old new count
added_some disk name file to first r s old new piece count most can same le at end ahead piece_is new_is none enough =
    let both = skipped disk name file to r s count can le at end ahead in (
      both.0,
      record {
        added = record {
          bytes = take count r.ahead;
          stood = subst (λ (n : ℕ). Stood file to n s.at (take count r.ahead)) same both.1;
          size_is = length-take-le count r.ahead le;
          new_is = new_is ∙ ap (λ (t : List ℕ). old ++ t) piece_is;
        };
        ends = λ gone. ⊎_elim (λ many. absurd (omega (arith, many, none gone))) (λ all. sym (ap length all) ∙ none gone) enough;
      },
    )

-- a text's length isn't there
pub text_unread : (file : List ℕ) (to from : ℕ) (refused : LedgerRefused) (given : TextRefused) → given ≡ text_refused refused → RefusedAt any_word file to from refused → TextRefusedAt any_text file to from given
text_unread file to from DiskFault given is broken = subst (TextRefusedAt any_text file to from) (sym is) tt
text_unread file to from (LedgerFault part at) given is broken = subst (TextRefusedAt any_text file to from) (sym is) (text_unsized _ file to from (LedgerFault part at) broken)

-- or its bytes aren't
pub text_cut : (file : List ℕ) (to from mid n place : ℕ) → IsRead any_word file to from mid n → length (left_of file to mid) < n → place ≡ from → TextRefusedAt any_text file to from (Text.LedgerFault Ledger place)
text_cut file to from mid n place read short here = (refl, subst (λ (p : ℕ). IsBroken any_text file to from p) (sym here) (unread _ file to from mid n read (λ text more size is e. omega (arith, short, ap length e, length-append text more, size))))

pub text_whole : (file : List ℕ) (to from mid at n : ℕ) (old new : List ℕ) → IsRead any_word file to from mid n → old ≡ [] → Added file to mid at old new n → IsRead any_text file to from at new
text_whole file to from mid at n old new read none added =
    let same : new ≡ added.bytes = added.new_is ∙ ap (λ (t : List ℕ). t ++ added.bytes) none in
    subst (λ (t : List ℕ). IsRead any_text file to from at t) (sym same) (text_read _ file to from mid at n added.bytes read added.stood added.size_is tt)

-- or all of them are
pub text_stands : (file : List ℕ) (to from mid n : ℕ) → IsRead any_word file to from mid n → n ≤ length (left_of file to mid) → (at : ℕ) × SomeRead any_text file to from at
text_stands file to from mid n read le =
    let b : List ℕ = drop mid file in
    let size : length (take n (left_of file to mid)) ≡ n = length-take-le n (left_of file to mid) le in
    let within : n ≤ to - mid = omega (arith, le, length-take (to - mid) b) in
    let room : to - mid ≡ n + (to - (mid + n)) = omega (arith, within) in
    let front : take n (left_of file to mid) ≡ take n b = take-take n (to - mid) b within in
    let behind : take (to - (mid + n)) (drop n b) ≡ left_of file to (mid + n) = ap (take (to - (mid + n))) (drop-drop n mid file) in (
      mid + n,
      record {
        value = take n (left_of file to mid);
        read = text_read _ file to from mid (mid + n) n (take n (left_of file to mid)) read
            (record { split = ap (λ (m : ℕ). take m b) room ∙ take-add n (to - (mid + n)) b ∙ ap (λ (t : List ℕ). t ++ take (to - (mid + n)) (drop n b)) (sym front) ∙ ap (λ (t : List ℕ). take n (left_of file to mid) ++ t) behind; moved = omega (arith, size) }) size tt;
      },
    )

-- a call that refuses no bytes, of a text that stands there whole
pub text_unfaulted : (file : List ℕ) (to from mid n : ℕ) (refused : TextRefused) → IsRead any_word file to from mid n → n ≤ length (left_of file to mid) → IsNoFault refused → TextRefusedAt any_text file to from refused
text_unfaulted file to from mid n Text.DiskFault read le clean = tt
text_unfaulted file to from mid n (Text.LedgerFault part at) read le clean = absurd clean
text_unfaulted file to from mid n Text.Memory read le clean = text_stands file to from mid n read le
