-- A payload that was looked at whole, and bodies around payloads.
use Rattle.std.proofs.Common.{◌≡◌, inl, inr, ℕ, ◌+◌, ◌-◌, ◌<◌, ◌≤◌, ◌^◌, List, [], ◌++◌, length, take, drop, get_or, refl, sym, ◌∙◌, ap, subst, append_assoc, arith}
use Rattle.std.specs.Int.{from_le_bytes, to_le_bytes, w64}
use Rattle.std.proofs.lemmas.Nat.{le_bytes_8}
use Rattle.std.proofs.lemmas.List.{length-drop, length-take-le, append-nil, take_all, take-append-drop, drop-drop}
use Rattle.std.proofs.Math.Seq.{take-append_seam}
use Rattle.disk_model.specs.Disk.{DiskState}
use Rattle.ledger_model.specs.Numbers.{u64_bytes}
use Rattle.ledger_model.specs.Grammar.{Parts, parts_layout, payload_of, BreaksPayload}
use Rattle.ledger_model.specs.Ledgers.{length_at, IsWhole}
use Rattle.ledger_model.proofs.Fields.{entry_from}
use Rattle.ledger.specs.declared.refused.LedgerRefused.{LedgerRefused}
use Rattle.ledger.specs.declared.refused.LedgerRefused.TheVariants.{DiskFault, LedgerFault}
use Rattle.ledger.specs.declared.refused.Part2.TheVariants.{Ledger}
use Rattle.ledger.specs.Reader.{Position, Holds, CanRead, Stood, IsRead, RefusedAt, RefusedShort, left_of, moved_to}
use Rattle.ledger.specs.Walking.{IsPayload, RefusedPayload, WalkedBody, RefusedBody}

-- a new reader
pub can_new : (disk : DiskState) (name file : List ℕ) (to : ℕ) (r : Position) → Holds disk name file → r.to ≡ to → r.ahead ≡ [] → CanRead disk name file to r
can_new disk name file to r holds end none = record { holds = holds; end = end; ahead = none ∙ sym (ap (λ (n : ℕ). take n (drop r.at file)) (ap length none)); within = omega (arith, ap length none) }

pub payload_refused : (file : List ℕ) (to from : ℕ) (refused : LedgerRefused) → RefusedAt parts_layout file to from refused → RefusedPayload (left_of file to from) from refused
payload_refused file to from DiskFault broken = tt
payload_refused file to from (LedgerFault part at) broken = (broken.0, (broken.1.later, broken.1.at_is, record { breaks = inl broken.1.breaks }))

-- bytes are left behind the last field
pub payload_left : (file : List ℕ) (to from at place : ℕ) (refused : LedgerRefused) (value : Parts) → IsRead parts_layout file to from at value → at < to → to ≤ length file → refused ≡ LedgerFault Ledger place → place ≡ at → RefusedPayload (left_of file to from) from refused
payload_left file to from at place refused value read short whole is here =
    let some : length (left_of file to at) ≡ to - at = length-take-le (to - at) (drop at file) (omega (arith, length-drop at file)) in
    subst (λ (r : LedgerRefused). RefusedPayload (left_of file to from) from r) (sym is) (
      refl,
      (
        length (parts_layout.spell value) + 0,
        omega (arith, here, read.stood.moved),
        record {
          breaks = inr (record { value = entry_from value; more = left_of file to at; later = 0; fits = read.fits; split = read.stood.split; breaks = (refl, omega (arith, some)); place_is = refl });
        },
      ),
    )

pub payload_read : (file : List ℕ) (to from at : ℕ) (value : Parts) → IsRead parts_layout file to from at value → to ≤ at → IsPayload (left_of file to from)
unfolding payload_of
payload_read file to from at value read end =
    let gone : to - at ≡ 0 = omega arith in
    let none : left_of file to at ≡ [] = ap (λ (n : ℕ). take n (drop at file)) gone in
    record {
      entry = entry_from value;
      is = record { fits = read.fits };
      spells = read.stood.split ∙ ap (λ (t : List ℕ). parts_layout.spell value ++ t) none ∙ append-nil (parts_layout.spell value);
    }

-- the bytes up to a file's end
pub to_end : (file : List ℕ) (size body : ℕ) → size ≡ length file → left_of file size body ≡ drop body file
to_end file size body is = take_all (size - body) (drop body file) (omega (arith, length-drop body file, is))

-- too few bytes for a length
pub body_short : (file : List ℕ) (size body : ℕ) (refused : LedgerRefused) → size ≡ length file → RefusedShort file size body 8 refused → RefusedBody (drop body file) body (moved_to refused body)
body_short file size body DiskFault is short = tt
body_short file size body (LedgerFault part at) is short = (refl, (0, omega arith, inl (refl, λ whole. omega (arith, whole.some, short.2, ap length (to_end file size body is)))))

length_read : (file : List ℕ) (size body at n : ℕ) (bytes : List ℕ) → size ≡ length file → Stood file size body at bytes → length bytes ≡ 8 → n ≡ from_le_bytes w64 bytes → length_at (drop body file) ≡ n
length_read file size body at n bytes is stood eight number =
    let front : drop body file ≡ bytes ++ left_of file size at = sym (to_end file size body is) ∙ stood.split in
    let same : take 8 (drop body file) ≡ bytes = ap (take 8) front ∙ subst (λ (k : ℕ). take k (bytes ++ left_of file size at) ≡ bytes) eight (take-append_seam bytes (left_of file size at)) in
    ap (from_le_bytes w64) same ∙ sym number

-- the body doesn't lie whole in the file
pub body_cut : (file : List ℕ) (size body at n place : ℕ) (bytes : List ℕ) (refused : LedgerRefused) → size ≡ length file → Stood file size body at bytes → length bytes ≡ 8 → n ≡ from_le_bytes w64 bytes → (8 + n + 2 ≤ size - body → ⊥) → refused ≡ LedgerFault Ledger body → RefusedBody (drop body file) body refused
body_cut file size body at n place bytes refused is stood eight number long fault = subst (λ (r : LedgerRefused). RefusedBody (drop body file) body r) (sym fault)
    (refl, (0, omega arith, inl (refl, λ whole. long (omega (arith, whole.fits, length_read file size body at n bytes is stood eight number, length-drop body file, is)))))

-- where the payload lies
payload_there : (file : List ℕ) (size body at n : ℕ) (bytes : List ℕ) → size ≡ length file → Stood file size body at bytes → length bytes ≡ 8 → n ≡ from_le_bytes w64 bytes → take (length_at (drop body file)) (drop 8 (drop body file)) ≡ left_of file (body + 8 + n) (body + 8)
payload_there file size body at n bytes is stood eight number =
    let size_is : body + 8 + n - (body + 8) ≡ n = omega arith in
    ap (λ (k : ℕ). take k (drop 8 (drop body file))) (length_read file size body at n bytes is stood eight number)
    ∙ ap (take n) (drop-drop 8 body file) ∙ ap (λ (k : ℕ). take k (drop (body + 8) file)) (sym size_is)

body_is_whole : (file : List ℕ) (size body at n : ℕ) (bytes : List ℕ) → size ≡ length file → Stood file size body at bytes → length bytes ≡ 8 → n ≡ from_le_bytes w64 bytes → 8 + n + 2 ≤ size - body → IsWhole (drop body file)
body_is_whole file size body at n bytes is stood eight number fits = record {
  some = omega (arith, length-drop body file, is, fits);
  fits = omega (arith, length_read file size body at n bytes is stood eight number, length-drop body file, is, fits);
}

pub body_broken : (file : List ℕ) (size body at n : ℕ) (bytes : List ℕ) (refused : LedgerRefused) → size ≡ length file → Stood file size body at bytes → length bytes ≡ 8 → n ≡ from_le_bytes w64 bytes → 8 + n + 2 ≤ size - body → RefusedPayload (left_of file (body + 8 + n) (body + 8)) (body + 8) refused → RefusedBody (drop body file) body refused
body_broken file size body at n bytes DiskFault is stood eight number fits broken = tt
body_broken file size body at n bytes (LedgerFault part place) is stood eight number fits broken = (
  broken.0,
  (
    8 + broken.1.0,
    omega (arith, broken.1.1),
    inr (body_is_whole file size body at n bytes is stood eight number fits, (broken.1.0, refl, subst (λ (t : List ℕ). BreaksPayload t broken.1.0) (sym (payload_there file size body at n bytes is stood eight number)) broken.1.2)),
  ),
)

pub body_walked : (file : List ℕ) (size body at n : ℕ) (bytes : List ℕ) → size ≡ length file → Stood file size body at bytes → length bytes ≡ 8 → ((i : ℕ) → get_or bytes i 0 < 256) → n ≡ from_le_bytes w64 bytes → n < 2 ^ 64 → 8 + n + 2 ≤ size - body → IsPayload (left_of file (body + 8 + n) (body + 8)) → WalkedBody (drop body file) n
unfolding u64_bytes
body_walked file size body at n bytes is stood eight low number range fits payload =
    let spelled : (to_le_bytes w64) n ≡ bytes = le_bytes_8 bytes n eight low number in
    let size_is : body + 8 + n - (body + 8) ≡ n = omega arith in
    let there : take n (drop (body + 8) file) ≡ payload_of payload.entry = ap (λ (k : ℕ). take k (drop (body + 8) file)) (sym size_is) ∙ payload.spells in
    let length_is : length (payload_of payload.entry) ≡ n = sym (ap length there) ∙ length-take-le n (drop (body + 8) file) (omega (arith, length-drop (body + 8) file, is, fits)) in
    let behind : drop (body + 8) file ≡ payload_of payload.entry ++ drop n (drop (body + 8) file) = sym (take-append-drop n (drop (body + 8) file)) ∙ ap (λ (t : List ℕ). t ++ drop n (drop (body + 8) file)) there in
    let front : drop body file ≡ bytes ++ left_of file size at = sym (to_end file size body is) ∙ stood.split in
    let rest : left_of file size at ≡ drop (body + 8) file = to_end file size at is ∙ ap (λ (k : ℕ). drop k file) (stood.moved ∙ ap (λ (k : ℕ). body + k) eight) in
    record {
      entry = payload.entry;
      is = payload.is;
      rest = drop n (drop (body + 8) file);
      more = omega (arith, length-drop n (drop (body + 8) file), length-drop (body + 8) file, is, fits);
      split = front ∙ ap (λ (t : List ℕ). bytes ++ t) (rest ∙ behind) ∙ ap (λ (t : List ℕ). t ++ (payload_of payload.entry ++ drop n (drop (body + 8) file))) (sym spelled ∙ ap (to_le_bytes w64) (sym length_is))
          ∙ sym (append_assoc ((to_le_bytes w64) (length (payload_of payload.entry))) (payload_of payload.entry) (drop n (drop (body + 8) file)));
      size_is = sym length_is;
      low = range;
    }
