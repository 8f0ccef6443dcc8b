-- Bytes that are passed over without being read.
use Rattle.std.proofs.Common.{◌≡◌, ⊎_elim, ℕ, ◌+◌, ◌-◌, ◌<◌, ◌≤◌, ◌^◌, List, [], ◌∷◌, ◌++◌, length, take, drop, min, flat_map, sym, ◌∙◌, ap, subst, append_assoc, arith}
use Rattle.std.proofs.lemmas.List.{drop-drop, drop-take, length-append, length-take, nil_from_length}
use Rattle.std.proofs.lemmas.Bool.{cases_order}
use Rattle.std.proofs.Math.Seq.{drop-append_seam}
use Rattle.disk_model.specs.Disk.{DiskState}
use Rattle.ledger_model.specs.Numbers.{text_bytes}
use Rattle.ledger.specs.Reader.{Position, left_of}
use Rattle.ledger.proofs.Moving.{rewound}
use Rattle.positions.specs.Stands.{Stands, AreShort}

-- a place that all bytes left reach, and the bytes behind it
within : (file : List ℕ) (to at count new : ℕ) (front more : List ℕ) → left_of file to at ≡ front ++ more → length front ≡ count → at + count ≤ to → new ≡ at + count → left_of file to new ≡ more
within file to at count new front more left size fits is =
    let room : to - at ≡ count + (to - new) = omega (arith, fits, is) in
    let moved : drop new file ≡ drop count (drop at file) = ap (λ (n : ℕ). drop n file) is ∙ sym (drop-drop count at file) in
    let behind : drop count (front ++ more) ≡ more = subst (λ (n : ℕ). drop n (front ++ more) ≡ more) size (drop-append_seam front more) in
    ap (take (to - new)) moved ∙ sym (drop-take count (to - new) (drop at file)) ∙ ap (λ (n : ℕ). drop count (take n (drop at file))) (sym room) ∙ ap (drop count) left ∙ behind

-- a place behind which nothing is left
beyond : (file : List ℕ) (to at count new : ℕ) (front more : List ℕ) → left_of file to at ≡ front ++ more → length front ≡ count → to ≤ new → to ≤ at + count → left_of file to new ≡ more
beyond file to at count new front more left size past over =
    let most : length (left_of file to at) ≤ to - at = omega (arith, length-take (to - at) (drop at file)) in
    let none : length more ≡ 0 = omega (arith, ap length left, length-append front more, most, size, over) in
    let nothing : length (left_of file to new) ≡ 0 = omega (arith, length-take (to - new) (drop new file), past) in
    nil_from_length (left_of file to new) nothing ∙ sym (nil_from_length more none)

pub left_skip : (file : List ℕ) (to at count new : ℕ) (front more : List ℕ) → left_of file to at ≡ front ++ more → length front ≡ count → to < 2 ^ 64 → new ≡ min (at + count) (2 ^ 64 - 1) → left_of file to new ≡ more
left_skip file to at count new front more left size low is = ⊎_elim
    (λ same. within file to at count new front more left size (omega (arith, same)) (omega (arith, is, same, low)))
    (λ other. ⊎_elim (λ below. within file to at count new front more left size (omega (arith, below)) (omega (arith, is, below, low))) (λ above. beyond file to at count new front more left size (omega (arith, is, above, low)) (omega (arith, above))) other)
    (cases_order (at + count) to)

-- and a reader there
pub skipped : (before now : DiskState) (name : List ℕ) (to : ℕ) (r s : Position) (count : ℕ) (front more : List ℕ) → Stands now name to r (front ++ more) → length front ≡ count → to < 2 ^ 64 → s.at ≡ min (r.at + count) (2 ^ 64 - 1) → s.to ≡ to → s.ahead ≡ [] → Stands now name to s more
skipped before now name to r s count front more stands size low at end ahead = record {
  file = stands.file;
  can = rewound now name stands.file to r s stands.can (end ∙ sym stands.can.end) ahead;
  left = left_skip stands.file to r.at count s.at front more stands.left size low at;
}

-- texts that are left of some, of which the first ones were passed over
pub record TextsLeft (disk : DiskState) (name : List ℕ) (to : ℕ) (position : Position) (count : ℕ) (more : List ℕ) : Type 0 where
  pub texts : List (List ℕ)
  pub count_is : length texts ≡ count
  pub short : AreShort texts
  pub stands : Stands disk name to position (flat_map text_bytes texts ++ more)

-- the next one
pub record NextText (disk : DiskState) (name : List ℕ) (to : ℕ) (position : Position) (count : ℕ) (more : List ℕ) : Type 0 where
  pub text : List ℕ
  pub rest : List (List ℕ)
  pub count_is : length rest + 1 ≡ count
  pub short : length text < 2 ^ 32
  pub others : AreShort rest
  pub stands : Stands disk name to position (text_bytes text ++ (flat_map text_bytes rest ++ more))

next_at : (disk : DiskState) (name : List ℕ) (to : ℕ) (position : Position) (count : ℕ) (more : List ℕ) (texts : List (List ℕ)) → length texts ≡ count → AreShort texts → Stands disk name to position (flat_map text_bytes texts ++ more) → 0 < count → NextText disk name to position count more
next_at disk name to position count more [] is short stands some = absurd (omega (arith, is, some))
next_at disk name to position count more (text ∷ rest) is short stands some = record {
  text = text;
  rest = rest;
  count_is = omega (arith, is);
  short = short.0;
  others = short.1;
  stands = record { file = stands.file; can = stands.can; left = stands.left ∙ append_assoc (text_bytes text) (flat_map text_bytes rest) more };
}

pub next_text : (disk : DiskState) (name : List ℕ) (to : ℕ) (position : Position) (count : ℕ) (more : List ℕ) → TextsLeft disk name to position count more → 0 < count → NextText disk name to position count more
next_text disk name to position count more t some = next_at disk name to position count more t.texts t.count_is t.short t.stands some

none_at : (disk : DiskState) (name : List ℕ) (to : ℕ) (position : Position) (more : List ℕ) (texts : List (List ℕ)) → length texts ≡ 0 → Stands disk name to position (flat_map text_bytes texts ++ more) → Stands disk name to position more
none_at disk name to position more [] is stands = stands
none_at disk name to position more (text ∷ rest) is stands = absurd (omega (arith, is))

pub none_left : (disk : DiskState) (name : List ℕ) (to : ℕ) (position : Position) (count : ℕ) (more : List ℕ) → TextsLeft disk name to position count more → count ≡ 0 → Stands disk name to position more
none_left disk name to position count more t none = none_at disk name to position more t.texts (t.count_is ∙ none) t.stands
