-- What is read where it is known what stands there.
use Rattle.std.specs.Result.{IsErrOf}
use Rattle.std.proofs.Common.{◌≡◌, ℕ, ◌+◌, ◌<◌, ◌^◌, Result, Ok, Err, zero, suc, List, [], ◌∷◌, ◌++◌, length, take, drop, Some, ℤ, refl, sym, ◌∙◌, ap, subst, arith, append_assoc}
use Rattle.std.specs.Prelude.{slice_get, FitsSigned}
use Rattle.std.specs.Int.{w64}
use Rattle.std.proofs.lemmas.Int.{ints}
use Rattle.std.proofs.lemmas.List.{append-nil}
use Rattle.ledger_model.specs.Entries.{Entry, Output, Span, Kept}
use Rattle.ledger_model.specs.Layouts.{Layout, AllFit, spelled}
use Rattle.ledger_model.specs.Numbers.{u8_bytes, u32_bytes, u64_bytes, number, text_bytes}
use Rattle.ledger_model.specs.Grammar.{IsEntry, payload_of, IsMoment, texts_layout, kept_layout, output_layout, counts_layout, name_field}
use Rattle.ledger_model.proofs.Laws.{IsLawful, lawful_field, lawful_behind, same_fronts}
use Rattle.ledger_model.proofs.Fields.{u32_one, number_law, text_law, signed_law, texts_law, kept_parts_law}
use Rattle.disk_model.specs.Disk.{DiskState}
use Rattle.ledger.specs.Reader.{Position, Holds, CanRead, IsRead, SomeRead, RefusedAt, left_of, any_byte, any_word}
use Rattle.ledger.specs.Counted.{any_signed}
use Rattle.ledger.specs.Placing.{place_layout, place_at}
use Rattle.ledger.proofs.Comparing.{place_law}
use Rattle.lp_outside.specs.declared.stage.Mark.{Mark}
use Rattle.ledger.specs.Outputs.{loose_head, loose_front, HoldsEntry, Cursor, StandsBefore}
use Rattle.ledger.specs.declared.refused.LedgerRefused.{LedgerRefused}
use Rattle.ledger.specs.declared.refused.LedgerRefused.TheVariants.{LedgerFault}
use Rattle.ledger.specs.declared.refused.Part2.{Part2}

-- a value that is read is the one that stands there
pub read_it : {A : Type 0} (layout : Layout A) → IsLawful layout → (file : List ℕ) (to from at : ℕ) (value wanted : A) (more : List ℕ) → layout.Fits wanted → left_of file to from ≡ layout.spell wanted ++ more → IsRead layout file to from at value
    → (value ≡ wanted) × (left_of file to at ≡ more)
read_it layout law file to from at value wanted more fits stands read = law.one value wanted (left_of file to at) more read.fits fits (sym read.stood.split ∙ stands)

pub looked_at : {A : Type 0} (layout : Layout A) → IsLawful layout → (file : List ℕ) (to from at : ℕ) (wanted : A) (more : List ℕ) → layout.Fits wanted → left_of file to from ≡ layout.spell wanted ++ more → SomeRead layout file to from at → left_of file to at ≡ more
looked_at layout law file to from at wanted more fits stands some = (read_it layout law file to from at some.value wanted more fits stands some.read).1

-- and nothing is refused there
pub not_refused : {A : Type 0} (layout : Layout A) → IsLawful layout → (file : List ℕ) (to from : ℕ) (wanted : A) (more : List ℕ) → layout.Fits wanted → left_of file to from ≡ layout.spell wanted ++ more
    → (part : Part2) (p : ℕ) → RefusedAt layout file to from (LedgerFault part p) → ⊥
not_refused layout law file to from wanted more fits stands part p refused =
    law.apart wanted more refused.1.later fits (subst (λ (b : List ℕ). layout.Breaks b refused.1.later) stands refused.1.breaks)

byte_law : IsLawful any_byte
byte_law = lawful_field _ u8_bytes (λ a b r s f g e. let one = same_fronts (a ∷ []) (b ∷ []) r s refl e in (cc, one.1))

pub word_law : IsLawful any_word
word_law = lawful_field _ u32_bytes (λ a b r s f g e. u32_one a b r s f g e)

pub front_law : IsLawful loose_front
front_law = lawful_behind loose_head _ (lawful_behind any_byte _ byte_law (λ form f. lawful_behind any_signed _ signed_law (λ moment m. text_law _))) (λ head h. lawful_behind texts_layout _ texts_law (λ texts t. kept_parts_law))

abbrev pub front_parts : Entry → (ℕ × (ℤ × List ℕ)) × ((List (List ℕ) × (List ℕ × List ℕ)) × (List Span × List (List Kept)))
front_parts entry = ((entry.form, (entry.moment, entry.input)), ((entry.words, (entry.query, entry.template)), (entry.spans, entry.lists)))

signed_fits : (moment : ℤ) → IsMoment moment → FitsSigned w64 moment
signed_fits moment is = omega (arith, ints)

pub front_fits : (entry : Entry) → IsEntry entry → loose_front.Fits (front_parts entry)
front_fits entry is =
    let f = is.fits in
    ((omega (arith, f.0.0), (signed_fits entry.moment f.0.1.0, (f.0.1.1.0, tt))), (f.1.0, f.1.1.0))

-- the payload up to the stage's length, and what stands behind it
abbrev pub behind_front : Entry → List ℕ
behind_front entry = u64_bytes entry.staged ++ (u32_bytes (length entry.outputs) ++ (spelled output_layout [] entry.outputs ++ counts_layout.spell (entry.processed, (entry.output, entry.bad))))

pub front_split : (entry : Entry) → payload_of entry ≡ loose_front.spell (front_parts entry) ++ behind_front entry
unfolding payload_of
front_split entry =
    let head = loose_head.spell (front_parts entry).0 in
    let texts = texts_layout.spell (entry.words, (entry.query, entry.template)) in
    let kept = kept_layout.spell (entry.spans, entry.lists) in
    ap (λ (l : List ℕ). head ++ (texts ++ (kept ++ (u64_bytes entry.staged ++ l)))) (append_assoc (u32_bytes (length entry.outputs)) (spelled output_layout [] entry.outputs) (counts_layout.spell (entry.processed, (entry.output, entry.bad))))
    ∙ ap (λ (l : List ℕ). head ++ l) (sym (append_assoc texts kept (behind_front entry)))
    ∙ sym (append_assoc head (texts ++ kept) (behind_front entry))

-- a reader at its start
pub can_start : (disk : DiskState) (ledger : List ℕ) (from to : ℕ) (position : Position) → disk.tells → position.at ≡ from → position.to ≡ to → position.ahead ≡ [] → CanRead disk ledger (disk.seen ledger) to position
can_start disk ledger from to position tells at end ahead = record {
  holds = record { tells = tells; seen = refl };
  end = end;
  ahead = ahead ∙ sym (ap (λ (l : List ℕ). take (length l) (drop position.at (disk.seen ledger))) ahead);
  within = omega (arith, ap length ahead);
}

-- of a file that is known
pub can_at : (disk : DiskState) (ledger file : List ℕ) (to : ℕ) (position : Position) → Holds disk ledger file → position.to ≡ to → position.ahead ≡ [] → CanRead disk ledger file to position
can_at disk ledger file to position holds end ahead = record {
  holds = holds;
  end = end;
  ahead = ahead ∙ sym (ap (λ (l : List ℕ). take (length l) (drop position.at file)) ahead);
  within = omega (arith, ap length ahead);
}

-- the output at a place of the list
pub record AtOutput (outputs : List Output) (k : ℕ) : Type 0 where
  pub output : Output
  pub is : slice_get outputs k ≡ Some output
  pub split : drop k outputs ≡ output ∷ drop (k + 1) outputs
  pub front : take (k + 1) outputs ≡ take k outputs ++ output ∷ []

pub at_output : (outputs : List Output) (k : ℕ) → k < length outputs → AtOutput outputs k
at_output [] k less = absurd (omega (arith, less))
at_output (x ∷ xs) zero less = record { output = x; is = refl; split = refl; front = refl }
at_output (x ∷ xs) (suc k) less =
    let rest = at_output xs k (omega (arith, less)) in
    record { output = rest.output; is = rest.is; split = rest.split ∙ ap (λ (n : ℕ). rest.output ∷ drop n (x ∷ xs)) (sym more); front = ap (λ (n : ℕ). take n (x ∷ xs)) more ∙ ap (λ (l : List Output). x ∷ l) rest.front }
  where
    more : suc k + 1 ≡ suc (k + 1)
    more = omega arith

fit_at : (before outputs : List Output) (k : ℕ) (o : Output) → AllFit output_layout before outputs → slice_get outputs k ≡ Some o → (output_layout (before ++ take k outputs)).Fits o
fit_at before [] k o fit at = absurd (none k o at)
  where
    none : (k : ℕ) (o : Output) → slice_get [] k ≡ Some o → ⊥
    none zero o at = cc
    none (suc k) o at = cc
fit_at before (x ∷ xs) zero o fit at = let same : x ≡ o = cc in subst (λ (b : List Output). (output_layout b).Fits o) (sym (append-nil before)) (subst (λ (p : Output). (output_layout before).Fits p) same fit.0)
fit_at before (x ∷ xs) (suc k) o fit at = subst (λ (b : List Output). (output_layout b).Fits o) (append_assoc before (x ∷ []) (take k xs)) (fit_at (before ++ x ∷ []) xs k o fit.1 at)

pub output_fits : (entry : Entry) (k : ℕ) (o : Output) → IsEntry entry → slice_get entry.outputs k ≡ Some o → (output_layout (take k entry.outputs)).Fits o
output_fits entry k o is at = fit_at [] entry.outputs k o is.fits.1.1.1.1.0.1 at

-- the bytes of an output: its name, and where its text stands
pub output_stands : (outputs : List Output) (k : ℕ) (is : AtOutput outputs k) (more bytes : List ℕ) → bytes ≡ spelled output_layout (take k outputs) (drop k outputs) ++ more
    → bytes ≡ text_bytes is.output.name ++ (place_layout.spell (is.output.base, (is.output.size, is.output.last)) ++ (spelled output_layout (take (k + 1) outputs) (drop (k + 1) outputs) ++ more))
output_stands outputs k is more bytes stands =
    let o = is.output in
    let later = spelled output_layout (take (k + 1) outputs) (drop (k + 1) outputs) in
    let name = text_bytes o.name in
    let place = place_layout.spell (o.base, (o.size, o.last)) in
    stands
    ∙ ap (λ (l : List Output). spelled output_layout (take k outputs) l ++ more) is.split
    ∙ ap (λ (b : List Output). ((name ++ place) ++ spelled output_layout b (drop (k + 1) outputs)) ++ more) (sym is.front)
    ∙ append_assoc (name ++ place) later more
    ∙ append_assoc name place (later ++ more)

abbrev refused_of : {T E : Type 0} → E → Result T E → E
refused_of d (Ok x) = d
refused_of d (Err e) = e

pub stops : {A T : Type 0} (layout : Layout A) → IsLawful layout → (file : List ℕ) (to from : ℕ) (wanted : A) (more : List ℕ) → layout.Fits wanted → left_of file to from ≡ layout.spell wanted ++ more
    → (refused : LedgerRefused) (part : Part2) (p : ℕ) → IsErrOf {T = T} {E = LedgerRefused} (Err refused) (LedgerFault part p) → RefusedAt layout file to from refused → ⊥
stops layout law file to from wanted more fits stands refused part p is at =
    not_refused layout law file to from wanted more fits stands part p (subst (RefusedAt layout file to from) (ap (refused_of refused) is) at)

-- the front of a list that has none
zero_front : (outputs : List Output) (more : List ℕ) → spelled output_layout (take 0 outputs) (drop 0 outputs) ++ more ≡ spelled output_layout [] outputs ++ more
zero_front [] more = refl
zero_front (x ∷ xs) more = refl

abbrev pub counts_bytes : Entry → List ℕ
counts_bytes entry = counts_layout.spell (entry.processed, (entry.output, entry.bad))

-- where an entry's payload stands
module _ (disk : DiskState) (ledger : List ℕ) (from to : ℕ) (entry : Entry) (position : Position) (holds : HoldsEntry disk ledger from to entry) (at : position.at ≡ from) (end : position.to ≡ to) (ahead : position.ahead ≡ []) where
  pub can_find : CanRead disk ledger (disk.seen ledger) to position
  can_find = can_start disk ledger from to position holds.tells at end ahead

  pub front_stands : left_of (disk.seen ledger) to position.at ≡ loose_front.spell (front_parts entry) ++ behind_front entry
  front_stands = ap (left_of (disk.seen ledger) to) at ∙ holds.stands ∙ front_split entry

  pub behind_stands : (place : ℕ) → SomeRead loose_front (disk.seen ledger) to position.at place → left_of (disk.seen ledger) to place ≡ behind_front entry
  behind_stands place some = looked_at loose_front front_law (disk.seen ledger) to position.at place (front_parts entry) (behind_front entry) (front_fits entry holds.is_entry) front_stands some

  pub staged_found : (place next staged : ℕ) → SomeRead loose_front (disk.seen ledger) to position.at place → IsRead number (disk.seen ledger) to place next staged
      → (staged ≡ entry.staged) × (left_of (disk.seen ledger) to next ≡ u32_bytes (length entry.outputs) ++ (spelled output_layout [] entry.outputs ++ counts_bytes entry))
  staged_found place next staged some read =
      read_it number number_law (disk.seen ledger) to place next staged entry.staged (u32_bytes (length entry.outputs) ++ (spelled output_layout [] entry.outputs ++ counts_bytes entry)) holds.is_entry.fits.1.1.1.0 (behind_stands place some) read

  count_fits : length entry.outputs < 2 ^ 32
  count_fits = omega (arith, holds.is_entry.fits.1.1.1.1.0.0)

  pub count_found : (place next last staged count : ℕ) → SomeRead loose_front (disk.seen ledger) to position.at place → IsRead number (disk.seen ledger) to place next staged → IsRead any_word (disk.seen ledger) to next last count
      → (count ≡ length entry.outputs) × (left_of (disk.seen ledger) to last ≡ spelled output_layout [] entry.outputs ++ counts_bytes entry)
  count_found place next last staged count some read word =
      read_it any_word word_law (disk.seen ledger) to next last count (length entry.outputs) (spelled output_layout [] entry.outputs ++ counts_bytes entry) count_fits (staged_found place next staged some read).1 word

  pub no_front : (T : Type 0) (refused : LedgerRefused) (part : Part2) (p : ℕ) → IsErrOf {T = T} {E = LedgerRefused} (Err refused) (LedgerFault part p) → RefusedAt loose_front (disk.seen ledger) to position.at refused → ⊥
  no_front T refused part p is = stops {T = T} loose_front front_law (disk.seen ledger) to position.at (front_parts entry) (behind_front entry) (front_fits entry holds.is_entry) front_stands refused part p is

  pub no_staged : (T : Type 0) (place : ℕ) → SomeRead loose_front (disk.seen ledger) to position.at place → (refused : LedgerRefused) (part : Part2) (p : ℕ) → IsErrOf {T = T} {E = LedgerRefused} (Err refused) (LedgerFault part p) → RefusedAt number (disk.seen ledger) to place refused → ⊥
  no_staged T place some refused part p is = stops {T = T} number number_law (disk.seen ledger) to place entry.staged (u32_bytes (length entry.outputs) ++ (spelled output_layout [] entry.outputs ++ counts_bytes entry)) holds.is_entry.fits.1.1.1.0 (behind_stands place some) refused part p is

  pub no_count : (T : Type 0) (place next staged : ℕ) → SomeRead loose_front (disk.seen ledger) to position.at place → IsRead number (disk.seen ledger) to place next staged → (refused : LedgerRefused) (part : Part2) (p : ℕ) → IsErrOf {T = T} {E = LedgerRefused} (Err refused) (LedgerFault part p) → RefusedAt any_word (disk.seen ledger) to next refused → ⊥
  no_count T place next staged some read refused part p is = stops {T = T} any_word word_law (disk.seen ledger) to next (length entry.outputs) (spelled output_layout [] entry.outputs ++ counts_bytes entry) count_fits (staged_found place next staged some read).1 refused part p is

  pub found_all : (now : DiskState) (place next staged : ℕ) (cursor : Cursor) → SomeRead loose_front (disk.seen ledger) to position.at place → IsRead number (disk.seen ledger) to place next staged → IsRead any_word (disk.seen ledger) to next cursor.position.at cursor.count
      → CanRead now ledger (disk.seen ledger) to cursor.position → cursor.staged ≡ staged → (cursor.staged ≡ entry.staged) × (cursor.count ≡ length entry.outputs) × StandsBefore now ledger entry 0 cursor
  found_all now place next staged cursor some read word can same =
      let all = count_found place next cursor.position.at staged cursor.count some read word in (
        same ∙ (staged_found place next staged some read).0,
        all.0,
        record { is_entry = holds.is_entry; file = disk.seen ledger; to = to; can = can; more = counts_bytes entry; left = all.1 ∙ sym (zero_front entry.outputs (counts_bytes entry)) },
      )

-- where an output stands
module _ (disk : DiskState) (ledger : List ℕ) (entry : Entry) (k : ℕ) (cursor : Cursor) (b : StandsBefore disk ledger entry k cursor) (less : k < length entry.outputs) (position : Position) (same : position ≡ cursor.position) where
  pub it : AtOutput entry.outputs k
  it = at_output entry.outputs k less

  fits : (output_layout (take k entry.outputs)).Fits it.output
  fits = output_fits entry k it.output b.is_entry it.is

  later : List ℕ
  later = spelled output_layout (take (k + 1) entry.outputs) (drop (k + 1) entry.outputs) ++ b.more

  pub can_take : CanRead disk ledger b.file b.to position
  can_take = subst (CanRead disk ledger b.file b.to) (sym same) b.can

  name_stands : left_of b.file b.to position.at ≡ text_bytes it.output.name ++ (place_layout.spell (it.output.base, (it.output.size, it.output.last)) ++ (spelled output_layout (take (k + 1) entry.outputs) (drop (k + 1) entry.outputs) ++ b.more))
  name_stands = output_stands entry.outputs k it b.more (left_of b.file b.to position.at) (ap (λ (p : Position). left_of b.file b.to p.at) same ∙ b.left)

  -- the name, and then the place
  pub name_taken : (place : ℕ) (name : List ℕ) → IsRead name_field b.file b.to position.at place name
      → (name ≡ it.output.name) × (left_of b.file b.to place ≡ place_layout.spell (it.output.base, (it.output.size, it.output.last)) ++ (spelled output_layout (take (k + 1) entry.outputs) (drop (k + 1) entry.outputs) ++ b.more))
  name_taken place name read = read_it name_field (text_law _) b.file b.to position.at place name it.output.name _ (fits.0.0, fits.0.1.0) name_stands read

  pub no_name : (T : Type 0) (refused : LedgerRefused) (part : Part2) (p : ℕ) → IsErrOf {T = T} {E = LedgerRefused} (Err refused) (LedgerFault part p) → RefusedAt name_field b.file b.to position.at refused → ⊥
  no_name T refused part p is = stops {T = T} name_field (text_law _) b.file b.to position.at it.output.name _ (fits.0.0, fits.0.1.0) name_stands refused part p is

  pub no_place : (T : Type 0) (place : ℕ) (name : List ℕ) → IsRead name_field b.file b.to position.at place name → (refused : LedgerRefused) (part : Part2) (p : ℕ) → IsErrOf {T = T} {E = LedgerRefused} (Err refused) (LedgerFault part p) → RefusedAt place_layout b.file b.to place refused → ⊥
  no_place T place name read refused part p is = stops {T = T} place_layout place_law b.file b.to place (it.output.base, (it.output.size, it.output.last)) _ fits.1 (name_taken place name read).1 refused part p is

  pub taken_all : (now : DiskState) (place : ℕ) (name : List ℕ) (base : ℕ) (mark : Mark) (after : Cursor) → IsRead name_field b.file b.to position.at place name → IsRead place_layout b.file b.to place after.position.at (place_at base mark) → CanRead now ledger b.file b.to after.position
      → (slice_get entry.outputs k ≡ Some (record { name = name; base = base; size = mark.length; last = mark.last })) × StandsBefore now ledger entry (k + 1) after
  taken_all now place name base mark after read placed can =
      let names = name_taken place name read in
      let all = read_it place_layout place_law b.file b.to place after.position.at (place_at base mark) (it.output.base, (it.output.size, it.output.last)) _ fits.1 names.1 placed in (
        it.is ∙ (λ i. Some (record { name = sym names.0 i; base = (sym all.0 i).0; size = (sym all.0 i).1.0; last = (sym all.0 i).1.1 })),
        record { is_entry = b.is_entry; file = b.file; to = b.to; can = can; more = b.more; left = all.1 },
      )
