-- Values that begin with a tag, and standings.
use Rattle.std.proofs.Common.{◌≡◌, ◌≢◌, ◌⊎◌, ⊎_elim, ℕ, ◌-◌, ◌<◌, List, [], ◌∷◌, ◌++◌, length, refl, sym, ◌∙◌, ap, subst, arith, Result, Ok, Err, ℤ, Option, Some, None, Bool, ◌↔◌, lit<}
use Rattle.std.specs.Bool.{IsTrue}
use Rattle.std.specs.Result.{MatchResult}
use Rattle.lp_values.specs.declared.part.Part.{Part}
use Rattle.lp_values.specs.declared.part.Part.TheVariants.{Date, Time, Both}
use Rattle.lp_values.specs.Stamps.{IsStamp as IsStampOf}
use Rattle.ledger.specs.Written.{part_code}
use Rattle.std.specs.Int.{w64}
use Rattle.std.specs.Prelude.{FitsSigned}
use Rattle.std.proofs.lemmas.Int.{ints}
use Rattle.lp_model.specs.Reading.{Columns, Standing}
use Rattle.ledger_model.specs.Layouts.{Layout, field, viewed}
use Rattle.ledger_model.specs.Numbers.{number, u8_bytes, i64_bytes, text_bytes, text_of}
use Rattle.ledger_model.specs.Standings.{names_layout, AreColumns, columns_bytes, columns_field, standing_layout, IsStanding}
use Rattle.ledger_model.specs.Entries.{Kept, null, int, real, text, stamp}
use Rattle.ledger_model.specs.Grammar.{IsKept, IsStamp, IsMoment, kept_bytes, text_field}
use Rattle.ledger_model.proofs.Laws.{IsLawful, lawful_field}
use Rattle.ledger_model.proofs.Fields.{names_law, standing_law, signed_law}
use Rattle.ledger.specs.declared.refused.LedgerRefused.{LedgerRefused}
use Rattle.ledger.specs.declared.refused.LedgerRefused.TheVariants.{DiskFault, LedgerFault}
use Rattle.ledger.specs.declared.refused.Part2.TheVariants.{Ledger}
use Rattle.ledger.specs.Reader.{Stood, IsRead, SomeRead, IsBroken, RefusedAt, Checks, left_of, any_byte, any_word, moved_to}
use Rattle.ledger.specs.Counted.{any_signed, any_stamp, stamp_bytes, kept_field}
use Rattle.ledger.proofs.Composing.{text_refused, text_read, some_read}
use Rattle.ledger.proofs.Moving.{stood_then, stood_as}

-- values that stand as their parts do
pub checks_viewed : {A B R : Type 0} (parts : A → B) (back : B → A) (layout : Layout B) → ((b : B) → parts (back b) ≡ b) → (file : List ℕ) (to from at : ℕ) (r : Result R LedgerRefused) → Checks layout file to from at r → Checks (viewed parts layout) file to from at r
checks_viewed {A} {B} parts back layout again file to from at (Ok x) some = record {
  value = back some.value;
  read = record {
    fits = subst (λ (b : B). layout.Fits b) (sym (again some.value)) some.read.fits;
    stood = subst (λ (b : B). Stood file to from at (layout.spell b)) (sym (again some.value)) some.read.stood;
  };
}
checks_viewed parts back layout again file to from at (Err DiskFault) broken = tt
checks_viewed parts back layout again file to from at (Err (LedgerFault part place)) broken = (broken.0, record { later = broken.1.later; breaks = broken.1.breaks; at_is = broken.1.at_is })

pub refused_viewed : {A B : Type 0} (parts : A → B) (layout : Layout B) (file : List ℕ) (to from : ℕ) (refused : LedgerRefused) → RefusedAt layout file to from refused → RefusedAt (viewed parts layout) file to from refused
refused_viewed parts layout file to from DiskFault broken = tt
refused_viewed parts layout file to from (LedgerFault part place) broken = (broken.0, record { later = broken.1.later; breaks = broken.1.breaks; at_is = broken.1.at_is })

-- no value begins with what was read
tagged_broken : {A : Type 0} (Fits : A → Type 0) (spell : A → List ℕ) (file : List ℕ) (to from mid b : ℕ) → IsRead any_byte file to from mid b → ((a : A) (more : List ℕ) → Fits a → b ∷ left_of file to mid ≡ spell a ++ more → ⊥) → IsBroken (field Fits spell) file to from from
tagged_broken Fits spell file to from mid b read none = record { later = 0; breaks = (refl, λ a more fits e. none a more fits (sym read.stood.split ∙ e)); at_is = omega arith }

-- a value behind its tag
tagged_read : {A : Type 0} (Fits : A → Type 0) (spell : A → List ℕ) (file : List ℕ) (to from mid at b : ℕ) (a : A) (rest : List ℕ) → IsRead any_byte file to from mid b → Stood file to mid at rest → Fits a → spell a ≡ b ∷ rest → SomeRead (field Fits spell) file to from at
tagged_read Fits spell file to from mid at b a rest read stood fits e = record { value = a; read = record { fits = fits; stood = stood_as file to from at _ _ (sym e) (stood_then file to from mid at _ _ read.stood stood) } }

nothing : (file : List ℕ) (to at : ℕ) → Stood file to at at []
nothing file to at = record { split = refl; moved = omega arith }

-- a tag that isn't there
untagged : {A : Type 0} (Fits : A → Type 0) (spell : A → List ℕ) (file : List ℕ) (to from : ℕ) (refused : LedgerRefused) → RefusedAt any_byte file to from refused → ((a : A) → Fits a → (b : ℕ) × (rest : List ℕ) × (b < 256) × (spell a ≡ b ∷ rest)) → RefusedAt (field Fits spell) file to from refused
untagged Fits spell file to from DiskFault broken tagged = tt
untagged Fits spell file to from (LedgerFault part at) broken tagged = (
  broken.0,
  record {
    later = broken.1.later;
    breaks = (broken.1.breaks.0, λ a more fits e. let tag = tagged a fits in broken.1.breaks.1 tag.0 (tag.1 ++ more) tag.2 (e ∙ ap (λ (t : List ℕ). t ++ more) tag.3));
    at_is = broken.1.at_is;
  },
)

columns_tagged : (a : Option Columns) → AreColumns a → (b : ℕ) × (rest : List ℕ) × (b < 256) × (columns_bytes a ≡ b ∷ rest)
columns_tagged None fits = (0, [], lit< tt, refl)
columns_tagged (Some names) fits = (1, names_layout.spell names, lit< tt, refl)

pub columns_untagged : (file : List ℕ) (to from : ℕ) (refused : LedgerRefused) → RefusedAt any_byte file to from refused → RefusedAt columns_field file to from refused
columns_untagged file to from refused broken = untagged AreColumns columns_bytes file to from refused broken columns_tagged

pub columns_none : (file : List ℕ) (to from mid b : ℕ) → b ≡ 0 → IsRead any_byte file to from mid b → SomeRead columns_field file to from mid
columns_none file to from mid b zero read = tagged_read AreColumns columns_bytes file to from mid mid b None [] read (nothing file to mid) tt (ap (λ (n : ℕ). n ∷ []) (sym zero))

pub columns_some : (file : List ℕ) (to from mid at b : ℕ) → b ≡ 1 → IsRead any_byte file to from mid b → SomeRead names_layout file to mid at → SomeRead columns_field file to from at
columns_some file to from mid at b one read some = tagged_read AreColumns columns_bytes file to from mid at b (Some some.value) (names_layout.spell some.value) read some.read.stood some.read.fits (ap (λ (n : ℕ). n ∷ names_layout.spell some.value) (sym one))

columns_apart : (file : List ℕ) (to mid b later : ℕ) → b ≡ 1 → names_layout.Breaks (left_of file to mid) later → (a : Option Columns) (more : List ℕ) → AreColumns a → b ∷ left_of file to mid ≡ columns_bytes a ++ more → ⊥
columns_apart file to mid b later one breaks None more fits e = cc
columns_apart file to mid b later one breaks (Some names) more fits e =
    let rest : left_of file to mid ≡ names_layout.spell names ++ more = cc in
    names_law.apart names more later fits (subst (λ (t : List ℕ). names_layout.Breaks t later) rest breaks)

pub columns_refused : (file : List ℕ) (to from mid b : ℕ) (refused : LedgerRefused) → b ≡ 1 → IsRead any_byte file to from mid b → RefusedAt names_layout file to mid refused → RefusedAt columns_field file to from (moved_to refused from)
columns_refused file to from mid b DiskFault one read broken = tt
columns_refused file to from mid b (LedgerFault part at) one read broken = (refl, tagged_broken AreColumns columns_bytes file to from mid b read (columns_apart file to mid b broken.1.later one broken.1.breaks))

columns_other : (rest : List ℕ) (b : ℕ) → b ≢ 0 → b ≢ 1 → (a : Option Columns) (more : List ℕ) → AreColumns a → b ∷ rest ≡ columns_bytes a ++ more → ⊥
columns_other rest b zero one None more fits e = zero (cc)
columns_other rest b zero one (Some names) more fits e = one (cc)

pub columns_unknown : (file : List ℕ) (to from mid b : ℕ) → b ≢ 0 → b ≢ 1 → IsRead any_byte file to from mid b → IsBroken columns_field file to from from
columns_unknown file to from mid b zero one read = tagged_broken AreColumns columns_bytes file to from mid b read (columns_other (left_of file to mid) b zero one)

-- a standing as a text
pub standing_read : (most : ℕ) (file : List ℕ) (to from mid at n : ℕ) → IsRead any_word file to from mid n → SomeRead (standing_layout most) file to mid at → at - mid ≡ n → SomeRead (text_of (IsStanding most)) file to from at
standing_read most file to from mid at n read some size = some_read (text_of (IsStanding most)) file to from at _
    (text_read (IsStanding most) file to from mid at n ((standing_layout most).spell some.value) read some.read.stood (omega (arith, some.read.stood.moved, size)) (record { standing = some.value; fits = some.read.fits; spells = refl }))

pub standing_long : (most : ℕ) (file : List ℕ) (to from mid at n : ℕ) → IsRead any_word file to from mid n → SomeRead (standing_layout most) file to mid at → at - mid ≢ n → IsBroken (text_of (IsStanding most)) file to from from
standing_long most file to from mid at n read some differs = text_refused (IsStanding most) file to from mid n read (λ text more size is e.
    let same = (standing_law most).one some.value is.standing (left_of file to at) more some.read.fits is.fits (sym some.read.stood.split ∙ e ∙ ap (λ (t : List ℕ). t ++ more) is.spells) in
    let sizes : length ((standing_layout most).spell some.value) ≡ length text = ap (λ (s : Standing). length ((standing_layout most).spell s)) same.0 ∙ sym (ap length is.spells) in
    differs (omega (arith, some.read.stood.moved, sizes, size)))

pub standing_refused : (most : ℕ) (file : List ℕ) (to from mid n : ℕ) (refused : LedgerRefused) → IsRead any_word file to from mid n → RefusedAt (standing_layout most) file to mid refused → RefusedAt (text_of (IsStanding most)) file to from (moved_to refused from)
standing_refused most file to from mid n DiskFault read broken = tt
standing_refused most file to from mid n (LedgerFault part at) read broken = (
  refl,
  text_refused (IsStanding most) file to from mid n read (λ text more size is e.
      (standing_law most).apart is.standing more broken.1.later is.fits (subst (λ (t : List ℕ). (standing_layout most).Breaks t broken.1.later) (e ∙ ap (λ (t : List ℕ). t ++ more) is.spells) broken.1.breaks)),
)

-- stamps
stamp_fits : (b : ℕ) (z : ℤ) → IsStamp b z → FitsSigned w64 z
stamp_fits b z is = omega (arith, ints, is.low, is.high)

pub stamp_untagged : (file : List ℕ) (to from : ℕ) (refused : LedgerRefused) → RefusedAt any_byte file to from refused → RefusedAt any_stamp file to from refused
stamp_untagged file to from refused broken = untagged _ stamp_bytes file to from refused broken (λ s fits. (s.0, i64_bytes s.1, omega (arith, fits.known), refl))

pub stamp_read : (file : List ℕ) (to from mid at b : ℕ) (z : ℤ) → IsRead any_byte file to from mid b → IsRead any_signed file to mid at z → IsStamp b z → SomeRead any_stamp file to from at
stamp_read file to from mid at b z read seconds is = tagged_read _ stamp_bytes file to from mid at b (b, z) (i64_bytes z) read seconds.stood is refl

pub stamp_misfit : (file : List ℕ) (to from mid at b : ℕ) (z : ℤ) → IsRead any_byte file to from mid b → IsRead any_signed file to mid at z → (IsStamp b z → ⊥) → IsBroken any_stamp file to from from
stamp_misfit file to from mid at b z read seconds differs = tagged_broken _ stamp_bytes file to from mid b read (λ s more fits e.
    let rest : left_of file to mid ≡ i64_bytes s.1 ++ more = cc in
    let same = signed_law.one z s.1 (left_of file to at) more seconds.fits (stamp_fits s.0 s.1 fits) (sym seconds.stood.split ∙ rest) in
    let code : b ≡ s.0 = cc in
    differs (subst (λ (x : ℤ). IsStamp b x) (sym same.0) (subst (λ (n : ℕ). IsStamp n s.1) (sym code) fits)))

pub stamp_short : (file : List ℕ) (to from mid b : ℕ) (refused : LedgerRefused) → IsRead any_byte file to from mid b → RefusedAt any_signed file to mid refused → RefusedAt any_stamp file to from (moved_to refused from)
stamp_short file to from mid b DiskFault read broken = tt
stamp_short file to from mid b (LedgerFault part at) read broken = (
  refl,
  tagged_broken _ stamp_bytes file to from mid b read (λ s more fits e.
      let rest : left_of file to mid ≡ i64_bytes s.1 ++ more = cc in broken.1.breaks.1 s.1 more (stamp_fits s.0 s.1 fits) rest),
)

-- values
kept_tagged : (a : Kept) → IsKept a → (b : ℕ) × (rest : List ℕ) × (b < 256) × (kept_bytes a ≡ b ∷ rest)
kept_tagged null fits = (0, [], lit< tt, refl)
kept_tagged (int z) fits = (1, i64_bytes z, lit< tt, refl)
kept_tagged (real z) fits = (2, i64_bytes z, lit< tt, refl)
kept_tagged (text t) fits = (3, text_bytes t, lit< tt, refl)
kept_tagged (stamp p z) fits = (4, p ∷ i64_bytes z, lit< tt, refl)

pub kept_untagged : (file : List ℕ) (to from : ℕ) (refused : LedgerRefused) → RefusedAt any_byte file to from refused → RefusedAt kept_field file to from (moved_to refused from)
kept_untagged file to from DiskFault broken = tt
kept_untagged file to from (LedgerFault part at) broken =
    let here = untagged IsKept kept_bytes file to from (LedgerFault part at) broken kept_tagged in
    (refl, record { later = 0; breaks = (refl, here.1.breaks.1); at_is = omega arith })

pub kept_null : (file : List ℕ) (to from mid b : ℕ) → b ≡ 0 → IsRead any_byte file to from mid b → SomeRead kept_field file to from mid
kept_null file to from mid b is read = tagged_read IsKept kept_bytes file to from mid mid b null [] read (nothing file to mid) tt (ap (λ (n : ℕ). n ∷ []) (sym is))

pub kept_signed : (file : List ℕ) (to from mid at b : ℕ) (z : ℤ) → (b ≡ 1) ⊎ (b ≡ 2) → IsRead any_byte file to from mid b → IsRead any_signed file to mid at z → SomeRead kept_field file to from at
kept_signed file to from mid at b z is read number = ⊎_elim
    (λ one. tagged_read IsKept kept_bytes file to from mid at b (int z) (i64_bytes z) read number.stood number.fits (ap (λ (n : ℕ). n ∷ i64_bytes z) (sym one)))
    (λ two. tagged_read IsKept kept_bytes file to from mid at b (real z) (i64_bytes z) read number.stood number.fits (ap (λ (n : ℕ). n ∷ i64_bytes z) (sym two)))
    is

pub kept_text : (file : List ℕ) (to from mid at b : ℕ) → b ≡ 3 → IsRead any_byte file to from mid b → SomeRead text_field file to mid at → SomeRead kept_field file to from at
kept_text file to from mid at b is read some = tagged_read IsKept kept_bytes file to from mid at b (text some.value) (text_bytes some.value) read some.read.stood some.read.fits (ap (λ (n : ℕ). n ∷ text_bytes some.value) (sym is))

pub kept_stamp : (file : List ℕ) (to from mid at b : ℕ) → b ≡ 4 → IsRead any_byte file to from mid b → SomeRead any_stamp file to mid at → SomeRead kept_field file to from at
kept_stamp file to from mid at b is read some = tagged_read IsKept kept_bytes file to from mid at b (stamp some.value.0 some.value.1) (stamp_bytes some.value) read some.read.stood some.read.fits (ap (λ (n : ℕ). n ∷ stamp_bytes some.value) (sym is))

signed_apart : (file : List ℕ) (to mid b : ℕ) → (b ≡ 1) ⊎ (b ≡ 2) → ((z : ℤ) (more : List ℕ) → FitsSigned w64 z → left_of file to mid ≡ i64_bytes z ++ more → ⊥) → (a : Kept) (more : List ℕ) → IsKept a → b ∷ left_of file to mid ≡ kept_bytes a ++ more → ⊥
signed_apart file to mid b is none null more fits e = ⊎_elim (λ one. cc) (λ two. cc) is
signed_apart file to mid b is none (int z) more fits e = none z more fits (cc)
signed_apart file to mid b is none (real z) more fits e = none z more fits (cc)
signed_apart file to mid b is none (text t) more fits e = ⊎_elim (λ one. cc) (λ two. cc) is
signed_apart file to mid b is none (stamp p z) more fits e = ⊎_elim (λ one. cc) (λ two. cc) is

pub kept_unsigned : (file : List ℕ) (to from mid b : ℕ) (refused : LedgerRefused) → (b ≡ 1) ⊎ (b ≡ 2) → IsRead any_byte file to from mid b → RefusedAt any_signed file to mid refused → RefusedAt kept_field file to from (moved_to refused from)
kept_unsigned file to from mid b DiskFault is read broken = tt
kept_unsigned file to from mid b (LedgerFault part at) is read broken = (refl, tagged_broken IsKept kept_bytes file to from mid b read (signed_apart file to mid b is broken.1.breaks.1))

text_apart : (file : List ℕ) (to mid b : ℕ) → b ≡ 3 → ((t more : List ℕ) → text_field.Fits t → left_of file to mid ≡ text_bytes t ++ more → ⊥) → (a : Kept) (more : List ℕ) → IsKept a → b ∷ left_of file to mid ≡ kept_bytes a ++ more → ⊥
text_apart file to mid b is none null more fits e = cc
text_apart file to mid b is none (int z) more fits e = cc
text_apart file to mid b is none (real z) more fits e = cc
text_apart file to mid b is none (text t) more fits e = none t more fits (cc)
text_apart file to mid b is none (stamp p z) more fits e = cc

pub kept_untexted : (file : List ℕ) (to from mid b : ℕ) (refused : LedgerRefused) → b ≡ 3 → IsRead any_byte file to from mid b → RefusedAt text_field file to mid refused → RefusedAt kept_field file to from (moved_to refused from)
kept_untexted file to from mid b DiskFault is read broken = tt
kept_untexted file to from mid b (LedgerFault part at) is read broken = (refl, tagged_broken IsKept kept_bytes file to from mid b read (text_apart file to mid b is broken.1.breaks.1))

stamp_apart : (file : List ℕ) (to mid b : ℕ) → b ≡ 4 → ((s : ℕ × ℤ) (more : List ℕ) → any_stamp.Fits s → left_of file to mid ≡ stamp_bytes s ++ more → ⊥) → (a : Kept) (more : List ℕ) → IsKept a → b ∷ left_of file to mid ≡ kept_bytes a ++ more → ⊥
stamp_apart file to mid b is none null more fits e = cc
stamp_apart file to mid b is none (int z) more fits e = cc
stamp_apart file to mid b is none (real z) more fits e = cc
stamp_apart file to mid b is none (text t) more fits e = cc
stamp_apart file to mid b is none (stamp p z) more fits e = none (p, z) more fits (cc)

pub kept_unstamped : (file : List ℕ) (to from mid b : ℕ) (refused : LedgerRefused) → b ≡ 4 → IsRead any_byte file to from mid b → RefusedAt any_stamp file to mid refused → RefusedAt kept_field file to from (moved_to refused from)
kept_unstamped file to from mid b DiskFault is read broken = tt
kept_unstamped file to from mid b (LedgerFault part at) is read broken = (refl, tagged_broken IsKept kept_bytes file to from mid b read (stamp_apart file to mid b is broken.1.breaks.1))

kept_other : (rest : List ℕ) (b : ℕ) → 4 < b → (a : Kept) (more : List ℕ) → IsKept a → b ∷ rest ≡ kept_bytes a ++ more → ⊥
kept_other rest b high null more fits e = let is : b ≡ 0 = cc in omega arith
kept_other rest b high (int z) more fits e = let is : b ≡ 1 = cc in omega arith
kept_other rest b high (real z) more fits e = let is : b ≡ 2 = cc in omega arith
kept_other rest b high (text t) more fits e = let is : b ≡ 3 = cc in omega arith
kept_other rest b high (stamp p z) more fits e = let is : b ≡ 4 = cc in omega arith

pub kept_unknown : (file : List ℕ) (to from mid b : ℕ) → 4 < b → IsRead any_byte file to from mid b → IsBroken kept_field file to from from
kept_unknown file to from mid b high read = tagged_broken IsKept kept_bytes file to from mid b read (kept_other (left_of file to mid) b high)

-- a value's parts behind its tag
pub kept_after_signed : {R : Type 0} (file : List ℕ) (to from mid at b : ℕ) → (b ≡ 1) ⊎ (b ≡ 2) → IsRead any_byte file to from mid b → (r : Result R LedgerRefused) → Checks any_signed file to mid at r → MatchResult r (λ x. SomeRead kept_field file to from at) (λ refused. RefusedAt kept_field file to from (moved_to refused from))
kept_after_signed file to from mid at b is read (Ok x) some = kept_signed file to from mid at b some.value is read some.read
kept_after_signed file to from mid at b is read (Err e) broken = kept_unsigned file to from mid b e is read broken

pub kept_after_text : {R : Type 0} (file : List ℕ) (to from mid at b : ℕ) → b ≡ 3 → IsRead any_byte file to from mid b → (r : Result R LedgerRefused) → Checks text_field file to mid at r → MatchResult r (λ x. SomeRead kept_field file to from at) (λ refused. RefusedAt kept_field file to from (moved_to refused from))
kept_after_text file to from mid at b is read (Ok x) some = kept_text file to from mid at b is read some
kept_after_text file to from mid at b is read (Err e) broken = kept_untexted file to from mid b e is read broken

pub kept_after_stamp : {R : Type 0} (file : List ℕ) (to from mid at b : ℕ) → b ≡ 4 → IsRead any_byte file to from mid b → (r : Result R LedgerRefused) → Checks any_stamp file to mid at r → MatchResult r (λ x. SomeRead kept_field file to from at) (λ refused. RefusedAt kept_field file to from (moved_to refused from))
kept_after_stamp file to from mid at b is read (Ok x) some = kept_stamp file to from mid at b is read some
kept_after_stamp file to from mid at b is read (Err e) broken = kept_unstamped file to from mid b e is read broken

-- the stamps of values are those of entries
stamp_to : (part : Part) (z : ℤ) → IsStampOf z part → IsStamp (part_code part) z
stamp_to Date z is = record { low = is.in_years.0; high = is.in_years.1; known = lit< tt; whole_day = λ e. is.whole_day refl; first_day = λ e. absurd (omega (arith, e)) }
stamp_to Time z is = record { low = is.in_years.0; high = is.in_years.1; known = lit< tt; whole_day = λ e. absurd (omega (arith, e)); first_day = λ e. is.first_day refl }
stamp_to Both z is = record { low = is.in_years.0; high = is.in_years.1; known = lit< tt; whole_day = λ e. absurd (omega (arith, e)); first_day = λ e. absurd (omega (arith, e)) }

stamp_from : (part : Part) (z : ℤ) → IsStamp (part_code part) z → IsStampOf z part
stamp_from Date z is = record { in_years = (is.low, is.high); whole_day = λ e. is.whole_day refl; first_day = λ e. absurd (cc) }
stamp_from Time z is = record { in_years = (is.low, is.high); whole_day = λ e. absurd (cc); first_day = λ e. is.first_day refl }
stamp_from Both z is = record { in_years = (is.low, is.high); whole_day = λ e. absurd (cc); first_day = λ e. absurd (cc) }

pub same_stamp : (r : Bool) (part : Part) (code : ℕ) (z w : ℤ) → (IsTrue r ↔ IsStampOf w part) → w ≡ z → code ≡ part_code part → IsTrue r ↔ IsStamp code z
same_stamp r part code z w tells same is = (
  λ yes'. subst (λ (n : ℕ). IsStamp n z) (sym is) (stamp_to part z (subst (λ (x : ℤ). IsStampOf x part) same (tells.0 yes'))),
  λ stamp. tells.1 (subst (λ (x : ℤ). IsStampOf x part) (sym same) (stamp_from part z (subst (λ (n : ℕ). IsStamp n z) is stamp))),
)

pub kept_lost : (file : List ℕ) (to from mid b place : ℕ) (refused : LedgerRefused) → refused ≡ LedgerFault Ledger place → 4 < b → IsRead any_byte file to from mid b → RefusedAt kept_field file to from (moved_to refused from)
kept_lost file to from mid b place refused is high read = subst (λ (r : LedgerRefused). RefusedAt kept_field file to from (moved_to r from)) (sym is) (refl, kept_unknown file to from mid b high read)

byte_one : (a b : ℕ) (r s : List ℕ) → u8_bytes a ++ r ≡ u8_bytes b ++ s → (a ≡ b) × (r ≡ s)
byte_one a b r s e = (cc, cc)

pub byte_law : IsLawful any_byte
byte_law = lawful_field _ u8_bytes (λ a b r s f g e. byte_one a b r s e)

pub moment_fits : (z : ℤ) → IsMoment z → FitsSigned w64 z
moment_fits z is = omega (arith, ints, is.0, is.1)
