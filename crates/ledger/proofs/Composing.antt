-- What is read one after another, and what is refused.
use Rattle.std.proofs.Common.{◌≡◌, inl, inr, ℕ, ◌+◌, ◌<◌, ◌≤◌, ◌^◌, get_or, List, [], ◌∷◌, ◌++◌, length, refl, sym, ◌∙◌, ap, subst, append_assoc, arith, Result, Ok, Err, ℤ}
use Rattle.std.specs.Result.{IsErrAnd, MatchResult}
use Rattle.std.proofs.lemmas.List.{length-append}
use Rattle.ledger_model.specs.Layouts.{Layout, field, behind}
use Rattle.std.specs.Int.{from_le_bytes, to_le_bytes, cast_signed, cast_unsigned, w16, w32, w64}
use Rattle.std.specs.Prelude.{FitsSigned}
use Rattle.std.proofs.lemmas.Int.{ints, of_z-to_z}
use Rattle.ledger.specs.Counted.{any_signed}
use Rattle.std.proofs.lemmas.Nat.{le_bytes_2, le_bytes_4, le_bytes_8}
use Rattle.ledger_model.specs.Numbers.{number, u16_bytes, u32_bytes, u64_bytes, i64_bytes, text_of}
use Rattle.ledger_model.proofs.Laws.{IsLawful}
use Rattle.ledger_model.proofs.Fields.{u32_length, u32_one}
use Rattle.ledger.specs.declared.refused.LedgerRefused.{LedgerRefused}
use Rattle.ledger.specs.declared.refused.LedgerRefused.TheVariants.{DiskFault, LedgerFault}
use Rattle.ledger.specs.declared.refused.Part2.TheVariants.{Ledger}
use Rattle.ledger.specs.Reader.{Stood, IsRead, SomeRead, IsBroken, RefusedAt, RefusedShort, Checks, left_of, any_byte, any_word, moved_to}

-- an error that a `?` hands on
pub handed : {U E : Type 0} (r : Result U E) (e : E) (P : U → Type 0) (Q : E → Type 0) → IsErrAnd r (λ y. y ≡ e) → Q e → MatchResult r P Q
handed (Ok x) e P Q is q = absurd is
handed {U} {E} (Err y) e P Q is q = subst (λ (z : E). Q z) (sym is) q

-- too few bytes for any value of a field
pub short_field : {A : Type 0} (Fits : A → Type 0) (spell : A → List ℕ) (least : ℕ) → ((a : A) → Fits a → least ≤ length (spell a)) → (file : List ℕ) (to from : ℕ) (refused : LedgerRefused) → RefusedShort file to from least refused → RefusedAt (field Fits spell) file to from refused
short_field Fits spell least long file to from DiskFault short = tt
short_field Fits spell least long file to from (LedgerFault part at) short = (
  short.0,
  record {
    later = 0;
    breaks = (refl, λ a more fits e. omega (arith, ap length e, length-append (spell a) more, long a fits, short.2));
    at_is = omega (arith, short.1);
  },
)

-- the first of two parts is refused
pub refused_first : {A B : Type 0} (first : Layout A) (second : A → Layout B) (file : List ℕ) (to from : ℕ) (refused : LedgerRefused) → RefusedAt first file to from refused → RefusedAt (behind first second) file to from refused
refused_first first second file to from DiskFault broken = tt
refused_first first second file to from (LedgerFault part at) broken = (broken.0, record { later = broken.1.later; breaks = inl broken.1.breaks; at_is = broken.1.at_is })

-- the first is read, and the second is refused
pub refused_second : {A B : Type 0} (first : Layout A) (second : A → Layout B) (file : List ℕ) (to from mid : ℕ) (value : A) (refused : LedgerRefused) → IsRead first file to from mid value → RefusedAt (second value) file to mid refused → RefusedAt (behind first second) file to from refused
refused_second first second file to from mid value DiskFault read broken = tt
refused_second first second file to from mid value (LedgerFault part at) read broken = (
  broken.0,
  record {
    later = length (first.spell value) + broken.1.later;
    breaks = inr (record { value = value; more = left_of file to mid; later = broken.1.later; fits = read.fits; split = read.stood.split; breaks = broken.1.breaks; place_is = refl });
    at_is = omega (arith, broken.1.at_is, read.stood.moved);
  },
)

-- both are read
pub read_both : {A B : Type 0} (first : Layout A) (second : A → Layout B) (file : List ℕ) (to from mid at : ℕ) (one : A) (two : B) → IsRead first file to from mid one → IsRead (second one) file to mid at two → IsRead (behind first second) file to from at (one, two)
read_both first second file to from mid at one two f s = record {
  fits = (f.fits, s.fits);
  stood = record {
    split = f.stood.split ∙ ap (λ (t : List ℕ). first.spell one ++ t) s.stood.split ∙ sym (append_assoc (first.spell one) ((second one).spell two) (left_of file to at));
    moved = omega (arith, f.stood.moved, s.stood.moved, length-append (first.spell one) ((second one).spell two));
  };
}

-- numbers that are read
pub read_u64 : (Fits : ℕ → Type 0) (file : List ℕ) (to from at : ℕ) (bytes : List ℕ) (n : ℕ) → length bytes ≡ 8 → ((i : ℕ) → get_or bytes i 0 < 256) → n ≡ from_le_bytes w64 bytes → Fits n → Stood file to from at bytes → IsRead (field Fits u64_bytes) file to from at n
unfolding u64_bytes
read_u64 Fits file to from at bytes n size low is fits stood = record { fits = fits; stood = subst (λ (t : List ℕ). Stood file to from at t) (sym (le_bytes_8 bytes n size low is)) stood }

pub read_u32 : (Fits : ℕ → Type 0) (file : List ℕ) (to from at : ℕ) (bytes : List ℕ) (n : ℕ) → length bytes ≡ 4 → ((i : ℕ) → get_or bytes i 0 < 256) → n ≡ from_le_bytes w32 bytes → Fits n → Stood file to from at bytes → IsRead (field Fits u32_bytes) file to from at n
unfolding u32_bytes
read_u32 Fits file to from at bytes n size low is fits stood = record { fits = fits; stood = subst (λ (t : List ℕ). Stood file to from at t) (sym (le_bytes_4 bytes n size low is)) stood }

pub read_u16 : (Fits : ℕ → Type 0) (file : List ℕ) (to from at : ℕ) (bytes : List ℕ) (n : ℕ) → length bytes ≡ 2 → ((i : ℕ) → get_or bytes i 0 < 256) → n ≡ from_le_bytes w16 bytes → Fits n → Stood file to from at bytes → IsRead (field Fits u16_bytes) file to from at n
unfolding u16_bytes
read_u16 Fits file to from at bytes n size low is fits stood = record { fits = fits; stood = subst (λ (t : List ℕ). Stood file to from at t) (sym (le_bytes_2 bytes n size low is)) stood }

-- a value that is read, of a narrower kind
pub narrowed : {A : Type 0} (Wide Fits : A → Type 0) (spell : A → List ℕ) (file : List ℕ) (to from at : ℕ) (value : A) → IsRead (field Wide spell) file to from at value → Fits value → IsRead (field Fits spell) file to from at value
narrowed Wide Fits spell file to from at value read fits = record { fits = fits; stood = read.stood }

-- a value that is read and isn't of a narrower kind
pub misfit : {A : Type 0} (Wide Fits : A → Type 0) (spell : A → List ℕ) → IsLawful (field Wide spell) → ((a : A) → Fits a → Wide a) → (file : List ℕ) (to from at : ℕ) (value : A) → IsRead (field Wide spell) file to from at value → (Fits value → ⊥) → IsBroken (field Fits spell) file to from from
misfit {A} Wide Fits spell law wider file to from at value read unfit = record {
  later = 0;
  breaks = (
    refl,
    λ a more fits e.
        let same = law.one value a (left_of file to at) more read.fits (wider a fits) (sym read.stood.split ∙ e) in
        unfit (subst (λ (x : A). Fits x) (sym same.0) fits),
  );
  at_is = omega arith;
}

-- the field of a narrower kind is refused where one of the wider kind is
pub refused_narrower : {A : Type 0} (Wide Fits : A → Type 0) (spell : A → List ℕ) → ((a : A) → Fits a → Wide a) → (file : List ℕ) (to from : ℕ) (refused : LedgerRefused) → RefusedAt (field Wide spell) file to from refused → RefusedAt (field Fits spell) file to from refused
refused_narrower Wide Fits spell wider file to from DiskFault broken = tt
refused_narrower Wide Fits spell wider file to from (LedgerFault part at) broken = (broken.0, record { later = broken.1.later; breaks = (broken.1.breaks.0, λ a more fits e. broken.1.breaks.1 a more (wider a fits) e); at_is = broken.1.at_is })

one_byte : (bytes : List ℕ) → length bytes ≡ 1 → bytes ≡ get_or bytes 0 0 ∷ []
one_byte [] e = absurd (omega (arith, e))
one_byte (b ∷ []) e = refl
one_byte (b ∷ d ∷ bytes) e = absurd (omega (arith, e))

pub read_u8 : (file : List ℕ) (to from at : ℕ) (bytes : List ℕ) (n : ℕ) → length bytes ≡ 1 → n ≡ get_or bytes 0 0 → get_or bytes 0 0 < 256 → Stood file to from at bytes → IsRead any_byte file to from at n
read_u8 file to from at bytes n size is low stood = record { fits = omega (arith, is, low); stood = subst (λ (t : List ℕ). Stood file to from at t) (one_byte bytes size ∙ ap (λ (k : ℕ). k ∷ []) (sym is)) stood }

-- a text of such a length doesn't stand behind its length
pub text_refused : (Is : List ℕ → Type 0) (file : List ℕ) (to from mid n : ℕ) → IsRead any_word file to from mid n → ((text more : List ℕ) → length text ≡ n → Is text → left_of file to mid ≡ text ++ more → ⊥) → IsBroken (text_of Is) file to from from
text_refused Is file to from mid n read none = record {
  later = 0;
  breaks = (
    refl,
    λ text more fits e.
        let apart = sym read.stood.split ∙ e ∙ append_assoc (u32_bytes (length text)) text more in
        let front = u32_one n (length text) (left_of file to mid) (text ++ more) read.fits fits.0 apart in
        none text more (sym front.0) fits.1 front.1,
  );
  at_is = omega arith;
}

-- a text that stands there
pub text_read : (Is : List ℕ → Type 0) (file : List ℕ) (to from mid at n : ℕ) (text : List ℕ) → IsRead any_word file to from mid n → Stood file to mid at text → length text ≡ n → Is text → IsRead (text_of Is) file to from at text
text_read Is file to from mid at n text read stood size is = record {
  fits = (omega (arith, size, read.fits), is);
  stood = record {
    split = read.stood.split ∙ ap (λ (k : ℕ). u32_bytes k ++ left_of file to mid) (sym size) ∙ ap (λ (t : List ℕ). u32_bytes (length text) ++ t) stood.split ∙ sym (append_assoc (u32_bytes (length text)) text (left_of file to at));
    moved = omega (arith, read.stood.moved, stood.moved, length-append (u32_bytes (length text)) text, u32_length n, u32_length (length text));
  };
}

-- a text whose length isn't there
pub text_unsized : (Is : List ℕ → Type 0) (file : List ℕ) (to from : ℕ) (refused : LedgerRefused) → RefusedAt any_word file to from refused → RefusedAt (text_of Is) file to from refused
text_unsized Is file to from DiskFault broken = tt
text_unsized Is file to from (LedgerFault part at) broken = (
  broken.0,
  record {
    later = broken.1.later;
    breaks = (broken.1.breaks.0, λ text more fits e. broken.1.breaks.1 (length text) (text ++ more) fits.0 (e ∙ append_assoc (u32_bytes (length text)) text more));
    at_is = broken.1.at_is;
  },
)

-- a text whose bytes aren't all there
pub text_short : (Is : List ℕ → Type 0) (file : List ℕ) (to from mid n : ℕ) (refused : LedgerRefused) → IsRead any_word file to from mid n → RefusedShort file to mid n refused → RefusedAt (text_of Is) file to from (moved_to refused from)
text_short Is file to from mid n DiskFault read short = tt
text_short Is file to from mid n (LedgerFault part at) read short = (refl, text_refused Is file to from mid n read (λ text more size is e. omega (arith, short.2, ap length e, length-append text more, size)))

-- a refusal at the place where a field begins
pub refused_here : {A : Type 0} (layout : Layout A) (file : List ℕ) (to from place : ℕ) (refused : LedgerRefused) → refused ≡ LedgerFault Ledger place → place ≡ from → IsBroken layout file to from from → RefusedAt layout file to from refused
refused_here layout file to from place refused is here broken = subst (λ (r : LedgerRefused). RefusedAt layout file to from r) (sym is) (refl, subst (λ (n : ℕ). IsBroken layout file to from n) (sym here) broken)

-- and one that is moved there
pub refused_moved : {A : Type 0} (layout : Layout A) (file : List ℕ) (to from place : ℕ) (inner refused : LedgerRefused) → refused ≡ moved_to inner place → place ≡ from → RefusedAt layout file to from (moved_to inner from) → RefusedAt layout file to from refused
refused_moved layout file to from place inner refused is here broken = subst (λ (r : LedgerRefused). RefusedAt layout file to from r) (sym (is ∙ ap (moved_to inner) here)) broken

pub some_read : {A : Type 0} (layout : Layout A) (file : List ℕ) (to from at : ℕ) (value : A) → IsRead layout file to from at value → SomeRead layout file to from at
some_read layout file to from at value read = record { value = value; read = read }

-- the first part is read, and the second one is looked at last
pub checks_behind : {A B R : Type 0} (first : Layout A) (second : A → Layout B) (file : List ℕ) (to from mid at : ℕ) (value : A) → IsRead first file to from mid value → (r : Result R LedgerRefused) → Checks (second value) file to mid at r → Checks (behind first second) file to from at r
checks_behind first second file to from mid at value read (Ok x) some = some_read (behind first second) file to from at (value, some.value) (read_both first second file to from mid at value some.value read some.read)
checks_behind first second file to from mid at value read (Err e) broken = refused_second first second file to from mid value e read broken

signed_fits : (n : ℕ) → n < 2 ^ 64 → FitsSigned w64 (cast_signed w64 n)
signed_fits n fits = omega (arith, ints)

-- a number with a sign, by its bits
pub signed_read : (file : List ℕ) (to from at n : ℕ) (z : ℤ) → z ≡ cast_signed w64 n → IsRead number file to from at n → IsRead any_signed file to from at z
unfolding i64_bytes u64_bytes
signed_read file to from at n z is read =
    let back : cast_unsigned w64 z ≡ n = ap (cast_unsigned w64) is ∙ of_z-to_z w64 n read.fits in
    record {
      fits = subst (λ (x : ℤ). FitsSigned w64 x) (sym is) (signed_fits n read.fits);
      stood = subst (λ (k : ℕ). Stood file to from at (to_le_bytes w64 k)) (sym back) read.stood;
    }

bits_fit : (z : ℤ) → FitsSigned w64 z → cast_unsigned w64 z < 2 ^ 64
bits_fit z fits = omega (arith, ints)

pub signed_refused : (file : List ℕ) (to from : ℕ) (refused : LedgerRefused) → RefusedAt number file to from refused → RefusedAt any_signed file to from refused
unfolding i64_bytes u64_bytes
signed_refused file to from DiskFault broken = tt
signed_refused file to from (LedgerFault part at) broken = (
  broken.0,
  record {
    later = broken.1.later;
    breaks = (broken.1.breaks.0, λ z more fits e. broken.1.breaks.1 (cast_unsigned w64 z) more (bits_fit z fits) e);
    at_is = broken.1.at_is;
  },
)
