-- A standing as all of some bytes.
use Rattle.std.proofs.Common.{◌≡◌, inl, inr, ℕ, ◌+◌, ◌-◌, ◌<◌, ◌^◌, ◌==◌, true, false, List, [], ◌∷◌, ◌++◌, length, refl, sym, ◌∙◌, ap, subst, append_assoc, arith, Option}
use Rattle.std.proofs.lemmas.Bool.Decides.{nat_tests}
use Rattle.std.proofs.lemmas.List.{length-append, append-nil}
use Rattle.lp_model.specs.Reading.{Columns, Standing}
use Rattle.ledger_model.specs.Layouts.{whole}
use Rattle.ledger_model.specs.Numbers.{number, u64_bytes}
use Rattle.ledger_model.specs.Standings.{columns_field, columns_bytes}
use Rattle.ledger_model.proofs.Laws.{whole_apart}
use Rattle.ledger_model.proofs.Fields.{u64_length, standing_law}
use Rattle.line_input.specs.Fronts.{IsFront, HasBreak, any_standing}

pub lines_short : (bytes : List ℕ) → length bytes < 8 → whole any_standing bytes 0
lines_short bytes short = inl (inl (refl, λ n more fits e. omega (arith, ap length e, length-append (u64_bytes n) more, u64_length n, short)))

pub columns_broken : (bytes behind : List ℕ) (lines : ℕ) → IsFront number bytes lines behind → HasBreak columns_field behind → whole any_standing bytes 8
columns_broken bytes behind lines front broken =
    inl (inr (record { value = lines; more = behind; later = broken.place; fits = (front.fits, omega (arith, front.fits)); split = front.split; breaks = broken.breaks; place_is = omega (arith, u64_length lines, broken.breaks.0) }))

whole_split : (bytes behind rest : List ℕ) (lines : ℕ) (columns : Option Columns) → IsFront number bytes lines behind → IsFront columns_field behind columns rest → bytes ≡ any_standing.spell (record { lines = lines; columns = columns }) ++ rest
whole_split bytes behind rest lines columns front found = front.split ∙ ap (λ (t : List ℕ). u64_bytes lines ++ t) found.split ∙ sym (append_assoc (u64_bytes lines) (columns_bytes columns) rest)

pub fits_both : (bytes behind rest : List ℕ) (lines : ℕ) (columns : Option Columns) → IsFront number bytes lines behind → IsFront columns_field behind columns rest → any_standing.Fits (record { lines = lines; columns = columns })
fits_both bytes behind rest lines columns front found = ((front.fits, omega (arith, front.fits)), found.fits)

pub left_over : (bytes behind rest : List ℕ) (lines at : ℕ) (columns : Option Columns) → IsFront number bytes lines behind → IsFront columns_field behind columns rest → 0 < length rest → at ≡ length bytes - length rest → whole any_standing bytes at
left_over bytes behind rest lines at columns front found some is =
    let split = whole_split bytes behind rest lines columns front found in
    let size : length bytes ≡ length (any_standing.spell (record { lines = lines; columns = columns })) + length rest = ap length split ∙ length-append (any_standing.spell (record { lines = lines; columns = columns })) rest in
    inr (record { value = record { lines = lines; columns = columns }; more = rest; later = 0; fits = fits_both bytes behind rest lines columns front found; split = split; breaks = (refl, some); place_is = omega (arith, is, size) })

pub spelled_whole : (bytes behind rest : List ℕ) (lines : ℕ) (columns : Option Columns) → IsFront number bytes lines behind → IsFront columns_field behind columns rest → rest ≡ [] → bytes ≡ any_standing.spell (record { lines = lines; columns = columns })
spelled_whole bytes behind rest lines columns front found none =
    whole_split bytes behind rest lines columns front found ∙ ap (λ (t : List ℕ). any_standing.spell (record { lines = lines; columns = columns }) ++ t) none ∙ append-nil (any_standing.spell (record { lines = lines; columns = columns }))

-- the bytes of a standing are malformed nowhere
pub never_malformed : (bytes : List ℕ) (place : ℕ) (standing : Standing) → any_standing.Fits standing → bytes ≡ any_standing.spell standing → whole any_standing bytes place → ⊥
never_malformed bytes place standing fits is broken = whole_apart any_standing (standing_law (2 ^ 64 - 1)) standing place fits (subst (λ (t : List ℕ). whole any_standing t place) is broken)

-- and are of one standing
pub one_standing : (a b : Standing) → any_standing.Fits a → any_standing.Fits b → any_standing.spell a ≡ any_standing.spell b → a ≡ b
one_standing a b f g e = ((standing_law (2 ^ 64 - 1)).one a b [] [] f g (ap (λ (t : List ℕ). t ++ []) e)).0

pub no_bytes : (bytes : List ℕ) → length bytes == 0 ≡ true → bytes ≡ []
no_bytes [] e = refl
no_bytes (b ∷ bytes) e = absurd (grind (arith, nat_tests))

pub some_bytes : (bytes : List ℕ) → length bytes == 0 ≡ false → 0 < length bytes
some_bytes [] e = absurd (grind (arith, nat_tests))
some_bytes (b ∷ bytes) e = omega arith
