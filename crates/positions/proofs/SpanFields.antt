-- The fields of a span.
use Rattle.std.proofs.Common.{◌≡◌, ℕ, true, false, List, ◌++◌, Option, Some, None, refl, sym, ◌∙◌, ap, subst, append_assoc, arith, Result}
use Rattle.std.specs.Result.{MatchResult}
use Rattle.std.specs.Prelude.{is_some}
use Rattle.lp_model.specs.Reading.{Standing}
use Rattle.disk_model.specs.Disk.{DiskState}
use Rattle.ledger_model.specs.Numbers.{number}
use Rattle.ledger_model.specs.Grammar.{IsName, name_field}
use Rattle.ledger_model.proofs.Fields.{number_law, text_law}
use Rattle.ledger.specs.declared.refused.LedgerRefused.{LedgerRefused}
use Rattle.ledger.specs.declared.refused.TextRefused.{TextRefused}
use Rattle.ledger.specs.Reader.{Position, CanRead, Gives}
use Rattle.ledger.specs.Placing.{IsOfDisk}
use Rattle.ledger.specs.Texts.{ReadsText}
use Rattle.ledger.specs.Texts.{IsNoFault as IsNoTextFault}
use Rattle.positions.specs.Stands.{Stands}
use Rattle.positions.proofs.Finds.{given, given_text, stands_as}
use Rattle.ledger_model.specs.Entries.{Span}
use Rattle.ledger_model.specs.Numbers.{u64_bytes, text_bytes}
use Rattle.ledger_model.specs.Standings.{standing_layout, IsStanding}
use Rattle.ledger_model.specs.Grammar.{span_layout}
use Rattle.line_input.specs.Fronts.{any_standing}
use Rattle.positions.specs.declared.place.Place.{Place}
use Rattle.positions.specs.Places.{IsEndOf, first_of}

parted : (a b c d e : List ℕ) → (a ++ (b ++ (c ++ d))) ++ e ≡ a ++ (b ++ (c ++ (d ++ e)))
parted a b c d e = simp append_assoc

pub span_split : (span : Span) (more : List ℕ) → span_layout.spell span ++ more ≡ text_bytes span.identity ++ (u64_bytes span.from ++ (u64_bytes span.to ++ (text_bytes span.standing ++ more)))
span_split span more = parted (text_bytes span.identity) (u64_bytes span.from) (u64_bytes span.to) (text_bytes span.standing) more

pub span_standing : (span : Span) → span_layout.Fits span → IsStanding span.to span.standing
span_standing span fits = fits.1.1.1.1

-- a standing with at most so many lines is one with any number of lines
pub fits_any : (to : ℕ) (standing : Standing) → (standing_layout to).Fits standing → any_standing.Fits standing
fits_any to standing fits = ((fits.0.0, omega (arith, fits.0.0)), fits.1)

pub ends_at : (span : Span) (place : Place) (standing : Standing) → (standing_layout span.to).Fits standing → span.standing ≡ (standing_layout span.to).spell standing → place.to ≡ span.to → place.standing ≡ standing → IsEndOf span place
ends_at span place standing fits spells to same = record {
  to_is = to;
  fits = subst (λ (s : Standing). (standing_layout span.to).Fits s) (sym same) fits;
  standing_is = spells ∙ sym (ap (standing_layout span.to).spell same);
}

-- the text that is kept stays
pub first_kept : (kept : Option (List ℕ)) (text : List ℕ) → is_some kept ≡ true → kept ≡ first_of kept text
first_kept None text e = absurd (cc)
first_kept (Some old) text e = refl

pub first_new : (kept : Option (List ℕ)) (text : List ℕ) → is_some kept ≡ false → Some text ≡ first_of kept text
first_new None text e = refl
first_new (Some old) text e = absurd (cc)

-- what stands behind its identity, its two places
abbrev pub behind_to : Span → List ℕ → List ℕ
behind_to span more = text_bytes span.standing ++ more

abbrev pub behind_from : Span → List ℕ → List ℕ
behind_from span more = u64_bytes span.to ++ behind_to span more

abbrev pub behind_name : Span → List ℕ → List ℕ
behind_name span more = u64_bytes span.from ++ behind_from span more

pub name_taken : (before now : DiskState) (name : List ℕ) (to : ℕ) (old new : Position) (span : Span) (more : List ℕ) (r : Result (List ℕ) LedgerRefused) → Gives name_field before now name old new r → span_layout.Fits span → Stands before name to old (span_layout.spell span ++ more)
    → MatchResult r (λ found. (found ≡ span.identity) × Stands now name to new (behind_name span more)) IsOfDisk
name_taken before now name to old new span more r gives fits stands =
    given name_field (text_law IsName) before now name to old new span.identity (behind_name span more) r gives fits.0 (stands_as before name to old (span_layout.spell span ++ more) (text_bytes span.identity ++ behind_name span more) (span_split span more) stands)

pub from_taken : (before now : DiskState) (name : List ℕ) (to : ℕ) (old new : Position) (span : Span) (more : List ℕ) (r : Result ℕ LedgerRefused) → Gives number before now name old new r → span_layout.Fits span → Stands before name to old (behind_name span more)
    → MatchResult r (λ found. (found ≡ span.from) × Stands now name to new (behind_from span more)) IsOfDisk
from_taken before now name to old new span more r gives fits stands = given number number_law before now name to old new span.from (behind_from span more) r gives fits.1.0 stands

pub to_taken : (before now : DiskState) (name : List ℕ) (to : ℕ) (old new : Position) (span : Span) (more : List ℕ) (r : Result ℕ LedgerRefused) → Gives number before now name old new r → span_layout.Fits span → Stands before name to old (behind_from span more)
    → MatchResult r (λ found. (found ≡ span.to) × Stands now name to new (behind_to span more)) IsOfDisk
to_taken before now name to old new span more r gives fits stands = given number number_law before now name to old new span.to (behind_to span more) r gives fits.1.1.0.0 stands

pub standing_taken : (before now : DiskState) (name : List ℕ) (to : ℕ) (old new : Position) (span : Span) (more : List ℕ) (r : Result (List ℕ) TextRefused) → ((file : List ℕ) (end : ℕ) → CanRead before name file end old → CanRead now name file end new × ReadsText file end old.at new.at r) → span_layout.Fits span
    → Stands before name to old (behind_to span more) → MatchResult r (λ found. (found ≡ span.standing) × Stands now name to new more) IsNoTextFault
standing_taken before now name to old new span more r reads fits stands = given_text before now name to old new span.standing more r reads fits.1.1.1.0 stands
