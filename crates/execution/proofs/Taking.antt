-- What a run took of its spans.
use Rattle.std.proofs.Common.{◌≡◌, Bool, List, [], ◌++◌, map, Option, subst}
use Rattle.lp_model.specs.Outside.{Folder, Told}
use Rattle.lp_model.specs.Reading.{Format}
use Rattle.log_reading.specs.declared.span.Span.{Span}
use Rattle.log_reading.specs.declared.span.Took.{Took}
use Rattle.log_reading.specs.Spans.{AreKept, took_of}

-- a list that was empty has what was taken of each span
pub taken : (told : Option Folder) (format : Format) (waits : Bool) (slice spans : List Span) (before now : List Took)
    → slice ≡ spans → before ≡ []
    → Told told (λ folder. AreKept format waits slice folder → now ≡ before ++ map (took_of format waits folder) slice)
    → Told told (λ folder. AreKept format waits spans folder → now ≡ map (took_of format waits folder) spans)
taken told format waits slice spans before now listed none took =
    let Of : List Span → List Took → Type 0 = λ s b. Told told (λ folder. AreKept format waits s folder → now ≡ b ++ map (took_of format waits folder) s) in
    subst (λ (b : List Took). Of spans b) none (subst (λ (s : List Span). Of s before) listed took)
