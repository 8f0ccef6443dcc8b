-- What was taken before a bad line that is one too many.
use Rattle.std.proofs.Common.{◌≡◌, ℕ, ◌+◌, Bool, List, Option, Some, None, ap, sym, ◌∙◌, arith}
use Rattle.lp_model.specs.Outside.{Folder, Told}
use Rattle.lp_model.specs.Reading.{Format}
use Rattle.log_reading.specs.Page.{Takes}
use Rattle.log_reading.specs.Spans.{AreKept, BadLine}
use Rattle.log_reading.specs.UpTo.{TakesUpTo, bad_up_to}
use Rattle.log_reading.specs.declared.page.Page.{Page}
use Rattle.log_reading.specs.declared.span.Span.{Span}
use Rattle.group_run.specs.InTurn.{IsReached}

pub reached : {T O : Type 0} (takes : Takes T O) (format : Format) (waits : Bool) (told : Option Folder) (spans : List Span) (line : BadLine) (first last : Page T) (u v : O) (most_bad : Option ℕ) → first.bad ≡ 0 → first.most_bad ≡ most_bad
    → Told told (λ folder. AreKept format waits spans folder → TakesUpTo takes format waits folder spans line first last u v)
    → Told told (λ folder. AreKept format waits spans folder → IsReached most_bad format waits folder spans line)
reached takes format waits None spans line first last u v most_bad none most taken = tt
reached takes format waits (Some folder) spans line first last u v most_bad none most taken = λ kept.
    let t = taken kept in
    let all : first.bad + bad_up_to format waits folder spans t.up ≡ bad_up_to format waits folder spans t.up = omega (arith, none) in
    record { up = t.up; next = t.next; most = sym most ∙ (t.most ∙ ap (λ (n : ℕ). Some n) all) }
