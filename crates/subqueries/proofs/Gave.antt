-- What subqueries gave, one behind the other, while their logs grow.
use Rattle.std.proofs.Common.{◌≡◌, ◌∙◌, ◌+◌, ℕ, ℤ, List, [], ◌∷◌, ◌++◌, length, Option, Some, None, unwrap_or, refl, ap, subst, arith, append_assoc}
use Rattle.std.proofs.lemmas.List.Sums.{sum_by-append}
use Rattle.grammar.specs.Filled.{PlacedGiven}
use Rattle.grammar.specs.Trees.{Given, Query}
use Rattle.lp_model.specs.Outside.{Folder, OnlyGrow, Told}
use Rattle.lp_model.proofs.Growing.{OnlyGrow-trans}
use Rattle.lp_values.specs.declared.value.Value.{Value}
use Rattle.command_words.specs.declared.spec.Spec.{Spec}
use Rattle.checkpoint.specs.Wholes.{whole_spans}
use Rattle.execution.specs.declared.formats.LogFormat.{LogFormat}
use Rattle.execution.specs.Formats.{lines_in}
use Rattle.log_reading.specs.Page.{IsTooMany}
use Rattle.log_reading.specs.Spans.{BadLine, bad_line, spans_bad_lines}
use Rattle.subqueries.specs.declared.fault.SubqueryFault.{SubqueryFault}
use Rattle.subqueries.specs.declared.fault.SubqueryFault.TheVariants as F
use Rattle.subqueries.specs.Giving.{AddsGiven, AllGive, Gives, bad_of}
use Rattle.subqueries.specs.Listing.{lines_wait}
use Rattle.subqueries.specs.Reading.{ClashesBehind, ReadsOne}
use Rattle.subqueries.specs.Refusing.{IsClash, IsExceeded, IsLeft, IsRefusedOne, IsRefusedWith, IsUngivenIn, IsUnplanned, StopsBehind}
use Rattle.subqueries.proofs.Read.{all_none, first_then}
use Rattle.subqueries.proofs.Wholes.{listed_earlier}

none_many : (most : Option ℕ) (n : ℕ) → most ≡ None → most ≡ Some n → ⊥
none_many most n none some = cc

module _ (format : LogFormat) (spec : Spec) (moment : ℤ) where
  gives_later : (before mid now : Option Folder) (q : Query) (given : Given) (list : List Value) → OnlyGrow mid now → Gives format spec moment before mid q given list → Gives format spec moment before now q given list
  gives_later before mid now q given list grow g = record {
    seen = g.seen;
    later = OnlyGrow-trans g.seen mid now g.later grow;
    logs = g.logs;
    are_listed = g.are_listed;
    free = g.free;
    names = g.names;
    place = g.place;
    over = g.over;
  }

  gives_earlier : (before mid now : Option Folder) (q : Query) (given : Given) (list : List Value) → OnlyGrow before mid → Gives format spec moment mid now q given list → Gives format spec moment before now q given list
  gives_earlier before mid now q given list grow g = record {
    seen = g.seen;
    later = g.later;
    logs = g.logs;
    are_listed = listed_earlier before mid g.seen q g.logs grow g.are_listed;
    free = g.free;
    names = g.names;
    place = g.place;
    over = g.over;
  }

  -- what was given from a moment on was given from an earlier one on
  pub all_earlier : (before mid now : Option Folder) (qs : List Query) (places : List ℕ) (givens : List PlacedGiven) (lists : List (List Value)) → OnlyGrow before mid → AllGive format spec moment mid now qs places givens lists → AllGive format spec moment before now qs places givens lists
  all_earlier before mid now [] [] [] [] grow give = tt
  all_earlier before mid now [] [] [] (list ∷ lists) grow give = give
  all_earlier before mid now [] [] (given ∷ givens) lists grow give = give
  all_earlier before mid now [] (place ∷ places) givens lists grow give = give
  all_earlier before mid now (q ∷ qs) [] givens lists grow give = give
  all_earlier before mid now (q ∷ qs) (place ∷ places) [] lists grow give = give
  all_earlier before mid now (q ∷ qs) (place ∷ places) (given ∷ givens) [] grow give = give
  all_earlier before mid now (q ∷ qs) (place ∷ places) (given ∷ givens) (list ∷ lists) grow give =
      (give.0, gives_earlier before mid now q given.given list grow give.1, all_earlier before mid now qs places givens lists grow give.2)

  -- and up to a later one
  pub all_later : (before mid now : Option Folder) (qs : List Query) (places : List ℕ) (givens : List PlacedGiven) (lists : List (List Value)) → OnlyGrow mid now → AllGive format spec moment before mid qs places givens lists → AllGive format spec moment before now qs places givens lists
  all_later before mid now [] [] [] [] grow give = tt
  all_later before mid now [] [] [] (list ∷ lists) grow give = give
  all_later before mid now [] [] (given ∷ givens) lists grow give = give
  all_later before mid now [] (place ∷ places) givens lists grow give = give
  all_later before mid now (q ∷ qs) [] givens lists grow give = give
  all_later before mid now (q ∷ qs) (place ∷ places) [] lists grow give = give
  all_later before mid now (q ∷ qs) (place ∷ places) (given ∷ givens) [] grow give = give
  all_later before mid now (q ∷ qs) (place ∷ places) (given ∷ givens) (list ∷ lists) grow give =
      (give.0, gives_later before mid now q given.given list grow give.1, all_later before mid now qs places givens lists grow give.2)

  -- one gave, and then others
  one_more : (before mid now : Option Folder) (q : Query) (qs : List Query) (place : ℕ) (places : List ℕ) (given : PlacedGiven) (givens : List PlacedGiven) (list : List Value) (lists : List (List Value)) → OnlyGrow before mid → OnlyGrow mid now → given.at ≡ place
      → Gives format spec moment before mid q given.given list → AllGive format spec moment mid now qs places givens lists → AllGive format spec moment before now (q ∷ qs) (place ∷ places) (given ∷ givens) (list ∷ lists)
  one_more before mid now q qs place places given givens list lists first next at gave give =
      (at, gives_later before mid now q given.given list next gave, all_earlier before mid now qs places givens lists first give)

  pub adds_one : (before mid now : Option Folder) (q : Query) (qs : List Query) (place : ℕ) (places : List ℕ) (given : PlacedGiven) (list : List Value) (old pushed new : List PlacedGiven) (kept held keeps : List (List Value)) → OnlyGrow before mid → OnlyGrow mid now → given.at ≡ place
      → Gives format spec moment before mid q given.given list → pushed ≡ old ++ given ∷ [] → held ≡ kept ++ list ∷ [] → AddsGiven format spec moment mid now qs places pushed new held keeps
      → AddsGiven format spec moment before now (q ∷ qs) (place ∷ places) old new kept keeps
  adds_one before mid now q qs place places given list old pushed new kept held keeps first next at gave push hold rest = record {
    added = given ∷ rest.added;
    new_is = rest.new_is ∙ (ap (λ (l : List PlacedGiven). l ++ rest.added) push ∙ append_assoc old (given ∷ []) rest.added);
    lists = list ∷ rest.lists;
    keeps_is = rest.keeps_is ∙ (ap (λ (l : List (List Value)). l ++ rest.lists) hold ∙ append_assoc kept (list ∷ []) rest.lists);
    give = one_more before mid now q qs place places given rest.added list rest.lists first next at gave rest.give;
  }

  clash_earlier : (before mid now : Option Folder) (q : Query) → OnlyGrow before mid → {name : _} → IsClash spec mid now q name → IsClash spec before now q name
  clash_earlier before mid now q grow c = record { logs = c.logs; are_listed = listed_earlier before mid now q c.logs grow c.are_listed; first = c.first }

  unplanned_earlier : (before mid now : Option Folder) (q : Query) → OnlyGrow before mid → {fault : _} → IsUnplanned format spec moment mid now q fault → IsUnplanned format spec moment before now q fault
  unplanned_earlier before mid now q grow u = record { logs = u.logs; are_listed = listed_earlier before mid now q u.logs grow u.are_listed; free = u.free; unplanned = u.unplanned }

  exceeded_earlier : (before mid now : Option Folder) (q : Query) (most : Option ℕ) (bad : ℕ) → OnlyGrow before mid → {line : _} → IsExceeded format spec moment mid now q most bad line → IsExceeded format spec moment before now q most bad line
  exceeded_earlier before mid now q most bad grow e = record { logs = e.logs; are_listed = listed_earlier before mid now q e.logs grow e.are_listed; free = e.free; typed = e.typed; exceeds = e.exceeds }

  pub why_earlier : (before mid now : Option Folder) (q : Query) (most : Option ℕ) (bad : ℕ) (fault : SubqueryFault) → OnlyGrow before mid → IsRefusedWith format spec moment mid now q most bad fault → IsRefusedWith format spec moment before now q most bad fault
  why_earlier before mid now q most bad (F.BadName fault) grow why = why
  why_earlier before mid now q most bad (F.NoSuchLog name) grow why = why
  why_earlier before mid now q most bad F.TooManyLogs grow why = why
  why_earlier before mid now q most bad (F.Clash name) grow why = clash_earlier before mid now q grow why
  why_earlier before mid now q most bad (F.Plan fault) grow why = unplanned_earlier before mid now q grow why
  why_earlier before mid now q most bad (F.Bad log row) grow why = exceeded_earlier before mid now q most bad grow why
  why_earlier before mid now q most bad F.Logs grow why = tt
  why_earlier before mid now q most bad F.Memory grow why = tt

  -- one gave, and one behind it is refused
  behind_one : (before mid now : Option Folder) (q : Query) (qs : List Query) (place : ℕ) (places : List ℕ) (given : PlacedGiven) (list : List Value) (bad more : ℕ) (fault : SubqueryFault) → OnlyGrow before mid → OnlyGrow mid now
      → given.at ≡ place → Gives format spec moment before mid q given.given list → more ≡ bad + given.given.bad → IsUngivenIn format spec moment mid now qs places more fault → IsUngivenIn format spec moment before now (q ∷ qs) (place ∷ places) bad fault
  behind_one before mid now q qs place places given list bad more fault first next at gave sum u =
      let both = sum_by-append (λ (one : PlacedGiven). one.given.bad) (given ∷ []) u.givens in
      let total : more + bad_of u.givens ≡ bad + bad_of (given ∷ u.givens) = omega arith in
      record {
        front = q ∷ u.front;
        refused = u.refused;
        rest = u.rest;
        parts = ap (λ (l : List Query). q ∷ l) u.parts;
        asked = place ∷ u.asked;
        others = u.others;
        placed = ap (λ (l : List ℕ). place ∷ l) u.placed;
        givens = given ∷ u.givens;
        lists = list ∷ u.lists;
        give = one_more before mid now q u.front place u.asked given u.givens list u.lists first next at gave u.give;
        why = subst (λ (n : ℕ). IsRefusedWith format spec moment before now u.refused spec.errors n fault) total (why_earlier before mid now u.refused spec.errors (more + bad_of u.givens) fault first u.why);
      }

  -- one gave, and one behind it has a clash
  pub clashes_behind : (before mid now : Option Folder) (q : Query) (qs : List Query) (place : ℕ) (places : List ℕ) (given : PlacedGiven) (list : List Value) (bad more : ℕ) (name : List ℕ) (start between later : ℕ) → OnlyGrow before mid → OnlyGrow mid now
      → given.at ≡ place → Gives format spec moment before mid q given.given list → more ≡ bad + given.given.bad → ReadsOne mid q start between → ClashesBehind format spec moment mid now qs places more name between later
      → ClashesBehind format spec moment before now (q ∷ qs) (place ∷ places) bad name start later
  unfolding behind_one
  clashes_behind before mid now q qs place places given list bad more name start between later first next at gave sum one clashes = record {
    ungiven = behind_one before mid now q qs place places given list bad more (F.Clash name) first next at gave sum clashes.ungiven;
    reads = first_then mid now q clashes.ungiven.front start between later next one clashes.reads;
  }

  -- the first of them has one, and nothing is read
  pub clashes_first : (before now : Option Folder) (q : Query) (qs : List Query) (places : List ℕ) (bad : ℕ) (name : List ℕ) (start later : ℕ) → IsClash spec before now q name → later ≡ start → ClashesBehind format spec moment before now (q ∷ qs) places bad name start later
  clashes_first before now q qs places bad name start later clash same = record {
    ungiven = record {
      front = [];
      refused = q;
      rest = qs;
      parts = refl;
      asked = [];
      others = places;
      placed = refl;
      givens = [];
      lists = [];
      give = tt;
      why = clash;
    };
    reads = all_none now [] start later (omega arith);
  }

  pub stops_behind : (before mid now : Option Folder) (q : Query) (qs : List Query) (place : ℕ) (places : List ℕ) (given : PlacedGiven) (list : List Value) (bad more : ℕ) (fault : SubqueryFault) → OnlyGrow before mid → OnlyGrow mid now
      → given.at ≡ place → Gives format spec moment before mid q given.given list → more ≡ bad + given.given.bad → StopsBehind format spec moment mid now qs places more fault → StopsBehind format spec moment before now (q ∷ qs) (place ∷ places) bad fault
  stops_behind before mid now q qs place places given list bad more (F.BadName fault) first next at gave sum u = behind_one before mid now q qs place places given list bad more _ first next at gave sum u
  stops_behind before mid now q qs place places given list bad more (F.NoSuchLog name) first next at gave sum u = behind_one before mid now q qs place places given list bad more _ first next at gave sum u
  stops_behind before mid now q qs place places given list bad more F.TooManyLogs first next at gave sum u = behind_one before mid now q qs place places given list bad more _ first next at gave sum u
  stops_behind before mid now q qs place places given list bad more (F.Clash name) first next at gave sum u = behind_one before mid now q qs place places given list bad more _ first next at gave sum u
  stops_behind before mid now q qs place places given list bad more (F.Plan fault) first next at gave sum u = behind_one before mid now q qs place places given list bad more _ first next at gave sum u
  stops_behind before mid now q qs place places given list bad more (F.Bad log row) first next at gave sum u = behind_one before mid now q qs place places given list bad more _ first next at gave sum u
  stops_behind before mid now q qs place places given list bad more F.Logs first next at gave sum u = tt
  stops_behind before mid now q qs place places given list bad more F.Memory first next at gave sum u = tt

  -- so many bad lines more are left
  too_many : {B : Type 0} (errors : Option ℕ) (bad : ℕ) (left : Option ℕ) (lines : List B) (line : B) → IsLeft errors bad left → IsTooMany left 0 lines line → IsTooMany errors (bad + 0) lines line
  too_many None bad None lines line is many = absurd (none_many None (0 + length many.front) refl many.most)
  too_many None bad (Some left) lines line is many = absurd is
  too_many (Some most) bad None lines line is many = absurd is
  too_many (Some most) bad (Some left) lines line is many =
      let some : left ≡ 0 + length many.front = ap (λ (o : Option ℕ). unwrap_or o 0) many.most in
      let total : most ≡ bad + 0 + length many.front = omega arith in
      record { front = many.front; rest = many.rest; stands = many.stands; most = ap (λ (n : ℕ). Some n) total }

  told_many : (told : Option Folder) (errors : Option ℕ) (bad : ℕ) (left : Option ℕ) (lines : Folder → List BadLine) (line : BadLine) → IsLeft errors bad left
      → Told told (λ folder. IsTooMany left 0 (lines folder) line) → Told told (λ folder. IsTooMany errors (bad + 0) (lines folder) line)
  told_many None errors bad left lines line is many = tt
  told_many (Some folder) errors bad left lines line is many = too_many errors bad left (lines folder) line is many

  why_first : (before now : Option Folder) (q : Query) (bad : ℕ) (left : Option ℕ) (fault : SubqueryFault) → IsLeft spec.errors bad left → IsRefusedOne format spec moment before now q left fault
      → IsRefusedWith format spec moment before now q spec.errors (bad + 0) fault
  why_first before now q bad left (F.BadName fault) is why = why
  why_first before now q bad left (F.NoSuchLog name) is why = why
  why_first before now q bad left F.TooManyLogs is why = why
  why_first before now q bad left (F.Clash name) is why = why
  why_first before now q bad left (F.Plan fault) is why = why
  why_first before now q bad left (F.Bad log row) is why = record {
    logs = why.logs;
    are_listed = why.are_listed;
    free = why.free;
    typed = why.typed;
    exceeds = told_many now spec.errors bad left (λ folder. spans_bad_lines (lines_in format) (lines_wait spec) folder (whole_spans why.logs)) (bad_line log row) is why.exceeds;
  }
  why_first before now q bad left F.Logs is why = tt
  why_first before now q bad left F.Memory is why = tt

  first_one : (before now : Option Folder) (q : Query) (qs : List Query) (places : List ℕ) (bad : ℕ) (left : Option ℕ) (fault : SubqueryFault) → IsLeft spec.errors bad left → IsRefusedOne format spec moment before now q left fault
      → IsUngivenIn format spec moment before now (q ∷ qs) places bad fault
  first_one before now q qs places bad left fault is why = record {
    front = [];
    refused = q;
    rest = qs;
    parts = refl;
    asked = [];
    others = places;
    placed = refl;
    givens = [];
    lists = [];
    give = tt;
    why = why_first before now q bad left fault is why;
  }

  -- the first of them is refused
  pub stops_first : (before now : Option Folder) (q : Query) (qs : List Query) (places : List ℕ) (bad : ℕ) (left : Option ℕ) (fault : SubqueryFault) → IsLeft spec.errors bad left → IsRefusedOne format spec moment before now q left fault
      → StopsBehind format spec moment before now (q ∷ qs) places bad fault
  stops_first before now q qs places bad left (F.BadName fault) is why = first_one before now q qs places bad left (F.BadName fault) is why
  stops_first before now q qs places bad left (F.NoSuchLog name) is why = first_one before now q qs places bad left (F.NoSuchLog name) is why
  stops_first before now q qs places bad left F.TooManyLogs is why = first_one before now q qs places bad left F.TooManyLogs is why
  stops_first before now q qs places bad left (F.Clash name) is why = first_one before now q qs places bad left (F.Clash name) is why
  stops_first before now q qs places bad left (F.Plan fault) is why = first_one before now q qs places bad left (F.Plan fault) is why
  stops_first before now q qs places bad left (F.Bad log row) is why = first_one before now q qs places bad left (F.Bad log row) is why
  stops_first before now q qs places bad left F.Logs is why = tt
  stops_first before now q qs places bad left F.Memory is why = tt

  -- why all stopped from a moment on it stopped from an earlier one on
  ungiven_earlier : (before mid now : Option Folder) (qs : List Query) (places : List ℕ) (bad : ℕ) (fault : SubqueryFault) → OnlyGrow before mid → IsUngivenIn format spec moment mid now qs places bad fault → IsUngivenIn format spec moment before now qs places bad fault
  ungiven_earlier before mid now qs places bad fault grow u = record {
    front = u.front;
    refused = u.refused;
    rest = u.rest;
    parts = u.parts;
    asked = u.asked;
    others = u.others;
    placed = u.placed;
    givens = u.givens;
    lists = u.lists;
    give = all_earlier before mid now u.front u.asked u.givens u.lists grow u.give;
    why = why_earlier before mid now u.refused spec.errors _ fault grow u.why;
  }

  pub behind_earlier : (before mid now : Option Folder) (qs : List Query) (places : List ℕ) (bad : ℕ) (fault : SubqueryFault) → OnlyGrow before mid → StopsBehind format spec moment mid now qs places bad fault → StopsBehind format spec moment before now qs places bad fault
  behind_earlier before mid now qs places bad (F.BadName fault) grow u = ungiven_earlier before mid now qs places bad (F.BadName fault) grow u
  behind_earlier before mid now qs places bad (F.NoSuchLog name) grow u = ungiven_earlier before mid now qs places bad (F.NoSuchLog name) grow u
  behind_earlier before mid now qs places bad F.TooManyLogs grow u = ungiven_earlier before mid now qs places bad F.TooManyLogs grow u
  behind_earlier before mid now qs places bad (F.Clash name) grow u = ungiven_earlier before mid now qs places bad (F.Clash name) grow u
  behind_earlier before mid now qs places bad (F.Plan fault) grow u = ungiven_earlier before mid now qs places bad (F.Plan fault) grow u
  behind_earlier before mid now qs places bad (F.Bad log row) grow u = ungiven_earlier before mid now qs places bad (F.Bad log row) grow u
  behind_earlier before mid now qs places bad F.Logs grow u = tt
  behind_earlier before mid now qs places bad F.Memory grow u = tt
