-- What texts list stays while the logs grow.
use Rattle.std.proofs.Common.{◌≡◌, ◌<◌, ◌≤◌, ℕ, List, [], ◌∷◌, ◌++◌, length, take, drop, get_or, ◌+◌, Option, Some, None, IsSome, IsSomeAnd, MatchOption, refl, sym, ap, ◌∙◌, subst, append_assoc}
use Rattle.std.specs.List.{AllZip}
use Rattle.std.proofs.lemmas.Bool.{false≢true}
use Rattle.std.proofs.lemmas.List.{append-nil, take_more, take-append-drop, drop_more}
use Rattle.lp_model.specs.Outside.{Folder, Begins, Grows, OnlyGrow}
use Rattle.lp_model.proofs.Growing.{there_still, told_grown}
use Rattle.lp_outside.specs.Matching.{AreMatches}
use Rattle.log_listing.specs.declared.fault.ListFault.{ListFault}
use Rattle.log_listing.specs.declared.fault.ListFault.TheVariants as F
use Rattle.log_listing.specs.Firsts.{firsts, joined, with_names}
use Rattle.log_listing.specs.Listed.{Gives, Lists, Adds, IsMissing, StopsAt, Stops, most_logs}
use Rattle.log_listing.proofs.FirstNames.{firsts-append}

was_there : (a b : Option (List ℕ)) → MatchOption a (b ≡ None) (λ old. IsSomeAnd b (λ new. Begins old new)) → IsSome b → IsSome a
was_there None None h is = absurd (false≢true is)
was_there None (Some y) h is = absurd (cc)
was_there (Some x) b h is = refl

matches_grown : (pattern : List ℕ) (names : List (List ℕ)) (x y : Folder) → Grows x y → AreMatches x pattern names → AreMatches y pattern names
matches_grown pattern names x y grow m = record {
  ordered = m.ordered;
  each = λ name. (
    (λ here. let both = (m.each name).0 here in (there_still (x name) (y name) (grow name) both.0, both.1)),
    (λ both. (m.each name).1 (was_there (x name) (y name) (grow name) both.0, both.1)),
  );
}

gives_grown : (before now : Option Folder) (text : List ℕ) (found : List (List ℕ)) → OnlyGrow before now → Gives before text found → Gives now text found
gives_grown before now text found grow g = record {
  is_name = g.is_name;
  matches = told_grown before now (λ files. AreMatches files text found) (matches_grown text found) grow g.matches;
  some = g.some;
}

each_grown : (before now : Option Folder) → OnlyGrow before now → (texts : List (List ℕ)) (found : List (List (List ℕ))) → AllZip (Gives before) texts found → AllZip (Gives now) texts found
each_grown before now grow [] [] h = tt
each_grown before now grow [] (f ∷ found) h = absurd h
each_grown before now grow (t ∷ texts) [] h = absurd h
each_grown before now grow (t ∷ texts) (f ∷ found) h = (gives_grown before now t f grow h.0, each_grown before now grow texts found h.1)

pub lists_grown : (before now : Option Folder) (texts names : List (List ℕ)) → OnlyGrow before now → Lists before texts names → Lists now texts names
lists_grown before now texts names grow l = record { found = l.found; each = each_grown before now grow texts l.found l.each; all = l.all }

missing_grown : (before now : Option Folder) (text name : List ℕ) → OnlyGrow before now → IsMissing before text name → IsMissing now text name
missing_grown before now text name grow m = record {
  same = m.same;
  is_name = m.is_name;
  none = told_grown before now (λ files. AreMatches files text []) (matches_grown text []) grow m.none;
}

stops_at_grown : (before now : Option Folder) (text : List ℕ) (names : List (List ℕ)) (fault : ListFault) → OnlyGrow before now → StopsAt before text names fault → StopsAt now text names fault
stops_at_grown before now text names (F.BadName fault) grow s = s
stops_at_grown before now text names (F.NoSuchLog name) grow s = missing_grown before now text name grow s
stops_at_grown before now text names F.TooManyLogs grow s = record { found = s.found; gives = gives_grown before now text s.found grow s.gives; many = s.many }
stops_at_grown before now text names F.Logs grow s = tt
stops_at_grown before now text names F.Memory grow s = tt

pub stops_grown : (before now : Option Folder) (texts : List (List ℕ)) (fault : ListFault) → OnlyGrow before now → Stops before texts fault → Stops now texts fault
stops_grown before now texts fault grow s = record {
  front = s.front;
  text = s.text;
  back = s.back;
  split = s.split;
  before = s.before;
  lists = lists_grown before now s.front s.before grow s.lists;
  few = s.few;
  stops = stops_at_grown before now s.text s.before fault grow s.stops;
}

pub lists_none : (told : Option Folder) → Lists told [] []
lists_none told = record { found = []; each = tt; all = refl }

each_more : (told : Option Folder) (text : List ℕ) (found : List (List ℕ)) (texts : List (List ℕ)) (so_far : List (List (List ℕ))) → AllZip (Gives told) texts so_far → Gives told text found → AllZip (Gives told) (texts ++ text ∷ []) (so_far ++ found ∷ [])
each_more told text found [] [] h g = (g, tt)
each_more told text found [] (f ∷ so_far) h g = absurd h
each_more told text found (t ∷ texts) [] h g = absurd h
each_more told text found (t ∷ texts) (f ∷ so_far) h g = (h.0, each_more told text found texts so_far h.1 g)

joined_push : (so_far : List (List (List ℕ))) (found : List (List ℕ)) → joined (so_far ++ found ∷ []) ≡ joined so_far ++ found
joined_push [] found = append-nil found
joined_push (f ∷ so_far) found = ap (λ t. f ++ t) (joined_push so_far found) ∙ sym (append_assoc f (joined so_far) found)

-- one more text
pub lists_more : (told : Option Folder) (texts : List (List ℕ)) (text : List ℕ) (before names : List (List ℕ)) → Lists told texts before → Adds told text before names → Lists told (texts ++ text ∷ []) names
lists_more told texts text before names l a = record {
  found = l.found ++ a.found ∷ [];
  each = each_more told text a.found texts l.found l.each a.gives;
  all = a.all ∙ ap (λ ns. with_names ns a.found) l.all ∙ sym (ap firsts (joined_push l.found a.found) ∙ firsts-append (joined l.found) a.found);
}

-- a turn of the loop over texts
pub lists_step : (before now : Option Folder) (texts : List (List ℕ)) (i : ℕ) (text shown : List ℕ) (names more : List (List ℕ)) → i < length texts → text ≡ get_or texts i text → shown ≡ text
    → OnlyGrow before now → Lists before (take i texts) names → Adds now shown names more → Lists now (take (i + 1) texts) more
lists_step before now texts i text shown names more within is same grow so_far adds =
    let grown : take (i + 1) texts ≡ take i texts ++ shown ∷ [] = take_more texts i text within ∙ ap (λ t. take i texts ++ t ∷ []) (sym (same ∙ is)) in
    subst (λ (ts : List (List ℕ)). Lists now ts more) (sym grown) (lists_more now (take i texts) shown names more (lists_grown before now (take i texts) names grow so_far) adds)

-- the list stops at a text
pub stops_step : (before now : Option Folder) (texts : List (List ℕ)) (i : ℕ) (text shown : List ℕ) (names : List (List ℕ)) (fault : ListFault) → i < length texts → text ≡ get_or texts i text → shown ≡ text
    → OnlyGrow before now → Lists before (take i texts) names → length names ≤ most_logs → StopsAt now shown names fault → Stops now texts fault
stops_step before now texts i text shown names fault within is same grow so_far few stops = record {
  front = take i texts;
  text = shown;
  back = drop (i + 1) texts;
  split = sym (take-append-drop i texts) ∙ ap (λ t. take i texts ++ t) (drop_more texts i text within ∙ ap (λ t. t ∷ drop (i + 1) texts) (sym (same ∙ is)));
  before = names;
  lists = lists_grown before now (take i texts) names grow so_far;
  few = few;
  stops = stops;
}
