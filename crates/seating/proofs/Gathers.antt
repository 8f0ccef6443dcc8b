-- Aggregates that are found, one after another.
use Rattle.std.proofs.Common.{◌≡◌, Bool, true, false, List, [], ◌∷◌, ◌++◌, map, ap, sym, ◌∙◌, if◌then◌else◌}
use Rattle.std.specs.List.{list_any}
use Rattle.lp_values.specs.declared.group.AggKind.{AggKind}
use Rattle.seating.specs.declared.gathering.Aggregate.{Aggregate}
use Rattle.seating.specs.Gathered.{Counted, counted_of, same_counted, with_counted}
use Rattle.senses.specs.Senses.{Sense}
use Rattle.senses.proofs.Found.{any_map}

module _ (found : List Aggregate) (how : AggKind) (of : Sense) (b : Bool) (is : b ≡ list_any (λ other. same_counted how of (counted_of other)) found) where
  abbrev pub more : List Counted
  more = map counted_of found ++ record { how = how; of = of } ∷ []

  chosen : with_counted (map counted_of found) how of ≡ (if b then map counted_of found else more)
  chosen = ap (λ (b : Bool). if b then map counted_of found else more) (any_map (same_counted how of) counted_of found ∙ sym is)

  -- one that is there isn't added
  pub with_old : b ≡ true → map counted_of found ≡ with_counted (map counted_of found) how of
  with_old old = sym (chosen ∙ ap (λ (b : Bool). if b then map counted_of found else more) old)

  -- another is
  pub with_new : b ≡ false → with_counted (map counted_of found) how of ≡ more
  with_new new = chosen ∙ ap (λ (b : Bool). if b then map counted_of found else more) new
