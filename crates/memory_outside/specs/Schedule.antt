-- Which calls of an object fail.
use Rattle.std.specs.Prelude.{◌≡◌, ◌++◌, ◌∷◌, [], ◌+◌, ◌-◌, ◌^◌, min, ℕ, Bool, ◌==◌}
use Rattle.std.specs.List.{list_any}
use Rattle.memory_outside.specs.declared.schedule.Schedule.{Schedule}

-- the next call is named to fail
abbrev pub is_due : Schedule → Bool
is_due schedule = list_any (λ call. call == schedule.calls) schedule.named.items

-- no call was made, and none is named to fail
pub record IsFresh (schedule : Schedule) : Type 0 where
  pub calls : schedule.calls ≡ 0
  pub named : schedule.named.items ≡ []

-- no call was made, and none is named to fail in addition
pub record IsSame (before now : Schedule) : Type 0 where
  pub calls : now.calls ≡ before.calls
  pub named : now.named.items ≡ before.named.items

-- one call more was made
pub record Passes (before now : Schedule) : Type 0 where
  pub calls : now.calls ≡ min (before.calls + 1) (2 ^ 64 - 1)
  pub named : now.named ≡ before.named

-- that call from now, counted from 0, is named to fail too
pub record Adds (before now : Schedule) (call : ℕ) : Type 0 where
  pub calls : now.calls ≡ before.calls
  pub named : now.named.items ≡ before.named.items ++ min (before.calls + call) (2 ^ 64 - 1) ∷ []
