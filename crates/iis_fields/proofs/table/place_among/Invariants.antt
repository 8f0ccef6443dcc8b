use Rattle.std.proofs.Common.{◌≡◌, ◌<◌, ℕ, false, [], map, get_or}
use Rattle.slot_reading.specs.Names.{is_same_name}
use Rattle.iis_fields.proofs.table.place_among.Given as goal

abbrev pub invariant-loop-known : goal.invariant-loop-known
invariant-loop-known l = record {
  place : l.place ≡ l.known-index;
  before : (k : ℕ) → k < l.known-index → is_same_name l.name (get_or (map (λ s. s.now) l.names) k []) ≡ false;
}
