-- The output rows of records.
use Rattle.std.specs.Prelude.{List, Option}
use Rattle.std.specs.List.{filter_map}
use Rattle.lp_values.specs.declared.value.Value.{Value}
use Rattle.log_reading.specs.Found.{Found}

-- the output rows of records, by a plan
abbrev pub picked : (Found → Option (List Value)) → List Found → List (List Value)
picked picks founds = filter_map picks founds
