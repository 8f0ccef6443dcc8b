-- A disk of which nothing is known.
use Rattle.std.specs.Prelude.{[]}
use Rattle.disk_model.specs.Disk.{DiskState}

-- it tells nothing, and isn't honest
abbrev pub untold : DiskState
untold = record {
  tells = ⊥;
  honest = ⊥;
  seen = λ name. [];
  may_leave = λ name bytes. ⊥;
  moment = 0;
  left_since = λ t image. ⊥;
}
