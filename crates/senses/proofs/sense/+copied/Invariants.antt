use Rattle.std.proofs.Common.{◌≡◌, map, take}
use Rattle.senses.specs.Senses.{sense_of}
use Rattle.senses.proofs.sense.+copied.Given as goal

abbrev pub invariant-loop-part : goal.invariant-loop-part
invariant-loop-part l = map sense_of l.parts.items ≡ map sense_of (take l.part-index l.part-items)
