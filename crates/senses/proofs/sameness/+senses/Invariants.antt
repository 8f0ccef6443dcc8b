use Rattle.std.proofs.Common.{◌≡◌, map, drop}
use Rattle.senses.specs.Senses.{same_senses, sense_of, senses_of}
use Rattle.senses.proofs.sameness.+senses.Given as goal

abbrev pub invariant-are_same_senses-loop-part : goal.invariant-are_same_senses-loop-part
invariant-are_same_senses-loop-part l = same_senses (senses_of (map sense_of l.parts)) (senses_of (map sense_of l.others))
    ≡ same_senses (senses_of (map sense_of (drop l.part-index l.parts))) (senses_of (map sense_of l.rest))
