use Rattle.std.proofs.Common.{◌≡◌, take}
use Rattle.delimited_input.specs.Kept.{texts_of}
use Rattle.delimited_input.specs.Noted.{AreNoted}
use Rattle.delimited_input.proofs.Naming.{names_up_to}
use Rattle.delimited_input.proofs.header.header_names.Given as goal

abbrev pub invariant-loop-place : goal.invariant-loop-place
invariant-loop-place l = record {
  names : l.names ≡ names_up_to (texts_of l.line l.fields) l.place;
  noted : AreNoted l.earlier.keys (take l.place (texts_of l.line l.fields));
}
