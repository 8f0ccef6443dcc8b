use Rattle.std.proofs.Common.{◌∙◌, option_map, ap, sym, Bor}
use Rattle.std.specs.Str.{str_eq_ignore_ascii_case}
use Rattle.sensing.specs.declared.alias.SenseAlias.{SenseAlias}
use Rattle.sensing.specs.Sensing.{Named, named_of}
use Rattle.senses.proofs.Found.{find_map, mapped_twice}
use Rattle.sensing.proofs.alias.find_alias.Goals as goal

pub returns : goal.returns
returns c = mapped_twice (λ (a : Bor SenseAlias). a.now) named_of c.found.result
    ∙ ap (option_map named_of) c.found.ensures ∙ sym (find_map (λ (n : Named). str_eq_ignore_ascii_case n.name c.args.name.now) named_of c.args.aliases.now)
