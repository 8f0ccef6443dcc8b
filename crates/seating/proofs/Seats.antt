-- Senses over a row, one after another.
use Rattle.std.proofs.Common.{◌≡◌, List, [], ◌∷◌, map, None, refl, ap, sym, ◌∙◌}
use Rattle.lp_values.specs.declared.kind.Kind.{Kind}
use Rattle.query_types.specs.Terms.{Maker, Terms, made, more_terms, terms_of}
use Rattle.seating.specs.Gathered.{Counted, all_seated, column_or, key_place, seated}
use Rattle.senses.specs.Senses.{Sense, Senses, formed, senses_of}

pub seated_list : (keys : List Sense) (found : List Counted) (senses : List Sense) → all_seated keys found (senses_of senses) ≡ terms_of (map (seated keys found) senses)
seated_list keys found [] = refl
seated_list keys found (sense ∷ senses) = ap (λ (l : Terms). more_terms (seated keys found sense) l) (seated_list keys found senses)

-- what is made of others and equals no key
pub formed_seated : (keys : List Sense) (found : List Counted) (s : Sense) (kind : Kind) (by : Maker) (of : Senses) → s ≡ formed kind by of → key_place keys s ≡ None
    → seated keys found s ≡ made kind by (all_seated keys found of)
formed_seated keys found s kind by of is none =
    ap (seated keys found) is ∙ ap (λ o. column_or o (made kind by (all_seated keys found of))) (ap (key_place keys) (sym is) ∙ none)
