-- Which kinds fit which places.
use Rattle.std.specs.Prelude.{Bool, true, false, ◌&&◌, List, [], ◌∷◌}
use Rattle.lp_values.specs.declared.kind.Kind.{Kind}
use Rattle.lp_values.specs.declared.kind.Kind.TheVariants as K
use Rattle.lp_functions.specs.declared.place.Place.{Place}
use Rattle.lp_functions.specs.declared.place.Place.TheVariants as P

-- the kinds of a place; Any fits every place
abbrev pub takes : Place → Kind → Bool
takes place K.Any = true
takes P.Value kind = true
takes P.Integer K.Integer = true
takes P.Real K.Real = true
takes P.Number K.Integer = true
takes P.Number K.Real = true
takes P.NumberOrText K.Integer = true
takes P.NumberOrText K.Real = true
takes P.NumberOrText K.Text = true
takes P.Text K.Text = true
takes P.Stamp K.Stamp = true
takes place kind = false

-- as many kinds as places, each of its place
abbrev pub fits : List Place → List Kind → Bool
fits [] [] = true
fits [] (kind ∷ kinds) = false
fits (place ∷ places) [] = false
fits (place ∷ places) (kind ∷ kinds) = takes place kind && fits places kinds

abbrev pub same_kind : Kind → Kind → Bool
same_kind K.Integer K.Integer = true
same_kind K.Real K.Real = true
same_kind K.Text K.Text = true
same_kind K.Stamp K.Stamp = true
same_kind K.Any K.Any = true
same_kind a b = false
