-- The sections of a template, and the first fault of bytes that are none.
use Rattle.std.specs.Prelude.{◌≡◌, ℕ, ◌+◌, ◌-◌, Bool, true, false, not, ◌&&◌, ◌||◌, List, [], ◌∷◌, ◌++◌, length, take, drop, codes, nat_lt, nat_le, ◌==◌, if◌then◌else◌, Option, Some, None, option_map}
use Rattle.std.specs.Bool.{⊤}
use Rattle.std.specs.List.{list_any}
use Rattle.std.specs.Option.{option_or, option_to_list}
use Rattle.tpl_output.specs.declared.section.Section.{Section}
use Rattle.tpl_output.specs.declared.section.Section.TheVariants.{Header, Body, Footer}
use Rattle.tpl_output.specs.declared.placed.Tag.{Tag}
use Rattle.tpl_output.specs.declared.placed.Placed.{Placed}
use Rattle.tpl_output.specs.declared.placed.Found.{Found}
use Rattle.tpl_output.specs.declared.placed.Kind.{Kind}
use Rattle.tpl_output.specs.declared.placed.Kind.TheVariants as K
use Rattle.tpl_output.specs.declared.fault.TemplateFault.{TemplateFault}
use Rattle.tpl_output.specs.declared.fault.TemplateFault.TheVariants as F
use Rattle.tpl_output.specs.Words.{begins_as}

-- the section whose name a text begins with
abbrev pub section_at : List ℕ → Option Section
section_at text =
    if begins_as (codes "LPHEADER>") text then Some Header
    else if begins_as (codes "LPBODY>") text then Some Body
    else if begins_as (codes "LPFOOTER>") text then Some Footer
    else None

abbrev pub tag_of : Bool → Section → Tag
tag_of closing section = record { section = section; closing = closing }

-- the mark that a text begins with
abbrev pub tag_at : List ℕ → Option Tag
tag_at text =
    if begins_as (codes "</") text then option_map (tag_of true) (section_at (drop 2 text))
    else if begins_as (codes "<") text then option_map (tag_of false) (section_at (drop 1 text))
    else None

abbrev pub name_size : Section → ℕ
name_size Header = 9
name_size Body = 7
name_size Footer = 9

abbrev pub tag_size : Tag → ℕ
tag_size tag = (if tag.closing then 2 else 1) + name_size tag.section

abbrev pub placed_as : ℕ → Tag → Placed
placed_as at tag = record { at = at; behind = at + tag_size tag; tag = tag }

-- the mark at a place, where one stands there
abbrev pub placed_at : ℕ → List ℕ → List Placed
placed_at at text = option_to_list (option_map (placed_as at) (tag_at text))

-- all marks of a text that begins at a place
unfoldable pub tags_from : ℕ → List ℕ → List Placed
tags_from at [] = []
tags_from at (c ∷ cs) = placed_at at (c ∷ cs) ++ tags_from (at + 1) cs

-- space, tab, LF and CR
abbrev pub is_blank : ℕ → Bool
is_blank byte = byte == 32 || byte == 9 || byte == 10 || byte == 13

abbrev pub part_of : List ℕ → ℕ → ℕ → List ℕ
part_of text from to = take (to - from) (drop from text)

-- the place of the first byte that is no blank
unfoldable pub outside_from : ℕ → List ℕ → Option ℕ
outside_from at [] = None
outside_from at (c ∷ cs) = if is_blank c then outside_from (at + 1) cs else Some at

abbrev pub outside_fault : List ℕ → ℕ → ℕ → Option Found
outside_fault text from to = option_map (λ at. record { kind = K.OutsideText; at = at }) (outside_from from (part_of text from to))

abbrev pub order_of : Section → ℕ
order_of Header = 0
order_of Body = 1
order_of Footer = 2

-- whether a mark is the end of what another one opens
abbrev pub closes : Section → Placed → Bool
closes section end = end.tag.closing && order_of end.tag.section == order_of section

-- an end, and a section that isn't behind those before it, are out of place; else a section has to end somewhere
abbrev pub opening_fault : ℕ → Placed → List Placed → Option Found
opening_fault least opening tags =
    if opening.tag.closing || nat_lt (order_of opening.tag.section) least then Some (record { kind = K.Misplaced; at = opening.at })
    else if list_any (closes opening.tag.section) tags then None
    else Some (record { kind = K.Unclosed; at = opening.at })

-- the first fault from a place on, which lies outside sections, where these marks and the sections from one on may follow
unfoldable pub fault_from : List ℕ → ℕ → ℕ → List Placed → Option Found
fault_from text from least [] = outside_fault text from (length text)
fault_from text from least (opening ∷ []) = option_or (outside_fault text from opening.at) (opening_fault least opening [])
fault_from text from least (opening ∷ (end ∷ tags)) =
    option_or (outside_fault text from opening.at)
    (option_or (opening_fault least opening (end ∷ tags))
    (if closes opening.tag.section end then fault_from text end.behind (order_of opening.tag.section + 1) tags else Some (record { kind = K.Misplaced; at = end.at })))

-- without any mark the whole is the body
abbrev pub marked_fault : List ℕ → List Placed → Option Found
marked_fault text [] = None
marked_fault text (tag ∷ tags) = fault_from text 0 0 (tag ∷ tags)

-- a longer template is too large
abbrev pub most : ℕ
most = 1048576

abbrev pub size_fault : List ℕ → Option Found
size_fault text = if nat_lt most (length text) then Some (record { kind = K.TooLarge; at = most }) else None

-- a fault where it isn't behind what a template may hold
abbrev pub early_fault : Option Found → Option Found
early_fault None = None
early_fault (Some found) = if nat_le found.at most then Some found else None

-- the first fault
abbrev pub fault_of : List ℕ → Option Found
fault_of text = option_or (early_fault (marked_fault text (tags_from 0 text))) (size_fault text)

-- a text less one LF, or CR LF, at its front
abbrev pub without_break : List ℕ → List ℕ
without_break [] = []
without_break (a ∷ []) = if a == 10 then [] else a ∷ []
without_break (a ∷ (b ∷ more)) = if a == 10 then b ∷ more else if a == 13 && b == 10 then more else a ∷ b ∷ more

abbrev pub opens : Section → Placed → Bool
opens section opening = not opening.tag.closing && order_of opening.tag.section == order_of section

-- what stands between a place and the next mark
abbrev pub content_behind : List ℕ → ℕ → List Placed → List ℕ
content_behind text from [] = drop from text
content_behind text from (next ∷ tags) = part_of text from next.at

-- what stands between a section's opening mark and the next mark; nothing where the section is absent
unfoldable pub content_in : List ℕ → Section → List Placed → List ℕ
content_in text section [] = []
content_in text section (opening ∷ tags) = if opens section opening then without_break (content_behind text opening.behind tags) else content_in text section tags

pub record Sections : Type 0 where
  pub header : List ℕ
  pub body : List ℕ
  pub footer : List ℕ

abbrev pub sections_in : List ℕ → List Placed → Sections
sections_in text [] = record { header = []; body = text; footer = [] }
sections_in text (tag ∷ tags) = record {
  header = content_in text Header (tag ∷ tags);
  body = content_in text Body (tag ∷ tags);
  footer = content_in text Footer (tag ∷ tags);
}

abbrev pub sections_of : List ℕ → Sections
sections_of text = sections_in text (tags_from 0 text)

-- a fault as it is answered
abbrev pub IsFaultOf : List ℕ → TemplateFault → Type 0
IsFaultOf text (F.Unclosed at) = fault_of text ≡ Some (record { kind = K.Unclosed; at = at })
IsFaultOf text (F.Misplaced at) = fault_of text ≡ Some (record { kind = K.Misplaced; at = at })
IsFaultOf text (F.OutsideText at) = fault_of text ≡ Some (record { kind = K.OutsideText; at = at })
IsFaultOf text (F.TooLarge at) = fault_of text ≡ Some (record { kind = K.TooLarge; at = at })
IsFaultOf text F.Memory = ⊤

abbrev pub told_as : Kind → ℕ → TemplateFault
told_as K.Unclosed at = F.Unclosed at
told_as K.Misplaced at = F.Misplaced at
told_as K.OutsideText at = F.OutsideText at
told_as K.TooLarge at = F.TooLarge at

-- a fault as it is told
abbrev pub told : Found → TemplateFault
told found = told_as found.kind found.at
