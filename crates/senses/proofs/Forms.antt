-- Senses, read at the lists of their parts.
use Rattle.std.proofs.Common.{◌≡◌, ℕ, ◌<◌, ◌≤◌, ◌+◌, ◌-◌, ◌&&◌, false, List, [], ◌∷◌, length, take, drop, get_or, map, refl, sym, ◌∙◌, ap, Vec, rules, arith, ◌==◌}
use Rattle.std.proofs.lemmas.List.{take_all}
use Rattle.std.specs.declared.alloc.Global.{Global}
use Rattle.lp_values.specs.declared.kind.Kind.{Kind}
use Rattle.query_types.specs.declared.form.Operation.{Operation}
use Rattle.query_types.specs.declared.table.NamedKind.{NamedKind}
use Rattle.query_types.specs.Meanings.{sharper}
use Rattle.query_types.specs.Terms.{maker_of}
use Rattle.query_types.proofs.Forms.{dropped}
use Rattle.senses.specs.declared.sense.SenseForm.TheViews as shown
use Rattle.senses.specs.declared.sense.SenseForm.{SenseForm, Row_of-SenseForm, end_of-SenseForm, more_of-SenseForm, items-the_row-SenseForm, the_lemmas}
use Rattle.senses.specs.Senses.{Senses, formed, kind_of_case, kind_sensed, more_senses, no_senses, same_sense, same_senses, sense_of, senses_in, senses_of}

pub senses_map : {m : _} (all : Row_of-SenseForm m) → senses_in all ≡ senses_of (map sense_of (items-the_row-SenseForm m all))
senses_map end_of-SenseForm = refl
senses_map (more_of-SenseForm form rest) = ap (λ (l : Senses). more_senses (sense_of form) l) (senses_map rest)

pub formed_sense : (kind : Kind) (by : Operation) (of : Vec SenseForm Global) → sense_of (shown.Formed kind by of) ≡ formed kind (maker_of by) (senses_of (map sense_of of.items))
formed_sense kind by of = search (rules, the_lemmas, senses_map)

pub kind_step : (columns : List NamedKind) (kind : Kind) (parts : List SenseForm) (value : SenseForm) → 2 ≤ length parts → value ≡ get_or parts 1 value
    → kind_of_case columns kind (map sense_of parts) ≡ kind_of_case columns (sharper kind (kind_sensed columns (sense_of value))) (map sense_of (take (length parts - 2) (drop 2 parts)))
kind_step columns kind [] value size is = absurd (omega arith)
kind_step columns kind (t ∷ []) value size is = absurd (omega arith)
kind_step columns kind (t ∷ v ∷ rest) value size is =
    let whole : take (length (t ∷ v ∷ rest) - 2) rest ≡ rest = take_all (length (t ∷ v ∷ rest) - 2) rest (omega arith) in
    ap (λ (f : SenseForm). kind_of_case columns (sharper kind (kind_sensed columns (sense_of f))) (map sense_of rest)) (sym is)
    ∙ ap (λ (l : List SenseForm). kind_of_case columns (sharper kind (kind_sensed columns (sense_of value))) (map sense_of l)) (sym whole)

-- senses as they stand in another
abbrev parts : List SenseForm → Senses
parts forms = senses_of (map sense_of forms)

pub same_step : (items rest : List SenseForm) (i : ℕ) (part first : SenseForm) → i < length items → part ≡ get_or items i part → 1 ≤ length rest → first ≡ get_or rest 0 first
    → same_senses (senses_of (map sense_of (drop i items))) (senses_of (map sense_of rest))
    ≡ (same_sense (sense_of part) (sense_of first) && same_senses (senses_of (map sense_of (drop (i + 1) items))) (senses_of (map sense_of (take (length rest - 1) (drop 1 rest)))))
same_step items [] i part first here is size at = absurd (omega arith)
same_step items (r ∷ rest) i part first here is size at =
    let whole : take (length (r ∷ rest) - 1) rest ≡ rest = take_all (length (r ∷ rest) - 1) rest (omega arith) in
    ap (λ (l : List SenseForm). same_senses (parts l) (parts (r ∷ rest))) (dropped items i part here is)
    ∙ ap (λ (f : SenseForm). same_sense (sense_of part) (sense_of f) && same_senses (parts (drop (i + 1) items)) (parts rest)) (sym at)
    ∙ ap (λ (l : List SenseForm). same_sense (sense_of part) (sense_of first) && same_senses (parts (drop (i + 1) items)) (parts l)) (sym whole)

-- where the one list ends first they aren't equal
pub same_short : (items rest : List SenseForm) (i : ℕ) (part : SenseForm) → i < length items → part ≡ get_or items i part → length rest ≡ 0
    → same_senses (senses_of (map sense_of (drop i items))) (senses_of (map sense_of rest)) ≡ false
same_short items [] i part here is none = ap (λ (l : List SenseForm). same_senses (parts l) no_senses) (dropped items i part here is)
same_short items (r ∷ rest) i part here is none = absurd (omega arith)

-- at the end of the one list the other has to end too
pub same_end : (rest : List SenseForm) → same_senses no_senses (senses_of (map sense_of rest)) ≡ (length rest == 0)
same_end [] = refl
same_end (r ∷ rest) = search (rules, arith)

-- what is left of some senses begins with the one at this place
pub left_senses : (items : List SenseForm) (i : ℕ) (part : SenseForm) → i < length items → part ≡ get_or items i part
    → senses_of (map sense_of (drop i items)) ≡ more_senses (sense_of part) (senses_of (map sense_of (drop (i + 1) items)))
left_senses items i part here is = ap parts (dropped items i part here is)
